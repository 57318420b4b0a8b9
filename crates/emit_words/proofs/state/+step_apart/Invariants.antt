-- `step_apart` never calls itself, so any measure does.
use Rattle.emit_words.proofs.state.+step_apart.Given as goal

abbrev pub decreases-step_apart : goal.decreases-step_apart
decreases-step_apart l = 0
