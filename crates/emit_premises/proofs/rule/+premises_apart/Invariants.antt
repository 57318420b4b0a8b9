-- `premises_apart` never calls itself, so any measure does.
use Rattle.emit_premises.proofs.rule.+premises_apart.Given as goal

abbrev pub decreases-premises_apart : goal.decreases-premises_apart
decreases-premises_apart l = 0
