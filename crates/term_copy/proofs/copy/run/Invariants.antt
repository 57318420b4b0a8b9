-- `run` meets its contract.
use Rattle.term_copy.specs.Runs.{turns_most, Loops}
use Rattle.term_copy.proofs.copy.run.Given as goal

abbrev pub invariant-loop-top : goal.invariant-loop-top
invariant-loop-top l = Loops l.initial.work l.work l.words l.initial.cells l.cells l.flex l.l l.st l.memo l.initial.g l.g l.top

abbrev pub decreases-loop-top : goal.decreases-loop-top
decreases-loop-top l = turns_most l.work l.words l.l l.st l.memo l.top
