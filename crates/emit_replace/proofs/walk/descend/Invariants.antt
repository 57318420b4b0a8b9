-- `descend` meets its contract.
use Rattle.emit_replace.specs.Walking.{Descending}
use Rattle.emit_replace.proofs.walk.descend.Given as goal

abbrev pub invariant-loop-a : goal.invariant-loop-a
invariant-loop-a l = Descending l.initial.work l.work l.words l.l l.st l.memo l.initial.top l.top l.initial.wait l.wait

abbrev pub decreases-loop-a : goal.decreases-loop-a
decreases-loop-a l = l.top
