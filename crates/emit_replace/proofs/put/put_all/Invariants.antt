-- `put_all` meets its contract.
use Rattle.emit_replace.specs.Known.{gaps}
use Rattle.emit_replace.specs.Reading.{values_in}
use Rattle.emit_replace.specs.PutRuns.{PutsSince}
use Rattle.emit_replace.proofs.put.put_all.Given as goal

abbrev pub invariant-loop-more : goal.invariant-loop-more
invariant-loop-more l = PutsSince l.initial.work l.initial.words l.work l.words l.l l.initial.grown l.grown l.memo l.initial.p l.p l.initial.stack l.stack

abbrev pub decreases-loop-more : goal.decreases-loop-more
decreases-loop-more l = gaps (values_in l.work l.l l.memo) l.l.room
