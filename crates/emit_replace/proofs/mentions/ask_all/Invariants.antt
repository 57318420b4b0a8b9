-- `ask_all` meets its contract.
use Rattle.emit_replace.specs.Known.{gaps}
use Rattle.emit_replace.specs.Reading.{values_in}
use Rattle.emit_replace.specs.AskTurns.{AsksSince}
use Rattle.emit_replace.proofs.mentions.ask_all.Given as goal

abbrev pub invariant-loop-next : goal.invariant-loop-next
invariant-loop-next l = AsksSince l.initial.work l.work l.words l.l l.st l.memo l.initial.p l.p l.initial.stack l.stack

abbrev pub decreases-loop-next : goal.decreases-loop-next
decreases-loop-next l = gaps (values_in l.work l.l l.memo) l.l.room
