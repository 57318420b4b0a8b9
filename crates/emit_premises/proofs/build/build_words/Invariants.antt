-- `build_words` meets its contract.
use Rattle.emit_premises.specs.Amid.{to_come}
use Rattle.emit_premises.specs.Goings.{Going}
use Rattle.emit_premises.proofs.build.build_words.Given as goal

abbrev pub invariant-loop-next : goal.invariant-loop-next
invariant-loop-next l = Going l.pack l.initial.work l.work l.initial.words l.words l.initial.stack l.stack l.m l.r l.initial.b l.b

abbrev pub decreases-loop-next : goal.decreases-loop-next
decreases-loop-next l = to_come l.b
