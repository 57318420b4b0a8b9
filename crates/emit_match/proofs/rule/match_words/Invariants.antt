-- `match_words` meets its contract: with each turn as much is to come as before.
use Prim.Native.Nat.{◌-◌}
use Rattle.emit_match.specs.Partly.{Going}
use Rattle.emit_match.proofs.rule.match_words.Given as goal

abbrev pub invariant-loop-next : goal.invariant-loop-next
invariant-loop-next l = Going l.pack l.initial.work l.work l.words l.m l.r l.initial.left l.initial.i l.left l.i

abbrev pub decreases-loop-next : goal.decreases-loop-next
decreases-loop-next l = 256 - l.i
