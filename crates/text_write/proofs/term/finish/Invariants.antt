-- `finish` meets its contract: with each turn what is written and what is left are what was left at first.
use mathlib.Core.Path.{◌≡◌}
use Prim.Native.Nat.{◌-◌}
use lib.ListN.{length}
use Rattle.text_write.specs.Walk.{Runs}
use Rattle.text_write.proofs.term.finish.Given as goal

abbrev pub invariant-loop-p : goal.invariant-loop-p
invariant-loop-p l = (length l.text ≡ length l.initial.text) × Runs l.pack l.initial.work l.work l.words l.initial.text l.text l.s l.stack l.initial.p l.p

abbrev pub decreases-loop-p : goal.decreases-loop-p
decreases-loop-p l = length l.text - l.p.at
