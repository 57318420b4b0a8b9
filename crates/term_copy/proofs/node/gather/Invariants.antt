-- `gather` meets its contract.
use Rattle.term_copy.specs.Places.{copy_in}
use Prim.Native.Nat.{◌≤◌}
use lib.ListN.{length, take, drop}
use mathlib.Core.List.{map}
use mathlib.Core.Path.{◌≡◌}
use Rattle.term_copy.proofs.node.gather.Given as goal

abbrev pub invariant-loop-i : goal.invariant-loop-i
invariant-loop-i l = (length l.args ≡ length l.initial.args) × (l.i ≤ length l.args) × (take l.i l.args ≡ take l.i (map (copy_in l.work l.l l.memo) (drop 1 l.key)))
