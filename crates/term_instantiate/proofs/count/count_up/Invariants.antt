-- `count_up` meets its contract.
use mathlib.Core.Path.{◌≡◌}
use Prim.Native.Nat.{◌≤◌}
use lib.ListN.{length, take}
use Rattle.definition.specs.Graph.{up_to}
use Rattle.term_instantiate.proofs.count.count_up.Given as goal

abbrev pub invariant-loop-i : goal.invariant-loop-i
invariant-loop-i l = (l.i ≤ l.n) × (length l.env ≡ length l.initial.env) × (take l.i l.env ≡ up_to l.i)
