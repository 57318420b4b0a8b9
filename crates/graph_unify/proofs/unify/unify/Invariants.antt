-- `unify` meets its contract.
use mathlib.Core.Path.{◌≡◌}
use Prim.Native.Nat.{ℕ, ◌+◌, ◌-◌}
use lib.ListN.{length}
use Rattle.graph_unify.specs.Pairs.{Topmost}
use Rattle.graph_unify.specs.Unifies.{Going}
use Rattle.graph_unify.proofs.unify.unify.Given as goal

abbrev pub invariant-loop-p : goal.invariant-loop-p
invariant-loop-p l = (length l.table ≡ length l.initial.table) × ((x y : ℕ) → Going l.cells l.initial.table l.initial.table l.g 1 0 x y → Going l.cells l.initial.table l.table l.g l.p.top l.taken x y) × Topmost l.cells l.table l.p

abbrev pub decreases-loop-p : goal.decreases-loop-p
decreases-loop-p l = l.g.used + 1 - l.taken
