-- `write_roots` meets its contract.
use Rattle.host_unify.specs.Tells.{Written}
use mathlib.Core.Path.{◌≡◌}
use Prim.Native.Nat.{◌≤◌}
use lib.ListN.{length}
use Rattle.host_unify.proofs.write_roots.Given as goal

abbrev pub invariant-loop-i : goal.invariant-loop-i
invariant-loop-i l = (l.i ≤ l.n) × (length l.work ≡ length l.initial.work) × (length l.roots ≡ length l.initial.roots) × Written l.cells l.initial.work l.work l.initial.roots l.roots l.g l.i
