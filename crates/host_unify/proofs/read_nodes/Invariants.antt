-- `read_nodes` meets its contract.
use mathlib.Core.Path.{◌≡◌}
use Prim.Native.Nat.{◌-◌}
use lib.ListN.{length}
use Rattle.host_unify.specs.Turns.{Reading}
use Rattle.host_unify.proofs.read_nodes.Given as goal

abbrev pub invariant-loop-at : goal.invariant-loop-at
invariant-loop-at l = (length l.cells ≡ length l.initial.cells) × (length l.work ≡ length l.initial.work) × Reading l.terms l.cells l.work l.g l.at

abbrev pub decreases-loop-at : goal.decreases-loop-at
decreases-loop-at l = length l.terms - l.at
