-- `free_slot` meets its contract.
use Prim.Native.Nat.{◌-◌}
use lib.ListN.{length}
use Rattle.base.specs.Probe.{Ran}
use Rattle.store.proofs.nodes.free_slot.Given as goal

abbrev pub invariant-loop-s : goal.invariant-loop-s
invariant-loop-s l = Ran l.slots l.h l.s

abbrev pub decreases-loop-s : goal.decreases-loop-s
decreases-loop-s l = length l.slots - l.s
