-- `free_slot` meets its contract.
use native.Mathlib.Omega.{arith}
use Rattle.base.specs.Probe.{ran-more}
use Rattle.store.proofs.nodes.free_slot.Goals as goal

pub loop-s-preserved : goal.loop-s-preserved
loop-s-preserved c = let a = c.args in let g = c.loop-s in ran-more a.slots.now a.h g.s c.requires g.invariant (omega arith)
