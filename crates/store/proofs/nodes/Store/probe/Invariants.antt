-- `Store::probe` meets its contract: what the search has passed is taken, and not by the key.
use Prim.Native.Nat.{◌-◌, ◌<◌}
use lib.ListN.{length}
use Rattle.base.specs.Probe.{Passed}
use Rattle.store.specs.Words.{node_with}
use Rattle.store.specs.Stored.{nodes, node_at}
use Rattle.store.proofs.nodes.Store.probe.Given as goal

abbrev pub invariant-loop-self : goal.invariant-loop-self
invariant-loop-self l = Passed l.slots (node_at (nodes l.words l.self)) (node_with l.key) l.h l.s × (l.s < length l.slots)

abbrev pub decreases-loop-self : goal.decreases-loop-self
decreases-loop-self l = length l.slots - l.s
