-- `probe` meets its contract: what the search has passed is taken, and not by the key.
use Prim.Native.Nat.{◌-◌, ◌<◌}
use lib.ListN.{length}
use Rattle.base.specs.Probe.{Passed}
use Rattle.pack_tables.specs.Place.{key_at}
use Rattle.pack_tables.specs.Region.{place_in}
use Rattle.pack_tables.proofs.region.probe.Given as goal

abbrev pub invariant-loop-id : goal.invariant-loop-id
invariant-loop-id l = Passed l.slots (λ i. key_at l.pack (place_in l.region i)) l.key l.h l.s × (l.s < length l.slots)

abbrev pub decreases-loop-id : goal.decreases-loop-id
decreases-loop-id l = length l.slots - l.s
