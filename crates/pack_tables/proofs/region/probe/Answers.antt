-- `probe` meets its contract: what the search has passed is taken, and not by the key.
use Prim.Native.Nat.{◌-◌}
use native.Mathlib.Omega.{arith}
use lib.ListN.{get_or}
use Rattle.base.specs.Probe.{passed_none, passed_more}
use Rattle.pack_tables.specs.Place.{key_at}
use Rattle.pack_tables.specs.Region.{place_in}
use Rattle.pack_tables.specs.RegionLaws.{search_ends, search_id, unlike, alike}
use Rattle.pack_tables.proofs.region.probe.Goals as goal

pub loop-id-init : goal.loop-id-init
loop-id-init c =
    let a = c.args in
    let P = passed_none a.slots.now (λ i. key_at a.pack.now (place_in a.region.now i)) a.key.now a.h (search_ends _ _ _ _ _ _ c.requires) in
    (P, P.ran.inside)

pub overflow_cast-id : goal.overflow_cast-id
overflow_cast-id c = omega (arith, c.type_inv.slots c.loop-id.s)

pub has-requires : goal.has-requires
has-requires c = (c.requires.keyed.kept, omega (arith, search_id _ _ _ _ _ _ c.requires c.loop-id.s c.loop-id.invariant.1))

pub loop-id-preserved : goal.loop-id-preserved
loop-id-preserved c =
    let a = c.args in
    let g = c.loop-id in
    let P = passed_more a.slots.now (λ i. key_at a.pack.now (place_in a.region.now i)) a.key.now a.h (search_ends _ _ _ _ _ _ c.requires) g.s g.invariant.0 (omega arith)
    (unlike (key_at a.pack.now (place_in a.region.now (get_or a.slots.now g.s 0 - 1))) a.key.now _ c.has.ensures c.if-has.false) in
    (P, P.ran.inside)

pub returns-then-id-eq0 : goal.returns-then-id-eq0
returns-then-id-eq0 c = (c.loop-id.invariant.0, c.if-id-eq0.true)

pub returns-then-has : goal.returns-then-has
returns-then-has c =
    let a = c.args in
    let g = c.loop-id in
    (g.invariant.1, omega arith, alike (key_at a.pack.now (place_in a.region.now (get_or a.slots.now g.s 0 - 1))) a.key.now _ c.has.ensures c.if-has.true)
