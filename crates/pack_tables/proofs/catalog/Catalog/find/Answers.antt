-- `Catalog::find` meets its contract.
use native.Mathlib.Omega.{arith}
use Rattle.pack_tables.specs.Region.{Keyed, Finds}
use Rattle.pack_tables.specs.Catalog.{lent, unlent, lent_inside, sought_in}
use Rattle.pack_tables.proofs.catalog.Catalog.find.Goals as goal

pub start-a-requires : goal.start-a-requires
start-a-requires c = (c.requires.0.fits, c.requires.1)

pub overflow_mul-cap : goal.overflow_mul-cap
overflow_mul-cap c = omega (arith, lent_inside c.args.work.now c.args.self c.args.kind c.start-a.result c.cap_of-cap.result c.start-a.ensures c.cap_of-cap.ensures c.requires.0.fits c.requires.1)

pub overflow_add-cap : goal.overflow_add-cap
overflow_add-cap c = omega (arith, lent_inside c.args.work.now c.args.self c.args.kind c.start-a.result c.cap_of-cap.result c.start-a.ensures c.cap_of-cap.ensures c.requires.0.fits c.requires.1)

pub overflow_add-a : goal.overflow_add-a
overflow_add-a c = omega (arith, lent_inside c.args.work.now c.args.self c.args.kind c.start-a.result c.cap_of-cap.result c.start-a.ensures c.cap_of-cap.ensures c.requires.0.fits c.requires.1)

pub offset_bounds-work-a : goal.offset_bounds-work-a
offset_bounds-work-a c = omega (arith, lent_inside c.args.work.now c.args.self c.args.kind c.start-a.result c.cap_of-cap.result c.start-a.ensures c.cap_of-cap.ensures c.requires.0.fits c.requires.1)

pub slice_bounds-find-end : goal.slice_bounds-find-end
slice_bounds-find-end c = omega (arith, lent_inside c.args.work.now c.args.self c.args.kind c.start-a.result c.cap_of-cap.result c.start-a.ensures c.cap_of-cap.ensures c.requires.0.fits c.requires.1)

pub find-requires : goal.find-requires
find-requires c =
    let a = c.args in
    lent a.work.now a.self a.kind c.start-a.result c.cap_of-cap.result c.start-a.ensures c.cap_of-cap.ensures (λ x n. Keyed a.pack.now x n) (c.requires.0.keyed a.kind c.requires.1 c.requires.2)

pub returns : goal.returns
returns c =
    let a = c.args in
    sought_in a.pack.now a.work.now a.self a.kind a.key.now c.find.result
    (unlent a.work.now a.self a.kind c.start-a.result c.cap_of-cap.result c.start-a.ensures c.cap_of-cap.ensures (λ x n. Finds a.pack.now x a.key.now c.find.result) c.find.ensures)
