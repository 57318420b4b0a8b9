-- `Catalog::word` meets its contract.
use mathlib.Core.Path.{ap}
use Prim.Native.Nat.{ℕ, ◌+◌, ◌*◌}
use native.Mathlib.Omega.{arith}
use lib.ListN.{get_or}
use Rattle.pack_tables.specs.Catalog.{region_inside, length-records}
use Rattle.pack_tables.proofs.catalog.Catalog.word.Goals as goal

pub start-a-requires : goal.start-a-requires
start-a-requires c = (c.requires.0.fits, c.requires.1)

pub overflow_mul-result : goal.overflow_mul-result
overflow_mul-result c = omega (arith, c.requires.2, c.requires.3, length-records c.args.work.now c.args.self c.args.kind, (c.requires.0.kept c.args.kind c.requires.1).few, (c.requires.0.kept c.args.kind c.requires.1).small)

pub overflow_add-result : goal.overflow_add-result
overflow_add-result c = omega (arith, c.requires.2, c.requires.3, length-records c.args.work.now c.args.self c.args.kind, (c.requires.0.kept c.args.kind c.requires.1).few, (c.requires.0.kept c.args.kind c.requires.1).small)

pub overflow_add-result-2 : goal.overflow_add-result-2
overflow_add-result-2 c =
    omega (arith, c.requires.2, c.requires.3, length-records c.args.work.now c.args.self c.args.kind, (c.requires.0.kept c.args.kind c.requires.1).few, region_inside c.args.self c.args.kind c.requires.1, c.requires.0.fits.fits, c.start-a.ensures)

pub offset_bounds-work-a : goal.offset_bounds-work-a
offset_bounds-work-a c =
    omega (arith, c.requires.2, c.requires.3, length-records c.args.work.now c.args.self c.args.kind, (c.requires.0.kept c.args.kind c.requires.1).few, region_inside c.args.self c.args.kind c.requires.1, c.requires.0.fits.fits, c.start-a.ensures)

pub bounds-work-a : goal.bounds-work-a
bounds-work-a c =
    omega (arith, c.requires.2, c.requires.3, length-records c.args.work.now c.args.self c.args.kind, (c.requires.0.kept c.args.kind c.requires.1).few, region_inside c.args.self c.args.kind c.requires.1, c.requires.0.fits.fits, c.start-a.ensures)

pub overflow_cast-result : goal.overflow_cast-result
overflow_cast-result c = omega (arith, c.type_inv.work (c.start-a.result + (2 * c.args.i + c.args.offset)))

pub returns : goal.returns
returns c = ap (λ (a : ℕ). get_or c.args.work.now (a + (2 * c.args.i + c.args.offset)) 0) c.start-a.ensures
