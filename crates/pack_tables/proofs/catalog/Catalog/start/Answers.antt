-- `Catalog::start` meets its contract.
use native.Mathlib.Omega.{arith}
use Rattle.pack_tables.specs.Catalog.{region_inside}
use Rattle.pack_tables.proofs.catalog.Catalog.start.Goals as goal

pub overflow_mul-result-2 : goal.overflow_mul-result-2
overflow_mul-result-2 c = omega (arith, region_inside c.args.self c.args.kind c.requires.1, c.requires.0.fits)

pub overflow_add-result-2 : goal.overflow_add-result-2
overflow_add-result-2 c = omega (arith, region_inside c.args.self c.args.kind c.requires.1, c.requires.0.fits)
