-- `find` meets its contract.
use Prim.Native.Nat.{◌+◌, ◌*◌}
use native.Mathlib.Omega.{arith}
use Rattle.pack_tables.specs.RegionLaws.{found, nowhere}
use Rattle.pack_tables.proofs.region.find.Goals as goal

pub overflow_add-id : goal.overflow_add-id
overflow_add-id c = let F = found _ _ _ _ c.requires _ c.in-Ok.ensures in omega (arith, F.0, c.requires.kept.long)

pub offset_bounds-region-a : goal.offset_bounds-region-a
offset_bounds-region-a c = let F = found _ _ _ _ c.requires _ c.in-Ok.ensures in omega (arith, F.0, c.requires.kept.long)

pub bounds-region-a : goal.bounds-region-a
bounds-region-a c = let F = found _ _ _ _ c.requires _ c.in-Ok.ensures in omega (arith, F.0, c.requires.kept.long)

pub overflow_sub-result : goal.overflow_sub-result
overflow_sub-result c = let F = found _ _ _ _ c.requires _ c.in-Ok.ensures in omega (arith, F.1)

pub overflow_cast-result : goal.overflow_cast-result
overflow_cast-result c = let a = c.args in omega (arith, c.type_inv.region (2 * a.cap + 1 + c.in-Ok.s))

pub returns : goal.returns
returns c = (found _ _ _ _ c.requires _ c.in-Ok.ensures).2

pub returns-in_default : goal.returns-in_default
returns-in_default c = nowhere _ _ _ _ c.requires _ c.in_default.ensures
