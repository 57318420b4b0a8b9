-- `take_sort` meets its contract.
use native.Mathlib.Omega.{arith}
use Rattle.pack_tables.specs.Name.{denied, not_denied}
use Rattle.pack_reader.specs.Taking.{sorts-keyed}
use Rattle.pack_reader.specs.Sort.{many-sorts, bad_sort, enter_sort, new-sort, old-sort}
use mathlib.Core.Bool.{not}
use Rattle.std.proofs.Common.{ap}
use Rattle.pack_reader.proofs.sort.take_sort.Goals as goal

pub count-requires : goal.count-requires
count-requires c = (c.requires.0.cataloged.fits, omega arith)

pub returns-then-count-ge-SORTS : goal.returns-then-count-ge-SORTS
returns-then-count-ge-SORTS c = many-sorts _ _ _ _ _ c.requires.0 c.requires.1 (omega (arith, c.count.ensures))

pub returns-then-not-is_name : goal.returns-then-not-is_name
returns-then-not-is_name c = bad_sort _ _ _ _ _ c.requires.0 c.requires.1 (omega (arith, c.count.ensures)) (denied c.is_name.result _ c.is_name.ensures (ap not c.if-not-is_name.true))

pub enter-requires : goal.enter-requires
enter-requires c = (enter_sort _ _ _ _ _ c.requires.0 c.requires.1 (omega (arith, c.count.ensures)) (not_denied c.is_name.result _ c.is_name.ensures (ap not c.if-not-is_name.false)), sorts-keyed)

pub returns-in-New : goal.returns-in-New
returns-in-New c = new-sort _ _ _ _ _ c.requires.0 c.requires.1 (omega (arith, c.count.ensures)) (not_denied c.is_name.result _ c.is_name.ensures (ap not c.if-not-is_name.false)) _ c.in-New.ensures

pub returns-in-Old : goal.returns-in-Old
returns-in-Old c = old-sort _ _ _ _ _ c.requires.0 c.requires.1 (omega (arith, c.count.ensures)) (not_denied c.is_name.result _ c.is_name.ensures (ap not c.if-not-is_name.false)) _ c.in-Old.ensures
