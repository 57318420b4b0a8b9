-- `put_sort` meets its contract.
use mathlib.Core.Path.{sym}
use native.Mathlib.Omega.{arith}
use Rattle.text_write.specs.Written.{adds_none, adds_as}
use Rattle.text_write.specs.Source.{no_sort}
use Rattle.text_write.proofs.name.put_sort.Goals as goal

pub count-requires : goal.count-requires
count-requires c = (c.requires.cataloged.fits, omega arith)

pub returns-then-count-i : goal.returns-then-count-i
returns-then-count-i c = λ P R. adds_as _ _ _ _ _ _ (sym (no_sort _ _ _ P R _ (omega (arith, c.if-count-i.true, c.count.ensures)))) (adds_none _ _)

pub sort_name-requires : goal.sort_name-requires
sort_name-requires c = (c.requires, omega (arith, c.if-count-i.false, c.count.ensures))

pub returns : goal.returns
returns c = λ P R. adds_as _ _ _ _ _ _ (c.sort_name.ensures P R) c.put_bytes.ensures
