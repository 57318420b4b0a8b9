-- `read_top` meets its contract.
use mathlib.Core.Path.{refl}
use Rattle.class_conclude.specs.Counted.{counted-asked, counted}
use Rattle.class_conclude.proofs.conclude.read_top.Goals as goal

pub count_fixed-fixed-requires : goal.count_fixed-fixed-requires
count_fixed-fixed-requires c = counted-asked _ _ _ _ _ _ _ _ _ _ _ c.requires _ _ _ _ _ _ c.in-Some.ensures

pub returns : goal.returns
returns c = counted _ _ _ _ _ _ _ _ _ _ _ c.requires _ _ _ _ _ _ c.in-Some.ensures _ _ c.count_fixed-fixed.ensures

pub returns-in_default : goal.returns-in_default
returns-in_default c = (refl, c.in_default.ensures)
