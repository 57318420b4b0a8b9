-- `add_class` meets its contract.
use Rattle.class_build.specs.Slots.{adds_single, adds_few, adds_tens, adds_hundreds}
use Rattle.class_build.proofs.histogram.add_class.Goals as goal

pub returns-then-n-le1 : goal.returns-then-n-le1
returns-then-n-le1 c = adds_single _ _ c.if-n-le1.true

pub returns-then-n-le9 : goal.returns-then-n-le9
returns-then-n-le9 c = adds_few _ _ c.if-n-le1.false c.if-n-le9.true

pub returns-then-n-le99 : goal.returns-then-n-le99
returns-then-n-le99 c = adds_tens _ _ c.if-n-le9.false c.if-n-le99.true

pub returns : goal.returns
returns c = adds_hundreds _ _ c.if-n-le99.false
