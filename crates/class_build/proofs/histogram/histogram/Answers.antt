-- `histogram` meets its contract.
use native.Mathlib.Numerals.{add-one}
use native.Mathlib.Omega.{arith}
use Rattle.class_build.specs.Slots.{counting-none, counting_wide, counting_more, counting-all}
use Rattle.class_build.proofs.histogram.histogram.Goals as goal

pub loop-i-init : goal.loop-i-init
loop-i-init c = counting-none _ _ _

pub add_class-s-requires : goal.add_class-s-requires
add_class-s-requires c = counting_wide _ _ _ _ _ c.loop-i.invariant c.loop-i-test.true (omega arith)

pub loop-i-preserved : goal.loop-i-preserved
loop-i-preserved c = let g = c.loop-i in rw (add-one g.i) (counting_more _ _ _ _ _ g.invariant c.loop-i-test.true _ _ c.class_count.ensures c.add_class-s.ensures)

pub returns : goal.returns
returns c = counting-all _ _ _ _ _ c.loop-i.invariant c.loop-i-test.false
