-- `put_flexes` meets its contract.
use native.Mathlib.Omega.{arith}
use Rattle.class_rule.specs.Marks.{marked-none, marking_asked, marked_more, marked_all}
use Rattle.class_rule.proofs.row.put_flexes.Goals as goal

pub loop-j-init : goal.loop-j-init
loop-j-init c = marked-none _ _ _ _ _ _ _

pub flex_mark-mark-requires : goal.flex_mark-mark-requires
flex_mark-mark-requires c = rw c.numbers_at.ensures (marking_asked _ _ _ _ _ _ _ c.requires _ c.loop-j-test.true)

pub loop-j-preserved : goal.loop-j-preserved
loop-j-preserved c = marked_more _ _ _ _ _ _ _ c.requires _ c.loop-j-test.true _ _ _ (rw c.numbers_at.ensures at c.flex_mark-mark.ensures) c.loop-j.invariant

pub returns : goal.returns
returns c = marked_all _ _ _ _ _ _ _ _ _ _ (omega (arith, c.loop-j-test.false)) c.loop-j.invariant
