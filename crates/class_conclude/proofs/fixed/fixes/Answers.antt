-- `fixes` meets its contract.
use native.Mathlib.Omega.{arith}
use Rattle.class_conclude.specs.Fixed.{asked-room, linked, headed, flexed, unvalued, coloured, fixed}
use mathlib.Core.Bool.{not}
use Rattle.std.proofs.Common.{ap}
use Rattle.class_conclude.proofs.fixed.fixes.Goals as goal

pub returns-then-not-is_root : goal.returns-then-not-is_root
returns-then-not-is_root c = (omega arith, λ h vs xs C. linked _ _ _ _ _ c.requires.node h vs xs C _ c.is_root.ensures (ap not c.if-not-is_root.true))

pub returns-then-head : goal.returns-then-head
returns-then-head c = (omega arith, λ h vs xs C. headed _ _ _ _ _ c.requires.node h vs xs C _ c.head.ensures c.if-head.true)

pub returns-then-is_flexible : goal.returns-then-is_flexible
returns-then-is_flexible c = (omega arith, λ h vs xs C. flexed _ _ _ _ _ c.requires.node h vs xs C _ c.is_flexible.ensures c.if-is_flexible.true)

pub word_at-requires : goal.word_at-requires
word_at-requires c = let r = asked-room _ _ _ _ _ c.requires in (omega (arith, r.0, r.2, c.values_at.ensures), r.1)

pub returns-then-word_at-eq0 : goal.returns-then-word_at-eq0
returns-then-word_at-eq0 c = (omega arith, λ h vs xs C. unvalued _ _ _ _ _ c.requires.node h vs xs C _ (rw c.values_at.ensures at c.word_at.ensures) c.if-word_at-eq0.true)

pub word_at-requires-2 : goal.word_at-requires-2
word_at-requires-2 c = let r = asked-room _ _ _ _ _ c.requires in (omega (arith, r.0, r.2, c.colours_at.ensures), r.1)

pub returns-then-word_at-ne0 : goal.returns-then-word_at-ne0
returns-then-word_at-ne0 c = (omega arith, λ h vs xs C. coloured _ _ _ _ _ c.requires.node h vs xs C _ (rw c.colours_at.ensures at c.word_at-2.ensures) c.if-word_at-ne0.true)

pub returns : goal.returns
returns c = (
  omega arith,
  λ h vs xs C. fixed _ _ _ _ _ c.requires.node h vs xs C _ _ _ _ _ c.is_root.ensures (ap not c.if-not-is_root.false) c.head.ensures c.if-head.false c.is_flexible.ensures c.if-is_flexible.false (rw c.values_at.ensures at c.word_at.ensures) c.if-word_at-eq0.false (rw c.colours_at.ensures at c.word_at-2.ensures) c.if-word_at-ne0.false,
)
