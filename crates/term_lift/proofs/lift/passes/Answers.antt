-- `passes` meets its contract.
use Rattle.term_lift.specs.Memo.{dropped_not, dropped_new}
use Rattle.term_lift.proofs.lift.passes.Goals as goal

pub returns-then-taken-ne0 : goal.returns-then-taken-ne0
returns-then-taken-ne0 c = dropped_not _ _ c.if-taken-ne0.true

pub returns : goal.returns
returns c = dropped_new _ _ c.if-taken-ne0.false
