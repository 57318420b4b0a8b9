-- `passes` meets its contract.
use mathlib.Core.Path.{ap, ◌∙◌}
use lib.Dec.{ltb}
use Rattle.term_lift.specs.Memo.{dropped_not, dropped_new}
use Rattle.term_readback.proofs.resolve.passes.Goals as goal

pub returns-then-taken-ne0 : goal.returns-then-taken-ne0
returns-then-taken-ne0 c = dropped_not _ _ c.if-taken-ne0.true

pub returns : goal.returns
returns c = ap (ltb 0) (rw c.patterns_at.ensures at c.word_at.ensures) ∙ dropped_new _ _ c.if-taken-ne0.false
