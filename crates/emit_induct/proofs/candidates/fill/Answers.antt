-- `fill` meets its contract.
use Rattle.emit_induct.specs.Filling.{fill_open, fill_given}
use Rattle.emit_induct.proofs.candidates.fill.Goals as goal

pub returns-then-a-eq-NONE : goal.returns-then-a-eq-NONE
returns-then-a-eq-NONE c = fill_open _ _ c.if-a-eq-NONE.true

pub returns : goal.returns
returns c = fill_given _ _ c.if-a-eq-NONE.false
