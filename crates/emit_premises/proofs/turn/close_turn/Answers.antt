-- `close_turn` meets its contract.
use Rattle.emit_premises.specs.Closing.{key_some, closed_made, closed_short}
use Rattle.emit_premises.proofs.turn.close_turn.Goals as goal

pub intern-requires : goal.intern-requires
intern-requires c = (c.requires.stored, key_some _ _ _ _ _ c.requires)

pub returns : goal.returns
returns c = closed_made _ _ _ _ _ c.requires _ _ c.intern.auto.index _ _ c.in_ok-p.ensures

pub returns-in_err-p : goal.returns-in_err-p
returns-in_err-p c = rw c.from_residual.ensures (closed_short _ _ _ _ _ c.requires _ c.intern.new.words c.intern.auto.index c.in_err-p.ensures)
