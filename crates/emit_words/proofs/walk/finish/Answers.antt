-- `finish` meets its contract.
use Rattle.emit_words.specs.Turning.{turn-done, turn_definable, turn_defined, turn_short}
use Rattle.emit_words.proofs.walk.finish.Goals as goal

pub returns-then-s-eq0 : goal.returns-then-s-eq0
returns-then-s-eq0 c =
    turn-done _ _ _ _ _ _ _ _ _ c.requires c.if-s-eq0.true

pub define-requires : goal.define-requires
define-requires c =
    turn_definable _ _ _ _ _ _ _ _ _ c.requires c.if-s-eq0.false

pub returns : goal.returns
returns c =
    turn_defined _ _ _ _ _ _ _ _ _ c.requires c.if-s-eq0.false c.define.new.work c.define.new.proof _ c.define.ensures _ c.in_ok-t.was

pub returns-in_err-t : goal.returns-in_err-t
returns-in_err-t c =
    rw c.from_residual.ensures (turn_short _ _ _ _ _ _ _ _ _ c.requires c.if-s-eq0.false c.define.new.work c.define.new.proof _ c.define.ensures c.in_err-t.was)
