-- `lay_filled` meets its contract.
use Rattle.emit_induct.specs.Filling.{FillGo}
use Rattle.emit_induct.proofs.candidates.lay_filled.Given as goal

abbrev pub invariant-loop-i : goal.invariant-loop-i
invariant-loop-i l = FillGo l.p l.c l.args l.key l.i
