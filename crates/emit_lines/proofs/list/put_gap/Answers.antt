-- `put_gap` meets its contract.
use mathlib.Core.Path.{sym}
use native.Mathlib.Omega.{arith}
use Rattle.text_write.specs.Written.{adds_none, adds_as}
use Rattle.emit_lines.specs.Side.{gap-none, gap_some}
use Rattle.emit_lines.proofs.list.put_gap.Goals as goal

pub returns-then-i-eq0 : goal.returns-then-i-eq0
returns-then-i-eq0 c = adds_as _ _ _ _ _ _ (sym (gap-none _ c.if-i-eq0.true)) (adds_none _ _)

pub returns : goal.returns
returns c = adds_as _ _ _ _ _ _ (sym (gap_some c.args.i (omega (arith, c.if-i-eq0.false)))) c.put_byte.ensures.byte
