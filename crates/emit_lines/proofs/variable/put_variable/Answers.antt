-- `put_variable` meets its contract.
use native.Mathlib.Omega.{arith}
use Rattle.text_write.specs.Written.{adds_then, adds_as}
use Rattle.emit_lines.specs.Words.{variable-first, variable-later}
use Rattle.emit_lines.proofs.variable.put_variable.Goals as goal

pub returns-then-k-eq0 : goal.returns-then-k-eq0
returns-then-k-eq0 c = adds_as _ _ _ _ _ _ (variable-first _ _ c.if-k-eq0.true) c.put_name-name.ensures

pub returns : goal.returns
returns c = adds_as _ _ _ _ _ _ (variable-later _ c.args.k (omega (arith, c.if-k-eq0.false))) (adds_then _ _ _ _ _ _ _ _ c.put_name-name.ensures c.put_number.ensures)
