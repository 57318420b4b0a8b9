-- `put_word` meets its contract.
use native.Mathlib.Omega.{arith}
use Rattle.text_write.specs.Written.{adds_as}
use Rattle.emit_lines.specs.Words.{text_constant, text_defined, text_variable}
use Rattle.emit_lines.proofs.word.put_word.Goals as goal

pub put_symbol-requires : goal.put_symbol-requires
put_symbol-requires c = c.requires

pub returns-then-w-lt-DEFINED : goal.returns-then-w-lt-DEFINED
returns-then-w-lt-DEFINED c = λ P R. adds_as _ _ _ _ _ _ (text_constant P _ _ c.if-w-lt-DEFINED.true) (c.put_symbol.ensures P R)

pub returns-then-w-lt-VARIABLE : goal.returns-then-w-lt-VARIABLE
returns-then-w-lt-VARIABLE c = λ P R. adds_as _ _ _ _ _ _ (text_defined P _ c.args.w.0 (omega (arith, c.if-w-lt-DEFINED.false)) c.if-w-lt-VARIABLE.true) c.put_definition.ensures

pub returns : goal.returns
returns c = λ P R. adds_as _ _ _ _ _ _ (text_variable P _ c.args.w.0 (omega (arith, c.if-w-lt-DEFINED.false)) (omega (arith, c.if-w-lt-VARIABLE.false))) c.put_variable.ensures
