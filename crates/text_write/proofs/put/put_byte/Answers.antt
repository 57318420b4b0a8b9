-- `put_byte` meets its contract.
use mathlib.Core.Path.{refl}
use native.Mathlib.Omega.{arith}
use Rattle.text_write.specs.Written.{adds_byte, adds_short}
use Rattle.text_write.proofs.put.put_byte.Goals as goal

pub returns-then-at-text : goal.returns-then-at-text
returns-then-at-text c = record { byte = adds_byte _ _ _ c.if-at-text.true (omega arith); on = λ h. refl }

pub returns : goal.returns
returns c = record { byte = adds_short _ _ _ (omega (arith, c.if-at-text.false)) (omega arith); on = λ h. absurd (omega (arith, c.if-at-text.false, h)) }
