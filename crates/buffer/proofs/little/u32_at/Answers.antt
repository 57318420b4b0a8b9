-- `u32_at` meets its contract: four bytes are two and two.
use native.Mathlib.Omega.{arith}
use Rattle.definition.specs.Little.{le_split}
use Rattle.buffer.proofs.little.u32_at.Goals as goal

pub returns : goal.returns
returns c = let a = c.args in omega (arith, le_split 2 2 a.s.now a.i)
