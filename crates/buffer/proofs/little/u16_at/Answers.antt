-- `u16_at` meets its contract, by the definition of `le`.
use native.Mathlib.Omega.{arith}
use Rattle.definition.specs.Little.{le}
use Rattle.buffer.proofs.little.u16_at.Goals as goal

pub returns : goal.returns
unfolding le
returns c = (omega arith, omega arith)
