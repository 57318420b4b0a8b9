-- `digits` meets its contract: the digits counted and those left make the whole.
use mathlib.Core.Path.{ap}
use native.Mathlib.Omega.{arith}
use lib.ListN.{length}
use Rattle.definition.specs.Decimal.{decimal_few, length_more}
use Rattle.buffer.proofs.decimal.digits.Goals as goal

pub loop-m-preserved : goal.loop-m-preserved
loop-m-preserved c = (omega (arith, length_more c.loop-m.m (omega arith)), omega arith)

pub returns : goal.returns
returns c = omega (arith, ap length (decimal_few c.loop-m.m (omega arith)))
