-- `put_number` meets its contract.
use native.Mathlib.Omega.{arith}
use Rattle.text_write.specs.Written.{adds-end, adds-none-left, decimal_some}
use Rattle.text_write.proofs.put.put_number.Goals as goal

pub returns-in-Some : goal.returns-in-Some
returns-in-Some c = adds-end _ _ _ _ _ (decimal_some _) (omega arith) c.in-Some.ensures

pub returns-in-None : goal.returns-in-None
returns-in-None c = adds-none-left _ _ _ _ (omega arith) c.in-None.ensures
