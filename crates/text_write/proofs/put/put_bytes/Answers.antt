-- `put_bytes` meets its contract.
use native.Mathlib.Omega.{arith}
use Rattle.text_write.specs.Written.{adds_copied}
use Rattle.text_write.proofs.put.put_bytes.Goals as goal

pub returns : goal.returns
returns c = adds_copied _ _ _ _ _ (omega arith) c.copy_cells.ensures (omega arith) (omega arith)
