-- `open` meets its contract.
use native.Mathlib.Omega.{arith}
use lib.ListN.{length-set}
use Rattle.emit_premises.proofs.building.Building.open.Goals as goal

pub bounds-stack-end : goal.bounds-stack-end
bounds-stack-end c = simp length-set (omega arith)

pub bounds-stack-head : goal.bounds-stack-head
bounds-stack-head c = simp length-set (omega arith)
