-- `Memo::insert` meets its contract.
use native.Mathlib.Omega.{arith}
use lib.ListN.{length-set}
use Rattle.memo.specs.Recall.{length-recall, inserted}
use Rattle.memo.proofs.memo.Memo.insert.Goals as goal

pub overflow_mul-i : goal.overflow_mul-i
overflow_mul-i c = omega (arith, c.requires.1, length-recall c.args.table.now c.args.self)

pub offset_bounds-table-i : goal.offset_bounds-table-i
offset_bounds-table-i c = omega (arith, c.requires.1, length-recall c.args.table.now c.args.self)

pub bounds-table-i : goal.bounds-table-i
bounds-table-i c = omega (arith, c.requires.1, length-recall c.args.table.now c.args.self)

pub overflow_add-table : goal.overflow_add-table
overflow_add-table c = omega (arith, c.requires.1, length-recall c.args.table.now c.args.self)

pub offset_bounds-table-i-2 : goal.offset_bounds-table-i-2
offset_bounds-table-i-2 c = omega (arith, c.requires.1, length-recall c.args.table.now c.args.self)

pub bounds-table-i-2 : goal.bounds-table-i-2
bounds-table-i-2 c = simp length-set (omega (arith, c.requires.1, length-recall c.args.table.now c.args.self))

pub returns : goal.returns
returns c = inserted _ _ _ _ c.requires.0 (omega (arith, c.requires.1, length-recall c.args.table.now c.args.self))
