-- `Memo::get` meets its contract.
use native.Mathlib.Omega.{arith}
use Rattle.memo.specs.Recall.{length-recall, got-value, got-nothing}
use Rattle.memo.proofs.memo.Memo.get.Goals as goal

pub overflow_mul-i : goal.overflow_mul-i
overflow_mul-i c = omega (arith, c.requires, length-recall c.args.table.now c.args.self)

pub offset_bounds-table-i : goal.offset_bounds-table-i
offset_bounds-table-i c = omega (arith, c.requires, length-recall c.args.table.now c.args.self)

pub bounds-table-i : goal.bounds-table-i
bounds-table-i c = let s = c in omega (arith, s.requires, length-recall s.args.table.now s.args.self)

pub overflow_add-result : goal.overflow_add-result
overflow_add-result c = let s = c in omega (arith, s.requires, length-recall s.args.table.now s.args.self)

pub offset_bounds-table-i-then-stamp-self : goal.offset_bounds-table-i-then-stamp-self
offset_bounds-table-i-then-stamp-self c = let s = c in omega (arith, s.requires, length-recall s.args.table.now s.args.self)

pub bounds-table-i-then-stamp-self : goal.bounds-table-i-then-stamp-self
bounds-table-i-then-stamp-self c = let s = c in omega (arith, s.requires, length-recall s.args.table.now s.args.self)

pub returns-then-stamp-self : goal.returns-then-stamp-self
returns-then-stamp-self c = let s = c in got-value s.args.table.now s.args.self s.args.k (omega (arith, s.requires, length-recall s.args.table.now s.args.self)) c.if-stamp-self.true

pub returns : goal.returns
returns c = let s = c in got-nothing s.args.table.now s.args.self s.args.k (omega (arith, s.requires, length-recall s.args.table.now s.args.self)) c.if-stamp-self.false
