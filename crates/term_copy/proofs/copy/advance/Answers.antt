-- `advance` meets its contract.
use Rattle.term_copy.specs.Ways.{ready_inside, ready_given, ready_known, ready_look, ready_deeper, ready_ripe, advance_passed, advance_entered, advance_copied, advance_short}
use Rattle.base.specs.Part.{part}
use native.Mathlib.Omega.{arith}
use Rattle.term_copy.proofs.copy.advance.Goals as goal

pub overflow_mul-at : goal.overflow_mul-at
overflow_mul-at c = omega (arith, ready_inside _ _ _ _ _ _ _ _ _ c.requires)

pub overflow_add-at : goal.overflow_add-at
overflow_add-at c = omega (arith, ready_inside _ _ _ _ _ _ _ _ _ c.requires)

pub passes-requires : goal.passes-requires
passes-requires c =
    let R = c.requires in
    let A = R.2.holds.apart in
    (A.table, omega (arith, A.stack, A.marks, A.rows), ready_inside _ _ _ _ _ _ _ _ _ R, ready_known _ _ _ _ _ _ _ _ _ R)

pub returns-then-passes : goal.returns-then-passes
returns-then-passes c = let a = c.args in advance_passed a.work.now a.words.now a.cells.now a.flex.now a.l a.st a.memo a.g a.top c.passes.result c.passes.ensures c.if-passes.true

pub offset_bounds-work-at : goal.offset_bounds-work-at
offset_bounds-work-at c = omega (arith, ready_inside _ _ _ _ _ _ _ _ _ c.requires)

pub bounds-work-at : goal.bounds-work-at
bounds-work-at c = omega (arith, ready_inside _ _ _ _ _ _ _ _ _ c.requires)

pub node-key-requires : goal.node-key-requires
unfolding part
node-key-requires c = let R = c.requires in (R.2.holds.stored, ready_given _ _ _ _ _ _ _ _ _ R)

pub is_left-requires : goal.is_left-requires
is_left-requires c =
    let a = c.args in
    ready_look a.work.now a.words.now a.cells.now a.flex.now a.l a.st a.memo a.g a.top c.requires c.passes.result c.passes.ensures c.if-passes.false _ c.node-key.ensures

pub deepen-requires : goal.deepen-requires
deepen-requires c =
    let a = c.args in
    ready_deeper a.work.now a.words.now a.cells.now a.flex.now a.l a.st a.memo a.g a.top c.requires c.passes.result c.passes.ensures c.if-passes.false _ c.node-key.ensures c.is_left.result c.is_left.ensures c.if-is_left.true

pub overflow_add-result : goal.overflow_add-result
overflow_add-result c =
    let a = c.args in
    omega (arith, (ready_deeper a.work.now a.words.now a.cells.now a.flex.now a.l a.st a.memo a.g a.top c.requires c.passes.result c.passes.ensures c.if-passes.false _ c.node-key.ensures c.is_left.result c.is_left.ensures c.if-is_left.true).inside)

pub returns-then-is_left : goal.returns-then-is_left
returns-then-is_left c =
    let a = c.args in
    advance_entered a.work.now a.words.now a.cells.now a.flex.now a.l a.st a.memo a.g a.top c.requires c.passes.result c.passes.ensures c.if-passes.false _ c.node-key.ensures c.is_left.result c.is_left.ensures c.if-is_left.true c.deepen.new.work c.deepen.ensures

pub copy_node-requires : goal.copy_node-requires
copy_node-requires c =
    let a = c.args in
    ready_ripe a.work.now a.words.now a.cells.now a.flex.now a.l a.st a.memo a.g a.top c.requires c.passes.result c.passes.ensures c.if-passes.false _ c.node-key.ensures c.is_left.result c.is_left.ensures c.if-is_left.false

pub returns : goal.returns
returns c =
    let a = c.args in
    let v = c.copy_node in
    advance_copied a.work.now a.words.now a.cells.now a.flex.now a.l a.st a.memo a.g a.top c.requires c.passes.result c.passes.ensures c.if-passes.false _ c.node-key.ensures c.is_left.result c.is_left.ensures c.if-is_left.false v.new.work v.new.cells v.auto.cells v.result v.ensures _ _ c.in_ok-h.was

pub returns-in_err-h : goal.returns-in_err-h
returns-in_err-h c =
    let a = c.args in
    let v = c.copy_node in
    rw c.from_residual.ensures (advance_short a.work.now a.words.now a.cells.now a.flex.now a.l a.st a.memo a.g a.top c.requires c.passes.result c.passes.ensures c.if-passes.false _ c.node-key.ensures c.is_left.result c.is_left.ensures c.if-is_left.false v.new.work v.new.cells v.auto.cells v.result v.ensures c.in_err-h.was)
