-- `recursive` meets its contract.
use Rattle.emit_case.specs.Filtering.{filter_go, few_kept, more-kept, kept-below, sort-within, filter-keep, filter_pass, filter-end}
use Rattle.emit_case.proofs.variables.recursive.Goals as goal
use Rattle.emit_case.proofs.variables.recursive.Goals.{then-symbol_input-sort, else-symbol_input-sort}

pub loop-i-init : goal.loop-i-init
loop-i-init c = filter_go _ _ _ _ _ _ _ c.requires

pub symbol_input-requires : goal.symbol_input-requires
symbol_input-requires c =
    let F = c.requires in
    (F.readable, F.symbol, sort-within _ _ _ _ _ _ _ _ _ c.loop-i.invariant c.loop-i-test.true F.readable)

pub offset_bounds-rs-many : goal.offset_bounds-rs-many
offset_bounds-rs-many c = record { fits = few_kept _ _ _ _ _ _ _ _ _ c.loop-i.invariant c.loop-i-test.true }

pub bounds-rs-many : goal.bounds-rs-many
bounds-rs-many c = kept-below _ _ _ _ _ _ _ _ _ c.loop-i.invariant c.loop-i-test.true

pub overflow_add-many : goal.overflow_add-many
overflow_add-many c = record { fits = more-kept _ _ _ _ _ _ _ _ _ c.loop-i.invariant c.loop-i-test.true }

pub loop-i-preserved : goal.loop-i-preserved
loop-i-preserved c =
    let g = c.loop-i.invariant in
    let h = c.loop-i-test.true in
    let N = c.symbol_input.ensures in
    elim c.if-symbol_input-sort.branch [
      | then-symbol_input-sort w ↦ filter-keep _ _ _ _ _ _ _ _ _ g h _ N w.if-symbol_input-sort.true c.if-symbol_input-sort.rs c.if-symbol_input-sort.many w.rs-is w.many-is
      | else-symbol_input-sort w ↦ filter_pass _ _ _ _ _ _ _ _ _ g h _ N w.if-symbol_input-sort.false c.if-symbol_input-sort.rs c.if-symbol_input-sort.many w.rs-is w.many-is
    ]

pub returns : goal.returns
returns c = filter-end _ _ _ _ _ _ _ _ _ c.loop-i.invariant c.loop-i-test.false
