-- `add_class` meets its contract.
use native.Mathlib.Omega.{arith}
use Rattle.std.proofs.lemmas.Result.{err_from_is_err_and}
use Rattle.class_rule.specs.Adding.{adding_concludes, adds-refused, adding_few, adds-full-rows, adding_writes, adds}
use Rattle.class_rule.proofs.rule.add_class.Goals as goal

pub conclude-requires : goal.conclude-requires
conclude-requires c = adding_concludes _ _ _ _ _ _ _ _ _ _ _ _ _ _ _ _ _ c.requires

pub overflow_add-n : goal.overflow_add-n
overflow_add-n c =
    let f = c.conclude in
    let w = adding_few _ _ _ _ _ _ _ _ _ _ _ _ _ _ _ _ _ c.requires _ _ _ _ _ _ f.auto.words f.auto.cells c.in_ok-h.ensures in
    omega (arith, w.1, w.2)

pub returns-then-class-s : goal.returns-then-class-s
returns-then-class-s c =
    let a = c.args in
    let f = c.conclude in
    adds-full-rows _ _ _ _ _ _ _ _ _ _ _ _ _ _ _ _ _ c.requires _ _ _ _ _ _ f.auto.words f.auto.cells c.in_ok-h.ensures f.new.work a.class.now f.new.words f.new.cells (omega (arith, c.if-class-s.true))

pub write_row-flex-requires : goal.write_row-flex-requires
write_row-flex-requires c =
    let f = c.conclude in
    adding_writes _ _ _ _ _ _ _ _ _ _ _ _ _ _ _ _ _ c.requires _ _ _ _ _ _ f.auto.words f.auto.cells c.in_ok-h.ensures (omega (arith, c.if-class-s.false))

pub returns : goal.returns
returns c =
    let f = c.conclude in
    rw c.go_on.ensures
    (adds _ _ _ _ _ _ _ _ _ _ _ _ _ _ _ _ _ c.requires _ _ _ _ _ _ f.auto.words f.auto.cells c.in_ok-h.ensures (omega (arith, c.if-class-s.false)) _ _ _ c.write_row-flex.ensures)

pub returns-in_err-h : goal.returns-in_err-h
returns-in_err-h c =
    let a = c.args in
    let f = c.conclude in
    let e = err_from_is_err_and c.from_residual.result c.from_residual.ensures.1 in
    rw (e.1, e.2) (adds-refused _ _ _ _ _ _ _ _ _ _ _ _ _ _ _ _ _ c.requires f.new.work f.new.words f.new.cells f.new.work a.class.now f.new.words f.new.cells _ c.in_err-h.ensures)
