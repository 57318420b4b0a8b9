-- `make_classes` meets its contract.
use native.Mathlib.Omega.{arith}
use Rattle.std.proofs.lemmas.Result.{err_from_is_err_and}
use Rattle.class_all.specs.All.{turned_none, turned_makes, turned_refused, turned_addable, turned_more, turned_all}
use Rattle.class_all.proofs.all.make_classes.Goals as goal

pub loop-i-init : goal.loop-i-init
loop-i-init c = turned_none _ _ _ _ _ _ _ _ _ _ _ _ c.requires

pub make_class-requires : goal.make_class-requires
make_class-requires c =
    let K = c.requires in
    let T = c.loop-i.invariant in
    turned_makes _ _ _ _ _ _ _ _ _ _ _ _ K _ _ _ _ _ _ _ T c.loop-i-test.true

pub add_counted-sums-requires : goal.add_counted-sums-requires
add_counted-sums-requires c =
    let m = c.make_class in
    turned_addable _ _ _ _ _ _ _ _ _ _ _ _ c.requires _ _ _ _ _ _ _ c.loop-i.invariant c.loop-i-test.true m.new.work m.new.class m.new.words m.new.cells _ _ c.in_ok-more.ensures

pub loop-i-preserved : goal.loop-i-preserved
loop-i-preserved c =
    let m = c.make_class in
    let N = turned_more _ _ _ _ _ _ _ _ _ _ _ _ c.requires _ _ _ _ _ _ _ c.loop-i.invariant c.loop-i-test.true m.new.work m.new.class m.new.words m.new.cells _ _ c.in_ok-more.ensures m.auto.words m.auto.cells in
    rw c.add_counted-sums.ensures N

pub returns-in_err-more : goal.returns-in_err-more
returns-in_err-more c =
    let m = c.make_class in
    let e = err_from_is_err_and c.from_residual.result c.from_residual.ensures.1 in
    rw (e.1, e.2) (turned_refused _ _ _ _ _ _ _ _ _ _ _ _ c.requires _ _ _ _ _ _ _ c.loop-i.invariant c.loop-i-test.true m.new.work m.new.class m.new.words m.new.cells _ c.in_err-more.ensures)

pub returns : goal.returns
returns c = turned_all _ _ _ _ _ _ _ _ _ _ _ _ c.requires _ _ _ _ _ _ _ c.loop-i.invariant (omega (arith, c.loop-i-test.false))
