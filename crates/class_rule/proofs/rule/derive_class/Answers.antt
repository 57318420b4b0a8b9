-- `derive_class` meets its contract.
use Rattle.std.proofs.lemmas.Result.{err_from_is_err_and}
use Rattle.class_rule.specs.Making.{making_solves, makes_refused, making-adds, makes}
use Rattle.class_rule.proofs.rule.derive_class.Goals as goal

pub solve_premises-requires : goal.solve_premises-requires
solve_premises-requires c = making_solves _ _ _ _ _ _ _ _ _ _ _ _ _ _ _ c.requires

pub add_class-requires : goal.add_class-requires
add_class-requires c =
    let f = c.solve_premises in
    making-adds _ _ _ _ _ _ _ _ _ _ _ _ _ _ _ c.requires _ f.new.work f.new.cells f.auto.cells c.in_ok-t.ensures

pub returns : goal.returns
returns c =
    let f = c.solve_premises in
    let d = c.add_class in
    makes _ _ _ _ _ _ _ _ _ _ _ _ _ _ _ c.requires _ f.new.work f.new.cells f.auto.cells c.in_ok-t.ensures d.new.work d.new.class d.new.words d.new.cells d.result d.ensures

pub returns-in_err-t : goal.returns-in_err-t
returns-in_err-t c =
    let e = err_from_is_err_and c.from_residual.result c.from_residual.ensures.1 in
    rw (e.1, e.2) (makes_refused _ _ _ _ _ _ _ _ _ _ _ _ _ _ _ c.requires _ c.in_err-t.ensures)
