-- `solve_from` meets its contract.
use Rattle.std.proofs.lemmas.Result.{err_from_is_err_and}
use Rattle.class_solve.specs.Solves.{from-refused, from-valuing, from-values}
use Rattle.class_solve.proofs.solve.solve_from.Goals as goal

pub take_premises-requires : goal.take_premises-requires
take_premises-requires c = c.requires

pub value_premises-requires : goal.value_premises-requires
value_premises-requires c = from-valuing _ _ _ _ _ _ _ _ _ _ _ _ _ _ c.requires _ _ _ c.take_premises.auto.instances _ c.in_ok-t.ensures

pub returns : goal.returns
returns c = from-values _ _ _ _ _ _ _ _ _ _ _ _ _ _ c.requires _ _ _ c.take_premises.auto.instances _ c.in_ok-t.ensures c.value_premises.new.work c.value_premises.result c.value_premises.ensures

pub returns-in_err-t : goal.returns-in_err-t
returns-in_err-t c =
    let e = err_from_is_err_and c.from_residual.result c.from_residual.ensures.1 in
    rw (e.1, e.2) (from-refused _ _ _ _ _ _ _ _ _ _ _ _ _ _ c.requires c.take_premises.new.work c.take_premises.new.cells c.take_premises.new.instances c.take_premises.auto.instances c.take_premises.new.work c.take_premises.new.cells _ c.in_err-t.ensures)
