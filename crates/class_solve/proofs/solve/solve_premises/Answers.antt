-- `solve_premises` meets its contract.
use Rattle.class_solve.specs.Solves.{solving_opens, solves_full, solving_starts, solves_from}
use Rattle.class_solve.proofs.solve.solve_premises.Goals as goal

pub open_variables-requires : goal.open_variables-requires
open_variables-requires c = rw c.place-place.ensures (solving_opens _ _ _ _ _ _ _ _ _ _ _ _ _ c.requires)

pub solve_from-requires : goal.solve_from-requires
solve_from-requires c = solving_starts _ _ _ _ _ _ _ _ _ _ _ _ _ c.requires _ _ _ (rw c.place-place.ensures at c.in-Some.ensures) c.open_variables.auto.cells

pub returns : goal.returns
returns c = solves_from _ _ _ _ _ _ _ _ _ _ _ _ _ c.requires _ _ _ (rw c.place-place.ensures at c.in-Some.ensures) c.open_variables.auto.cells c.solve_from.new.work c.solve_from.new.cells c.solve_from.result c.solve_from.ensures

pub returns-in_default : goal.returns-in_default
returns-in_default c = solves_full _ _ _ _ _ _ _ _ _ _ _ _ _ c.requires c.open_variables.new.work c.open_variables.new.cells c.open_variables.new.work c.open_variables.new.cells (rw c.place-place.ensures at c.in_default.ensures)
