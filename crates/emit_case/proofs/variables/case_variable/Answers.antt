-- `case_variable` meets its contract.
use native.Mathlib.Omega.{arith}
use Rattle.std.proofs.lemmas.Result.{err_from_is_err_and}
use Rattle.emit_state.specs.Holding.{lends}
use Rattle.emit_case.specs.Naming.{asked_small}
use Rattle.emit_case.specs.Making.{variable-refused, name-asked, variable_makes}
use Rattle.emit_case.proofs.variables.case_variable.Goals as goal

pub overflow_add-number : goal.overflow_add-number
overflow_add-number c = record { fits = omega (arith, asked_small _ _ _ _ c.requires) }

pub name_variable-requires : goal.name_variable-requires
name_variable-requires c =
    let I = c.in_ok-t.ensures in
    name-asked _ _ _ _ _ _ _ _ _ _ _ I c.requires

pub returns : goal.returns
returns c =
    let I = c.in_ok-t.ensures in
    variable_makes _ _ _ _ _ _ _ _ _ _ _ I (lends _ _ _ _) _ c.name_variable.ensures

pub returns-in_err-t : goal.returns-in_err-t
returns-in_err-t c =
    let I = c.in_err-t.ensures in
    let p = err_from_is_err_and c.from_residual.result c.from_residual.ensures.1 in
    rw (p.1, p.2) (variable-refused _ _ _ _ _ _ _ _ _ _ I (lends _ _ _ _))
