-- `name_variable` meets its contract.
use native.Mathlib.Omega.{arith}
use Rattle.emit_state.specs.Holding.{lends}
use Rattle.emit_case.specs.Naming.{asked_small, asked-readable, enter_asked, names_short, names_made}
use Rattle.emit_case.proofs.variables.name_variable.Goals as goal

pub overflow_add-k : goal.overflow_add-k
overflow_add-k c = record { fits = omega (arith, asked_small _ _ _ _ c.requires) }

pub put_var_line-end-requires : goal.put_var_line-end-requires
put_var_line-end-requires c =
    asked-readable (lends _ _ _ _) _ _ _ c.requires

pub returns-then-proof-end : goal.returns-then-proof-end
returns-then-proof-end c =
    let P = c.put_var_line-end in
    names_short _ _ _ _ _ _ _ _ P.new.text P.auto.text _ P.ensures.line (omega arith) (lends _ _ _ _)

pub enter-trail-requires : goal.enter-trail-requires
enter-trail-requires c =
    rw c.maps-maps.ensures (enter_asked (lends _ _ _ _) _ _ _ _ c.requires)

pub overflow_add-result : goal.overflow_add-result
overflow_add-result c =
    record { fits = omega (arith, asked_small _ _ _ _ c.requires) }

pub returns : goal.returns
returns c =
    let P = c.put_var_line-end in
    let E = rw c.maps-maps.ensures at c.enter-trail.ensures in
    names_made _ _ _ _ _ _ _ _ P.new.text P.auto.text _ P.ensures.line (omega arith) c.enter-trail.new.work _ E
