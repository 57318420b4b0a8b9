-- `read_var` meets its contract.
use native.Mathlib.Omega.{arith}
use Rattle.host_unify.specs.Turns.{var_broken, var_full, var_next}
use Rattle.host_unify.proofs.read_var.Goals as goal

pub returns-then-terms-at-lt4 : goal.returns-then-terms-at-lt4
returns-then-terms-at-lt4 c = var_broken _ _ _ _ _ c.requires.0 c.requires.1 c.requires.2 (omega arith)

pub var-requires : goal.var-requires
var-requires c = c.requires.0.shows.laid

pub returns-in_default : goal.returns-in_default
returns-in_default c = var_full _ _ _ _ _ c.requires.0 c.requires.1 c.requires.2 (omega arith) c.var.new.cells c.var.new.table c.var.auto.cells c.in_default.ensures

pub returns : goal.returns
returns c = var_next _ _ _ _ _ c.requires.0 c.requires.1 c.requires.2 (omega arith) _ _ c.var.auto.cells _ _ c.in-Some.ensures
