-- `fix_each` meets its contract.
use native.Mathlib.Omega.{arith}
use Rattle.class_solve.specs.AllValues.{going_none, going_asks, going_on, going_stop, going_done}
use Rattle.class_solve.proofs.values.fix_each.Goals as goal

pub loop-i-init : goal.loop-i-init
loop-i-init c = going_none _ _ _ _ _ _ _ _ _

pub fix_premise-requires : goal.fix_premise-requires
fix_premise-requires c = going_asks _ _ _ _ _ _ _ _ _ c.requires _ _ c.loop-i.invariant c.loop-i-test.true

pub loop-i-preserved : goal.loop-i-preserved
loop-i-preserved c = going_on _ _ _ _ _ _ _ _ _ c.requires _ _ c.loop-i.invariant c.loop-i-test.true _ c.in_default.ensures

pub returns-in-Differs : goal.returns-in-Differs
returns-in-Differs c = going_stop _ _ _ _ _ _ _ _ _ c.requires _ _ c.loop-i.invariant c.loop-i-test.true c.fix_premise.new.work c.in-Differs.ensures

pub returns : goal.returns
returns c = going_done _ _ _ _ _ _ _ _ _ c.requires _ _ c.loop-i.invariant (omega arith)
