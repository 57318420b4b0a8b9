-- `take_premises` meets its contract.
use native.Mathlib.Omega.{arith}
use Rattle.std.proofs.lemmas.Result.{err_from_is_err_and}
use Rattle.class_premises.specs.AllPremises.{going_none, going_next, going_on, going_refused, going_done}
use Rattle.class_premises.proofs.premises.take_premises.Goals as goal

pub loop-i-init : goal.loop-i-init
loop-i-init c = going_none _ _ _ _ _ _ _ _ _ _ _ _ _ _

pub next_premise-requires : goal.next_premise-requires
next_premise-requires c = let G = c.loop-i in going_next _ _ _ _ _ _ _ _ _ _ _ _ _ _ c.requires _ _ _ _ _ _ _ _ G.invariant c.loop-i-test.true

pub loop-i-preserved : goal.loop-i-preserved
loop-i-preserved c = let G = c.loop-i in going_on _ _ _ _ _ _ _ _ _ _ _ _ _ _ c.requires _ _ _ _ _ _ _ _ G.invariant c.loop-i-test.true _ _ _ _ c.next_premise.auto.cells c.in_ok-more.ensures

pub returns-in_err-more : goal.returns-in_err-more
returns-in_err-more c =
    let G = c.loop-i in
    let e = err_from_is_err_and c.from_residual.result c.from_residual.ensures.1 in
    rw (e.1, e.2) (going_refused _ _ _ _ _ _ _ _ _ _ _ _ _ _ c.requires _ _ _ _ _ _ _ _ G.invariant c.next_premise.new.work c.next_premise.new.cells _ c.in_err-more.ensures)

pub returns : goal.returns
returns c = let G = c.loop-i in going_done _ _ _ _ _ _ _ _ _ _ _ _ _ _ c.requires _ _ _ _ _ _ _ _ G.invariant (omega arith)
