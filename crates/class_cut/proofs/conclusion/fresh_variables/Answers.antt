-- `fresh_variables` meets its contract: with each turn what is left gives the same variables.
use native.Mathlib.Omega.{arith}
use Rattle.class_cut.specs.Fresh.{starts_few, goes_none, goes_all, goes_readable, goes_symbol, goes_input, goes_short, goes_more, lifts_indexed}
use Rattle.class_cut.proofs.conclusion.fresh_variables.Goals as goal

pub loop-k-init : goal.loop-k-init
loop-k-init c = goes_none _ _ _ _ _ _ _ _ _ c.requires

pub symbol_input-sort-requires : goal.symbol_input-sort-requires
symbol_input-sort-requires c =
    let F = c.requires in
    let G = c.loop-k.invariant in
    let h = c.loop-k-test.true in
    (goes_readable _ _ _ _ _ _ _ _ _ F _ _ _ _ _ G h, goes_symbol _ _ _ _ _ _ _ _ _ F _ _ _ _ _ G h, goes_input _ _ _ _ _ _ _ _ _ F _ _ _ _ _ G h)

pub fresh_variable-requires : goal.fresh_variable-requires
fresh_variable-requires c = (lifts_indexed _ _ _ _ _ _ c.loop-k.invariant.lifts, omega (arith, starts_few _ _ _ _ _ _ _ _ _ c.requires, c.loop-k-test.true))

pub loop-k-preserved : goal.loop-k-preserved
loop-k-preserved c =
    let v = c.fresh_variable in
    goes_more _ _ _ _ _ _ _ _ _ c.requires _ _ _ _ _ c.loop-k.invariant c.loop-k-test.true _ c.symbol_input-sort.ensures v.new.work v.new.words _ _ v.auto.words c.in_ok-q.ensures

pub returns-in_err-q : goal.returns-in_err-q
returns-in_err-q c =
    let v = c.fresh_variable in
    rw c.from_residual.ensures (goes_short _ _ _ _ _ _ _ _ _ c.requires _ _ _ _ _ c.loop-k.invariant c.loop-k-test.true _ c.symbol_input-sort.ensures v.new.work v.new.words c.in_err-q.ensures)

pub returns : goal.returns
returns c = goes_all _ _ _ _ _ _ _ _ _ c.requires _ _ _ _ _ c.loop-k.invariant (omega (arith, c.loop-k-test.false))
