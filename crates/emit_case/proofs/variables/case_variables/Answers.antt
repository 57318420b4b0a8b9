-- `case_variables` meets its contract.
use Rattle.std.proofs.lemmas.Result.{err_from_is_err_and}
use Rattle.emit_state.specs.Holding.{lends}
use Rattle.emit_case.specs.Inputs.{arity_asked, inputs_go, inputs_end, few_bytes, place-below, input_asked, sort-asked, inputs_short, inputs_go_on}
use Rattle.emit_case.proofs.variables.case_variables.Goals as goal

pub symbol_arity-n-requires : goal.symbol_arity-n-requires
symbol_arity-n-requires c = arity_asked (lends _ _ _ _) _ _ _ c.requires.0

pub loop-i-init : goal.loop-i-init
loop-i-init c =
    inputs_go (lends _ _ _ _) _ _ _ _ _ c.requires.0 c.requires.1 c.symbol_arity-n.ensures

pub symbol_input-sort-requires : goal.symbol_input-sort-requires
symbol_input-sort-requires c = input_asked _ _ _ _ _ _ _ _ _ c.loop-i.invariant c.loop-i-test.true c.requires.0

pub case_variable-requires : goal.case_variable-requires
case_variable-requires c =
    sort-asked _ _ _ _ _ _ _ _ _ c.loop-i.invariant c.loop-i-test.true _ c.symbol_input-sort.ensures c.requires.0

pub offset_bounds-vs-i : goal.offset_bounds-vs-i
offset_bounds-vs-i c = record { fits = few_bytes _ _ _ _ _ _ _ _ _ c.loop-i.invariant c.loop-i-test.true }

pub bounds-vs-i : goal.bounds-vs-i
bounds-vs-i c = place-below _ _ _ _ _ _ _ _ _ c.loop-i.invariant c.loop-i-test.true

pub returns-in_err-u : goal.returns-in_err-u
returns-in_err-u c =
    let E = c.in_err-u.ensures in
    let p = err_from_is_err_and c.from_residual.result c.from_residual.ensures.1 in
    rw (p.1, p.2) (inputs_short _ _ _ _ _ _ _ _ _ c.loop-i.invariant c.loop-i-test.true _ c.symbol_input-sort.ensures (lends _ _ _ _) _ _ E)

pub loop-i-preserved : goal.loop-i-preserved
loop-i-preserved c =
    let g = c.loop-i.invariant in
    let E = c.in_ok-u.ensures in
    inputs_go_on _ _ _ _ _ _ _ _ _ g c.loop-i-test.true _ c.symbol_input-sort.ensures (lends _ _ _ _) _ _ E

pub returns : goal.returns
returns c = inputs_end _ _ _ _ _ _ _ _ _ c.loop-i.invariant c.loop-i-test.false
