-- `rule_form` meets its contract.
use native.Mathlib.Omega.{arith}
use Rattle.std.proofs.lemmas.Result.{err_from_is_err_and}
use Rattle.pack_tables.specs.Catalog.{records_of}
use Rattle.pack_reader.specs.Named.{rest_misnamed, rest_named}
use Rattle.pack_reader.specs.Rule.{counts_faulty, terms_faulty, misnamed_rule, formed_rule}
use mathlib.Core.Bool.{not}
use Rattle.std.proofs.Common.{ap}
use Rattle.pack_reader.proofs.rule.rule_form.Goals as goal

pub read_terms-requires : goal.read_terms-requires
read_terms-requires c = let C = c.in_ok-vars.ensures in (c.requires, C.whole, C.few_premises)

pub slice_bounds-is_name-count : goal.slice_bounds-is_name-count
slice_bounds-is_name-count c = omega (arith, c.in_ok-e.ensures.inside)

pub slice_bounds-is_name-start : goal.slice_bounds-is_name-start
slice_bounds-is_name-start c = omega (arith, c.in_ok-e.ensures.inside)

pub returns-then-not-is_name : goal.returns-then-not-is_name
returns-then-not-is_name c =
    let a = c.args in
    misnamed_rule a.pack.now (records_of a.work.now a.c) a.body.now c.count-sorts.result c.count-sorts.ensures _ _ c.in_ok-vars.ensures _ c.in_ok-e.ensures
    (rest_misnamed a.body.now _ c.is_name.result c.is_name.ensures (ap not c.if-not-is_name.true))

pub returns-in_err-vars : goal.returns-in_err-vars
returns-in_err-vars c =
    let a = c.args in
    let p = err_from_is_err_and c.from_residual.result c.from_residual.ensures.1 in
    rw (p.1, p.2) (counts_faulty a.pack.now (records_of a.work.now a.c) a.body.now c.count-sorts.result c.count-sorts.ensures _ c.in_err-vars.ensures)

pub returns-in_err-e : goal.returns-in_err-e
returns-in_err-e c =
    let a = c.args in
    let p = err_from_is_err_and c.from_residual-in_err-e.result c.from_residual-in_err-e.ensures.1 in
    rw (p.1, p.2) (terms_faulty a.pack.now (records_of a.work.now a.c) a.body.now c.count-sorts.result c.count-sorts.ensures _ _ c.in_ok-vars.ensures _ c.in_err-e.ensures)

pub returns : goal.returns
returns c =
    let a = c.args in
    formed_rule a.pack.now (records_of a.work.now a.c) a.body.now c.count-sorts.result c.count-sorts.ensures _ _ c.in_ok-vars.ensures _ c.in_ok-e.ensures
    (rest_named a.body.now _ c.is_name.result c.is_name.ensures (ap not c.if-not-is_name.false))
