-- `induct_case` meets its contract.
use native.Mathlib.Omega.{arith}
use Rattle.emit_state.specs.Holding.{lends}
use Rattle.emit_case.specs.Naming.{asked_small}
use Rattle.emit_case.specs.Under.{front}
use Rattle.emit_case.specs.CaseOn.{case_short, numbers_small, varied_asked, case_line, case_fails, case_refused}
use Rattle.emit_case.proofs.case.induct_case.Goals as goal

pub overflow_add-first : goal.overflow_add-first
overflow_add-first c = record { fits = omega (arith, asked_small (lends _ _ _ _) _ _ _ c.requires.0) }

pub slice_bounds-case_of-end : goal.slice_bounds-case_of-end
slice_bounds-case_of-end c =
    let F = c.in-Ok.ensures in
    omega (arith, F.grown.1, c.case_variables.auto)

pub case_of-requires : goal.case_of-requires
case_of-requires c =
    let F = c.in-Ok.ensures in
    varied_asked (lends _ _ _ _) (lends _ _ _ _) _ _ _ _ _ _ _ F _ (front c.in-Ok.n c.case_variables.new.vs) c.requires.0

pub put_case-requires : goal.put_case-requires
put_case-requires c =
    let F = c.in-Ok.ensures in
    let X = numbers_small (lends _ _ _ _) (lends _ _ _ _) _ _ _ _ _ _ _ F c.requires.0 in
    (X.0, c.requires.1, X.1)

pub overflow_add-result : goal.overflow_add-result
overflow_add-result c = record { fits = omega (arith, c.requires.1) }

pub overflow_add-result-in-Line : goal.overflow_add-result-in-Line
overflow_add-result-in-Line c =
    let F = c.in-Ok.ensures in
    record { fits = omega (arith, F.grown.1, c.requires.1) }

pub returns-in-Line : goal.returns-in-Line
returns-in-Line c =
    let F = c.in-Ok.ensures in
    case_line (lends _ _ _ _) (lends _ _ _ _) _ _ _ _ _ _ _ F _ (front c.in-Ok.n c.case_variables.new.vs) (lends _ _ _ _) _ _ _ _ _ c.in-Line.ensures.answer c.put_case.ensures

pub returns-in-Fails : goal.returns-in-Fails
returns-in-Fails c =
    let F = c.in-Ok.ensures in
    case_fails (lends _ _ _ _) (lends _ _ _ _) _ _ _ _ _ _ _ F _ (front c.in-Ok.n c.case_variables.new.vs) (lends _ _ _ _) _ _ _ _ c.in-Fails.ensures.answer

pub returns-in-Refused : goal.returns-in-Refused
returns-in-Refused c =
    let F = c.in-Ok.ensures in
    case_refused (lends _ _ _ _) (lends _ _ _ _) _ _ _ _ _ _ _ F _ (front c.in-Ok.n c.case_variables.new.vs) (lends _ _ _ _) _ _ _ _ c.in-Refused.ensures.answer

pub returns-in-Err : goal.returns-in-Err
returns-in-Err c =
    let F = c.in-Err.ensures in
    case_short (lends _ _ _ _) (lends _ _ _ _) _ _ _ _ _ _ F _ _ _
