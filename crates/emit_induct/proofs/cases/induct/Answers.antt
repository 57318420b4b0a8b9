-- `induct` meets its contract.
use native.Mathlib.Omega.{arith}
use Rattle.emit_state.specs.Holding.{lends}
use Rattle.emit_search.specs.Answering.{wrote_lined, front}
use Rattle.emit_induct.specs.CasesGo.{induct_fails, induct_short, line-asked, induct-line}
use Rattle.emit_induct.proofs.cases.induct.Goals as goal

pub slice_bounds-write_induct-end : goal.slice_bounds-write_induct-end
slice_bounds-write_induct-end c =
    let F = c.in-All.ensures in
    omega (arith, F.grown.1, c.induct_cases.auto.cases, c.requires.1)

pub write_induct-requires : goal.write_induct-requires
write_induct-requires c =
    let F = c.in-All.ensures in
    line-asked _ (lends _ _ _ _) _ _ _ _ _ _ F c.requires.0

pub returns-in-All : goal.returns-in-All
returns-in-All c =
    let F = c.in-All.ensures in
    record { answer = induct-line _ (lends _ _ _ _) _ _ _ _ _ _ F (lends _ _ _ _) _ _ c.write_induct.ensures.answer (front c.in-All.to _); line = wrote_lined c.write_induct.result c.write_induct.ensures.line }

pub returns-in-Fails : goal.returns-in-Fails
returns-in-Fails c =
    let F = c.in-Fails.ensures in
    record { answer = induct_fails _ (lends _ _ _ _) _ _ _ _ _ F; line = tt }

pub returns-in-Refused : goal.returns-in-Refused
returns-in-Refused c =
    let F = c.in-Refused.ensures in
    record { answer = induct_short _ (lends _ _ _ _) _ _ _ _ _ F; line = tt }
