-- `prove_cut` meets its contract.
use Rattle.emit_state.specs.Holding.{lends}
use Rattle.emit_induct.specs.Cutting.{cut_line, cut-refused, cut-asked, cut_on}
use Rattle.emit_induct.proofs.cut.prove_cut.Goals as goal

pub by_induction-requires : goal.by_induction-requires
by_induction-requires c =
    let F = c.in-Fails.ensures in
    (cut-asked _ _ _ _ (lends _ _ _ _) _ F c.requires.0, c.requires.1, c.requires.2)

pub returns-in-Line : goal.returns-in-Line
returns-in-Line c =
    let F = c.in-Line.ensures in
    cut_line _ _ _ _ (lends _ _ _ _) _ _ F

pub returns-in-Fails : goal.returns-in-Fails
returns-in-Fails c =
    let F = c.in-Fails.ensures in
    cut_on _ _ _ _ (lends _ _ _ _) _ F (lends _ _ _ _) _ c.by_induction.ensures

pub returns-in-Refused : goal.returns-in-Refused
returns-in-Refused c =
    let F = c.in-Refused.ensures in
    cut-refused _ _ _ _ (lends _ _ _ _) _ F
