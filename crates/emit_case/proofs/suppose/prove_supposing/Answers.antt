-- `prove_supposing` meets its contract.
use native.Mathlib.Omega.{arith}
use lib.ListN.{length}
use Rattle.emit_state.specs.Holding.{lends}
use Rattle.emit_case.specs.Under.{front, each_asked, goal-asked, under_short, under-refused, line_dropping, under-line, fails_dropping, under_fails}
use Rattle.emit_case.proofs.suppose.prove_supposing.Goals as goal

pub suppose_each-requires : goal.suppose_each-requires
suppose_each-requires c = let X = each_asked (lends _ _ _ _) _ _ _ _ _ c.requires in (X.0, c.requires.holds.recursive.few, X.1)

pub case_goal-requires : goal.case_goal-requires
case_goal-requires c = let F = c.in-Ok.ensures in goal-asked (lends _ _ _ _) _ _ _ _ _ (lends _ _ _ _) _ _ F c.requires

pub slice_bounds-drop_hypotheses-end : goal.slice_bounds-drop_hypotheses-end
slice_bounds-drop_hypotheses-end c = omega (arith, c.requires.holds.recursive.few, c.suppose_each.auto)

pub drop_hypotheses-requires : goal.drop_hypotheses-requires
drop_hypotheses-requires c =
    let F = c.in-Ok.ensures in
    line_dropping (lends _ _ _ _) _ _ _ _ _ (lends _ _ _ _) _ _ F (lends _ _ _ _) _ (front (length c.args.rs.now) c.suppose_each.new.hs) _ _ c.in-Line.ensures.answer c.requires

pub slice_bounds-drop_hypotheses-end-in-Fails : goal.slice_bounds-drop_hypotheses-end-in-Fails
slice_bounds-drop_hypotheses-end-in-Fails c = omega (arith, c.requires.holds.recursive.few, c.suppose_each.auto)

pub drop_hypotheses-requires-in-Fails : goal.drop_hypotheses-requires-in-Fails
drop_hypotheses-requires-in-Fails c =
    let F = c.in-Ok.ensures in
    fails_dropping (lends _ _ _ _) _ _ _ _ _ (lends _ _ _ _) _ _ F (lends _ _ _ _) _ (front (length c.args.rs.now) c.suppose_each.new.hs) _ c.in-Fails.ensures.answer c.requires

pub returns-in-Line : goal.returns-in-Line
returns-in-Line c =
    let F = c.in-Ok.ensures in
    record { answer = under-line (lends _ _ _ _) _ _ _ _ _ (lends _ _ _ _) _ _ F (lends _ _ _ _) _ (front (length c.args.rs.now) c.suppose_each.new.hs) _ _ c.in-Line.ensures.answer _ _ c.drop_hypotheses.ensures; line = c.in-Line.ensures.line }

pub returns-in-Fails : goal.returns-in-Fails
returns-in-Fails c =
    let F = c.in-Ok.ensures in
    record { answer = under_fails (lends _ _ _ _) _ _ _ _ _ (lends _ _ _ _) _ _ F (lends _ _ _ _) _ (front (length c.args.rs.now) c.suppose_each.new.hs) _ c.in-Fails.ensures.answer _ _ c.drop_hypotheses-in-Fails.ensures; line = tt }

pub returns-in-Refused : goal.returns-in-Refused
returns-in-Refused c =
    let F = c.in-Ok.ensures in
    record { answer = under-refused (lends _ _ _ _) _ _ _ _ _ (lends _ _ _ _) _ _ F (lends _ _ _ _) _ c.in-Refused.ensures.answer; line = tt }

pub returns-in-Err : goal.returns-in-Err
returns-in-Err c = let F = c.in-Err.ensures in record { answer = under_short (lends _ _ _ _) _ _ _ _ _ (lends _ _ _ _) _ _ F; line = tt }
