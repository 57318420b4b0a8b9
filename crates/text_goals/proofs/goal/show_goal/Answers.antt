-- `show_goal` meets its contract.
use Rattle.std.proofs.lemmas.Result.{err_from_is_err_and}
use Rattle.text_goals.specs.Showable.{shows_testable, met_lined, met_goals}
use Rattle.text_goals.specs.OneShown.{one_shown}
use Rattle.text_goals.proofs.goal.show_goal.Goals as goal

pub test_goal-requires : goal.test_goal-requires
test_goal-requires c = let p = c.requires in (shows_testable _ _ _ _ _ _ _ _ p.0, p.1)

pub write_goal-end-requires : goal.write_goal-end-requires
write_goal-end-requires c =
    let p = c.requires in
    let a = c.args in
    let N = c.in_ok-seen.ensures in
    rw c.form-f.ensures (met_lined _ _ _ _ a.s a.t.tables _ _ p.0 a.g _ _ _ _ N a.b.value, met_goals _ _ _ _ a.s a.t.tables _ _ p.0 a.g _ _ _ _ N p.1)

pub returns : goal.returns
returns c =
    let p = c.requires in
    let a = c.args in
    one_shown _ _ _ _ a.s a.t.tables _ _ p.0 a.b a.at a.g _ _ _ _ c.in_ok-seen.ensures _ _ _ _ (rw c.form-f.ensures at c.write_goal-end.ensures)

pub returns-in_err-seen : goal.returns-in_err-seen
returns-in_err-seen c =
    let e = err_from_is_err_and c.from_residual.result c.from_residual.ensures.1 in
    rw (e.1, e.2) (c.in_err-seen.ensures.1, c.in_err-seen.ensures.2)
