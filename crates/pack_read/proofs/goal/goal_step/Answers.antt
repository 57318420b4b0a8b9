-- `goal_step` meets its contract: the result of the goal's name has its judgment, or another, or there is none.
use Rattle.pack_read.specs.Held.{readable}
use Rattle.pack_read.specs.Goals.{step-none, result_recorded, step_recorded, step_same, step_other}
use Rattle.pack_read.proofs.goal.goal_step.Goals as goal

pub goal_result-requires : goal.goal_result-requires
goal_result-requires c = let p = c.requires in (readable _ _ _ p.0, p.1)

pub result_step-s-requires : goal.result_step-s-requires
result_step-s-requires c =
    let p = c.requires in
    let a = c.args in
    (readable _ _ _ p.0, result_recorded _ _ _ p.0 a.g _ c.in_ok-i.ensures)

pub step_judgment-requires : goal.step_judgment-requires
step_judgment-requires c =
    let p = c.requires in
    let a = c.args in
    (readable _ _ _ p.0, step_recorded _ _ _ p.0 a.g _ c.in_ok-i.ensures _ c.result_step-s.ensures)

pub goal_judgment-requires : goal.goal_judgment-requires
goal_judgment-requires c = let p = c.requires in (readable _ _ _ p.0, p.1)

pub returns-then-step_judgment-goal_judgment : goal.returns-then-step_judgment-goal_judgment
returns-then-step_judgment-goal_judgment c =
    let p = c.requires in
    let a = c.args in
    step_same _ _ _ p.0 a.g _ c.in_ok-i.ensures _ c.result_step-s.ensures _ _ c.step_judgment.ensures c.goal_judgment.ensures c.if-step_judgment-goal_judgment.true

pub returns-else-step_judgment-goal_judgment : goal.returns-else-step_judgment-goal_judgment
returns-else-step_judgment-goal_judgment c =
    let p = c.requires in
    let a = c.args in
    step_other _ _ _ p.0 a.g _ c.in_ok-i.ensures _ c.result_step-s.ensures _ _ c.step_judgment.ensures c.goal_judgment.ensures c.if-step_judgment-goal_judgment.false

pub returns-in_err-i : goal.returns-in_err-i
returns-in_err-i c = rw c.from_residual.ensures (step-none _ _ _ c.args.g c.in_err-i.ensures)
