-- `case_goal` meets its contract.
use native.Mathlib.Omega.{arith}
use Rattle.emit_state.specs.Holding.{lends}
use Rattle.emit_case.specs.Leaves.{puts_for}
use Rattle.emit_case.specs.Putting.{put-asked, made-asked, goal_on, goal_short}
use Rattle.emit_case.proofs.goal.case_goal.Goals as goal

pub put_for-requires : goal.put_for-requires
put_for-requires c = put-asked _ _ _ _ _ _ _ _ c.requires

pub chain-requires : goal.chain-requires
chain-requires c =
    let F = puts_for ((c.in-Ok.ensures.grown, c.in-Ok.ensures.comes)) in
    (made-asked _ _ _ _ _ _ _ _ _ _ _ _ F c.requires, omega arith)

pub returns-in-Ok : goal.returns-in-Ok
returns-in-Ok c =
    let F = puts_for ((c.in-Ok.ensures.grown, c.in-Ok.ensures.comes)) in
    record { answer = goal_on _ _ _ _ _ _ _ _ _ _ _ _ F (lends _ _ _ _) _ c.chain.ensures.answer; line = c.chain.ensures.line }

pub returns-in-Err : goal.returns-in-Err
returns-in-Err c =
    let F = puts_for ((c.in-Err.ensures.grown, c.in-Err.ensures.comes)) in
    record { answer = goal_short _ _ _ _ _ _ _ _ _ _ _ F; line = tt }
