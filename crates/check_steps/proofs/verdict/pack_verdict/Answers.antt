-- `pack_verdict` meets its contract.
use Rattle.check_steps.specs.Decided.{step_fails, goal_fails, all_accepted}
use Rattle.check_steps.proofs.verdict.pack_verdict.Goals as goal

pub returns-in-Some : goal.returns-in-Some
returns-in-Some c = λ P R Q. step_fails P _ (c.in-Some.ensures P R Q)

pub returns-in-Some-failing_goal : goal.returns-in-Some-failing_goal
returns-in-Some-failing_goal c = λ P R Q. goal_fails P _ (c.in_default.ensures P R Q) (c.in-Some-failing_goal.ensures P R Q)

pub returns : goal.returns
returns c = λ P R Q. all_accepted P (c.in_default.ensures P R Q) (c.in_default-failing_goal.ensures P R Q)
