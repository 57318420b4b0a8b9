-- `failing_goal` meets its contract: with each turn the goals left give the same answer.
use native.Mathlib.Omega.{arith}
use Rattle.definition.specs.Verdict.{no_goal, met}
use Rattle.pack_read.specs.Reads.{length_goals}
use Rattle.check_steps.specs.First.{left-all, left_on, left_at, left_end}
use Rattle.check_steps.specs.Goals.{goal-given}
use mathlib.Core.Bool.{not}
use Rattle.std.proofs.Common.{ap}
use Rattle.check_steps.proofs.goals.failing_goal.Goals as goal

pub loop-g-init : goal.loop-g-init
loop-g-init c = (omega arith, left-all _ _ _ (λ P. P.goals) met no_goal 5 (length_goals _ _))

pub goal_is_met-requires : goal.goal_is_met-requires
goal_is_met-requires c = let H = c.requires in (H, goal-given _ _ _ H _ (omega (arith, c.loop-g-test.true, c.count-goals.ensures)))

pub returns-then-not-goal_is_met : goal.returns-then-not-goal_is_met
returns-then-not-goal_is_met c = left_at _ _ _ (λ P. P.goals) met no_goal 5 (length_goals _ _) c.loop-g.g c.loop-g.invariant.1 (omega (arith, c.loop-g-test.true, c.count-goals.ensures)) c.goal_is_met.result c.goal_is_met.ensures (ap not c.if-not-goal_is_met.true)

pub loop-g-preserved : goal.loop-g-preserved
loop-g-preserved c = (
  omega arith,
  left_on _ _ _ (λ P. P.goals) met no_goal 5 (length_goals _ _) c.loop-g.g c.loop-g.invariant.1 (omega (arith, c.loop-g-test.true, c.count-goals.ensures)) c.goal_is_met.result c.goal_is_met.ensures (ap not c.if-not-goal_is_met.false),
)

pub returns : goal.returns
returns c = left_end _ _ _ (λ P. P.goals) met no_goal 5 (length_goals _ _) c.loop-g.g c.loop-g.invariant.1 (omega (arith, c.loop-g-test.false, c.count-goals.ensures))
