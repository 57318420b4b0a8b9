-- `goal_is_met` meets its contract: a goal is met just if a step was found.
use Rattle.check_steps.specs.Goals.{goal_recorded, goal_found, goal_missed}
use Rattle.check_steps.proofs.goals.goal_is_met.Goals as goal

pub goal_step-requires : goal.goal_step-requires
goal_step-requires c = let p = c.requires in (p.0, goal_recorded _ _ _ p.0 _ p.1)

pub returns-in-Some : goal.returns-in-Some
returns-in-Some c = goal_found _ _ _ c.args.g _ c.in-Some.ensures

pub returns-in-None : goal.returns-in-None
returns-in-None c = goal_missed _ _ _ c.args.g c.in-None.ensures
