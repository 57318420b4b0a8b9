-- `test_each` meets its contract: with each turn the goals left give the same answer.
use native.Mathlib.Omega.{arith}
use Rattle.std.proofs.lemmas.Result.{err_from_is_err_and}
use Rattle.class_build.specs.EachGoal.{going_none, going_testable, going_recorded, going_met, going_on, going_refused}
use Rattle.class_build.proofs.goals_each.test_each.Goals as goal

pub count-goals-requires : goal.count-goals-requires
count-goals-requires c = (c.requires.given.held.cataloged.fits, omega arith)

pub loop-g-init : goal.loop-g-init
loop-g-init c = (omega arith, going_none _ _ _ _ _ _ _ _ _ _ _ c.requires)

pub test_goal-requires : goal.test_goal-requires
test_goal-requires c =
    let M = c.requires in
    let G = c.loop-g.invariant.1 in
    (going_testable _ _ _ _ _ _ _ _ _ _ _ M _ _ _ _ G, going_recorded _ _ _ _ _ _ _ _ _ _ _ M _ _ _ _ G (omega (arith, c.loop-g-test.true, c.count-goals.ensures)))

pub returns-in_err-seen : goal.returns-in_err-seen
returns-in_err-seen c =
    let e = err_from_is_err_and c.from_residual.result c.from_residual.ensures.1 in
    rw (e.1, e.2) (going_refused _ _ _ _ _ _ _ _ _ _ _ c.requires _ _ _ _ c.loop-g.invariant.1 (omega (arith, c.loop-g-test.true, c.count-goals.ensures)) _ _ c.in_err-seen.ensures)

pub loop-g-preserved : goal.loop-g-preserved
loop-g-preserved c = (
  omega arith,
  going_on _ _ _ _ _ _ _ _ _ _ _ c.requires _ _ _ _ c.loop-g.invariant.1 (omega (arith, c.loop-g-test.true, c.count-goals.ensures)) _ _ _ _ c.in_ok-seen.ensures,
)

pub returns : goal.returns
returns c = going_met _ _ _ _ _ _ _ _ _ _ _ c.requires _ _ _ _ c.loop-g.invariant.1 (omega (arith, c.loop-g-test.false, c.count-goals.ensures))
