-- `show_each` meets its contract: with each turn the goals left give the same answer, and the text of those ahead stands there.
use mathlib.Core.Path.{refl, ◌∙◌}
use native.Mathlib.Omega.{arith}
use Rattle.std.proofs.lemmas.Result.{err_from_is_err_and}
use Rattle.text_goals.specs.EachShown.{going_none, going_showable, going_recorded, going_all, going_on, going_refused}
use Rattle.text_goals.proofs.goals.show_each.Goals as goal

pub count-goals-requires : goal.count-goals-requires
count-goals-requires c = (c.requires.given.held.cataloged.fits, omega arith)

pub loop-g-init : goal.loop-g-init
loop-g-init c = (omega arith, refl, going_none _ _ _ _ _ _ _ _ _ _ c.requires)

pub show_goal-requires : goal.show_goal-requires
show_goal-requires c =
    let M = c.requires in
    let G = c.loop-g.invariant.2 in
    let a = c.args in
    (going_showable _ _ _ _ a.text.now _ _ a.b _ _ M _ _ _ _ _ _ G, going_recorded _ _ _ _ a.text.now _ _ a.b _ _ M _ _ _ _ _ _ G (omega (arith, c.loop-g-test.true, c.count-goals.ensures)))

pub returns-in_err-seen : goal.returns-in_err-seen
returns-in_err-seen c =
    let e = err_from_is_err_and c.from_residual.result c.from_residual.ensures.1 in
    rw (e.1, e.2) (going_refused _ _ _ _ _ _ _ _ _ _ c.requires _ _ _ _ _ _ c.loop-g.invariant.2 (omega (arith, c.loop-g-test.true, c.count-goals.ensures)) c.show_goal.new.work c.show_goal.new.text _ c.in_err-seen.ensures)

pub loop-g-preserved : goal.loop-g-preserved
loop-g-preserved c = (
  omega (arith, c.loop-g-test.true),
  c.show_goal.auto.text ∙ c.loop-g.invariant.1,
  going_on _ _ _ _ _ _ _ _ _ _ c.requires _ _ _ _ _ _ c.loop-g.invariant.2 (omega (arith, c.loop-g-test.true, c.count-goals.ensures)) _ _ _ _ _ c.in_ok-seen.ensures,
)

pub returns : goal.returns
returns c = going_all _ _ _ _ _ _ _ _ _ _ c.requires _ _ _ _ _ _ c.loop-g.invariant.2 (omega (arith, c.loop-g-test.false, c.count-goals.ensures))
