-- `finish` meets its contract: with each turn what is written and what is left are what was left at first.
use mathlib.Core.Path.{refl, ◌∙◌}
use native.Mathlib.Omega.{arith}
use Rattle.text_write.specs.Walk.{runs_none, runs_turning, runs_on, runs_end, runs_full}
use Rattle.text_write.proofs.term.finish.Goals as goal

pub loop-p-init : goal.loop-p-init
loop-p-init c = let a = c.args in (refl, runs_none _ _ _ _ _ _ a.start c.requires)

pub returns-then-text-p : goal.returns-then-text-p
returns-then-text-p c = let a = c.args in runs_full _ _ _ _ _ _ a.start c.requires _ _ c.loop-p.p c.loop-p.invariant.1 c.loop-p-test.true c.if-text-p.true (omega arith)

pub turn-p-requires : goal.turn-p-requires
turn-p-requires c = let a = c.args in runs_turning _ _ _ a.text.now _ _ a.start c.requires _ _ c.loop-p.p c.loop-p.invariant.1 c.loop-p-test.true

pub loop-p-smaller : goal.loop-p-smaller
loop-p-smaller c = omega (arith, c.if-text-p.false, c.turn-p.ensures.on (omega (arith, c.if-text-p.false)), c.turn-p.auto.text)

pub loop-p-preserved : goal.loop-p-preserved
loop-p-preserved c = let a = c.args in (c.turn-p.auto.text ∙ c.loop-p.invariant.0, runs_on _ _ _ _ _ _ a.start c.requires _ _ c.loop-p.p c.loop-p.invariant.1 _ _ _ c.turn-p.ensures)

pub returns : goal.returns
returns c = let a = c.args in runs_end _ _ _ _ _ _ a.start c.requires _ _ c.loop-p.p c.loop-p.invariant.1 (omega (arith, c.loop-p-test.false))
