-- `failing_step` meets its contract: with each turn the steps left give the same answer.
use mathlib.Core.Path.{refl, ◌∙◌}
use native.Mathlib.Omega.{arith}
use Rattle.definition.specs.Pack.{no_step, step_of}
use Rattle.definition.specs.Verdict.{passes}
use Rattle.pack_read.specs.Reads.{length_steps}
use Rattle.check_steps.specs.First.{left-all, left_on, left_at, left_end}
use mathlib.Core.Bool.{not}
use Rattle.std.proofs.Common.{ap}
use Rattle.check_steps.proofs.steps.failing_step.Goals as goal

pub count-steps-requires : goal.count-steps-requires
count-steps-requires c = (c.requires.cataloged.fits, omega arith)

pub loop-i-init : goal.loop-i-init
loop-i-init c = (omega arith, left-all _ _ _ (λ P. P.steps) passes no_step 4 (length_steps _ _), refl, refl)

pub step_passes-requires : goal.step_passes-requires
step_passes-requires c =
    let H = c.requires in
    (H, omega (arith, c.loop-i-test.true, c.count-steps.ensures, length_steps _ _ H.pack H.reads), c.loop-i.invariant.2, c.loop-i.invariant.3)

pub returns-then-not-step_passes : goal.returns-then-not-step_passes
unfolding step_of
returns-then-not-step_passes c = left_at _ _ _ (λ P. P.steps) passes no_step 4 (length_steps _ _) c.loop-i.i c.loop-i.invariant.1 (omega (arith, c.loop-i-test.true, c.count-steps.ensures)) c.step_passes.result c.step_passes.ensures (ap not c.if-not-step_passes.true)

pub loop-i-preserved : goal.loop-i-preserved
unfolding step_of
loop-i-preserved c = (
  omega arith,
  left_on _ _ _ (λ P. P.steps) passes no_step 4 (length_steps _ _) c.loop-i.i c.loop-i.invariant.1 (omega (arith, c.loop-i-test.true, c.count-steps.ensures)) c.step_passes.result c.step_passes.ensures (ap not c.if-not-step_passes.false),
  c.step_passes.auto.stack ∙ c.loop-i.invariant.2,
  c.step_passes.auto.values ∙ c.loop-i.invariant.3,
)

pub returns : goal.returns
returns c = left_end _ _ _ (λ P. P.steps) passes no_step 4 (length_steps _ _) c.loop-i.i c.loop-i.invariant.1 (omega (arith, c.loop-i-test.false, c.count-steps.ensures))
