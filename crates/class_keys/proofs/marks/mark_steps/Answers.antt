-- `mark_steps` meets its contract: what is left to be marked gives the whole.
use mathlib.Core.Path.{refl, sym, ap, ◌∙◌}
use Prim.Native.Nat.{ℕ, ◌-◌}
use native.Mathlib.Omega.{arith}
use Rattle.pack_read.specs.Reads.{length_steps}
use Rattle.class_keys.specs.Marks.{mark_below}
use Rattle.class_keys.specs.Marking.{below-turn, below_end}
use Rattle.class_keys.proofs.marks.mark_steps.Goals as goal

pub count-steps-requires : goal.count-steps-requires
count-steps-requires c = (c.requires.0.placed.held.cataloged.fits, omega arith)

pub loop-s-init : goal.loop-s-init
loop-s-init c = (omega (arith, c.count-steps.ensures), refl, λ P R Q. ap (λ (n : ℕ). mark_below n P c.args.marks.now) (c.count-steps.ensures ∙ sym (length_steps _ _ P R)))

pub mark_step-requires : goal.mark_step-requires
mark_step-requires c = (c.requires.0, omega (arith, c.requires.1, c.loop-s.invariant.1), omega (arith, c.loop-s.invariant.0, c.loop-s-test.true))

pub loop-s-preserved : goal.loop-s-preserved
loop-s-preserved c = (omega (arith, c.loop-s.invariant.0), c.mark_step.auto.marks ∙ c.loop-s.invariant.1, λ P R Q. ap (mark_below (c.loop-s.s - 1) P) (c.mark_step.ensures P R Q) ∙ below-turn P c.loop-s.s _ c.loop-s.marks (omega (arith, c.loop-s-test.true)) ∙ c.loop-s.invariant.2 P R Q)

pub returns : goal.returns
returns c = λ P R Q. sym (below_end P c.loop-s.s c.loop-s.marks (omega (arith, c.loop-s-test.false))) ∙ c.loop-s.invariant.2 P R Q
