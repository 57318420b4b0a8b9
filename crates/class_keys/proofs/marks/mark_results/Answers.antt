-- `mark_results` meets its contract: what is left to be marked gives the whole.
use mathlib.Core.Path.{refl, sym, ap, ◌∙◌}
use native.Mathlib.Omega.{arith}
use lib.ListN.{length-set}
use Rattle.definition.specs.Pack.{Result}
use Rattle.definition.specs.Verdict.{no_result}
use Rattle.pack_read.specs.Reads.{length_results}
use Rattle.definition.specs.Keys.{first_of}
use Rattle.pack_read.specs.Held.{readable}
use Rattle.class_keys.specs.Marks.{result_steps}
use Rattle.class_keys.specs.Marking.{all-turn, all_end, first_inside, result-given}
use Rattle.class_keys.proofs.marks.mark_results.Goals as goal

pub count-n-requires : goal.count-n-requires
count-n-requires c = (c.requires.0.placed.held.cataloged.fits, omega arith)

pub loop-i-init : goal.loop-i-init
unfolding result_steps
loop-i-init c = (refl, λ P R Q. refl)

pub result_step-s-requires : goal.result_step-s-requires
result_step-s-requires c = (readable _ _ _ c.requires.0.placed.held, omega (arith, c.loop-i-test.true, c.count-n.ensures))

pub first_of-f-requires : goal.first_of-f-requires
first_of-f-requires c = (c.requires.0, result-given _ _ _ _ c.requires.0 _ _ (omega (arith, c.loop-i-test.true, c.count-n.ensures)) c.result_step-s.ensures)

pub bounds-marks-f : goal.bounds-marks-f
bounds-marks-f c = omega (arith, first_inside _ _ _ _ c.requires.0 _ _ (result-given _ _ _ _ c.requires.0 _ _ (omega (arith, c.loop-i-test.true, c.count-n.ensures)) c.result_step-s.ensures) c.first_of-f.ensures, c.requires.1, c.loop-i.invariant.0)

pub loop-i-preserved : goal.loop-i-preserved
loop-i-preserved c = (length-set c.loop-i.marks c.first_of-f.result 1 ∙ c.loop-i.invariant.0, λ P R Q. all-turn (λ (r : Result). first_of P r.step) no_result P.results c.loop-i.marks c.loop-i.i _ (omega (arith, c.loop-i-test.true, c.count-n.ensures, length_results _ _ P R)) (c.first_of-f.ensures P R Q ∙ ap (first_of P) (c.result_step-s.ensures P R)) ∙ c.loop-i.invariant.1 P R Q)

pub returns : goal.returns
returns c = λ P R Q. sym (all_end (λ (r : Result). first_of P r.step) no_result P.results c.loop-i.marks c.loop-i.i (omega (arith, c.loop-i-test.false, c.count-n.ensures, length_results _ _ P R))) ∙ c.loop-i.invariant.1 P R Q
