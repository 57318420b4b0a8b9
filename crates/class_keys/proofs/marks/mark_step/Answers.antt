-- `mark_step` meets its contract.
use mathlib.Core.Path.{sym, ◌∙◌}
use Rattle.class_keys.specs.Marking.{step_unmarked, step_cut, step-refs}
use Rattle.class_keys.proofs.marks.mark_step.Goals as goal

pub returns-then-marks-s-eq0 : goal.returns-then-marks-s-eq0
returns-then-marks-s-eq0 c = λ P R Q. sym (step_unmarked P _ c.args.marks.now c.if-marks-s-eq0.true)

pub step_is_cut-requires : goal.step_is_cut-requires
step_is_cut-requires c = let p = c.requires in (p.0.placed.held, p.0.placed.marks, p.2)

pub returns-then-step_is_cut : goal.returns-then-step_is_cut
returns-then-step_is_cut c = λ P R Q. sym (step_cut P _ c.args.marks.now (sym (c.step_is_cut.ensures P R Q) ∙ c.if-step_is_cut.true))

pub returns : goal.returns
returns c = λ P R Q. c.mark_refs.ensures P R Q ∙ sym (step-refs P _ c.args.marks.now c.if-marks-s-eq0.false (sym (c.step_is_cut.ensures P R Q) ∙ c.if-step_is_cut.false))
