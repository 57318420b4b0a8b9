-- `mark_refs` meets its contract: what is left to be marked gives the whole.
use mathlib.Core.Path.{refl, sym, ap, ◌∙◌}
use native.Mathlib.Omega.{arith}
use lib.ListN.{length-set}
use Rattle.definition.specs.Pack.{step_of}
use Rattle.definition.specs.Keys.{first_of}
use Rattle.pack_read.specs.Held.{readable}
use Rattle.class_keys.specs.Marking.{all-turn, all_end, first_inside, ref-given}
use Rattle.class_keys.proofs.marks.mark_refs.Goals as goal

pub step_refs-n-requires : goal.step_refs-n-requires
step_refs-n-requires c = let p = c.requires in (readable _ _ _ p.0.placed.held, p.2)

pub loop-i-init : goal.loop-i-init
loop-i-init c = (refl, λ P R Q. refl)

pub step_ref-r-requires : goal.step_ref-r-requires
step_ref-r-requires c = let p = c.requires in (readable _ _ _ p.0.placed.held, p.2, omega (arith, c.loop-i-test.true, c.step_refs-n.ensures c.requires.0.placed.held.pack c.requires.0.placed.held.reads))

pub first_of-f-requires : goal.first_of-f-requires
first_of-f-requires c = (c.requires.0, ref-given _ _ _ _ c.requires.0 _ c.loop-i.i _ c.requires.2 (omega (arith, c.loop-i-test.true, c.step_refs-n.ensures c.requires.0.placed.held.pack c.requires.0.placed.held.reads)) c.step_ref-r.ensures)

pub offset_bounds-marks-f : goal.offset_bounds-marks-f
offset_bounds-marks-f c = omega (arith, first_inside _ _ _ _ c.requires.0 _ _ (ref-given _ _ _ _ c.requires.0 _ c.loop-i.i _ c.requires.2 (omega (arith, c.loop-i-test.true, c.step_refs-n.ensures c.requires.0.placed.held.pack c.requires.0.placed.held.reads)) c.step_ref-r.ensures) c.first_of-f.ensures, c.requires.1, c.loop-i.invariant.0)

pub bounds-marks-f : goal.bounds-marks-f
bounds-marks-f c = omega (arith, first_inside _ _ _ _ c.requires.0 _ _ (ref-given _ _ _ _ c.requires.0 _ c.loop-i.i _ c.requires.2 (omega (arith, c.loop-i-test.true, c.step_refs-n.ensures c.requires.0.placed.held.pack c.requires.0.placed.held.reads)) c.step_ref-r.ensures) c.first_of-f.ensures, c.requires.1, c.loop-i.invariant.0)

pub loop-i-preserved : goal.loop-i-preserved
loop-i-preserved c = (length-set c.loop-i.marks c.first_of-f.result 1 ∙ c.loop-i.invariant.0, λ P R Q. all-turn (first_of P) 0 (step_of P c.args.s).refs c.loop-i.marks c.loop-i.i _ (omega (arith, c.loop-i-test.true, c.step_refs-n.ensures P R)) (c.first_of-f.ensures P R Q ∙ ap (first_of P) (c.step_ref-r.ensures P R)) ∙ c.loop-i.invariant.1 P R Q)

pub returns : goal.returns
returns c = λ P R Q. sym (all_end (first_of P) 0 (step_of P c.args.s).refs c.loop-i.marks c.loop-i.i (omega (arith, c.loop-i-test.false, c.step_refs-n.ensures P R))) ∙ c.loop-i.invariant.1 P R Q
