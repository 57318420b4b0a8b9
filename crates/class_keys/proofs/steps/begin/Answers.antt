-- `begin` meets its contract.
use native.Mathlib.Omega.{arith}
use Rattle.class_keys.specs.ClassWords.{placed}
use Rattle.class_keys.specs.Turns.{begin-marks, begin-slots, begun-state}
use Rattle.class_keys.proofs.steps.begin.Goals as goal

pub note_firsts-requires : goal.note_firsts-requires
note_firsts-requires c = placed _ _ _ _ _ c.requires

pub mark_needed-requires : goal.mark_needed-requires
mark_needed-requires c = (c.note_firsts.ensures.noted, begin-marks _ _ _ _ _ c.requires _ c.note_firsts.ensures.noted c.note_firsts.ensures.frame)

pub count-n-requires : goal.count-n-requires
count-n-requires c = (c.note_firsts.ensures.noted.placed.held.cataloged.fits, omega arith)

pub clear_slots-requires : goal.clear_slots-requires
clear_slots-requires c = begin-slots _ _ _ _ _ c.requires _ c.note_firsts.ensures.noted c.note_firsts.ensures.frame _ c.mark_needed.ensures.marked c.mark_needed.ensures.frame _ c.count-n.ensures

pub returns : goal.returns
returns c = begun-state _ _ _ _ _ c.requires _ c.note_firsts.ensures.noted c.note_firsts.ensures.frame _ c.mark_needed.ensures.marked c.mark_needed.ensures.frame _ c.count-n.ensures _ c.clear_slots.ensures
