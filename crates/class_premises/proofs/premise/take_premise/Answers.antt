-- `take_premise` meets its contract.
use Rattle.class_premises.specs.Takes.{taking_copying, takes-full, taking_meeting, takes-met}
use Rattle.class_premises.proofs.premise.take_premise.Goals as goal

pub copy_class-requires : goal.copy_class-requires
copy_class-requires c = taking_copying _ _ _ _ _ _ _ _ _ _ _ _ c.requires

pub meet_premise-requires : goal.meet_premise-requires
meet_premise-requires c = let d = c.copy_class in taking_meeting _ _ _ _ _ _ _ _ _ _ _ _ c.requires _ _ _ _ _ (rw c.in-Some.is at d.ensures) d.auto.cells _ c.row_variables-n.ensures

pub returns : goal.returns
returns c =
    let d = c.copy_class in
    let m = c.meet_premise in
    takes-met _ _ _ _ _ _ _ _ _ _ _ _ c.requires _ _ _ _ _ (rw c.in-Some.is at d.ensures) d.auto.cells _ c.row_variables-n.ensures m.new.work m.new.cells m.result m.ensures

pub returns-in_default : goal.returns-in_default
returns-in_default c = let d = c.copy_class in takes-full _ _ _ _ _ _ _ _ _ _ _ _ c.requires d.new.work d.new.cells (rw c.in_default.is at d.ensures)
