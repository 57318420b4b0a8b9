-- `next_premise` meets its contract.
use Rattle.class_premises.specs.Asked.{ref-asked, first-asked, word-asked, place-asked, premise_asked, premise_says}
use Rattle.class_premises.proofs.premises.next_premise.Goals as goal

pub step_ref-r-requires : goal.step_ref-r-requires
step_ref-r-requires c = ref-asked _ _ _ _ _ _ _ _ _ _ _ _ _ _ _ _ c.requires

pub first_of-f-requires : goal.first_of-f-requires
first_of-f-requires c = first-asked _ _ _ _ _ _ _ _ _ _ _ _ _ _ _ _ c.requires _ c.step_ref-r.ensures

pub row_of-row-requires : goal.row_of-row-requires
row_of-row-requires c =
    let N = c.requires in
    let Q = c.step_ref-r.ensures in
    let W = c.first_of-f.ensures in
    (word-asked _ _ _ _ _ _ _ _ _ _ _ _ _ _ _ _ N _ Q _ W, place-asked _ _ _ _ _ _ _ _ _ _ _ _ _ _ _ _ N _ Q _ W)

pub take_premise-requires : goal.take_premise-requires
take_premise-requires c = premise_asked _ _ _ _ _ _ _ _ _ _ _ _ _ _ _ _ c.requires _ c.step_ref-r.ensures _ c.first_of-f.ensures _ c.row_of-row.ensures

pub returns : goal.returns
returns c =
    let t = c.take_premise in
    premise_says _ _ _ _ _ _ _ _ _ _ _ _ _ _ _ _ c.requires _ c.step_ref-r.ensures _ c.first_of-f.ensures _ c.row_of-row.ensures t.new.work t.new.cells t.result t.auto.cells t.ensures
