-- `meet_premise` meets its contract.
use Rattle.class_premises.specs.Meets.{meeting_spelt, meeting_asked, meets_short, meeting_joining, meets-joined}
use Rattle.class_premises.proofs.premise.meet_premise.Goals as goal

pub pass_terms-to-requires : goal.pass_terms-to-requires
pass_terms-to-requires c = (c.requires.held, meeting_spelt _ _ _ _ _ _ _ _ _ c.requires)

pub instantiate-requires : goal.instantiate-requires
instantiate-requires c = rw c.place-place.ensures (meeting_asked _ _ _ _ _ _ _ _ _ c.requires _ c.pass_terms-to.ensures)

pub join_premise-requires : goal.join_premise-requires
join_premise-requires c = meeting_joining _ _ _ _ _ _ _ _ _ c.requires _ c.pass_terms-to.ensures _ _ _ _ (rw c.place-place.ensures at c.in-Some.ensures) c.instantiate.auto.cells

pub returns : goal.returns
returns c = meets-joined _ _ _ _ _ _ _ _ _ c.requires _ c.pass_terms-to.ensures _ _ _ _ (rw c.place-place.ensures at c.in-Some.ensures) c.instantiate.auto.cells c.join_premise.new.work c.join_premise.result c.join_premise.ensures

pub returns-in_default : goal.returns-in_default
returns-in_default c = meets_short _ _ _ _ _ _ _ _ _ c.requires _ c.pass_terms-to.ensures c.instantiate.new.work c.instantiate.new.cells (rw c.place-place.ensures at c.in_default.ensures)
