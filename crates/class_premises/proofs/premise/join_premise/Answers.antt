-- `join_premise` meets its contract.
use mathlib.Core.Path.{refl}
use Rattle.base.specs.Part.{part}
use Rattle.class_premises.specs.Joins.{pairs_room, holds, notes-room, joins_noted, joins_on, joins_clash}
use Rattle.class_premises.proofs.premise.join_premise.Goals as goal

pub unify-requires : goal.unify-requires
unfolding part
unify-requires c = let J = c.requires in (holds _ _ _ _ _ _ _ _ J, J.left, J.right, pairs_room _ _ _ _ _ _ _ _ J)

pub note_copies-noted-requires : goal.note_copies-noted-requires
unfolding part
note_copies-noted-requires c =
    let J = c.requires in
    let U = c.in-Ok.ensures in
    rw c.copies_at.ensures (notes-room _ _ _ _ _ _ _ _ J _ U.1)

pub returns : goal.returns
unfolding part
returns c =
    let J = c.requires in
    let U = c.in-Ok.ensures in
    let N = rw c.copies_at.ensures at c.note_copies-noted.ensures in
    (refl, refl, refl, refl, joins_noted _ _ _ _ _ _ _ _ J _ U.1 _ _ N, joins_on _ _ _ _ _ _ _ _ J _ U.1 _ _ N _ U)

pub returns-in_default : goal.returns-in_default
unfolding part
returns-in_default c = let a = c.args in (refl, joins_clash a.work.now a.cells.now a.l _ _ _ _ _ c.in_default.ensures)
