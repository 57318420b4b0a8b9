-- What a run's notes say of its answer.
use Rattle.std.specs.Prelude.{◌≡◌, refl, true, false, List, [], ◌∷◌, ◌++◌}
use Rattle.std.proofs.Math.Option.{none, some}
use Rattle.definition.specs.Test.{is, see, never, and_parts, all, ◌and◌}
use Rattle.definition.specs.Frame.{fine, refuse}
use Rattle.definition.specs.Answer.{Lent}
use Rattle.definition.specs.Run.{Note, Run, done, stop, behind, ◌>>=◌, notes, has_room_for, LongEnough, first_short, outcome}
use Rattle.definition.specs.declared.Refusal.{Refusal}

-- every write has room just where none is the first without
pub room-none : (l : Lent) (ns : List Note) → all (has_room_for l) ns ≡ true → first_short l ns ≡ none
unfolding all first_short
room-none l [] e = refl
room-none l (n ∷ ns) e = let p = and_parts (has_room_for l n) (all (has_room_for l) ns) e in rw (p.0, first_short) (room-none l ns p.1)

pub none-room : (l : Lent) (ns : List Note) → first_short l ns ≡ none → all (has_room_for l) ns ≡ true
unfolding all first_short ◌and◌
none-room l [] e = refl
none-room l (n ∷ ns) e = elim (see (has_room_for l n)) [
  | is true p ↦ rw (p, ◌and◌) (none-room l ns (rw (p, first_short) at e))
  | is false p ↦ never (let z : some n.buffer ≡ none = rw (p, first_short) at e in cc)
]

-- in buffers that are long enough a run comes to what it comes to
pub enough_done : {A : Type 0} (l : Lent) (ns : List Note) (a : A) → LongEnough l (done ns a) → outcome l (done ns a) ≡ fine a
unfolding outcome
enough_done l ns a e = rw (room-none l ns e, outcome)

pub enough_stop : {A : Type 0} (l : Lent) (ns : List Note) (r : Refusal) → LongEnough {A = A} l (stop ns r) → outcome {A = A} l (stop ns r) ≡ refuse r
unfolding outcome
enough_stop l ns r e = rw (room-none l ns e, outcome)

-- what was noted stays noted: the notes of a part begin those of the whole
pub notes-behind : {A : Type 0} (ns : List Note) (r : Run A) → notes (behind ns r) ≡ ns ++ notes r
unfolding behind
notes-behind ns (done ms a) = refl
notes-behind ns (stop ms r) = refl

pub notes_then : {A B : Type 0} (ns : List Note) (a : A) (f : A → Run B) → notes (done ns a >>= f) ≡ ns ++ notes (f a)
unfolding ◌>>=◌
notes_then ns a f = notes-behind ns (f a)
