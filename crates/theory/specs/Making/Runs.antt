-- What a run comes to in lent buffers, step by step: what has come to something goes on from it, what is refused stays so.
use Rattle.std.specs.Prelude.{◌≡◌, refl, Bool, true, false, List, [], ◌∷◌, ◌++◌, ℕ, ◌<◌, ◌≤◌}
use Rattle.std.proofs.Common.{ap, ◌∙◌, le-leb}
use Rattle.std.proofs.Math.Option.{Option, none, some}
use Rattle.std.proofs.lemmas.Bool.{lt-leb}
use Rattle.definition.specs.Test.{is, see, never}
use Rattle.definition.specs.Frame.{fine, refuse}
use Rattle.definition.specs.Answer.{Lent}
use Rattle.definition.specs.Run.{Note, Run, done, stop, behind, ◌>>=◌, note, return, or_else, need, length_of, has_room_for, first_short, outcome}
use Rattle.definition.specs.declared.Refusal.{Refusal}
use Rattle.definition.specs.declared.Refusal.TheVariants.{Short}

-- ---- notes behind notes
first-none : (l : Lent) (ns ms : List Note) → first_short l ns ≡ none → first_short l (ns ++ ms) ≡ first_short l ms
unfolding first_short
first-none l [] ms e = refl
first-none l (n ∷ ns) ms e = elim (see (has_room_for l n)) [
  | is true p ↦ rw (p, first_short) (first-none l ns ms (rw (p, first_short) at e))
  | is false p ↦ never (let z : some n.buffer ≡ none = rw (p, first_short) at e in cc)
]

first_some : (l : Lent) (ns ms : List Note) (b : ℕ) → first_short l ns ≡ some b → first_short l (ns ++ ms) ≡ some b
unfolding first_short
first_some l [] ms b e = never (cc)
first_some l (n ∷ ns) ms b e = elim (see (has_room_for l n)) [
  | is true p ↦ rw (p, first_short) (first_some l ns ms b (rw (p, first_short) at e))
  | is false p ↦ rw (p, first_short) (rw (p, first_short) at e)
]

-- ---- runs behind notes
-- notes with room change nothing
pub behind-room : {A : Type 0} (l : Lent) (ns : List Note) (r : Run A) → first_short l ns ≡ none → outcome l (behind ns r) ≡ outcome l r
unfolding behind outcome
behind-room l ns (done ms a) e = rw (first-none l ns ms e, outcome)
behind-room l ns (stop ms x) e = rw (first-none l ns ms e, outcome)

-- the first note without room is the answer
pub behind_short : {A : Type 0} (l : Lent) (ns : List Note) (r : Run A) (b : ℕ) → first_short l ns ≡ some b → outcome l (behind ns r) ≡ refuse (Short b)
unfolding behind outcome
behind_short l ns (done ms a) b e = rw (first_some l ns ms b e, outcome)
behind_short l ns (stop ms x) b e = rw (first_some l ns ms b e, outcome)

-- ---- one run behind another
-- what has come to something goes on from it
pub outcome_fine : {A B : Type 0} (l : Lent) (r : Run A) (f : A → Run B) (a : A) → outcome l r ≡ fine a → outcome l (r >>= f) ≡ outcome l (f a)
unfolding ◌>>=◌ outcome
outcome_fine l (done ns b) f a e = elim (see (first_short l ns)) [
  | is none p ↦
      let q : fine b ≡ fine a = rw (p, outcome) at e in
      let s : b ≡ a = cc in
      behind-room l ns (f b) p ∙ ap (λ c. outcome l (f c)) s
  | is (some k) p ↦ never (let q : refuse (Short k) ≡ fine a = rw (p, outcome) at e in cc)
]
outcome_fine l (stop ns x) f a e = elim (see (first_short l ns)) [
  | is none p ↦ never (let q : refuse x ≡ fine a = rw (p, outcome) at e in cc)
  | is (some k) p ↦ never (let q : refuse (Short k) ≡ fine a = rw (p, outcome) at e in cc)
]

-- what is refused stays refused
pub outcome_refuse : {A B : Type 0} (l : Lent) (r : Run A) (f : A → Run B) (x : Refusal) → outcome l r ≡ refuse x → outcome l (r >>= f) ≡ refuse x
unfolding ◌>>=◌ outcome
outcome_refuse l (done ns b) f x e = elim (see (first_short l ns)) [
  | is none p ↦ never (let q : fine b ≡ refuse x = rw (p, outcome) at e in cc)
  | is (some k) p ↦
      let q : refuse (Short k) ≡ refuse x = rw (p, outcome) at e in
      let s : Short k ≡ x = cc in
      behind_short l ns (f b) k p ∙ ap refuse s
]
outcome_refuse l (stop ns y) f x e = elim (see (first_short l ns)) [
  | is none p ↦
      let q : refuse y ≡ refuse x = rw (p, outcome) at e in
      let s : y ≡ x = cc in
      rw (p, outcome) (ap refuse s)
  | is (some k) p ↦
      let q : refuse (Short k) ≡ refuse x = rw (p, outcome) at e in
      let s : Short k ≡ x = cc in
      rw (p, outcome) (ap refuse s)
]

-- ---- single steps
-- the lengths lent of the buffers that class building writes
pub length_class : (l : Lent) → length_of l 1 ≡ l.class
unfolding length_of
length_class l = refl

pub length_pattern : (l : Lent) → length_of l 2 ≡ l.pattern
unfolding length_of
length_pattern l = refl

pub length_graph : (l : Lent) → length_of l 3 ≡ l.graph
unfolding length_of
length_graph l = refl

-- a write that its buffer has room for
pub outcome-note : {B : Type 0} (l : Lent) (b n : ℕ) (f : Unit {0} → Run B) → n ≤ length_of l b → outcome l (note b n >>= f) ≡ outcome l (f tt)
unfolding ◌>>=◌ first_short has_room_for
outcome-note l b n f h = behind-room l (record { buffer = b; fill = n } ∷ []) (f tt) (rw (le-leb n (length_of l b) h, first_short))

-- a write that its buffer is too short for
pub outcome_short : {B : Type 0} (l : Lent) (b n : ℕ) (f : Unit {0} → Run B) → length_of l b < n → outcome l (note b n >>= f) ≡ refuse (Short b)
unfolding ◌>>=◌ first_short has_room_for
outcome_short l b n f h = behind_short l (record { buffer = b; fill = n } ∷ []) (f tt) b (rw (lt-leb n (length_of l b) h, first_short))

-- nothing is noted
pub outcome-return : {A B : Type 0} (l : Lent) (a : A) (f : A → Run B) → outcome l (return a >>= f) ≡ outcome l (f a)
unfolding ◌>>=◌ first_short
outcome-return l a f = behind-room l [] (f a) refl

pub outcome-return-end : {A : Type 0} (l : Lent) (a : A) → outcome l (return a) ≡ fine a
unfolding outcome
outcome-return-end l a = refl

-- what is there, and what is not
pub outcome_some : {A B : Type 0} (l : Lent) (o : Option A) (a : A) (x : Refusal) (f : A → Run B) → o ≡ some a → outcome l (or_else o x >>= f) ≡ outcome l (f a)
unfolding or_else
outcome_some l o a x f e = rw (e, or_else) (outcome-return l a f)

pub outcome-none : {A B : Type 0} (l : Lent) (o : Option A) (x : Refusal) (f : A → Run B) → o ≡ none → outcome l (or_else o x >>= f) ≡ refuse x
unfolding or_else ◌>>=◌ outcome first_short
outcome-none l o x f e = rw (e, or_else)

-- a test that holds, and one that fails
pub outcome_holds : {B : Type 0} (l : Lent) (t : Bool) (x : Refusal) (f : Unit {0} → Run B) → t ≡ true → outcome l (need t x >>= f) ≡ outcome l (f tt)
unfolding need
outcome_holds l t x f e = rw (e, need) (outcome-return l tt f)

pub outcome_fails : {B : Type 0} (l : Lent) (t : Bool) (x : Refusal) (f : Unit {0} → Run B) → t ≡ false → outcome l (need t x >>= f) ≡ refuse x
unfolding need ◌>>=◌ outcome first_short
outcome_fails l t x f e = rw (e, need)
