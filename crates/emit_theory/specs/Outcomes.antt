-- What a caller needs of a search is its outcome in the lengths lent: a short buffer, or a result or none with the state come to. The two
-- combinators put outcomes together as they put searches together.
use Rattle.std.specs.Prelude.{◌≡◌, refl, true, false, List, [], ◌∷◌, ◌++◌, ℕ}
use Rattle.std.proofs.Common.{◌∙◌}
use Rattle.std.proofs.Math.Option.{Option, none, some}
use Rattle.definition.specs.Test.{is, see}
use Rattle.definition.specs.Frame.{Read, fine, refuse}
use Rattle.definition.specs.Answer.{Lent}
use Rattle.definition.specs.Run.{Note, Run, done, stop, note, behind, ◌>>=◌ as ◌>>=r◌, has_room_for, first_short, outcome}
use Rattle.definition.specs.declared.Refusal.TheVariants.{Short}
use Rattle.emission.specs.State.{Emitter, Tried, Search, go_on, ◌>>=◌, go_back, ◌or_else◌, attempt}

-- what was read, and on; a refusal ends it
unfoldable pub on_from : {A B : Type 0} → Read A → (A → Read B) → Read B
on_from (fine a) f = f a
on_from (refuse r) f = refuse r

-- notes behind others: the first short one of all
short_behind : (l : Lent) (ns ms : List Note) → first_short l (ns ++ ms) ≡ elim (first_short l ns) as (λ _. Option ℕ) [ some b ↦ some b | none ↦ first_short l ms ]
unfolding first_short
short_behind l [] ms = refl
short_behind l (n ∷ ns) ms = elim (see (has_room_for l n)) [
  | is true t ↦ rw (t, first_short) (short_behind l ns ms)
  | is false t ↦ rw (t, first_short) refl
]

-- a run behind notes
outcome-behind : {A : Type 0} (l : Lent) (ns : List Note) (r : Run A) → outcome l (behind ns r) ≡ elim (first_short l ns) as (λ _. Read A) [ some b ↦ refuse (Short b) | none ↦ outcome l r ]
unfolding outcome behind
outcome-behind l ns (done ms a) = elim (see (first_short l ns)) [
  | is none t ↦ rw (short_behind l ns ms, t, outcome)
  | is (some b) t ↦ rw (short_behind l ns ms, t, outcome)
]
outcome-behind l ns (stop ms x) = elim (see (first_short l ns)) [
  | is none t ↦ rw (short_behind l ns ms, t, outcome)
  | is (some b) t ↦ rw (short_behind l ns ms, t, outcome)
]

-- a run, and what goes on from it
pub outcome_then : {A B : Type 0} (l : Lent) (r : Run A) (f : A → Run B) → outcome l (r >>=r f) ≡ on_from (outcome l r) (λ a. outcome l (f a))
unfolding ◌>>=r◌ outcome on_from
outcome_then l (done ns a) f = outcome-behind l ns (f a) ∙ elim (see (first_short l ns)) [
  | is none t ↦ rw (t, outcome) refl
  | is (some b) t ↦ rw (t, outcome) refl
]
outcome_then l (stop ns x) f = elim (see (first_short l ns)) [
  | is none t ↦ rw (t, outcome) refl
  | is (some b) t ↦ rw (t, outcome) refl
]

-- a search in the lengths lent
abbrev pub ran : {A : Type 0} → Lent → Search A → Emitter → Read (Tried A)
ran l m e = outcome l (m e)

module _ {A B : Type 0} (l : Lent) (m : Search A) (f : A → Search B) (e : Emitter) where
  -- short if the first is; none at its state if it has none; else the second from its result and state
  pub ran_then : ran l (m >>= f) e ≡ on_from (ran l m e) (λ (t : Tried A). outcome l (go_on f t))
  unfolding ◌>>=◌
  ran_then = outcome_then l (m e) (λ t. go_on f t)

module _ {A : Type 0} (l : Lent) (m n : Search A) (e : Emitter) where
  -- short if the first is; its result if it has one; else the second from its state
  pub ran-or : ran l (m or_else n) e ≡ on_from (ran l m e) (λ (t : Tried A). outcome l (go_back n t))
  unfolding ◌or_else◌
  ran-or = outcome_then l (m e) (λ t. go_back n t)

-- nothing noted is never short
pub outcome_quiet : {A : Type 0} (l : Lent) (a : A) → outcome l (done [] a) ≡ fine a
unfolding outcome first_short
outcome_quiet l a = refl

-- the two ways on, spelt out
pub went_none : {A B : Type 0} (l : Lent) (f : A → Search B) (e : Emitter) → outcome l (go_on f (record { result = none; state = e })) ≡ fine (record { result = none; state = e })
unfolding go_on outcome first_short
went_none l f e = refl

pub went_some : {A B : Type 0} (l : Lent) (f : A → Search B) (a : A) (e : Emitter) → outcome l (go_on f (record { result = some a; state = e })) ≡ ran l (f a) e
unfolding go_on
went_some l f a e = refl

pub back_none : {A : Type 0} (l : Lent) (n : Search A) (e : Emitter) → outcome l (go_back n (record { result = none; state = e })) ≡ ran l n e
unfolding go_back
back_none l n e = refl

pub back_some : {A : Type 0} (l : Lent) (n : Search A) (a : A) (e : Emitter) → outcome l (go_back n (record { result = some a; state = e })) ≡ fine (record { result = some a; state = e })
unfolding go_back outcome first_short
back_some l n a e = refl

module _ {A : Type 0} (l : Lent) (m : Search A) (e : Emitter) where
  -- an attempt is short where the search is, and else never none
  pub ran-attempt : ran l (attempt m) e ≡ on_from (ran l m e) (λ (t : Tried A). fine (record { result = some t.result; state = t.state }))
  unfolding attempt outcome first_short
  ran-attempt = outcome_then l (m e) _

-- a write that has no room is what the search ends with, whatever came behind it; one that has room is not seen
pub outcome-note : {A : Type 0} (l : Lent) (buffer fill : ℕ) (r : Run A) → outcome l (note buffer fill >>=r λ _. r)
    ≡ elim (has_room_for l (record { buffer = buffer; fill = fill })) as (λ _. Read A) [ true ↦ outcome l r | false ↦ refuse (Short buffer) ]
unfolding ◌>>=r◌ first_short
outcome-note l buffer fill r = outcome-behind l (record { buffer = buffer; fill = fill } ∷ []) r ∙ elim (see (has_room_for l (record { buffer = buffer; fill = fill }))) [
  | is true t ↦ rw (t, first_short) refl
  | is false t ↦ rw (t, first_short) refl
]
