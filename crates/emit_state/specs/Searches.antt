-- Searches put together another way.
use Rattle.std.specs.Prelude.{◌≡◌, refl, []}
use Rattle.std.proofs.Common.{sym, ap, ◌∙◌}
use Rattle.std.proofs.Math.Option.{Option, none, some}
use Rattle.definition.specs.Test.{is, see}
use Rattle.definition.specs.Frame.{Read, fine, refuse}
use Rattle.definition.specs.Answer.{Lent}
use Rattle.definition.specs.Run.{Run, done, stop, behind, ◌>>=◌ as ◌>>=r◌, first_short, outcome}
use Rattle.definition.specs.declared.Refusal.{Refusal}
use Rattle.emission.specs.State.{Emitter, Tried, Search, go_on, ◌>>=◌, now, give}
use Rattle.emission.proofs.Laws.Goals.{run_assoc}
use Rattle.emit_theory.specs.Outcomes.{on_from, ran_then}
use Rattle.emit_state.specs.Holding.{got, lost}
use Rattle.emit_state.specs.Turns.{then_got, then_lost, then_refused}

-- nothing noted is nothing
pub behind-none : {A : Type 0} (r : Run A) → behind [] r ≡ r
unfolding behind
behind-none (done ns a) = refl
behind-none (stop ns x) = refl

-- the state itself, and on
pub now_then : {A : Type 0} (f : Emitter → Search A) (e : Emitter) → (now >>= f) e ≡ f e e
unfolding ◌>>=◌ ◌>>=r◌ go_on
now_then f e = behind-none (f e e)

-- three searches one behind the other
pub then_assoc : {A B C : Type 0} (m : Search A) (f : A → Search B) (g : B → Search C) (e : Emitter) → ((m >>= f) >>= g) e ≡ (m >>= λ a. f a >>= g) e
unfolding ◌>>=◌ ◌>>=r◌ go_on behind
then_assoc m f g e = by (m e)
  where
    went : (t : Tried _) → (go_on f t >>=r λ s. go_on g s) ≡ go_on (λ a. f a >>= g) t
    went t = elim (see t.result) [
      | is none q ↦ rw (q, go_on)
      | is (some a) q ↦ rw (q, go_on)
    ]

    by : (r : Run (Tried _)) → ((r >>=r λ t. go_on f t) >>=r λ s. go_on g s) ≡ (r >>=r λ t. go_on (λ a. f a >>= g) t)
    by (done ns t) = run_assoc (done ns t) (λ u. go_on f u) (λ s. go_on g s) ∙ ap (behind ns) (went t)
    by (stop ns x) = refl

-- a result at once, and on
pub give_then : {A B : Type 0} (a : A) (f : A → Search B) (e : Emitter) → (give a >>= f) e ≡ f a e
unfolding ◌>>=◌ ◌>>=r◌ go_on
give_then a f e = behind-none (f a e)

-- the same in every state behind a search is the same
pub then_ext : {A B : Type 0} (m : Search A) (f g : A → Search B) (e : Emitter) → ((a : A) (e' : Emitter) → f a e' ≡ g a e') → (m >>= f) e ≡ (m >>= g) e
unfolding ◌>>=◌ ◌>>=r◌ go_on
then_ext m f g e h = by (m e)
  where
    went : (t : Tried _) → go_on f t ≡ go_on g t
    went t = elim (see t.result) [
      | is none q ↦ rw (q, go_on)
      | is (some a) q ↦ rw (q, go_on) (h a t.state)
    ]

    by : (r : Run (Tried _)) → (r >>=r λ t. go_on f t) ≡ (r >>=r λ t. go_on g t)
    by (done ns t) = ap (behind ns) (went t)
    by (stop ns x) = refl

-- ---- in the lengths lent
-- a short buffer, none, or a result
pub data Went {A : Type 0} (o : Read (Tried A)) : Type 0 where
  short : (x : Refusal) → o ≡ refuse x → Went o
  nothing : (s : Emitter) → o ≡ lost s → Went o
  something : (a : A) (s : Emitter) → o ≡ got a s → Went o

-- one of them
pub went : {A : Type 0} (o : Read (Tried A)) → Went o
went (refuse x) = short x refl
went {A = A} (fine t) = elim (see t.result) [
  | is none q ↦ nothing t.state (ap (λ (r : Option A). fine (record { result = r; state = t.state })) q)
  | is (some a) q ↦ something a t.state (ap (λ (r : Option A). fine (record { result = r; state = t.state })) q)
]

module _ {A B : Type 0} (l : Lent) where
  -- what goes on from searches that come to the same
  pub then_outcome : (m m' : Search A) (f : A → Search B) (e e' : Emitter) → outcome l (m e) ≡ outcome l (m' e') → outcome l ((m >>= f) e) ≡ outcome l ((m' >>= f) e')
  then_outcome m m' f e e' h = ran_then l m f e ∙ ap (λ (o : Read (Tried A)). on_from o (λ (t : Tried A). outcome l (go_on f t))) h ∙ sym (ran_then l m' f e')

  -- the same behind whatever result a search has is the same
  pub then_alike : (m : Search A) (f g : A → Search B) (e : Emitter) → ((a : A) (e' : Emitter) → outcome l (m e) ≡ got a e' → outcome l (f a e') ≡ outcome l (g a e')) → outcome l ((m >>= f) e) ≡ outcome l ((m >>= g) e)
  then_alike m f g e h = elim (went (outcome l (m e))) [
    | short x q ↦ then_refused l m f e x q ∙ sym (then_refused l m g e x q)
    | nothing s q ↦ then_lost l m f e s q ∙ sym (then_lost l m g e s q)
    | something a s q ↦ then_got l m f e a s q ∙ h a s q ∙ sym (then_got l m g e a s q)
  ]

-- a result given back is the result
pub then_give : {A : Type 0} (l : Lent) (m : Search A) (e : Emitter) → outcome l ((m >>= λ a. give a) e) ≡ outcome l (m e)
unfolding outcome first_short
then_give l m e = elim (went (outcome l (m e))) [
  | short x q ↦ then_refused l m _ e x q ∙ sym q
  | nothing s q ↦ then_lost l m _ e s q ∙ sym q
  | something a s q ↦ then_got l m _ e a s q ∙ sym q
]
