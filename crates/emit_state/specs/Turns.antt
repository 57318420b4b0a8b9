-- What searches put together come to in the lengths lent, by what the first of them came to.
use Rattle.std.specs.Prelude.{◌≡◌}
use Rattle.std.proofs.Math.Path.{ap}
use Rattle.std.proofs.Common.{◌∙◌}
use Rattle.definition.specs.Frame.{Read, refuse}
use Rattle.definition.specs.Answer.{Lent}
use Rattle.definition.specs.Run.{outcome}
use Rattle.definition.specs.declared.Refusal.{Refusal}
use Rattle.emission.specs.State.{Emitter, Tried, Search, ◌>>=◌, go_on, ◌or_else◌, go_back}
use Rattle.emit_theory.specs.Outcomes.{on_from, ran_then, ran-or, went_none, went_some, back_none, back_some}
use Rattle.emit_state.specs.Holding.{got, lost}

module _ {A B : Type 0} (l : Lent) (m : Search A) (f : A → Search B) (e : Emitter) where
  -- a result is gone on from
  pub then_got : (a : A) (e' : Emitter) → outcome l (m e) ≡ got a e' → outcome l ((m >>= f) e) ≡ outcome l (f a e')
  unfolding on_from
  then_got a e' h = ran_then l m f e ∙ ap (λ (o : Read (Tried A)). on_from o (λ (t : Tried A). outcome l (go_on f t))) h ∙ went_some l f a e'

  -- at none the search ends
  pub then_lost : (e' : Emitter) → outcome l (m e) ≡ lost e' → outcome l ((m >>= f) e) ≡ lost e'
  unfolding on_from
  then_lost e' h = ran_then l m f e ∙ ap (λ (o : Read (Tried A)). on_from o (λ (t : Tried A). outcome l (go_on f t))) h ∙ went_none l f e'

  -- at a short buffer too
  pub then_refused : (x : Refusal) → outcome l (m e) ≡ refuse x → outcome l ((m >>= f) e) ≡ refuse x
  unfolding on_from
  then_refused x h = ran_then l m f e ∙ ap (λ (o : Read (Tried A)). on_from o (λ (t : Tried A). outcome l (go_on f t))) h

module _ {A : Type 0} (l : Lent) (m n : Search A) (e : Emitter) where
  -- behind a result there is no second search
  pub or-got : (a : A) (e' : Emitter) → outcome l (m e) ≡ got a e' → outcome l ((m or_else n) e) ≡ got a e'
  unfolding on_from
  or-got a e' h = ran-or l m n e ∙ ap (λ (o : Read (Tried A)). on_from o (λ (t : Tried A). outcome l (go_back n t))) h ∙ back_some l n a e'

  -- behind none there is
  pub or-lost : (e' : Emitter) → outcome l (m e) ≡ lost e' → outcome l ((m or_else n) e) ≡ outcome l (n e')
  unfolding on_from
  or-lost e' h = ran-or l m n e ∙ ap (λ (o : Read (Tried A)). on_from o (λ (t : Tried A). outcome l (go_back n t))) h ∙ back_none l n e'

  -- a short buffer ends both
  pub or-refused : (x : Refusal) → outcome l (m e) ≡ refuse x → outcome l ((m or_else n) e) ≡ refuse x
  unfolding on_from
  or-refused x h = ran-or l m n e ∙ ap (λ (o : Read (Tried A)). on_from o (λ (t : Tried A). outcome l (go_back n t))) h
