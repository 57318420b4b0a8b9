-- Searches of which one comes to the same, or to a value with its notes.
use Rattle.std.specs.Prelude.{◌≡◌, List, []}
use Rattle.std.proofs.Common.{sym, ap, ◌∙◌}
use Rattle.std.proofs.Math.Option.{some}
use Rattle.definition.specs.Run.{Note, behind, ◌>>=◌ as ◌>>=r◌}
use Rattle.emission.specs.State.{Emitter, Search, go_on, ◌>>=◌}
use Rattle.emit_theory.specs.Came.{came}
use Rattle.emit_state.specs.Searches.{behind-none}

-- a first search that comes to the same
pub then_same : {A B : Type 0} (m m' : Search A) (f : A → Search B) (e : Emitter) → m e ≡ m' e → (m >>= f) e ≡ (m' >>= f) e
unfolding ◌>>=◌
then_same m m' f e q = ap (λ r. r >>=r λ t. go_on f t) q

module _ {A B : Type 0} (m : Search A) (e e₁ : Emitter) (ns : List Note) (a : A) (h : m e ≡ came ns (some a) e₁) where
  -- a search that comes to a value, and on
  pub then_went : (f : A → Search B) → (m >>= f) e ≡ behind ns (f a e₁)
  unfolding ◌>>=◌ ◌>>=r◌ go_on
  then_went f = rw h

  -- the same from there
  pub then_on : (f g : A → Search B) → f a e₁ ≡ g a e₁ → (m >>= f) e ≡ (m >>= g) e
  then_on f g q = then_went f ∙ ap (behind ns) q ∙ sym (then_went g)

-- nothing noted, and on
pub then_quiet : {A B : Type 0} (m : Search A) (e : Emitter) (a : A) (f : A → Search B) → m e ≡ came [] (some a) e → (m >>= f) e ≡ f a e
then_quiet m e a f h = then_went m e e [] a h f ∙ behind-none (f a e)
