-- What a search came to, and how the two combinators put such outcomes together.
use Rattle.std.specs.Prelude.{◌≡◌, refl, List, [], ◌++◌}
use Rattle.std.proofs.Math.Option.{Option, none, some}
use Rattle.definition.specs.Run.{Note, Run, done, behind, ◌>>=◌ as ◌>>=r◌}
use Rattle.emission.specs.State.{Emitter, Tried, go_on, ◌>>=◌, go_back, ◌or_else◌, from, attempt}

-- a search's notes, its result or none, and the state that it came to: no search is ever refused
abbrev pub came : {A : Type 0} → List Note → Option A → Emitter → Run (Tried A)
came ns o e = done ns (record { result = o; state = e })

-- what was there is handed on
pub from-came : {A : Type 0} (o : Option A) (e : Emitter) → from o e ≡ came [] o e
unfolding from
from-came none e = refl
from-came (some a) e = refl

module _ {A B : Type 0} (m : Emitter → Run (Tried A)) (f : A → Emitter → Run (Tried B)) (e e₁ : Emitter) (ns : List Note) where
  -- a result is gone on from
  pub then_some : (a : A) (ms : List Note) (o : Option B) (e₂ : Emitter) → m e ≡ came ns (some a) e₁ → f a e₁ ≡ came ms o e₂ → (m >>= f) e ≡ came (ns ++ ms) o e₂
  unfolding ◌>>=◌ ◌>>=r◌ go_on behind
  then_some a ms o e₂ h k = rw (h, k)

  -- at none the search ends
  pub then_none : m e ≡ came ns none e₁ → (m >>= f) e ≡ came (ns ++ []) none e₁
  unfolding ◌>>=◌ ◌>>=r◌ go_on behind
  then_none h = rw h

module _ {A : Type 0} (m n : Emitter → Run (Tried A)) (e e₁ : Emitter) (ns : List Note) where
  -- behind a result there is no second search
  pub or_some : (a : A) → m e ≡ came ns (some a) e₁ → (m or_else n) e ≡ came (ns ++ []) (some a) e₁
  unfolding ◌or_else◌ ◌>>=r◌ go_back behind
  or_some a h = rw h

  -- behind none there is, from the state that the first came to
  pub or-none : (ms : List Note) (o : Option A) (e₂ : Emitter) → m e ≡ came ns none e₁ → n e₁ ≡ came ms o e₂ → (m or_else n) e ≡ came (ns ++ ms) o e₂
  unfolding ◌or_else◌ ◌>>=r◌ go_back behind
  or-none ms o e₂ h k = rw (h, k)

module _ {A : Type 0} (m : Emitter → Run (Tried A)) (e e₁ : Emitter) (ns : List Note) (o : Option A) where
  -- an attempt has a result either way
  pub attempt-came : m e ≡ came ns o e₁ → attempt m e ≡ came (ns ++ []) (some o) e₁
  unfolding attempt ◌>>=r◌ behind
  attempt-came h = rw h
