-- Searches that keep a state sound, put together by the two combinators.
use Rattle.std.specs.Prelude.{◌≡◌, refl, List, [], ◌++◌}
use Rattle.std.proofs.Common.{ap, ◌∙◌, subst}
use Rattle.std.proofs.Math.Option.{Option, none, some}
use Rattle.definition.specs.Test.{never}
use Rattle.definition.specs.Run.{Note, Run}
use Rattle.emission.specs.State.{Emitter, Setting, Tried, ◌>>=◌, ◌or_else◌, from, attempt, give, fail, now, change}
use Rattle.emit_theory.specs.Came.{came, from-came, then_some, then_none, or_some, or-none, attempt-came}
use Rattle.emit_theory.specs.Sound.{Sound, Grew, grew_none, grew_then}

module _ (S : Setting) where
  -- what a search comes to from a state: the state has grown and is sound, and of a result Q holds
  pub record Comes {A : Type 0} (Q : A → Emitter → Type 0) (m : Emitter → Run (Tried A)) (e : Emitter) : Type 0 where
    pub notes : List Note
    pub result : Option A
    pub state : Emitter
    pub is_so : m e ≡ came notes result state
    pub grew : Grew e state
    pub sound : Sound S state
    pub holds : (a : A) → result ≡ some a → Q a state

  some_eq : {A : Type 0} {a b : A} → some a ≡ some b → a ≡ b
  some_eq e = cc

  -- a result at once
  pub gives : {A : Type 0} (Q : A → Emitter → Type 0) (a : A) (e : Emitter) → Sound S e → Q a e → Comes Q (give a) e
  gives Q a e s q = record { notes = []; result = some a; state = e; is_so = refl; grew = grew_none e; sound = s; holds = λ b h. subst (λ x. Q x e) (some_eq h) q }

  -- none at once
  pub fails : {A : Type 0} (Q : A → Emitter → Type 0) (e : Emitter) → Sound S e → Comes {A = A} Q fail e
  fails Q e s = record { notes = []; result = none; state = e; is_so = refl; grew = grew_none e; sound = s; holds = λ b h. never (cc) }

  -- the state changed
  pub changes : (f : Emitter → Emitter) (e : Emitter) → Grew e (f e) → Sound S (f e) → Comes (λ _ e₁. e₁ ≡ f e) (change f) e
  changes f e g s = record { notes = []; result = some tt; state = f e; is_so = refl; grew = g; sound = s; holds = λ _ _. refl }

  -- what was there, or none
  pub from_comes : {A : Type 0} (Q : A → Emitter → Type 0) (o : Option A) (e : Emitter) → Sound S e → ((a : A) → o ≡ some a → Q a e) → Comes Q (from o) e
  from_comes Q o e s q = record { notes = []; result = o; state = e; is_so = from-came o e; grew = grew_none e; sound = s; holds = q }

  module _ {A B : Type 0} (Q : A → Emitter → Type 0) (R : B → Emitter → Type 0) (m : Emitter → Run (Tried A)) (f : A → Emitter → Run (Tried B)) (e : Emitter) where
    then_at : (C : Comes Q m e) (o : Option A) → C.result ≡ o → ((a : A) (e₁ : Emitter) → Grew e e₁ → Sound S e₁ → Q a e₁ → Comes R (f a) e₁) → Comes R (m >>= f) e
    then_at C none z F = record {
      notes = C.notes ++ [];
      result = none;
      state = C.state;
      is_so = then_none m f e C.state C.notes (C.is_so ∙ ap (λ o. came C.notes o C.state) z);
      grew = C.grew;
      sound = C.sound;
      holds = λ b h. never (cc);
    }
    then_at C (some a) z F =
        let D = F a C.state C.grew C.sound (C.holds a z) in
        record {
          notes = C.notes ++ D.notes;
          result = D.result;
          state = D.state;
          is_so = then_some m f e C.state C.notes a D.notes D.result D.state (C.is_so ∙ ap (λ o. came C.notes o C.state) z) D.is_so;
          grew = grew_then e C.state D.state C.grew D.grew;
          sound = D.sound;
          holds = D.holds;
        }

    -- one behind the other
    pub then_comes : Comes Q m e → ((a : A) (e₁ : Emitter) → Grew e e₁ → Sound S e₁ → Q a e₁ → Comes R (f a) e₁) → Comes R (m >>= f) e
    then_comes C F = then_at C C.result refl F

  module _ {A : Type 0} (Q : A → Emitter → Type 0) (m n : Emitter → Run (Tried A)) (e : Emitter) where
    or_at : (C : Comes Q m e) (o : Option A) → C.result ≡ o → ((e₁ : Emitter) → Grew e e₁ → Sound S e₁ → Comes Q n e₁) → Comes Q (m or_else n) e
    or_at C none z F =
        let D = F C.state C.grew C.sound in
        record {
          notes = C.notes ++ D.notes;
          result = D.result;
          state = D.state;
          is_so = or-none m n e C.state C.notes D.notes D.result D.state (C.is_so ∙ ap (λ o. came C.notes o C.state) z) D.is_so;
          grew = grew_then e C.state D.state C.grew D.grew;
          sound = D.sound;
          holds = D.holds;
        }
    or_at C (some a) z F = record {
      notes = C.notes ++ [];
      result = some a;
      state = C.state;
      is_so = or_some m n e C.state C.notes a (C.is_so ∙ ap (λ o. came C.notes o C.state) z);
      grew = C.grew;
      sound = C.sound;
      holds = λ b h. C.holds b (z ∙ h);
    }

    -- one in place of the other
    pub or_comes : Comes Q m e → ((e₁ : Emitter) → Grew e e₁ → Sound S e₁ → Comes Q n e₁) → Comes Q (m or_else n) e
    or_comes C F = or_at C C.result refl F

    -- what an attempt's result says if it is one
    pub attempt_comes : Comes Q m e → Comes (λ o e₁. (a : A) → o ≡ some a → Q a e₁) (attempt m) e
    attempt_comes C = record {
      notes = C.notes ++ [];
      result = some C.result;
      state = C.state;
      is_so = attempt-came m e C.state C.notes C.result C.is_so;
      grew = C.grew;
      sound = C.sound;
      holds = λ o h. subst (λ (x : Option A). (a : A) → x ≡ some a → Q a C.state) (some_eq h) C.holds;
    }

  module _ {A : Type 0} (Q R : A → Emitter → Type 0) (m : Emitter → Run (Tried A)) (e : Emitter) where
    -- less is less
    pub weaker : Comes Q m e → ((a : A) (e₁ : Emitter) → Grew e e₁ → Sound S e₁ → Q a e₁ → R a e₁) → Comes R m e
    weaker C F = record { notes = C.notes; result = C.result; state = C.state; is_so = C.is_so; grew = C.grew; sound = C.sound; holds = λ a h. F a C.state C.grew C.sound (C.holds a h) }

  module _ {B : Type 0} (R : B → Emitter → Type 0) (f : Emitter → Emitter → Run (Tried B)) (e : Emitter) where
    -- the state itself, and on
    pub now_comes : Sound S e → Comes R (f e) e → Comes R (now >>= f) e
    now_comes s D = record {
      notes = D.notes;
      result = D.result;
      state = D.state;
      is_so = then_some now f e e [] e D.notes D.result D.state refl D.is_so;
      grew = D.grew;
      sound = D.sound;
      holds = D.holds;
    }
