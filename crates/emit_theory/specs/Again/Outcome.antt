-- Searches that repeat themselves: one that wrote no line does the same again, with no node and no note, in every later state.
use Rattle.std.specs.Prelude.{◌≡◌, refl, List, [], ℕ, ◌+◌, ◌≤◌}
use Rattle.std.proofs.Common.{◌∙◌, arith}
use Rattle.std.proofs.Math.Option.{Option, none, some}
use Rattle.definition.specs.Pack.{Node}
use Rattle.definition.specs.Run.{Note}
use Rattle.emission.specs.State.{Emitter, Setting, Search, fail}
use Rattle.emit_theory.specs.Came.{came}
use Rattle.emit_theory.specs.Again.IfSome.{IfSome}
use Rattle.emit_theory.specs.Again.Later.{text_length, Later, later_then, Further, further_none}
use Rattle.emit_theory.specs.Again.Wrote.{Wrote}

-- nothing is asked of a result
abbrev pub Any : {A : Type 0} → A → List Node → Type 0
Any a s = Unit {0}

-- the bytes that are due for a result; for none there are none
abbrev pub due : {A : Type 0} → ℕ → Option A → ℕ
due least none = 0
due least (some a) = least

-- if none are asked for none are due
pub due-nothing : {A : Type 0} (o : Option A) → due 0 o ≡ 0
due-nothing none = refl
due-nothing (some a) = refl

module _ (S : Setting) where
  -- a search m came from e to o and e₁: with the bytes due, further on in the store, its result as Q has it. Where it wrote no byte it
  -- proved nothing, and in every later state m' comes to o as well and leaves that state as it is
  pub record Outcome {A : Type 0} (least : ℕ) (Q : A → List Node → Type 0) (m m' : Search A) (e : Emitter) (o : Option A) (e₁ : Emitter) : Type 0 where
    pub notes : List Note
    pub is_so : m e ≡ came notes o e₁
    pub longer : text_length S e + due least o ≤ text_length S e₁
    pub further : Further e.kept.store e₁.kept.store
    pub holds : IfSome (λ a. Q a e₁.kept.store) o
    pub still : text_length S e₁ ≤ text_length S e → e₁.undone.proved ≡ e.undone.proved
    pub again : text_length S e₁ ≤ text_length S e → (e' : Emitter) → Later e₁ e' → m' e' ≡ came [] o e'

  -- a search m from e, and a search m' that repeats it
  pub record Again {A : Type 0} (least : ℕ) (Q : A → List Node → Type 0) (m m' : Search A) (e : Emitter) : Type 0 where
    pub result : Option A
    pub state : Emitter
    pub outcome : Outcome least Q m m' e result state

  module _ {A : Type 0} {least : ℕ} {Q : A → List Node → Type 0} {m m' : Search A} {e : Emitter} where
    -- where no byte was written the state is a later one
    pub outcome-later : {o : Option A} {e₁ : Emitter} → Outcome least Q m m' e o e₁ → text_length S e₁ ≤ text_length S e → Later e e₁
    outcome-later R q = record { proved = R.still q; grows = R.further.grows }

    -- a search that comes to o and writes nothing
    pub quiet_again : (o : Option A) → due least o ≡ 0 → IfSome (λ a. Q a e.kept.store) o → m e ≡ came [] o e
        → ((e' : Emitter) → Later e e' → m' e' ≡ came [] o e') → Again least Q m m' e
    quiet_again o z holds h k = record {
      result = o;
      state = e;
      outcome = record { notes = []; is_so = h; longer = omega arith; further = further_none e.kept.store; holds = holds; still = λ q. refl; again = λ q e' l. k e' l };
    }

    -- the repeated search may be another that does the same from e, and the repeating one another that does the same in later states
    pub same_again : (n n' : Search A) → n e ≡ m e → ((e' : Emitter) → Later e e' → n' e' ≡ m' e') → Again least Q m m' e → Again least Q n n' e
    same_again n n' h k R =
        let C = R.outcome in
        record {
          result = R.result;
          state = R.state;
          outcome = record {
            notes = C.notes;
            is_so = h ∙ C.is_so;
            longer = C.longer;
            further = C.further;
            holds = C.holds;
            still = C.still;
            again = λ q e' l. k e' (later_then e R.state e' (outcome-later C q) l) ∙ C.again q e' l;
          };
        }

    -- no byte need be asked for
    pub less_again : Again least Q m m' e → Again 0 Q m m' e
    less_again R =
        let C = R.outcome in
        let z = due-nothing R.result in
        record {
          result = R.result;
          state = R.state;
          outcome = record { notes = C.notes; is_so = C.is_so; longer = omega (arith, C.longer); further = C.further; holds = C.holds; still = C.still; again = C.again };
        }

  module _ {A : Type 0} {m m' : Search A} {e : Emitter} where
    -- a search that always has a result, and a byte with it, need not be repeated
    pub wrote_again : Wrote S 1 m e → Again 1 Any m m' e
    wrote_again W = record {
      result = some W.value;
      state = W.state;
      outcome = record {
        notes = W.notes;
        is_so = W.is_so;
        longer = W.longer;
        further = rw W.same (further_none e.kept.store);
        holds = tt;
        still = λ q. absurd (omega (arith, W.longer));
        again = λ q. absurd (omega (arith, W.longer));
      };
    }

    fails_at : {Q : A → List Node → Type 0} (o : Option A) (e₁ : Emitter) → Outcome 1 Q m m' e o e₁ → Outcome 1 Q m fail e o e₁
    fails_at none e₁ R = record { notes = R.notes; is_so = R.is_so; longer = R.longer; further = R.further; holds = tt; still = R.still; again = λ q e' l. refl }
    fails_at (some a) e₁ R = record {
      notes = R.notes;
      is_so = R.is_so;
      longer = R.longer;
      further = R.further;
      holds = R.holds;
      still = R.still;
      again = λ q. absurd (omega (arith, R.longer));
    }

    -- if results come with a byte, what wrote none has failed: to fail is to repeat it
    pub fails_again : {Q : A → List Node → Type 0} → Again 1 Q m m' e → Again 1 Q m fail e
    fails_again R = record { result = R.result; state = R.state; outcome = fails_at R.result R.state R.outcome }
