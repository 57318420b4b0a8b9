-- Searches put together repeat themselves if their parts do.
use Rattle.std.specs.Prelude.{◌≡◌, List, [], ◌++◌, ℕ}
use Rattle.std.proofs.Common.{◌∙◌, arith}
use Rattle.std.proofs.Math.Option.{Option, none, some}
use Rattle.definition.specs.Pack.{Node}
use Rattle.emission.specs.State.{Emitter, Setting, Search, ◌>>=◌, ◌or_else◌}
use Rattle.emit_theory.specs.Came.{came, then_some, then_none, or_some, or-none}
use Rattle.emit_theory.specs.Again.Later.{later_then, Further, further_then}
use Rattle.emit_theory.specs.Again.Wrote.{Wrote}
use Rattle.emit_theory.specs.Again.Outcome.{Any, Outcome, Again, outcome-later}

module _ (S : Setting) where
  -- from every state further on than e, m' repeats m
  abbrev pub Afterwards : {A : Type 0} → ℕ → (A → List Node → Type 0) → Search A → Search A → Emitter → Type 0
  Afterwards least Q m m' e = (e₁ : Emitter) → Further e.kept.store e₁.kept.store → Again S least Q m m' e₁

  -- and f' repeats f, of every result that is as Q has it
  abbrev pub AfterResult : {A B : Type 0} → (A → List Node → Type 0) → ℕ → (B → List Node → Type 0) → (A → Search B) → (A → Search B) → Emitter → Type 0
  AfterResult {A = A} Q least Q' f f' e = (a : A) (e₁ : Emitter) → Q a e₁.kept.store → Further e.kept.store e₁.kept.store → Again S least Q' (f a) (f' a) e₁

  module _ {A B : Type 0} {k n : ℕ} {Q : A → List Node → Type 0} {Q' : B → List Node → Type 0} {m m' : Search A} {e e₁ : Emitter} {o : Option A} where
    -- a search w that is m and then g, and a search w' that is m' and then g'
    in_turn : (w w' g g' : Search B) (R : Outcome S k Q m m' e o e₁) (C : Again S n Q' g g' e₁) → w e ≡ came (R.notes ++ C.outcome.notes) C.result C.state
        → ((e' : Emitter) → m' e' ≡ came [] o e' → g' e' ≡ came [] C.result e' → w' e' ≡ came [] C.result e') → Again S n Q' w w' e
    in_turn w w' g g' R C h join =
        let D = C.outcome in
        let e₂ = C.state in
        record {
          result = C.result;
          state = e₂;
          outcome = record {
            notes = R.notes ++ D.notes;
            is_so = h;
            longer = omega (arith, R.longer, D.longer);
            further = further_then e.kept.store e₁.kept.store e₂.kept.store R.further D.further;
            holds = D.holds;
            still = λ q. D.still (omega (arith, R.longer)) ∙ R.still (omega (arith, D.longer));
            again = λ q e' l.
                let between = later_then e₁ e₂ e' (outcome-later S D (omega (arith, R.longer))) l in
                join e' (R.again (omega (arith, D.longer)) e' between) (D.again (omega (arith, R.longer)) e' l);
          };
        }

  module _ {A B : Type 0} {k : ℕ} {Q : A → List Node → Type 0} {m m' : Search A} {e : Emitter} where
    -- a search that failed is not gone on from
    ended : {n : ℕ} {Q' : B → List Node → Type 0} (f f' : A → Search B) (e₁ : Emitter) → Outcome S k Q m m' e none e₁ → Again S n Q' (m >>= f) (m' >>= f') e
    ended f f' e₁ R = record {
      result = none;
      state = e₁;
      outcome = record {
        notes = R.notes ++ [];
        is_so = then_none m f e e₁ R.notes R.is_so;
        longer = R.longer;
        further = R.further;
        holds = tt;
        still = R.still;
        again = λ q e' l. then_none m' f' e' e' [] (R.again q e' l);
      };
    }

    then_at : {n : ℕ} {Q' : B → List Node → Type 0} (f f' : A → Search B) (o : Option A) (e₁ : Emitter) → Outcome S k Q m m' e o e₁
        → AfterResult Q n Q' f f' e → Again S n Q' (m >>= f) (m' >>= f') e
    then_at f f' none e₁ R F = ended f f' e₁ R
    then_at f f' (some a) e₁ R F =
        let C = F a e₁ R.holds R.further in
        let D = C.outcome in
        in_turn (m >>= f) (m' >>= f') (f a) (f' a) R C (then_some m f e e₁ R.notes a D.notes C.result C.state R.is_so D.is_so)
        (λ e' x y. then_some m' f' e' e' [] a [] C.result e' x y)

    -- one search and another from its result
    pub then_again : {n : ℕ} {Q' : B → List Node → Type 0} (f f' : A → Search B) → Again S k Q m m' e → AfterResult Q n Q' f f' e → Again S n Q' (m >>= f) (m' >>= f') e
    then_again f f' R F = then_at f f' R.result R.state R.outcome F

  module _ {A B : Type 0} {Q : A → List Node → Type 0} {m m' : Search A} {e : Emitter} (f f' : A → Search B) where
    wrote_at : (o : Option A) (e₁ : Emitter) → Outcome S 1 Q m m' e o e₁ → ((a : A) (e₁ : Emitter) → Wrote S 0 (f a) e₁) → Again S 1 Any (m >>= f) (m' >>= f') e
    wrote_at none e₁ R F = ended f f' e₁ R
    wrote_at (some a) e₁ R F =
        let C = F a e₁ in
        record {
          result = some C.value;
          state = C.state;
          outcome = record {
            notes = R.notes ++ C.notes;
            is_so = then_some m f e e₁ R.notes a C.notes (some C.value) C.state R.is_so C.is_so;
            longer = omega (arith, R.longer, C.longer);
            further = rw C.same R.further;
            holds = tt;
            still = λ q. absurd (omega (arith, R.longer, C.longer));
            again = λ q. absurd (omega (arith, R.longer, C.longer));
          };
        }

    -- behind a search whose results come with a byte, one that always has a result: that one need not repeat itself
    pub then_wrote : Again S 1 Q m m' e → ((a : A) (e₁ : Emitter) → Wrote S 0 (f a) e₁) → Again S 1 Any (m >>= f) (m' >>= f') e
    then_wrote R F = wrote_at R.result R.state R.outcome F

  module _ {A : Type 0} {least : ℕ} {Q : A → List Node → Type 0} {m m' : Search A} {e : Emitter} (n n' : Search A) where
    or_at : (o : Option A) (e₁ : Emitter) → Outcome S least Q m m' e o e₁ → Afterwards least Q n n' e → Again S least Q (m or_else n) (m' or_else n') e
    or_at none e₁ R F =
        let C = F e₁ R.further in
        let D = C.outcome in
        in_turn (m or_else n) (m' or_else n') n n' R C (or-none m n e e₁ R.notes D.notes C.result C.state R.is_so D.is_so)
        (λ e' x y. or-none m' n' e' e' [] [] C.result e' x y)
    or_at (some a) e₁ R F = record {
      result = some a;
      state = e₁;
      outcome = record {
        notes = R.notes ++ [];
        is_so = or_some m n e e₁ R.notes a R.is_so;
        longer = R.longer;
        further = R.further;
        holds = R.holds;
        still = R.still;
        again = λ q e' l. or_some m' n' e' e' [] a (R.again q e' l);
      };
    }

    -- one search, or another where it has no result
    pub or_again : Again S least Q m m' e → Afterwards least Q n n' e → Again S least Q (m or_else n) (m' or_else n') e
    or_again R F = or_at R.result R.state R.outcome F
