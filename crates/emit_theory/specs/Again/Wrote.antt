-- Searches that always come to a result and leave the store. Such are a line written, words and judgments; a step comes to its line.
use Rattle.std.specs.Prelude.{◌≡◌}
use Rattle.std.proofs.Math.Path.{refl}
use Rattle.std.proofs.Common.{◌∙◌, arith}
use mathlib.Core.List.{List, [], ◌∷◌, ◌++◌}
use Rattle.std.proofs.Math.Option.{Option, none, some}
use Prim.Native.Nat.{ℕ, zero, suc, ◌+◌, ◌≤◌}
use Rattle.std.proofs.Math.ListN.{length}
use Rattle.definition.specs.Run.{Note, behind, ◌>>=◌ as ◌>>=r◌}
use Rattle.emission.specs.Line.{Word, Line, step_line_of}
use Rattle.emission.specs.Render.{proof_text}
use Rattle.emission.proofs.Laws.Text.{text_grows}
use Rattle.emission.specs.State.{Emitter, Setting, Search, ◌>>=◌, give, now, change, write, write_step, having_lines, having_def}
use Rattle.emission.specs.Words.{pattern_of, word_of, define, word, words, judgment, step}
use Rattle.emit_theory.specs.Came.{came, then_some}
use Rattle.emit_theory.specs.Again.Later.{text_length}

module _ (S : Setting) where
  -- a search from e that comes to a value, with so many bytes of text more at the least, over the same store
  pub record Wrote {A : Type 0} (least : ℕ) (m : Search A) (e : Emitter) : Type 0 where
    pub notes : List Note
    pub value : A
    pub state : Emitter
    pub is_so : m e ≡ came notes (some value) state
    pub longer : text_length S e + least ≤ text_length S state
    pub same : state.kept.store ≡ e.kept.store

  -- one such search and another from its value
  pub wrote_then : {A B : Type 0} {m : Search A} {f : A → Search B} {e : Emitter} (k n : ℕ) → Wrote k m e
      → ((a : A) (e₁ : Emitter) → Wrote n (f a) e₁) → Wrote (k + n) (m >>= f) e
  wrote_then {m = m} {f = f} {e = e} k n R F =
      let C = F R.value R.state in
      record {
        notes = R.notes ++ C.notes;
        value = C.value;
        state = C.state;
        is_so = then_some m f e R.state R.notes R.value C.notes (some C.value) C.state R.is_so C.is_so;
        longer = omega (arith, R.longer, C.longer);
        same = C.same ∙ R.same;
      }

  -- fewer bytes may be asked for
  pub wrote_less : {A : Type 0} {m : Search A} {e : Emitter} (k n : ℕ) → n ≤ k → Wrote k m e → Wrote n m e
  wrote_less k n h R = record { notes = R.notes; value = R.value; state = R.state; is_so = R.is_so; longer = omega (arith, R.longer); same = R.same }

  -- a value given
  pub wrote_give : {A : Type 0} (a : A) (e : Emitter) → Wrote 0 (give a) e
  wrote_give a e = record { notes = []; value = a; state = e; is_so = refl; longer = omega arith; same = refl }

  -- the state looked at
  pub wrote_now : (e : Emitter) → Wrote 0 now e
  wrote_now e = record { notes = []; value = e; state = e; is_so = refl; longer = omega arith; same = refl }

  -- the state changed, but neither its text nor its store
  pub wrote_change : (f : Emitter → Emitter) (e : Emitter) → text_length S (f e) ≡ text_length S e → (f e).kept.store ≡ e.kept.store → Wrote 0 (change f) e
  wrote_change f e t s = record { notes = []; value = tt; state = f e; is_so = refl; longer = omega arith; same = s }

  -- a line has a byte
  pub wrote_line : (l : Line) (e : Emitter) → Wrote 1 (write S l) e
  unfolding write ◌>>=r◌ behind
  wrote_line l e =
      let ls = e.undone.lines ++ (l ∷ []) in
      let grows = text_grows S.pack S.name e.undone.lines l in
      record {
        notes = record { buffer = 5; fill = length (proof_text S.pack S.name ls) } ∷ [];
        value = tt;
        state = having_lines ls e;
        is_so = refl;
        longer = omega arith;
        same = refl;
      }

  -- so has one that gets a number
  pub wrote_numbered : (l : Line) (e : Emitter) → Wrote 1 (write_step S l) e
  unfolding write_step
  wrote_numbered l e = wrote_then 0 1 (wrote_now e) (λ x e₁. wrote_then 1 0 (wrote_line l e₁) (λ _ e₂. wrote_give _ e₂))

  -- and a definition
  pub wrote_definition : (p : ℕ) (ws : List Word) (e : Emitter) → Wrote 1 (define S p ws) e
  unfolding define
  wrote_definition p ws e =
      wrote_then 0 1 (wrote_now e)
      (λ x e₁. wrote_then 1 0 (wrote_line _ e₁)
      (λ _ e₂. wrote_then 0 0 (wrote_change (having_def p _) e₂ refl refl) (λ _ e₃. wrote_give _ e₃)))

  -- a word is there already, or is defined over its arguments' words
  wrote_word : (deeper : List ℕ → Search (List Word)) → ((qs : List ℕ) (e : Emitter) → Wrote 0 (deeper qs) e) → (p : ℕ) (e : Emitter) → Wrote 0 (word S deeper p) e
  unfolding word
  wrote_word deeper D p e = wrote_then 0 0 (wrote_now e) (λ x e₁. by x (word_of x p) e₁)
    where
      by : (x : Emitter) (o : Option Word) (e₁ : Emitter)
          → Wrote {A = Word} 0 (elim o as (λ _. Search Word) [ some w ↦ give w | none ↦ deeper (pattern_of x p).args >>= λ ws. define S p ws ]) e₁
      by x (some w) e₁ = wrote_give w e₁
      by x none e₁ = wrote_then 0 0 (D (pattern_of x p).args e₁) (λ ws e₂. wrote_less 1 0 (omega arith) (wrote_definition p ws e₂))

  -- words never fail
  pub wrote_words : (d : ℕ) (ps : List ℕ) (e : Emitter) → Wrote 0 (words d S ps) e
  unfolding words
  wrote_words zero [] e = wrote_give [] e
  wrote_words zero (p ∷ ps) e = wrote_give [] e
  wrote_words (suc d) [] e = wrote_give [] e
  wrote_words (suc d) (p ∷ ps) e =
      wrote_then 0 0 (wrote_word (λ qs. words d S qs) (λ qs x. wrote_words d qs x) p e)
      (λ w e₁. wrote_then 0 0 (wrote_words (suc d) ps e₁) (λ ws e₂. wrote_give (w ∷ ws) e₂))

  -- nor does a judgment in words
  pub wrote_judgment : (j : ℕ) (e : Emitter) → Wrote 0 (judgment S j) e
  unfolding judgment
  wrote_judgment j e = wrote_then 0 0 (wrote_now e) (λ x e₁. wrote_then 0 0 (wrote_words (suc j) (pattern_of x j).args e₁) (λ ws e₂. wrote_give _ e₂))

  -- a step always comes to its line
  pub wrote_step : (rule : ℕ) (refs : List ℕ) (j : ℕ) (e : Emitter) → Wrote 1 (step S rule refs j) e
  unfolding step
  wrote_step rule refs j e = wrote_then 0 1 (wrote_judgment j e) (λ said e₁. wrote_numbered (step_line_of rule refs said) e₁)
