-- Single writes keep a state sound: a line, a node, an entry of a map that tells the truth.
use Rattle.std.specs.Prelude.{◌≡◌, refl, ℕ, eqb}
use Rattle.std.proofs.Common.{sym, ◌∙◌, arith}
use Rattle.std.proofs.Math.Path.{ap}
use Rattle.std.proofs.Math.Bool.{true, false}
use mathlib.Core.List.{List, [], ◌∷◌, ◌++◌, append-nil}
use Rattle.std.proofs.Math.Option.{some}
use borrow.Author.Tests.{eqb-true, eq-eqb}
use Rattle.std.proofs.Math.ListN.{length, length-append}
use Rattle.definition.specs.Test.{is, see, never}
use Rattle.definition.specs.Pack.{Node, no_node}
use Rattle.definition.specs.Verdict.{Bound}
use Rattle.definition.specs.Store.{pattern_words}
use Rattle.definition.specs.Analysis.{pairing}
use Rattle.definition.specs.Run.{behind, ◌>>=◌ as ◌>>=r◌}
use Rattle.emission.specs.Line.{Line}
use Rattle.emission.specs.Render.{proof_text}
use Rattle.emission.specs.State.{Emitter, Setting, having_lines, having_proved, having_derived, having_def, having_name, having_store, having_pairs, restored, grown_to, write}
use Rattle.theory.specs.Copies.Copying.{looked, newest, older, value_of_new, value_of_old}
use Rattle.theory.specs.Patterns.Interned.{Grows, with, grows_none, grows_long, grows_at}
use Rattle.emit_theory.specs.Stores.{SortedStore}
use Rattle.emit_theory.specs.Spoken.{Named}
use Rattle.emit_theory.specs.Sound.{Told, Defines, Names, Each, Sound, Grew, grew_none, told_grows, defines_grow, names_grow}
use Rattle.emit_theory.specs.Comes.{Comes}

-- an entry more
pub each_more : (Q : ℕ → ℕ → Type 0) (p n : ℕ) (bs : List Bound) → Q p n → Each Q bs → Each Q (pairing p n ∷ bs)
each_more Q p n bs q E r m e = elim (looked p n bs r m e) [
  | newest i j ↦ rw (i, j) q
  | older k ↦ E r m k
]

-- a name more takes no name away
pub named_more : (p k : ℕ) (bs : List Bound) → Named bs (pairing p k ∷ bs)
named_more p k bs q m h = elim (see (eqb q p)) [
  | is true t ↦ (k, rw (eqb-true q p t) (value_of_new p k bs))
  | is false t ↦ (m, value_of_old p k bs q (λ i. never (let z : eqb q p ≡ true = eq-eqb q p i in cc)) ∙ h)
]

module _ (S : Setting) (e : Emitter) (s : Sound S e) where
  -- lines behind those there
  pub sound_lines : (ls : List Line) → Grows e.undone.lines ls → Sound S (having_lines ls e)
  sound_lines ls G =
      let same = grows_none e.kept.store in
      record {
        sorted = s.sorted;
        L_stored = s.L_stored;
        L_node = s.L_node;
        L_proper = s.L_proper;
        proved = λ p n h. told_grows e.undone.lines ls e.kept.store e.kept.store G same p n (s.proved p n h);
        derived = λ p n h. told_grows e.undone.lines ls e.kept.store e.kept.store G same p n (s.derived p n h);
        defs = λ p n h. defines_grow e.undone.lines ls e.kept.store e.kept.store G same p n (s.defs p n h);
        names = λ p n h. names_grow e.undone.lines ls e.kept.store e.kept.store G same p n (s.names p n h);
      }

  -- well-sorted nodes behind those there
  pub sound_store : (t : List Node) → Grows e.kept.store t → SortedStore S.pack t → Sound S (having_store t e)
  sound_store t G sorted =
      let same = grows_none e.undone.lines in
      let l = grows_long e.kept.store t G in
      record {
        sorted = sorted;
        L_stored = omega (arith, s.L_stored);
        L_node = grows_at e.kept.store t no_node S.eigen G s.L_stored ∙ s.L_node;
        L_proper = s.L_proper;
        proved = λ p n h. told_grows e.undone.lines e.undone.lines e.kept.store t same G p n (s.proved p n h);
        derived = λ p n h. told_grows e.undone.lines e.undone.lines e.kept.store t same G p n (s.derived p n h);
        defs = λ p n h. defines_grow e.undone.lines e.undone.lines e.kept.store t same G p n (s.defs p n h);
        names = λ p n h. names_grow e.undone.lines e.undone.lines e.kept.store t same G p n (s.names p n h);
      }

  -- a judgment kept as proved, with a line that states it
  pub sound_proved : (p n : ℕ) → Told e.undone.lines e.kept.store p n → Sound S (having_proved p n e)
  sound_proved p n t = record { sorted = s.sorted; L_stored = s.L_stored; L_node = s.L_node; L_proper = s.L_proper; proved = each_more (Told e.undone.lines e.kept.store) p n e.undone.proved t s.proved; derived = s.derived; defs = s.defs; names = s.names }

  pub sound_derived : (p n : ℕ) → Told e.undone.lines e.kept.store p n → Sound S (having_derived p n e)
  sound_derived p n t = record { sorted = s.sorted; L_stored = s.L_stored; L_node = s.L_node; L_proper = s.L_proper; proved = s.proved; derived = each_more (Told e.undone.lines e.kept.store) p n e.undone.derived t s.derived; defs = s.defs; names = s.names }

  -- a term with its definition
  pub sound_def : (p n : ℕ) → Defines e.undone.lines e.kept.store p n → Sound S (having_def p n e)
  sound_def p n t = record { sorted = s.sorted; L_stored = s.L_stored; L_node = s.L_node; L_proper = s.L_proper; proved = s.proved; derived = s.derived; defs = each_more (Defines e.undone.lines e.kept.store) p n e.undone.defs t s.defs; names = s.names }

  -- a case variable with its line
  pub sound_name : (p k : ℕ) → Names e.undone.lines e.kept.store p k → Sound S (having_name p k e)
  sound_name p k t = record { sorted = s.sorted; L_stored = s.L_stored; L_node = s.L_node; L_proper = s.L_proper; proved = s.proved; derived = s.derived; defs = s.defs; names = each_more (Names e.undone.lines e.kept.store) p k e.undone.names t s.names }

  -- pairs taken
  pub sound_pairs : (n : ℕ) → Sound S (having_pairs n e)
  sound_pairs n = record { sorted = s.sorted; L_stored = s.L_stored; L_node = s.L_node; L_proper = s.L_proper; proved = s.proved; derived = s.derived; defs = s.defs; names = s.names }

  -- what a restore takes back was sound, and stays so over the nodes made since
  pub sound_restored : (later : Emitter) → Grew e later → Sound S later → Sound S (restored e later)
  sound_restored later G t =
      let same = grows_none e.undone.lines in
      record {
        sorted = t.sorted;
        L_stored = t.L_stored;
        L_node = t.L_node;
        L_proper = t.L_proper;
        proved = λ p n h. told_grows e.undone.lines e.undone.lines e.kept.store later.kept.store same G.store p n (s.proved p n h);
        derived = λ p n h. told_grows e.undone.lines e.undone.lines e.kept.store later.kept.store same G.store p n (s.derived p n h);
        defs = λ p n h. defines_grow e.undone.lines e.undone.lines e.kept.store later.kept.store same G.store p n (s.defs p n h);
        names = λ p n h. names_grow e.undone.lines e.undone.lines e.kept.store later.kept.store same G.store p n (s.names p n h);
      }

  -- a line written
  pub write_comes : (l : Line) → Comes S (λ _ e₁. e₁ ≡ having_lines (e.undone.lines ++ (l ∷ [])) e) (write S l) e
  unfolding write ◌>>=r◌ behind
  write_comes l =
      let ls = e.undone.lines ++ (l ∷ []) in
      record {
        notes = record { buffer = 5; fill = length (proof_text S.pack S.name ls) } ∷ [];
        result = some tt;
        state = having_lines ls e;
        is_so = refl;
        grew = record { lines = with (l ∷ []) refl; store = grows_none e.kept.store; names = λ p k h. (k, h) };
        sound = sound_lines ls (with (l ∷ []) refl);
        holds = λ _ _. refl;
      }

  nothing-more : (xs : List Node) → length xs ≡ 0 → xs ≡ []
  nothing-more [] h = refl
  nothing-more (x ∷ xs) h = absurd (omega arith)

  -- the store grown to t
  pub grown_comes : (t : List Node) → Grows e.kept.store t → SortedStore S.pack t → Comes S (λ _ e₁. (e₁.kept.store ≡ t) × (e₁.undone ≡ e.undone)) (grown_to t) e
  unfolding grown_to ◌>>=r◌ behind
  grown_comes t (with xs q) sorted = elim (see (eqb (length t) (length e.kept.store))) [
    | is true k ↦
        let a = ap length q ∙ length-append e.kept.store xs in
        let l = eqb-true (length t) (length e.kept.store) k in
        let z : t ≡ e.kept.store = q ∙ ap (λ ys. e.kept.store ++ ys) (nothing-more xs (omega arith)) ∙ append-nil e.kept.store in
        record { notes = []; result = some tt; state = e; is_so = rw (k, grown_to); grew = grew_none e; sound = s; holds = λ _ _. (sym z, refl) }
    | is false k ↦
        record {
          notes = record { buffer = 2; fill = length (pattern_words t) } ∷ [];
          result = some tt;
          state = having_store t e;
          is_so = rw (k, grown_to);
          grew = record { lines = grows_none e.undone.lines; store = with xs q; names = λ p n h. (n, h) };
          sound = sound_store t (with xs q) sorted;
          holds = λ _ _. (refl, refl);
        }
  ]
