-- What naming patterns does to the words that patterns have: words stay, and only what is no deeper gets one.
use Rattle.std.specs.Prelude.{◌≡◌, true, false, length}
use Rattle.std.proofs.Math.Path.{refl, ap}
use Rattle.std.proofs.Common.{sym, subst, ◌∙◌, arith}
use mathlib.Core.List.{List, [], ◌∷◌, ◌++◌}
use Rattle.std.proofs.Math.Option.{Option, none, some}
use Prim.Native.Nat.{ℕ, zero, suc, ◌<◌, ◌≤◌}
use Rattle.definition.specs.Test.{is, see, never}
use Rattle.definition.specs.Pack.{Node}
use Rattle.definition.specs.Good.{Below}
use Rattle.definition.specs.Verdict.{value_of}
use Rattle.definition.specs.Store.{is_variable}
use Rattle.definition.proofs.Laws.Grow.{below_more}
use Rattle.definition.specs.Run.{Note, behind, ◌>>=◌ as ◌>>=r◌}
use Rattle.emission.specs.Line.{Word, defined, variable, constant, def_line, tally}
use Rattle.emission.specs.Render.{proof_text}
use Rattle.emission.specs.State.{Emitter, Setting, Kept, Search, go_on, ◌>>=◌, give, write, having_lines, having_def}
use Rattle.emission.specs.Words.{pattern_of, word_of, define, word, words}
use Rattle.theory.specs.Copies.Copying.{value_of_new, value_of_old}
use Rattle.theory.specs.Copies.Terms.{Earlier, below-applied}
use Rattle.emit_theory.specs.Came.{came, then_some}
use Rattle.emit_state.specs.Searches.{now_then}

-- the state with a definition more
abbrev pub with_def : ℕ → List Word → Emitter → Emitter
with_def p ws e = having_def p (tally e.undone.lines).definitions (having_lines (e.undone.lines ++ (def_line (pattern_of e p).head ws ∷ [])) e)

-- a pattern without a word is an application over patterns, and has neither name nor definition
pub record Lacks (e : Emitter) (p : ℕ) : Type 0 where
  pub unnamed : value_of p e.undone.names ≡ none
  pub applied : is_variable (pattern_of e p) ≡ false
  pub first : ℕ
  pub rest : List ℕ
  pub over : (pattern_of e p).args ≡ first ∷ rest
  pub undefined : value_of p e.undone.defs ≡ none

-- by its tests
pub lacks : (e : Emitter) (p : ℕ) → word_of e p ≡ none → Lacks e p
unfolding word_of
lacks e p q = elim (see (value_of p e.undone.names)) [
  | is (some k) t ↦ never (let z : some (variable (suc k)) ≡ none = rw (t, word_of) at q in cc)
  | is none t ↦ elim (see (is_variable (pattern_of e p))) [
    | is true v ↦ never (let z : some (variable 0) ≡ none = rw (t, v, word_of) at q in cc)
    | is false v ↦ elim (see (pattern_of e p).args) [
      | is [] a ↦ never (let z : some (constant (pattern_of e p).head) ≡ none = rw (t, v, a, word_of) at q in cc)
      | is (b ∷ bs) a ↦ elim (see (value_of p e.undone.defs)) [
        | is none d ↦ record { unnamed = t; applied = v; first = b; rest = bs; over = a; undefined = d }
        | is (some n) d ↦ never (let z : some (defined n) ≡ none = rw (t, v, a, d, word_of) at q in cc)
      ]
    ]
  ]
]

-- its word once it is defined
pub word-new : (e : Emitter) (p : ℕ) (ws : List Word) → word_of e p ≡ none → word_of (with_def p ws e) p ≡ some (defined (tally e.undone.lines).definitions)
unfolding word_of
word-new e p ws q =
    let L = lacks e p q in
    let d = value_of_new p (tally e.undone.lines).definitions e.undone.defs in
    rw (L.unnamed, L.applied, L.over, d, word_of) refl

-- another pattern's word
pub word-other : (e : Emitter) (p : ℕ) (ws : List Word) (q : ℕ) → (q ≡ p → ⊥) → word_of (with_def p ws e) q ≡ word_of e q
unfolding word_of
word-other e p ws q d = ap (λ (o : Option ℕ).
    elim (value_of q e.undone.names) as (λ _. Option Word) [
      | some k ↦ some (variable (suc k))
      | none ↦
          elim (is_variable (pattern_of e q)) as (λ _. Option Word) [
            | true ↦ some (variable 0)
            | false ↦
                elim (pattern_of e q).args as (λ _. Option Word) [
                  | [] ↦ some (constant (pattern_of e q).head)
                  | a ∷ more ↦ elim o as (λ _. Option Word) [ none ↦ none | some n ↦ some (defined n) ]
                ]
          ]
    ]) (value_of_old p (tally e.undone.lines).definitions e.undone.defs q d)

-- one state and another in which words have only been added, and none to patterns from d on
pub record Spells (d : ℕ) (e e' : Emitter) : Type 0 where
  pub kept : e'.kept ≡ e.kept
  pub keeps : (q : ℕ) (v : Word) → word_of e q ≡ some v → word_of e' q ≡ some v
  pub above : (q : ℕ) → d ≤ q → word_of e' q ≡ word_of e q

-- nothing happened
spells_none : (d : ℕ) (e : Emitter) → Spells d e e
spells_none d e = record { kept = refl; keeps = λ q v h. h; above = λ q h. refl }

-- one after the other
spells_then : (d : ℕ) (a b c : Emitter) → Spells d a b → Spells d b c → Spells d a c
spells_then d a b c S T = record { kept = T.kept ∙ S.kept; keeps = λ q v h. T.keeps q v (S.keeps q v h); above = λ q h. T.above q h ∙ S.above q h }

-- fewer patterns are spoken of
spells_more : (c d : ℕ) (a b : Emitter) → c ≤ d → Spells c a b → Spells d a b
spells_more c d a b l S = record { kept = S.kept; keeps = S.keeps; above = λ q h. S.above q (omega arith) }

-- a definition more
pub spells_def : (e : Emitter) (p : ℕ) (ws : List Word) → word_of e p ≡ none → Spells (suc p) e (with_def p ws e)
spells_def e p ws n = record {
  kept = refl;
  keeps = λ q v h. word-other e p ws q (λ i. never (let z : word_of e q ≡ none = ap (word_of e) i ∙ n in cc)) ∙ h;
  above = λ q l. word-other e p ws q (λ i. omega arith);
}

-- the arguments of a pattern that has no word stand before it
pub lacks_below : (e : Emitter) (p : ℕ) → Earlier e.kept.store → p < length e.kept.store → word_of e p ≡ none → Below p (pattern_of e p).args
lacks_below e p E l q = subst (Below p) (below-applied (pattern_of e p) (lacks e p q).applied) (E p l)

module _ (S : Setting) where
  -- a search that comes to a value of which Q holds, with words added
  pub record Names {A : Type 0} (d : ℕ) (Q : A → Emitter → Type 0) (m : Search A) (e : Emitter) : Type 0 where
    pub notes : List Note
    pub value : A
    pub state : Emitter
    pub is_so : m e ≡ came notes (some value) state
    pub spells : Spells d e state
    pub holds : Q value state

  -- one such search and another from its value
  names_then : {A B : Type 0} {m : Search A} {f : A → Search B} {e : Emitter} (d : ℕ) (Q : A → Emitter → Type 0) (R : B → Emitter → Type 0) → Names d Q m e
      → ((a : A) (e₁ : Emitter) → Spells d e e₁ → Q a e₁ → Names d R (f a) e₁) → Names d R (m >>= f) e
  names_then {m = m} {f = f} {e = e} d Q R C F =
      let D = F C.value C.state C.spells C.holds in
      record {
        notes = C.notes ++ D.notes;
        value = D.value;
        state = D.state;
        is_so = then_some m f e C.state C.notes C.value D.notes (some D.value) D.state C.is_so D.is_so;
        spells = spells_then d e C.state D.state C.spells D.spells;
        holds = D.holds;
      }

  -- a word that is there
  pub word_some : (deeper : List ℕ → Search (List Word)) (p : ℕ) (e : Emitter) (w : Word) → word_of e p ≡ some w → word S deeper p e ≡ came [] (some w) e
  unfolding word
  word_some deeper p e w q = now_then _ e ∙ ap (λ (o : Option Word). (elim o as (λ _. Search Word) [ some w ↦ give w | none ↦ deeper (pattern_of e p).args >>= λ ws. define S p ws ]) e) q

  -- one that isn't
  pub word_none : (deeper : List ℕ → Search (List Word)) (p : ℕ) (e : Emitter) → word_of e p ≡ none → word S deeper p e ≡ (deeper (pattern_of e p).args >>= λ ws. define S p ws) e
  unfolding word
  word_none deeper p e q = now_then _ e ∙ ap (λ (o : Option Word). (elim o as (λ _. Search Word) [ some w ↦ give w | none ↦ deeper (pattern_of e p).args >>= λ ws. define S p ws ]) e) q

  -- a definition
  pub define_is : (p : ℕ) (ws : List Word) (e : Emitter) → define S p ws e
      ≡ came (record { buffer = 5; fill = length (proof_text S.pack S.name (e.undone.lines ++ (def_line (pattern_of e p).head ws ∷ []))) } ∷ []) (some (defined (tally e.undone.lines).definitions)) (with_def p ws e)
  unfolding define write ◌>>=◌ ◌>>=r◌ go_on behind
  define_is p ws e = refl

  -- a pattern gets its word, if its arguments do
  pub word_names : (deeper : List ℕ → Search (List Word)) (p : ℕ) → ((qs : List ℕ) (e : Emitter) → Earlier e.kept.store → Below p qs → Below (length e.kept.store) qs → Names p (λ ws e₁. Unit {0}) (deeper qs) e)
      → (e : Emitter) → Earlier e.kept.store → p < length e.kept.store → Names (suc p) (λ w e₁. word_of e₁ p ≡ some w) (word S deeper p) e
  word_names deeper p D e E l = elim (see (word_of e p)) [
    | is (some w) q ↦ record { notes = []; value = w; state = e; is_so = word_some deeper p e w q; spells = spells_none (suc p) e; holds = q }
    | is none q ↦
        let B = lacks_below e p E l q in
        let args = (pattern_of e p).args in
        let C = D args e E B (below_more p (length e.kept.store) args (omega arith) B) in
        let ws = C.value in
        let e₁ = C.state in
        let n : word_of e₁ p ≡ none = C.spells.above p (omega arith) ∙ q in
        record {
          notes = C.notes ++ (record { buffer = 5; fill = length (proof_text S.pack S.name (e₁.undone.lines ++ (def_line (pattern_of e₁ p).head ws ∷ []))) } ∷ []);
          value = defined (tally e₁.undone.lines).definitions;
          state = with_def p ws e₁;
          is_so = word_none deeper p e q ∙ then_some (deeper args) (λ vs. define S p vs) e e₁ C.notes ws _ _ _ C.is_so (define_is p ws e₁);
          spells = spells_then (suc p) e e₁ (with_def p ws e₁) (spells_more p (suc p) e e₁ (omega arith) C.spells) (spells_def e₁ p ws n);
          holds = word-new e₁ p ws n;
        }
  ]

  -- patterns do, from the left
  pub words_names : (d k : ℕ) → k ≤ d → (ps : List ℕ) (e : Emitter) → Earlier e.kept.store → Below k ps → Below (length e.kept.store) ps → Names k (λ ws e₁. Unit {0}) (words d S ps) e
  unfolding words
  words_names zero k h [] e E b l = record { notes = []; value = []; state = e; is_so = refl; spells = spells_none k e; holds = tt }
  words_names zero k h (p ∷ ps) e E b l = absurd (let z = b.0 in omega arith)
  words_names (suc d) k h [] e E b l = record { notes = []; value = []; state = e; is_so = refl; spells = spells_none k e; holds = tt }
  words_names (suc d) k h (p ∷ ps) e E b l =
      let low : p < k = b.0 in
      let W = word_names (λ qs. words d S qs) p (λ qs e₁ E₁ c m. words_names d p (omega arith) qs e₁ E₁ c m) e E l.0 in
      let same : W.state.kept.store ≡ e.kept.store = ap (λ (x : Kept). x.store) W.spells.kept in
      let X = words_names (suc d) k h ps W.state (subst Earlier (sym same) E) b.1 (subst (λ (s : List Node). Below (length s) ps) (sym same) l.1) in
      record {
        notes = W.notes ++ (X.notes ++ []);
        value = W.value ∷ X.value;
        state = X.state;
        is_so = then_some (word S (λ qs. words d S qs) p) _ e W.state W.notes W.value (X.notes ++ []) _ X.state W.is_so
            (then_some (words (suc d) S ps) _ W.state X.state X.notes X.value [] _ X.state X.is_so (refl {a = came [] (some (W.value ∷ X.value)) X.state}));
        spells = spells_then k e W.state X.state (spells_more (suc p) k e W.state (omega arith) W.spells) X.spells;
        holds = tt;
      }
