-- However deep a pattern's words may be sought, they are the same: patterns by themselves, one behind the other.
use Rattle.std.specs.Prelude.{◌≡◌, length}
use Rattle.std.proofs.Math.Path.{refl}
use Rattle.std.proofs.Common.{sym, ap, subst, ◌∙◌}
use mathlib.Core.List.{List, [], ◌∷◌}
use Rattle.std.proofs.Math.Option.{none, some}
use Prim.Native.Nat.{ℕ, zero, suc, ◌≤◌}
use native.Mathlib.Omega.{arith}
use Rattle.definition.specs.Test.{is, see}
use Rattle.definition.specs.Pack.{Node}
use Rattle.definition.specs.Good.{Below}
use Rattle.definition.proofs.Laws.Grow.{below_more}
use Rattle.definition.specs.Run.{Run}
use Rattle.emission.specs.Line.{Word}
use Rattle.emission.specs.State.{Emitter, Setting, Kept, Tried, Search, ◌>>=◌, give}
use Rattle.emission.specs.Words.{pattern_of, word_of, define, word, words}
use Rattle.theory.specs.Copies.Terms.{Earlier}
use Rattle.emit_theory.specs.Came.{came}
use Rattle.emit_words.specs.Searches.{then_same, then_on}
use Rattle.emit_words.specs.Naming.{Spells, Names, word_some, word_none, lacks_below, word_names, words_names}

-- patterns of a store whose nodes rest on earlier ones
pub record Sits (e : Emitter) (ps : List ℕ) : Type 0 where
  pub earlier : Earlier e.kept.store
  pub within : Below (length e.kept.store) ps

-- they are so in a later state
pub sits_on : (d : ℕ) (e e' : Emitter) (ps : List ℕ) → Spells d e e' → Sits e ps → Sits e' ps
sits_on d e e' ps N K =
    let same : e'.kept.store ≡ e.kept.store = ap (λ (x : Kept). x.store) N.kept in
    record { earlier = subst Earlier (sym same) K.earlier; within = subst (λ (s : List Node). Below (length s) ps) (sym same) K.within }

-- a pattern is what it was
pub spells_pattern : (d : ℕ) (e e' : Emitter) (p : ℕ) → Spells d e e' → pattern_of e' p ≡ pattern_of e p
spells_pattern d e e' p N = ap (λ (x : Kept). pattern_of (record { undone = e.undone; kept = x }) p) N.kept

module _ (S : Setting) where
  -- a pattern's own arguments
  pub sits_args : (e : Emitter) (p : ℕ) → Sits e (p ∷ []) → word_of e p ≡ none → Sits e (pattern_of e p).args
  sits_args e p K q = record { earlier = K.earlier; within = below_more p (length e.kept.store) (pattern_of e p).args (let z = K.within.0 in omega arith) (lacks_below e p K.earlier K.within.0 q) }

  -- a word by arguments' words that are the same
  word_same : (f g : List ℕ → Search (List Word)) (p : ℕ) → ((qs : List ℕ) (e : Emitter) → Sits e qs → Below p qs → f qs e ≡ g qs e) → (e : Emitter) → Sits e (p ∷ []) → word S f p e ≡ word S g p e
  word_same f g p h e K = elim (see (word_of e p)) [
    | is (some w) q ↦ word_some S f p e w q ∙ sym (word_some S g p e w q)
    | is none q ↦
        let args = (pattern_of e p).args in
        word_none S f p e q ∙ then_same (f args) (g args) (λ ws. define S p ws) e (h args e (sits_args e p K q) (lacks_below e p K.earlier K.within.0 q)) ∙ sym (word_none S g p e q)
  ]

  -- a depth beyond the patterns' numbers changes nothing
  pub words_enough : (d d' : ℕ) (ps : List ℕ) (e : Emitter) → Sits e ps → Below d ps → Below d' ps → words d S ps e ≡ words d' S ps e
  unfolding words
  words_enough zero zero [] e K b c = refl
  words_enough zero (suc d') [] e K b c = refl
  words_enough (suc d) zero [] e K b c = refl
  words_enough (suc d) (suc d') [] e K b c = refl
  words_enough zero d' (p ∷ ps) e K b c = absurd (let z = b.0 in omega arith)
  words_enough (suc d) zero (p ∷ ps) e K b c = absurd (let z = c.0 in omega arith)
  words_enough (suc d) (suc d') (p ∷ ps) e K b c =
      let m : Search Word = word S (λ qs. words d S qs) p in
      let m' : Search Word = word S (λ qs. words d' S qs) p in
      let l : p ≤ d = let z = b.0 in omega arith in
      let l' : p ≤ d' = let z = c.0 in omega arith in
      let W = word_names S (λ qs. words d' S qs) p (λ qs e₁ E₁ low m. words_names S d' p l' qs e₁ E₁ low m) e K.earlier K.within.0 in
      let same = word_same (λ qs. words d S qs) (λ qs. words d' S qs) p (λ qs e₁ J low. words_enough d d' qs e₁ J (below_more p d qs l low) (below_more p d' qs l' low)) e (record { earlier = K.earlier; within = (K.within.0, tt) }) in
      let f : ℕ → Word → Search (List Word) = λ k w. words k S ps >>= λ ws. give (w ∷ ws) in
      then_same m m' (f (suc d)) e same
      ∙ then_on m' e W.state W.notes W.value W.is_so (f (suc d)) (f (suc d'))
      (then_same (words (suc d) S ps) (words (suc d') S ps) (λ ws. give (W.value ∷ ws)) W.state
      (words_enough (suc d) (suc d') ps W.state (sits_on (suc p) e W.state ps W.spells (record { earlier = K.earlier; within = K.within.1 })) b.1 c.1))

-- a pattern, sought no deeper than its own number
unfoldable pub naming : Setting → ℕ → Emitter → Run (Tried Word)
unfolding word words
naming S p = word S (λ qs. words p S qs) p

-- patterns one behind the other
unfoldable pub namings : Setting → List ℕ → Emitter → Run (Tried (List Word))
unfolding naming
namings S [] = give []
namings S (p ∷ ps) = do
  w ← naming S p
  ws ← namings S ps
  give (w ∷ ws)

module _ (S : Setting) where
  -- what naming a pattern does
  pub naming_names : (p : ℕ) (e : Emitter) → Sits e (p ∷ []) → Names S (suc p) (λ w e₁. word_of e₁ p ≡ some w) (naming S p) e
  unfolding naming
  naming_names p e K = word_names S (λ qs. words p S qs) p (λ qs e₁ E₁ low m. words_names S p p (omega arith) qs e₁ E₁ low m) e K.earlier K.within.0

  -- words are patterns one behind the other
  pub words_are : (d : ℕ) (ps : List ℕ) (e : Emitter) → Sits e ps → Below d ps → words d S ps e ≡ namings S ps e
  unfolding words namings naming
  words_are zero [] e K b = refl
  words_are (suc d) [] e K b = refl
  words_are zero (p ∷ ps) e K b = absurd (let z = b.0 in omega arith)
  words_are (suc d) (p ∷ ps) e K b =
      let l : p ≤ d = let z = b.0 in omega arith in
      let one : Sits e (p ∷ []) = record { earlier = K.earlier; within = (K.within.0, tt) } in
      let N = naming_names p e one in
      let same = word_same S (λ qs. words d S qs) (λ qs. words p S qs) p (λ qs e₁ J low. words_enough S d p qs e₁ J (below_more p d qs l low) low) e one in
      let f : Word → Search (List Word) = λ w. words (suc d) S ps >>= λ ws. give (w ∷ ws) in
      let g : Word → Search (List Word) = λ w. namings S ps >>= λ ws. give (w ∷ ws) in
      then_same (word S (λ qs. words d S qs) p) (naming S p) f e same
      ∙ then_on (naming S p) e N.state N.notes N.value N.is_so f g
      (then_same (words (suc d) S ps) (namings S ps) (λ ws. give (N.value ∷ ws)) N.state
      (words_are (suc d) ps N.state (sits_on (suc p) e N.state ps N.spells (record { earlier = K.earlier; within = K.within.1 })) b.1))

  -- a pattern that has a word
  pub naming_had : (p : ℕ) (e : Emitter) (w : Word) → word_of e p ≡ some w → naming S p e ≡ came [] (some w) e
  unfolding naming
  naming_had p e w q = word_some S (λ qs. words p S qs) p e w q

  -- one that has none
  pub naming_lacks : (p : ℕ) (e : Emitter) → Sits e (p ∷ []) → word_of e p ≡ none → naming S p e ≡ (namings S (pattern_of e p).args >>= λ ws. define S p ws) e
  unfolding naming
  naming_lacks p e K q =
      let args = (pattern_of e p).args in
      word_none S (λ qs. words p S qs) p e q ∙ then_same (words p S args) (namings S args) (λ ws. define S p ws) e (words_are p args e (sits_args S e p K q) (lacks_below e p K.earlier K.within.0 q))
