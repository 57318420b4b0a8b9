-- A pattern's arguments are named first, from the left: naming the first of them that has no word, and then the pattern, is naming the
-- pattern. What is still to be named on the way to a judgment's line.
use Rattle.std.specs.Prelude.{◌≡◌, false}
use Rattle.std.proofs.Math.Path.{refl, subst}
use Rattle.std.proofs.Common.{sym, ap, ◌∙◌}
use mathlib.Core.List.{List, [], ◌∷◌, map}
use Rattle.std.proofs.Math.Option.{none, some}
use Prim.Native.Nat.{ℕ, zero, suc, ◌<◌}
use native.Mathlib.Omega.{arith}
use Rattle.std.proofs.Math.ListN.{length, get_or}
use Rattle.definition.specs.Pack.{Node}
use Rattle.definition.specs.Good.{Below}
use Rattle.definition.specs.Store.{is_variable}
use Rattle.definition.proofs.Laws.Grow.{below_more, below_at}
use Rattle.emission.specs.Line.{Word, Judgment}
use Rattle.emission.specs.State.{Emitter, Setting, Search, ◌>>=◌, give}
use Rattle.emission.specs.Words.{pattern_of, word_of, define, words, judgment}
use Rattle.theory.specs.Copies.Terms.{below-applied}
use Rattle.emit_theory.specs.Came.{came}
use Rattle.emit_state.specs.Searches.{now_then, then_assoc}
use Rattle.emit_words.specs.Searches.{then_same, then_on, then_quiet}
use Rattle.emit_words.specs.Enough.{Sits, sits_on, spells_pattern, sits_args, naming, namings, naming_names, words_are, naming_had, naming_lacks}

-- the first n of these patterns have words
abbrev pub Worded : Emitter → List ℕ → ℕ → Type 0
Worded e ps n = (i : ℕ) → i < n → (w : Word) × (word_of e (get_or ps i 0) ≡ some w)

module _ (S : Setting) where
  -- the i-th of some patterns may be named first, if those ahead of it have words
  pub namings-first : (ps : List ℕ) (i : ℕ) (e : Emitter) → Sits e ps → i < length ps → Worded e ps i → namings S ps e ≡ (naming S (get_or ps i 0) >>= λ _. namings S ps) e
  unfolding namings
  namings-first [] i e K l h = absurd (omega arith)
  namings-first (p ∷ ps) zero e K l h =
      let N = naming_names S p e (record { earlier = K.earlier; within = (K.within.0, tt) }) in
      let f : Word → Search (List Word) = λ w. namings S ps >>= λ ws. give (w ∷ ws) in
      then_on (naming S p) e N.state N.notes N.value N.is_so f (λ _. namings S (p ∷ ps)) (sym (then_quiet (naming S p) N.state N.value f (naming_had S p N.state N.value N.holds)))
  namings-first (p ∷ ps) (suc i) e K l h =
      let a = get_or ps i 0 in
      let K₁ : Sits e ps = record { earlier = K.earlier; within = K.within.1 } in
      let low : i < length ps = omega arith in
      let N = naming_names S a e (record { earlier = K.earlier; within = (below_at (length e.kept.store) ps i K.within.1 low, tt) }) in
      let w = h zero (omega arith) in
      let f : Word → Search (List Word) = λ v. namings S ps >>= λ ws. give (v ∷ ws) in
      then_quiet (naming S p) e w.0 f (naming_had S p e w.0 w.1)
      ∙ then_same (namings S ps) (naming S a >>= λ _. namings S ps) (λ ws. give (w.0 ∷ ws)) e (namings-first ps i e K₁ low (λ k m. h (suc k) (omega arith)))
      ∙ then_assoc (naming S a) (λ _. namings S ps) (λ ws. give (w.0 ∷ ws)) e
      ∙ then_on (naming S a) e N.state N.notes N.value N.is_so (λ _. f w.0) (λ _. namings S (p ∷ ps)) (sym (then_quiet (naming S p) N.state w.0 f (naming_had S p N.state w.0 (N.spells.keeps p w.0 w.1))))

  -- patterns that all have words give them
  pub namings_had : (f : ℕ → Word) (ps xs : List ℕ) (e : Emitter) → length xs ≡ length ps → ((i : ℕ) → i < length ps → word_of e (get_or ps i 0) ≡ some (f (get_or xs i 0))) → namings S ps e ≡ came [] (some (map f xs)) e
  unfolding namings
  namings_had f [] [] e l h = refl
  namings_had f [] (x ∷ xs) e l h = absurd (omega arith)
  namings_had f (p ∷ ps) [] e l h = absurd (omega arith)
  namings_had f (p ∷ ps) (x ∷ xs) e l h =
      then_quiet (naming S p) e (f x) _ (naming_had S p e (f x) (h zero (omega arith)))
      ∙ then_quiet (namings S ps) e (map f xs) _ (namings_had f ps xs e (omega arith) (λ i m. h (suc i) (omega arith)))

  -- so a pattern without a word
  pub naming-first : (p i : ℕ) (e : Emitter) → Sits e (p ∷ []) → word_of e p ≡ none → i < length (pattern_of e p).args → Worded e (pattern_of e p).args i → get_or (pattern_of e p).args i 0 < p
      → naming S p e ≡ (naming S (get_or (pattern_of e p).args i 0) >>= λ _. naming S p) e
  naming-first p i e K q l h low =
      let args = (pattern_of e p).args in
      let a = get_or args i 0 in
      let A = sits_args S e p K q in
      let N = naming_names S a e (record { earlier = K.earlier; within = (below_at (length e.kept.store) args i A.within l, tt) }) in
      let e₁ = N.state in
      let d : List Word → Search Word = λ ws. define S p ws in
      let same = spells_pattern (suc a) e e₁ p N.spells in
      let then : naming S p e₁ ≡ (namings S args >>= d) e₁ = naming_lacks S p e₁ (sits_on (suc a) e e₁ (p ∷ []) N.spells K) (N.spells.above p (omega arith) ∙ q) ∙ ap (λ (n : Node). (namings S n.args >>= d) e₁) same in
      naming_lacks S p e K q
      ∙ then_same (namings S args) (naming S a >>= λ _. namings S args) d e (namings-first args i e A l h)
      ∙ then_assoc (naming S a) (λ _. namings S args) d e
      ∙ then_on (naming S a) e e₁ N.notes N.value N.is_so (λ _. namings S args >>= d) (λ _. naming S p) (sym then)

  -- a judgment's own words
  abbrev pub saying : ℕ → List Word → Search Judgment
  saying h = λ ws. give (record { predicate = h; words = ws })

  -- a judgment is its arguments named
  pub judgment_is : (j : ℕ) (e : Emitter) → Sits e (j ∷ []) → is_variable (pattern_of e j) ≡ false → judgment S j e ≡ (namings S (pattern_of e j).args >>= saying (pattern_of e j).head) e
  unfolding judgment
  judgment_is j e K v =
      let args = (pattern_of e j).args in
      let B : Below j args = subst (Below j) (below-applied (pattern_of e j) v) (K.earlier j K.within.0) in
      now_then _ e
      ∙ then_same (words (suc j) S args) (namings S args) _ e (words_are S (suc j) args e (record { earlier = K.earlier; within = below_more j (length e.kept.store) args (let z = K.within.0 in omega arith) B }) (below_more j (suc j) args (omega arith) B))

  -- and a judgment
  pub judgment-first : (j i : ℕ) (e : Emitter) → Sits e (j ∷ []) → is_variable (pattern_of e j) ≡ false → i < length (pattern_of e j).args → Worded e (pattern_of e j).args i
      → judgment S j e ≡ (naming S (get_or (pattern_of e j).args i 0) >>= λ _. judgment S j) e
  judgment-first j i e K v l h =
      let args = (pattern_of e j).args in
      let a = get_or args i 0 in
      let B : Below j args = subst (Below j) (below-applied (pattern_of e j) v) (K.earlier j K.within.0) in
      let A : Sits e args = record { earlier = K.earlier; within = below_more j (length e.kept.store) args (let z = K.within.0 in omega arith) B } in
      let N = naming_names S a e (record { earlier = K.earlier; within = (below_at (length e.kept.store) args i A.within l, tt) }) in
      let e₁ = N.state in
      let same = spells_pattern (suc a) e e₁ j N.spells in
      let d = saying (pattern_of e j).head in
      let then : judgment S j e₁ ≡ (namings S args >>= d) e₁ = judgment_is j e₁ (sits_on (suc a) e e₁ (j ∷ []) N.spells K) (ap is_variable same ∙ v) ∙ ap (λ (n : Node). (namings S n.args >>= saying n.head) e₁) same in
      judgment_is j e K v
      ∙ then_same (namings S args) (naming S a >>= λ _. namings S args) d e (namings-first args i e A l h)
      ∙ then_assoc (naming S a) (λ _. namings S args) d e
      ∙ then_on (naming S a) e e₁ N.notes N.value N.is_so (λ _. namings S args >>= d) (λ _. judgment S j) (sym then)
