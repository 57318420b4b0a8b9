-- A rule's words against the nodes of a well-sorted store, word by word: the same as the definition's matching of its terms.
use Rattle.std.specs.Prelude.{◌≡◌, refl, false, ℕ, suc, ◌+◌, ◌-◌, ◌<◌, eqb, length, get_or}
use Rattle.std.proofs.Common.{sym, ◌∙◌, arith, le-leb, eqb-true}
use Rattle.std.proofs.Math.Path.{ap}
use mathlib.Core.List.{List, [], ◌∷◌, ◌++◌, append-nil, append_assoc}
use Rattle.std.proofs.lemmas.Bool.{lt-leb}
use Rattle.definition.specs.Pack.{Term, Terms, var, app, nil, cons, Node, no_node, Pack, symbol_of, node_of}
use Rattle.definition.specs.Theory.{variable}
use Rattle.definition.specs.Verdict.{Bound, onwards, matches, match_all}
use Rattle.definition.specs.Good.{Below, Sorted as SortedTerm, SortedAll as SortedTerms, Few}
use Rattle.definition.specs.Store.{is_variable}
use Rattle.definition.proofs.Laws.Prefix.{term_words, terms_words}
use Rattle.definition.proofs.Laws.Grow.{below_more}
use Rattle.definition.proofs.Laws.Agreement.{onwards-same}
use Rattle.emission.specs.Patterns.{over}
use Rattle.emit_theory.specs.Stores.{Sorted, SortedStore, sorted_below}
use Rattle.emit_theory.specs.Graph.Intern.{symbol-node}
use Rattle.check_steps.specs.Words.{match_words, onwards_twice, onwards_stop, provided-onwards}

-- as many patterns as sorts
sorted_many : (P : Pack) (s : List Node) (i : ℕ) (sorts ps : List ℕ) → Sorted P s i sorts ps → length ps ≡ length sorts
sorted_many P s i [] [] h = refl
sorted_many P s i [] (p ∷ ps) h = absurd h
sorted_many P s i (so ∷ sorts) [] h = absurd h
sorted_many P s i (so ∷ sorts) (p ∷ ps) h = ap suc (sorted_many P s i sorts ps h.2)

module _ (P : Pack) (F : Few P) (s : List Node) (W : SortedStore P s) where
  -- a pattern with a symbol on top has as many arguments as that has inputs, and they stand in the store
  module _ (n : ℕ) (l : n < length s) (h : ℕ) (k : h < length P.symbols) (e : (get_or s n no_node).head ≡ h) where
    applied : is_variable (get_or s n no_node) ≡ false
    applied = symbol-node P F (get_or s n no_node) (omega (arith, e, k))

    pub arguments_many : length (get_or s n no_node).args ≡ length (symbol_of P h).inputs
    arguments_many = sorted_many P s n (symbol_of P (get_or s n no_node).head).inputs (get_or s n no_node).args ((W n l).args applied) ∙ ap (λ (x : ℕ). length (symbol_of P x).inputs) e

    pub arguments_below : Below (length s) (get_or s n no_node).args
    arguments_below = below_more n (length s) (get_or s n no_node).args (omega arith) (sorted_below P s n (symbol_of P (get_or s n no_node).head).inputs (get_or s n no_node).args ((W n l).args applied))

  -- a term's words, then the others
  module _ (vars : List ℕ) where
    mutual
      unfolding match_words term_words matches onwards node_of

      pub words_term : (t : Term) (so : ℕ) → SortedTerm P vars t so → (n : ℕ) → n < length s → (ws ns : List ℕ) (bs : List Bound)
          → match_words (over P s) (term_words t ++ ws) (n ∷ ns) bs ≡ onwards (matches (over P s) t n bs) (λ cs. match_words (over P s) ws ns cs)
      words_term (var k) so T n l ws ns bs =
          let e : variable + k - variable ≡ k = omega arith in
          rw (le-leb variable (variable + k) (omega arith), e, match_words)
      words_term (app h ts) so T n l ws ns bs =
          rw (lt-leb variable h (omega (arith, T.0, F.symbols)), match_words)
          (provided-onwards (eqb (get_or s n no_node).head h) _ (match_all (over P s) ts (get_or s n no_node).args bs) _ (λ t.
          let e : (get_or s n no_node).head ≡ h = eqb-true _ _ t in
          words_terms ts (symbol_of P h).inputs T.2 (get_or s n no_node).args (arguments_many n l h T.0 e) (arguments_below n l h T.0 e) ws ns bs))

      pub words_terms : (ts : Terms) (sorts : List ℕ) → SortedTerms P vars ts sorts → (us : List ℕ) → length us ≡ length sorts → Below (length s) us → (ws ns : List ℕ) (bs : List Bound)
          → match_words (over P s) (terms_words ts ++ ws) (us ++ ns) bs ≡ onwards (match_all (over P s) ts us bs) (λ cs. match_words (over P s) ws ns cs)
      words_terms nil [] T [] m b ws ns bs = refl
      words_terms nil [] T (a ∷ us) m b ws ns bs = absurd (omega arith)
      words_terms nil (so ∷ sorts) T us m b ws ns bs = absurd T
      words_terms (cons t ts) [] T us m b ws ns bs = absurd T
      words_terms (cons t ts) (so ∷ sorts) T [] m b ws ns bs = absurd (omega arith)
      words_terms (cons t ts) (so ∷ sorts) T (a ∷ us) m b ws ns bs =
          rw (append_assoc (term_words t) (terms_words ts) ws)
          (words_term t so T.0 a b.0 (terms_words ts ++ ws) (us ++ ns) bs
          ∙ onwards-same (matches (over P s) t a bs) _ _ (λ cs. words_terms ts sorts T.1 us (omega arith) b.1 ws ns cs)
          ∙ onwards_twice (matches (over P s) t a bs) (λ cs. match_all (over P s) ts us cs) (λ cs. match_words (over P s) ws ns cs))

    -- one term's words against one pattern
    pub words-alone : (t : Term) (so : ℕ) → SortedTerm P vars t so → (n : ℕ) → n < length s → (bs : List Bound) → match_words (over P s) (term_words t) (n ∷ []) bs ≡ matches (over P s) t n bs
    unfolding match_words
    words-alone t so T n l bs =
        ap (λ (ws : List ℕ). match_words (over P s) ws (n ∷ []) bs) (sym (append-nil (term_words t)))
        ∙ words_term t so T n l [] [] bs
        ∙ onwards_stop (matches (over P s) t n bs)
