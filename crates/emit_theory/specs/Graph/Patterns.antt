-- Patterns of a well-sorted store as terms: a pattern whose variables have these sorts is a term whose variables do.
use Rattle.std.specs.Prelude.{◌≡◌, true, List, [], ◌∷◌, ℕ, ◌<◌, length, get_or}
use Rattle.std.proofs.Common.{sym, ap, ◌∙◌, subst}
use Rattle.definition.specs.Test.{never}
use Rattle.definition.specs.Pack.{Node, no_node, Pack, symbol_of}
use Rattle.definition.specs.Verdict.{value_of}
use Rattle.definition.specs.Store.{variable_node, is_variable, term_of}
use Rattle.theory.specs.Copies.Terms.{Earlier, terms_at, term_variable, term_applied}
use Rattle.theory.specs.Copies.Copying.{pattern_sort}
use Rattle.theory.specs.Patterns.Sorted.{SortedPattern, SortedPatterns, variable, application, none, more, variable_is}
use Rattle.emit_theory.specs.Stores.{Sorted, SortedStore}
use Rattle.emit_theory.specs.Spoken.{Spoken, SpokenAll, is_L, named, over, none as no-spoken, more as more-spoken}
use Rattle.emit_theory.specs.Graph.Intern.{node_sort, sort-node, node_sort-variable, node_sort_application}
use Rattle.emit_theory.specs.Graph.Terms.{TermOf, TermsOf}

-- a well-sorted pattern as a term, and patterns
module _ (P : Pack) (s : List Node) (E : Earlier s) (sorts : ℕ → ℕ) where
  mutual
    unfolding terms_at

    pub pattern_term : (p so : ℕ) → SortedPattern P s sorts p so → TermOf P sorts (term_of s p) so
    pattern_term _ _ (variable p k so l e f) =
        let q : term_of s p ≡ _ = term_variable s E p l (variable_is (get_or s p no_node) k (sorts k) e) in
        let n : get_or (get_or s p no_node).args 0 0 ≡ k = ap (λ (v : Node). get_or v.args 0 0) e in
        rw (q, n) f
    pattern_term _ _ (application p so l v h o args a S) =
        rw (term_applied s E p l v, a) (h, o, patterns_terms args (symbol_of P (get_or s p no_node).head).inputs S)

    pub patterns_terms : (ps ss : List ℕ) → SortedPatterns P s sorts ps ss → TermsOf P sorts (terms_at s ps) ss
    patterns_terms _ _ none = tt
    patterns_terms _ _ (more p so ps ss S Ss) = (pattern_term p so S, patterns_terms ps ss Ss)

-- a store in which L is a variable of this sort
module _ (P : Pack) (s : List Node) (S : SortedStore P s) (L so : ℕ) (l : L < length s) (v : is_variable (get_or s L no_node) ≡ true) (e : pattern_sort P s L ≡ so) where
  -- L itself
  L_sorted : SortedPattern P s (λ k. so) L (pattern_sort P s L)
  L_sorted =
      let n = get_or s L no_node in
      let k = get_or n.args 0 0 in
      let q : n ≡ variable_node k (get_or n.args 1 0) = (S L l).variable v in
      let t : get_or n.args 1 0 ≡ so = sym (sort-node P s L ∙ ap (node_sort P) q ∙ node_sort-variable P k (get_or n.args 1 0)) ∙ e in
      variable L k (pattern_sort P s L) l (q ∙ ap (variable_node k) t) (sym e)

  -- a pattern without other variables is well sorted, and so are patterns
  mutual
    unfolding value_of

    pub spoken_sorted : (p : ℕ) → Spoken L [] s p → SortedPattern P s (λ k. so) p (pattern_sort P s p)
    spoken_sorted _ (is_L p q) = rw q L_sorted
    spoken_sorted _ (named p k q) = never (cc)
    spoken_sorted _ (over p m w args a A) =
        let N = S p m in
        application p (pattern_sort P s p) m w (N.head w) (sym (sort-node P s p ∙ node_sort_application P (get_or s p no_node) w)) args a
        (spokens_sorted args A (symbol_of P (get_or s p no_node).head).inputs p (rw a at (N.args w)))

    pub spokens_sorted : (ps : List ℕ) → SpokenAll L [] s ps → (ss : List ℕ) (i : ℕ) → Sorted P s i ss ps → SortedPatterns P s (λ k. so) ps ss
    spokens_sorted _ no-spoken [] i q = none
    spokens_sorted _ no-spoken (t ∷ ss) i q = absurd q
    spokens_sorted _ (more-spoken p ps A As) [] i q = absurd q
    spokens_sorted _ (more-spoken p ps A As) (t ∷ ss) i q = more p t ps ss (subst (SortedPattern P s (λ k. so) p) q.1 (spoken_sorted p A)) (spokens_sorted ps As ss i q.2)
