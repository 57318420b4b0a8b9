-- What is left of a rule's words: those of as many terms as there are nodes to be matched.
use Rattle.std.specs.Prelude.{◌≡◌, refl, List, [], ◌∷◌, ◌++◌, ℕ, suc, ◌+◌, ◌-◌, ◌<◌, ◌≤◌, length, get_or, drop}
use Rattle.std.proofs.Common.{sym, ap, subst, ◌∙◌, append-nil, arith, length-append, length-drop, drop-cons}
use Rattle.definition.specs.Pack.{prop, Term, Terms, var, app, nil, cons, Pack, symbol_of}
use Rattle.definition.specs.Theory.{variable}
use Rattle.definition.specs.Good.{Sorted, SortedAll, Few}
use Rattle.definition.proofs.Laws.Prefix.{term_words, terms_words}
use Rattle.definition.proofs.Laws.Suffix.{joined, joined_words, joined_sorted, words_some}

-- the words of k terms, each of its sort
pub record Pending (P : Pack) (vars ws : List ℕ) (k : ℕ) : Type 0 where
  pub terms : Terms
  pub sorts : List ℕ
  pub sorted : SortedAll P vars terms sorts
  pub words : ws ≡ terms_words terms
  pub many : length sorts ≡ k

-- a rule's premises and its conclusion
pub rule-pending : (P : Pack) (vars : List ℕ) (ts : Terms) (t : Term) (ss : List ℕ) → SortedAll P vars ts ss → Sorted P vars t prop → (k : ℕ) → length (ss ++ (prop ∷ [])) ≡ k → Pending P vars (terms_words ts ++ term_words t) k
unfolding terms_words
rule-pending P vars ts t ss S C k m = record {
  terms = joined ts (cons t nil);
  sorts = ss ++ (prop ∷ []);
  sorted = joined_sorted P vars ts (cons t nil) ss (prop ∷ []) S (C, tt);
  words = sym (joined_words ts (cons t nil) ∙ ap (λ (l : List ℕ). terms_words ts ++ l) (append-nil (term_words t)));
  many = m;
}

-- there are as many words as terms at least
pub pending-most : (P : Pack) (vars ws : List ℕ) (k : ℕ) → Pending P vars ws k → k ≤ length ws
pending-most P vars ws k p = omega (arith, words_some P vars p.terms p.sorts p.sorted, ap length p.words, p.many)

-- no term, no word
pub pending-none : (P : Pack) (vars ws : List ℕ) → Pending P vars ws 0 → ws ≡ []
unfolding terms_words
pending-none P vars ws p = p.words ∙ none p.terms p.sorts p.sorted p.many
  where
    none : (ts : Terms) (ss : List ℕ) → SortedAll P vars ts ss → length ss ≡ 0 → terms_words ts ≡ []
    none nil ss S e = refl
    none (cons t ts) [] S e = absurd S
    none (cons t ts) (s ∷ ss) S e = absurd (omega arith)

-- the first word of some terms: a variable, or a symbol over others
pub data First (P : Pack) (vars ws : List ℕ) (k : ℕ) : Type 0 where
  a_variable : (v : ℕ) (rest : List ℕ) → v < length vars → ws ≡ (variable + v) ∷ rest → Pending P vars rest k → First P vars ws k
  a_symbol : (h : ℕ) (rest : List ℕ) → h < length P.symbols → ws ≡ h ∷ rest → Pending P vars rest (length (symbol_of P h).inputs + k) → First P vars ws k

pub pending-first : (P : Pack) (vars ws : List ℕ) (k : ℕ) → Pending P vars ws (suc k) → First P vars ws k
unfolding terms_words term_words
pending-first P vars ws k p = first p.terms p.sorts p.sorted p.words p.many
  where
    first : (ts : Terms) (ss : List ℕ) → SortedAll P vars ts ss → ws ≡ terms_words ts → length ss ≡ suc k → First P vars ws k
    first nil [] S e m = absurd (omega arith)
    first nil (s ∷ ss) S e m = absurd S
    first (cons t ts) [] S e m = absurd S
    first (cons (var v) ts) (s ∷ ss) S e m = a_variable v (terms_words ts) S.0.0 e (record { terms = ts; sorts = ss; sorted = S.1; words = refl; many = omega arith })
    first (cons (app h us) ts) (s ∷ ss) S e m =
        a_symbol h (terms_words us ++ terms_words ts) S.0.0 e
        (record {
          terms = joined us ts;
          sorts = (symbol_of P h).inputs ++ ss;
          sorted = joined_sorted P vars us ts (symbol_of P h).inputs ss S.0.2 S.1;
          words = sym (joined_words us ts);
          many = length-append (symbol_of P h).inputs ss ∙ ap (λ (n : ℕ). length (symbol_of P h).inputs + n) (omega (arith, m));
        })

-- ---- the same by the place of the next word
module _ (P : Pack) (F : Few P) (vars W : List ℕ) (i k : ℕ) (p : Pending P vars (drop i W) (suc k)) where
  pub word_there : i < length W
  word_there = omega (arith, pending-most P vars (drop i W) (suc k) p, length-drop i W)

  split : drop i W ≡ get_or W i 0 ∷ drop (suc i) W
  split = drop-cons W i 0 word_there

  heads : {a b : ℕ} {xs ys : List ℕ} → ◌≡◌ {A = List ℕ} (a ∷ xs) (b ∷ ys) → (a ≡ b) × (xs ≡ ys)
  heads e = (cc, cc)

  pub next-variable : variable ≤ get_or W i 0 → (get_or W i 0 - variable < length vars) × Pending P vars (drop (suc i) W) k
  next-variable l = next (pending-first P vars (drop i W) k p)
    where
      next : First P vars (drop i W) k → (get_or W i 0 - variable < length vars) × Pending P vars (drop (suc i) W) k
      next (a_variable v rest h e q) =
          let f = heads (sym split ∙ e) in
          (omega (arith, f.0, h), subst (λ (ws : List ℕ). Pending P vars ws k) (sym f.1) q)
      next (a_symbol h rest b e q) = let f = heads (sym split ∙ e) in absurd (omega (arith, f.0, b, F.symbols, l))

  pub next-symbol : get_or W i 0 < variable → (get_or W i 0 < length P.symbols) × Pending P vars (drop (suc i) W) (length (symbol_of P (get_or W i 0)).inputs + k)
  next-symbol l = next (pending-first P vars (drop i W) k p)
    where
      next : First P vars (drop i W) k → (get_or W i 0 < length P.symbols) × Pending P vars (drop (suc i) W) (length (symbol_of P (get_or W i 0)).inputs + k)
      next (a_variable v rest h e q) = let f = heads (sym split ∙ e) in absurd (omega (arith, f.0, l))
      next (a_symbol h rest b e q) =
          let f = heads (sym split ∙ e) in
          rw (f.0, f.1) (b, q)
