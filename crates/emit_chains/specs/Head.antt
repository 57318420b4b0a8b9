-- The predicate that a rule concludes: the first word of its conclusion, behind the premises' words.
use Rattle.std.specs.Prelude.{◌≡◌, refl, List, ◌++◌, ℕ, ◌+◌, ◌<◌, ◌≤◌, length, get_or}
use Rattle.std.proofs.Common.{ap, ◌∙◌, arith, length-append}
use Rattle.std.proofs.lemmas.List.{get_or_at}
use Rattle.definition.specs.Pack.{prop, Term, var, app, Pack, rule_of}
use Rattle.definition.specs.Good.{Below, Sorted}
use Rattle.definition.proofs.Laws.Prefix.{term_words, terms_words}
use Rattle.definition.proofs.Laws.Grow.{below_at}
use Rattle.definition.proofs.Laws.Suffix.{term_some}
use Rattle.pack_read.specs.Reads.{rule_words}
use Rattle.pack_read.specs.Held.{Proper}

-- the symbol on top of a term; a variable has none
unfoldable pub top_of : Term → ℕ
top_of (var k) = 0
top_of (app h ts) = h

-- a judgment's first word is the symbol on top of it, since no variable is of the sort prop
judgment-first : (P : Pack) (vars : List ℕ) → Below (length P.sorts) vars → length P.sorts ≤ 256 → (t : Term) → Sorted P vars t prop → (ws : List ℕ) → get_or (ws ++ term_words t) (length ws) 0 ≡ top_of t
unfolding term_words top_of
judgment-first P vars b few (var k) S ws = absurd (omega (arith, below_at (length P.sorts) vars k b S.0, S.1, few))
judgment-first P vars b few (app h ts) S ws = get_or_at ws h (terms_words ts) 0 (length ws) refl

-- behind the premises' words stands the conclusion's first
module _ (P : Pack) (Q : Proper P) (r : ℕ) (l : r < length P.rules) where
  abbrev A : List ℕ
  A = terms_words (rule_of P r).premises

  abbrev C : List ℕ
  C = term_words (rule_of P r).conclusion

  module _ (i : ℕ) (passed : i ≡ 0 + length A) where
    pub conclusion_there : i < length (rule_words (rule_of P r))
    conclusion_there = omega (arith, passed, length-append A C, term_some (rule_of P r).conclusion)

    pub conclusion-first : (w : ℕ) → w ≡ get_or (rule_words (rule_of P r)) i 0 → w ≡ top_of (rule_of P r).conclusion
    conclusion-first w word =
        let all : i ≡ length A = omega (arith, passed) in
        word ∙ ap (λ (j : ℕ). get_or (A ++ C) j 0) all ∙ judgment-first P (rule_of P r).vars (Q.good.rules r l).vars Q.few.sorts (rule_of P r).conclusion (Q.good.rules r l).conclusion A
