-- Matching begun: no values, one pattern that waits, and the conclusion's first word; and what it answers.
use Rattle.std.specs.Prelude.{◌≡◌, Bool, true, false, List, [], ◌∷◌, ℕ, ◌+◌, ◌<◌, length, get_or, set, drop}
use Rattle.std.proofs.Common.{sym, ap, subst, ◌∙◌, arith, drop_at, get_or-set_other}
use Rattle.std.proofs.Math.Option.{none, some}
use Rattle.definition.specs.Pack.{prop, nil, cons, Node, Pack, rule_of}
use Rattle.definition.specs.Verdict.{Bound, matches}
use Rattle.definition.specs.Good.{Below}
use Rattle.definition.proofs.Laws.Prefix.{term_words, terms_words}
use Rattle.definition.proofs.Laws.Suffix.{all_words}
use Rattle.emission.specs.Patterns.{over}
use Rattle.base.specs.Outside.{Outside, outside_set}
use Rattle.base.specs.Stack.{stacked}
use Rattle.base.specs.declared.stack.Stack.{Stack}
use Rattle.pack_read.specs.Reads.{rule_words}
use Rattle.pack_read.specs.Held.{Proper}
use Rattle.check_steps.specs.Words.{match_words}
use Rattle.emit_theory.specs.Stores.{SortedStore, sorted_earlier}
use Rattle.emit_theory.specs.Again.Matching.{Within, within_none, match_within}
use Rattle.emit_maps.specs.Map.{Mapped, mapped_same}
use Rattle.emit_match.specs.Words.{words-alone}
use Rattle.emit_match.specs.Places.{Laid, Stays, stays_then, stays_values, stays_stack}
use Rattle.emit_match.specs.Partly.{Partly, rest, Ends}
use Rattle.emit_match.specs.declared.places.Matching.{Matching}

-- no variable has a value, and p alone waits
pub record Begun (work work' : List ℕ) (m : Matching) (p : ℕ) (t : Stack) : Type 0 where
  pub base : t.at ≡ m.stack
  pub one : t.len ≡ 1
  pub top : stacked m.stack t.len work' ≡ p ∷ []
  pub values : Mapped work' m.values 64 []
  pub stays : Stays m work work'

-- the answer to matching rule r against pattern p: values below the store's length, which work holds; or that there are none
abbrev pub Answers : Pack → List Node → Matching → ℕ → ℕ → List ℕ → Bool → Type 0
Answers P s m r p work' true = (bs : List Bound) × (matches (over P s) (rule_of P r).conclusion p [] ≡ some bs) × Mapped work' m.values 64 bs × Within (length s) bs
Answers P s m r p work' false = matches (over P s) (rule_of P r).conclusion p [] ≡ none

-- the values were cleared, then p was put on an empty stack
pub begun : (work cleared work' : List ℕ) (m : Matching) (p : ℕ) (t : Stack) → Laid work m → Mapped cleared m.values 64 [] → Outside m.values (m.values + 64) work cleared
    → (t.at ≡ m.stack) × (t.len ≡ 0 + 1) × (stacked t.at t.len work' ≡ p ∷ stacked m.stack 0 cleared) → work' ≡ set cleared (m.stack + 0) p → Begun work work' m p t
unfolding stacked
begun work cleared work' m p t L M O u w =
    let a : ℕ = m.values in
    record {
      base = u.0;
      one = u.1;
      top = ap (λ (k : ℕ). stacked k t.len work') (sym u.0) ∙ u.2;
      values = mapped_same cleared work' a 64 [] M (λ k h. ap (λ (xs : List ℕ). get_or xs (a + k) 0) w ∙ get_or-set_other cleared (m.stack + 0) (a + k) p 0 (λ (q : a + k ≡ m.stack + 0). omega (arith, L.apart)));
      stays =
          stays_then m work cleared work' (stays_values m work cleared L O)
          (stays_stack m cleared work' (record { apart = L.apart; room = omega (arith, L.room, O.long) }) m.stack (m.stack + 256) (omega arith) (omega arith) (subst (λ (xs : List ℕ). Outside m.stack (m.stack + 256) cleared xs) (sym w) (outside_set m.stack (m.stack + 256) cleared (m.stack + 0) p (omega arith) (omega arith))));
    }

module _ (P : Pack) (Q : Proper P) (s : List Node) (S : SortedStore P s) (m : Matching) (r : ℕ) (l : r < length P.rules) (i : ℕ) (passed : i ≡ length (terms_words (rule_of P r).premises)) (p : ℕ) (h : p < length s)
    (work work' : List ℕ) (t : Stack) (B : Begun work work' m p t) where
  conclusion-words : drop i (rule_words (rule_of P r)) ≡ term_words (rule_of P r).conclusion
  conclusion-words = drop_at (terms_words (rule_of P r).premises) (term_words (rule_of P r).conclusion) i (sym passed)

  pub begun_partly : Partly P s m r work' t i []
  begun_partly = record {
    base = B.base;
    pending = record { terms = cons (rule_of P r).conclusion nil; sorts = prop ∷ []; sorted = ((Q.good.rules r l).conclusion, tt); words = conclusion-words ∙ sym (all_words (rule_of P r).conclusion); many = sym B.one };
    below = subst (Below (length s)) (sym B.top) (h, tt);
    values = B.values;
  }

  begun-rest : rest P s m r work' t i [] ≡ matches (over P s) (rule_of P r).conclusion p []
  begun-rest =
      ap (λ (ws : List ℕ). match_words (over P s) ws (stacked m.stack t.len work') []) conclusion-words
      ∙ ap (λ (ns : List ℕ). match_words (over P s) (term_words (rule_of P r).conclusion) ns []) B.top
      ∙ words-alone P Q.few s S (rule_of P r).vars (rule_of P r).conclusion prop (Q.good.rules r l).conclusion p h []

  pub begun_answers : (work'' : List ℕ) (b : Bool) → Ends (rest P s m r work' t i []) work'' m b → Answers P s m r p work'' b
  begun_answers work'' true x =
      let f = sym begun-rest ∙ x.1 in
      (x.0, f, x.2, match_within P Q.few (rule_of P r).vars s (sorted_earlier P s S) (rule_of P r).conclusion prop (Q.good.rules r l).conclusion p [] x.0 h (within_none (length s)) f)
  begun_answers work'' false e = sym begun-rest ∙ e
