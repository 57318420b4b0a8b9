-- The conclusion of a cut class, as the definition has it.
use Rattle.std.specs.Prelude.{Option, Some, None}
use Rattle.std.specs.Prelude.{◌≡◌, refl, List, ◌∷◌, ℕ, suc, ◌+◌, ◌-◌, ◌<◌, length, take, drop}
use Rattle.std.proofs.Common.{sym, ap, ◌∙◌, subst, arith}
use Rattle.definition.specs.Pack.{Node}
use Rattle.definition.specs.Store.{Stored, intern, pattern_words}
use Rattle.theory.specs.Patterns.Interned.{Grows, interned}
use Rattle.theory.specs.Walks.Again.{stored, headed}
use Rattle.base.specs.Outside.{outside_then}
use Rattle.store.specs.Words.{node_with}
use Rattle.store.specs.Stored.{nodes, written}
use Rattle.store.specs.declared.nodes.Store.{Store}
use Rattle.base.specs.declared.id.Pattern.{Pattern}
use Rattle.pack_tables.specs.declared.catalog.Catalog.{Catalog}
use Rattle.pack_read.specs.Held.{OfHeld}
use Rattle.term_lift.specs.Lifts.{Lifts, Apart}
use Rattle.term_lift.specs.Runs.{written_again, words-grow}
use Rattle.term_lift.specs.declared.lift.Lifted.{Lifted}
use Rattle.term_lift.specs.Kept.{Interns}
use Rattle.theory.specs.Making.Interns.{cut_top}
use Rattle.class_cut.specs.Fresh.{variables_of, Freshened, Unfreshened}

-- the conclusion is there: the definition's number and store, with its words written
pub record Concluded (bytes work words work' words' : List ℕ) (c : Catalog) (l : Lifted) (st : Store) (p : ℕ) (q : Pattern) (st' : Store) : Type 0 where
  pub lifts : Lifts bytes work' words' c l st'
  pub is : OfHeld bytes work c (λ P. cut_top P p (nodes words st) ≡ stored q.0 (nodes words' st'))
  pub are : words' ≡ written (nodes words' st') words
  pub apart : Apart work work' l

-- its words are more than there are
pub record Unconcluded (bytes work words work' : List ℕ) (c : Catalog) (l : Lifted) (st : Store) (p : ℕ) : Type 0 where
  pub short : OfHeld bytes work c (λ P. length words < length (pattern_words (cut_top P p (nodes words st)).store))
  pub apart : Apart work work' l

-- what `cut_conclusion` answers
abbrev pub Concludes : List ℕ → List ℕ → List ℕ → List ℕ → List ℕ → Catalog → Lifted → Store → ℕ → Option (Pattern × Store) → Type 0
Concludes bytes work words work' words' c l st p (Some (q, st')) = Concluded bytes work words work' words' c l st p q st'
Concludes bytes work words work' words' c l st p None = Unconcluded bytes work words work' c l st p

-- the key's node
key-node : (p : ℕ) (ps : List ℕ) → node_with (p ∷ ps) ≡ headed p ps
unfolding node_with
key-node p ps = refl

-- the variables have no room
pub concludes_none : (bytes work words work₁ : List ℕ) (c : Catalog) (l : Lifted) (st : Store) (p : ℕ) → Unfreshened bytes work words work₁ c l st p → Unconcluded bytes work words work₁ c l st p
concludes_none bytes work words work₁ c l st p F = record {
  short = λ P R Q.
      let v = variables_of P p (nodes words st) in
      omega (arith, F.short P R Q, words-grow v.store (intern v.store (headed p v.numbers)).store (interned v.store (headed p v.numbers)).grows);
  apart = F.apart;
}

module _ (bytes work words work₁ words₁ : List ℕ) (c : Catalog) (l : Lifted) (st : Store) (p n : ℕ) (key : List ℕ) (st₁ : Store) (F : Freshened bytes work words work₁ words₁ c l st p n key st₁) where
  -- the key as it is lent
  lent : OfHeld bytes work c (λ P. take (n + 1 - 0) (drop 0 key) ≡ p ∷ (variables_of P p (nodes words st)).numbers)
  lent = λ P R Q. let e : n + 1 - 0 ≡ suc n = omega arith in ap (λ (j : ℕ). take j key) e ∙ F.numbers P R Q

  -- it has some words
  pub concludes_lent : OfHeld bytes work c (λ P. 0 < length (take (n + 1 - 0) (drop 0 key)))
  concludes_lent = λ P R Q. omega (arith, ap length (lent P R Q))

  -- the definition's node
  interned_is : OfHeld bytes work c (λ P. intern (nodes words₁ st₁) (node_with (take (n + 1 - 0) (drop 0 key))) ≡ cut_top P p (nodes words st))
  interned_is = λ P R Q.
      ap (λ (ws : List ℕ). intern (nodes words₁ st₁) (node_with ws)) (lent P R Q)
      ∙ ap (intern (nodes words₁ st₁)) (key-node p (variables_of P p (nodes words st)).numbers)
      ∙ ap (λ (s : List Node). intern s (headed p (variables_of P p (nodes words st)).numbers)) (sym (F.store P R Q))

  module _ (long : length words₁ ≡ length words) (work' words' : List ℕ) where
    -- it has no room, or it has
    pub concludes : (r : Option (Pattern × Store)) → Interns work₁ words₁ work' words' l st₁ (take (n + 1 - 0) (drop 0 key)) r → Concludes bytes work words work' words' c l st p r
    concludes None A = record {
      short = λ P R Q. omega (arith, A.0, long, ap (λ (o : Stored). length (pattern_words o.store)) (interned_is P R Q));
      apart = outside_then l.at l.end work work₁ work' F.apart A.1;
    }
    concludes (Some (q, st')) A =
        let g : Grows (nodes words₁ st₁) (nodes words' st') = subst (Grows (nodes words₁ st₁)) (ap (λ (o : Stored). o.store) A.1) (interned (nodes words₁ st₁) (node_with (take (n + 1 - 0) (drop 0 key)))).grows in
        record {
          lifts = A.0 bytes c F.lifts;
          is = λ P R Q. sym (interned_is P R Q) ∙ A.1;
          are = A.2 ∙ ap (written (nodes words' st')) F.are ∙ written_again (nodes words₁ st₁) (nodes words' st') words g;
          apart = outside_then l.at l.end work work₁ work' F.apart A.3;
        }
