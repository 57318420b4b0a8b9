-- The first of some things that fails, one after the other.
use Rattle.std.specs.Prelude.{Option as Optional, Some, None}
use Rattle.std.specs.Prelude.{◌≡◌, refl, Bool, true, false, not, List, ℕ, suc, ◌+◌, ◌≤◌, ◌<◌, length, get_or, drop}
use Rattle.std.proofs.Common.{sym, ◌∙◌, add-one, arith, drop_of_length-le, drop-cons}
use Rattle.std.proofs.Math.Option.{Option, none, some}
use Rattle.definition.specs.Pack.{Pack}
use Rattle.definition.specs.Verdict.{first_failing}
use Rattle.pack_tables.specs.Catalog.{records_of}
use Rattle.pack_tables.specs.declared.catalog.Catalog.{Catalog}
use Rattle.pack_tables.specs.Name.{denied, not_denied}
use Rattle.pack_read.specs.Reads.{Reads}
use Rattle.pack_read.specs.Held.{OfHeld}

-- the number of the first that fails, if one does
abbrev pub failing_of : Optional ℕ → Option ℕ
failing_of (Some i) = some i
failing_of None = none

module _ {A : Type 0} (f : A → Bool) (d : A) (xs : List A) (i : ℕ) where
  -- one that does not fail is passed over
  pub first_on : i < length xs → f (get_or xs i d) ≡ true → first_failing f (drop i xs) i ≡ first_failing f (drop (suc i) xs) (suc i)
  unfolding first_failing
  first_on l e = rw (drop-cons xs i d l, e, first_failing)

  -- one that fails is it
  pub first-at : i < length xs → f (get_or xs i d) ≡ false → first_failing f (drop i xs) i ≡ some i
  unfolding first_failing
  first-at l e = rw (drop-cons xs i d l, e, first_failing)

  -- none is left
  pub first-end : length xs ≤ i → first_failing f (drop i xs) i ≡ none
  unfolding first_failing
  first-end l = rw (drop_of_length-le xs l)

-- ---- the things of a kind that a held pack has
module _ {A : Type 0} (bytes work : List ℕ) (c : Catalog) (things : Pack → List A) (test : Pack → A → Bool) (d : A) (k : ℕ) (many : (P : Pack) → Reads bytes (records_of work c) P → length (things P) ≡ length (records_of work c k)) where
  -- those from i on are as the whole
  abbrev pub LeftFrom : ℕ → Type 0
  LeftFrom i = OfHeld bytes work c (λ P. first_failing (test P) (drop i (things P)) i ≡ first_failing (test P) (things P) 0)

  pub left-all : LeftFrom 0
  left-all = λ P R h. refl

  module _ (i : ℕ) (L : LeftFrom i) where
    -- one that passes is passed over
    pub left_on : i < length (records_of work c k) → (r : Bool) → OfHeld bytes work c (λ P. r ≡ test P (get_or (things P) i d)) → not r ≡ false → LeftFrom (i + 1)
    left_on l r f n = λ P R h. rw (add-one i) (sym (first_on (test P) d (things P) i (omega (arith, many P R)) (not_denied r _ (f P R h) n)) ∙ L P R h)

    -- another is the first that fails
    pub left_at : i < length (records_of work c k) → (r : Bool) → OfHeld bytes work c (λ P. r ≡ test P (get_or (things P) i d)) → not r ≡ true → OfHeld bytes work c (λ P. some i ≡ first_failing (test P) (things P) 0)
    left_at l r f n = λ P R h. sym (first-at (test P) d (things P) i (omega (arith, many P R)) (denied r _ (f P R h) n)) ∙ L P R h

    -- none fails
    pub left_end : length (records_of work c k) ≤ i → OfHeld bytes work c (λ P. none ≡ first_failing (test P) (things P) 0)
    left_end l = λ P R h. sym (first-end (test P) d (things P) i (omega (arith, many P R))) ∙ L P R h
