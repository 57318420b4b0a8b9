-- A memo: what it has, and what one more value changes.
use Rattle.std.specs.Prelude.{◌≡◌, Bool, true, false, List, ◌∷◌, ℕ}
use Rattle.std.proofs.Common.{sym, ap}
use Rattle.std.proofs.Math.Option.{none, some}
use Rattle.definition.specs.Test.{is, see, never}
use Rattle.definition.specs.Verdict.{Bound, value_of}
use Rattle.definition.specs.Analysis.{pairing}
use Rattle.definition.specs.Classes.{is_some}
use Rattle.theory.specs.Copies.Copying.{value_of_new, value_of_old, Made, made_is}

-- whether a memo has a number
unfoldable pub has : List Bound → ℕ → Bool
unfolding value_of is_some
has m x = is_some (value_of x m)

-- a number that it has has a value
pub has_value : (m : List Bound) (x : ℕ) → has m x ≡ true → Made m x
unfolding has
has_value m x e = elim (see (value_of x m)) [
  | is (some p) v ↦ made_is m x p v
  | is none v ↦ let q : false ≡ true = rw (v, is_some) at e in never (cc)
]

-- another has none
pub has-none : (m : List Bound) (x : ℕ) → has m x ≡ false → value_of x m ≡ none
unfolding has
has-none m x e = elim (see (value_of x m)) [
  | is (some p) v ↦ let q : true ≡ false = rw (v, is_some) at e in never (cc)
  | is none v ↦ v
]

-- a number with a value is there
pub value-has : (m : List Bound) (x p : ℕ) → value_of x m ≡ some p → has m x ≡ true
unfolding has
value-has m x p e = rw (e, is_some)

-- a number is there once it is put there
pub has_new : (m : List Bound) (x p : ℕ) → has (pairing x p ∷ m) x ≡ true
has_new m x p = value-has (pairing x p ∷ m) x p (value_of_new x p m)

-- and no other is
pub has-others : (m : List Bound) (x p y : ℕ) → (x ≡ y → ⊥) → has (pairing x p ∷ m) y ≡ has m y
unfolding has
has-others m x p y n = ap is_some (value_of_old x p m y (λ e. n (sym e)))

-- a number without a value is not there
pub none_has : (m : List Bound) (x : ℕ) → value_of x m ≡ none → has m x ≡ false
unfolding has
none_has m x e = rw (e, is_some)
