-- Tests on lists of numbers, and the one case split that proofs here use.
use Rattle.std.specs.Prelude.{◌≡◌, refl, Bool, true, false, ◌||◌, List, [], ◌∷◌, ℕ, eqb}
use Rattle.std.proofs.Common.{arith, ltb-true, ltb-false, leb-true, leb-false, eqb-true, eq-eqb}
use Rattle.std.proofs.lemmas.Bool.{eqb-false}

-- a computed value with its equation, to take cases of
pub data Is {ℓ} {A : Type ℓ} (a : A) : Type ℓ where
  is : (b : A) → a ≡ b → Is a

pub see {ℓ} : {A : Type ℓ} (a : A) → Is a
see a = is a refl

-- from two unlike constructors anything follows: `never (cc)`
pub never {ℓ} : {A : Type ℓ} → ◌≡◌ {A = ℕ} 0 1 → A
never e = absurd (omega arith)

-- linear arithmetic that reads the equations of tests: `omega tests`
pub ruleset tests = (arith, ltb-true, ltb-false, leb-true, leb-false, eqb-true, eqb-false)

-- both tests; kept shut, so that a proof can take it apart
infixl 35 ◌and◌
unfoldable pub ◌and◌ : Bool → Bool → Bool
true and b = b
false and b = false

pub and_parts : (a b : Bool) → a and b ≡ true → (a ≡ true) × (b ≡ true)
unfolding ◌and◌
and_parts true b e = (refl, e)
and_parts false b e = never (cc)

-- one of two passes
pub or_left : (a b : Bool) → a ≡ true → (a || b) ≡ true
or_left true b e = refl
or_left false b e = never (cc)

pub or_right : (a b : Bool) → b ≡ true → (a || b) ≡ true
or_right true b e = refl
or_right false b e = e

-- the second, if the first does not
pub or-other : (a b : Bool) → a ≡ false → (a || b) ≡ true → b ≡ true
or-other true b n e = never (cc)
or-other false b n e = e

-- the first alone decides
pub or-none : (a b : Bool) → b ≡ false → (a || b) ≡ a
or-none true b e = refl
or-none false b e = e

-- every element passes
unfoldable pub all : {A : Type 0} → (A → Bool) → List A → Bool
unfolding ◌and◌
all f [] = true
all f (x ∷ xs) = f x and all f xs

-- some element passes
unfoldable pub any : {A : Type 0} → (A → Bool) → List A → Bool
any f [] = false
any f (x ∷ xs) = f x || any f xs

-- the same numbers in the same order
unfoldable pub same : List ℕ → List ℕ → Bool
unfolding ◌and◌
same [] [] = true
same [] (y ∷ ys) = false
same (x ∷ xs) [] = false
same (x ∷ xs) (y ∷ ys) = eqb x y and same xs ys

pub same_true : (xs ys : List ℕ) → same xs ys ≡ true → xs ≡ ys
unfolding same
same_true [] [] e = refl
same_true [] (y ∷ ys) e = never (cc)
same_true (x ∷ xs) [] e = never (cc)
same_true (x ∷ xs) (y ∷ ys) e =
    let p = and_parts (eqb x y) (same xs ys) e in
    let q : x ≡ y = eqb-true x y p.0 in
    let r : xs ≡ ys = same_true xs ys p.1 in
    cc

pub same_refl : (xs : List ℕ) → same xs xs ≡ true
unfolding same
same_refl [] = refl
same_refl (x ∷ xs) = rw (eq-eqb x x refl, ◌and◌, same_refl xs)
