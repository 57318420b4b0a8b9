-- Numbers of variables, and counts: one more at the end.
use Rattle.std.specs.Prelude.{◌≡◌, refl, Bool, true, false, List, [], ◌∷◌, ◌++◌, ℕ, zero, suc, ◌+◌, ◌<◌, eqb}
use Rattle.std.proofs.Common.{sym, ap, ◌∙◌, arith, eqb-true, eq-eqb, ne_eqb}
use Rattle.std.proofs.Math.Option.{none, some}
use Rattle.definition.specs.Test.{is, see, never, any}
use Rattle.definition.specs.Graph.{up_to}
use Rattle.definition.specs.Analysis.{number_of}
use Rattle.definition.specs.Classes.{count_of, is_some, mark}
use Rattle.theory.specs.Keys.Keyed.{count-append}

-- ---- numbers of variables
-- two numbers are tested either way round
pub eqb_turned : (x y : ℕ) → eqb x y ≡ eqb y x
eqb_turned x y = elim (see (eqb x y)) [
  | is true p ↦ p ∙ sym (eq-eqb y x (sym (eqb-true x y p)))
  | is false p ↦ p ∙ sym (ne_eqb y x (λ e. never (let z : true ≡ false = sym (eq-eqb x y (sym e)) ∙ p in cc)))
]

-- a variable has a number just where it is among those numbered
pub number_any : (x : ℕ) (ys : List ℕ) (i : ℕ) → is_some (number_of x ys i) ≡ any (eqb x) ys
unfolding number_of any is_some
number_any x [] i = refl
number_any x (y ∷ ys) i = elim (see (eqb y x)) [
  | is true p ↦ rw (p, number_of, eqb_turned x y ∙ p)
  | is false p ↦ rw (p, number_of, eqb_turned x y ∙ p) (number_any x ys (suc i))
]

pub number_none : (x : ℕ) (ys : List ℕ) (i : ℕ) → number_of x ys i ≡ none → any (eqb x) ys ≡ false
unfolding is_some
number_none x ys i e = sym (number_any x ys i) ∙ ap is_some e

pub none_number : (x : ℕ) (ys : List ℕ) (i : ℕ) → any (eqb x) ys ≡ false → number_of x ys i ≡ none
unfolding is_some
none_number x ys i e = elim (see (number_of x ys i)) [
  | is none p ↦ p
  | is (some k) p ↦ never (let z : true ≡ false = sym (ap is_some p) ∙ number_any x ys i ∙ e in cc)
]

-- ---- counts
-- one alone
pub count-one : {A : Type 0} (f : A → Bool) (x : A) → count_of f (x ∷ []) ≡ mark (f x)
unfolding count_of mark
count-one f x = elim (see (f x)) [
  | is true p ↦ rw (p, count_of)
  | is false p ↦ rw (p, count_of)
]

-- one more at the end
pub count_snoc : {A : Type 0} (f : A → Bool) (xs : List A) (x : A) → count_of f (xs ++ (x ∷ [])) ≡ count_of f xs + mark (f x)
count_snoc f xs x = let e = count-append f xs (x ∷ []) in let o = count-one f x in omega arith

pub count_snoc_in : {A : Type 0} (f : A → Bool) (xs : List A) (x : A) → f x ≡ true → count_of f (xs ++ (x ∷ [])) ≡ count_of f xs + 1
unfolding mark
count_snoc_in f xs x e = let c = count_snoc f xs x in let m = ap mark e in omega arith

pub count_snoc_out : {A : Type 0} (f : A → Bool) (xs : List A) (x : A) → f x ≡ false → count_of f (xs ++ (x ∷ [])) ≡ count_of f xs
unfolding mark
count_snoc_out f xs x e = let c = count_snoc f xs x in let m = ap mark e in omega arith

-- one number more
pub count_next : (f : ℕ → Bool) (n : ℕ) → count_of f (up_to (n + 1)) ≡ count_of f (up_to n) + mark (f n)
unfolding up_to
count_next f n = let q : n + 1 ≡ suc n = omega arith in ap (λ (i : ℕ). count_of f (up_to i)) q ∙ count_snoc f (up_to n) n

pub count-next_in : (f : ℕ → Bool) (n : ℕ) → f n ≡ true → count_of f (up_to (n + 1)) ≡ count_of f (up_to n) + 1
unfolding mark
count-next_in f n e = let c = count_next f n in let m = ap mark e in omega arith

pub count-next_out : (f : ℕ → Bool) (n : ℕ) → f n ≡ false → count_of f (up_to (n + 1)) ≡ count_of f (up_to n)
unfolding mark
count-next_out f n e = let c = count_next f n in let m = ap mark e in omega arith

-- the same count by tests that agree on all that are counted
pub count_same : (f k : ℕ → Bool) (n : ℕ) → ((x : ℕ) → x < n → f x ≡ k x) → count_of f (up_to n) ≡ count_of k (up_to n)
unfolding up_to count_of
count_same f k zero h = refl
count_same f k (suc n) h =
    let i = count_same f k n (λ x l. h x (omega arith)) in
    let a = count_snoc f (up_to n) n in
    let b = count_snoc k (up_to n) n in
    let m = ap mark (h n (omega arith)) in
    omega arith
