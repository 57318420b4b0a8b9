-- How many words are not 0: an entry of the trail goes with each, so there is room for them all.
use Rattle.std.specs.Prelude.{◌≡◌}
use Rattle.std.proofs.Math.Path.{refl}
use Prim.Native.Nat.{ℕ, zero, suc, ◌+◌, ◌≤◌, ◌<◌}
use native.Mathlib.Omega.{arith}
use Rattle.std.proofs.Math.Decide.{ℕ_discrete}

-- 1 for a word that is not 0
unfoldable pub one : ℕ → ℕ
one zero = 0
one (suc n) = 1

-- how many of the first n words are not 0
unfoldable pub filled : (ℕ → ℕ) → ℕ → ℕ
unfolding one
filled f zero = 0
filled f (suc n) = one (f n) + filled f n

one-most : (w : ℕ) → one w ≤ 1
unfolding one
one-most zero = omega arith
one-most (suc n) = omega arith

one_zero : (w : ℕ) → w ≡ 0 → one w ≡ 0
unfolding one
one_zero w e = rw e

one_more : (w n : ℕ) → w ≡ n + 1 → one w ≡ 1
unfolding one
one_more zero n e = absurd (omega arith)
one_more (suc w) n e = refl

-- at most all
pub filled-most : (f : ℕ → ℕ) (n : ℕ) → filled f n ≤ n
unfolding filled
filled-most f zero = omega arith
filled-most f (suc n) = omega (arith, filled-most f n, one-most (f n))

-- not all, if one is 0
pub filled_less : (f : ℕ → ℕ) (n q : ℕ) → q < n → f q ≡ 0 → filled f n < n
unfolding filled
filled_less f zero q l e = absurd (omega arith)
filled_less f (suc n) q l e = elim (ℕ_discrete q n) [
  | yes i ↦ let z : one (f n) ≡ 0 = one_zero (f n) (rw i at e) in omega (arith, filled-most f n)
  | no d ↦ omega (arith, filled_less f n q (omega arith) e, one-most (f n))
]

module _ (f g : ℕ → ℕ) where
  -- the same words, as many
  pub filled-same : (n : ℕ) → ((i : ℕ) → i < n → g i ≡ f i) → filled g n ≡ filled f n
  unfolding filled
  filled-same zero s = refl
  filled-same (suc n) s = let ih = filled-same n (λ i l. s i (omega arith)) in let h : one (g n) ≡ one (f n) = rw (s n (omega arith)) in omega arith

  module _ (q v : ℕ) (e : g q ≡ v + 1) where
    -- one was written: as many or more
    pub filled-kept : (n : ℕ) → ((i : ℕ) → i < n → (i ≡ q → ⊥) → g i ≡ f i) → filled f n ≤ filled g n
    unfolding filled
    filled-kept zero s = omega arith
    filled-kept (suc n) s =
        let ih = filled-kept n (λ i l. s i (omega arith)) in
        elim (ℕ_discrete n q) [
          | yes i ↦ let h : one (g n) ≡ 1 = one_more (g n) v (rw i e) in omega (arith, one-most (f n))
          | no d ↦ let h : one (g n) ≡ one (f n) = rw (s n (omega arith) d) in omega arith
        ]

    -- one more, if it was 0
    pub filled_more : (n : ℕ) → q < n → f q ≡ 0 → ((i : ℕ) → i < n → (i ≡ q → ⊥) → g i ≡ f i) → filled f n < filled g n
    unfolding filled
    filled_more zero l z s = absurd (omega arith)
    filled_more (suc n) l z s = elim (ℕ_discrete n q) [
      | yes i ↦
          let h : one (g n) ≡ 1 = one_more (g n) v (rw i e) in
          let k : one (f n) ≡ 0 = one_zero (f n) (rw i z) in
          omega (arith, filled-kept n (λ i l. s i (omega arith)))
      | no d ↦ let h : one (g n) ≡ one (f n) = rw (s n (omega arith) d) in omega (arith, filled_more n (omega arith) z (λ i l. s i (omega arith)))
    ]
