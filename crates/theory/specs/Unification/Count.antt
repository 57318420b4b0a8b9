-- Counting: below n there is no room for more than n levels.
use Rattle.std.specs.Prelude.{◌≡◌, refl, Bool, true, false, ℕ, zero, suc, ◌+◌, ◌≤◌, ◌<◌, eqb}
use Rattle.std.proofs.Common.{arith}
use Rattle.definition.specs.Test.{is, see, never, tests}

-- how many numbers below n pass
unfoldable pub count : (ℕ → Bool) → ℕ → ℕ
count p zero = 0
count p (suc n) = elim (p n) [ true ↦ suc (count p n) | false ↦ count p n ]

-- no more than n pass
pub count_most : (p : ℕ → Bool) (n : ℕ) → count p n ≤ n
unfolding count
count_most p zero = omega arith
count_most p (suc n) = let h = count_most p n in elim (see (p n)) [
  | is true e ↦ rw (e, count) (omega arith)
  | is false e ↦ rw (e, count) (omega arith)
]

-- where all that pass p pass q, no fewer pass q
pub count-more : (p q : ℕ → Bool) (n : ℕ) → ((x : ℕ) → p x ≡ true → q x ≡ true) → count p n ≤ count q n
unfolding count
count-more p q zero f = omega arith
count-more p q (suc n) f = let h = count-more p q n f in elim (see (p n)) [
  | is true e ↦ rw (e, f n e, count) (omega arith)
  | is false e ↦ elim (see (q n)) [
    | is true d ↦ rw (e, d, count) (omega arith)
    | is false d ↦ rw (e, d, count) (omega arith)
  ]
]

-- and if one passes q alone, more do
pub count_fewer : (p q : ℕ → Bool) (n x : ℕ) → ((x : ℕ) → p x ≡ true → q x ≡ true) → x < n → p x ≡ false → q x ≡ true → count p n < count q n
unfolding count
count_fewer p q zero x f h a b = absurd (omega arith)
count_fewer p q (suc n) x f h a b = elim (see (eqb x n)) [
  | is true s ↦
      let t : x ≡ n = omega tests in
      let m = count-more p q n f in
      let a' : p n ≡ false = rw t at a in
      let b' : q n ≡ true = rw t at b in
      rw (a', b', count) (omega arith)
  | is false s ↦
      let h = count_fewer p q n x f (omega tests) a b in elim (see (p n)) [
        | is true e ↦ rw (e, f n e, count) (omega arith)
        | is false e ↦ elim (see (q n)) [
          | is true d ↦ rw (e, d, count) (omega arith)
          | is false d ↦ rw (e, d, count) (omega arith)
        ]
      ]
]

-- a test by levels: who passes one level passes those before
module _ (n : ℕ) (high : ℕ → ℕ → Bool) (less : (i z : ℕ) → high (suc i) z ≡ true → high i z ≡ true) where
  -- if below n, on each level that x passes, some number passes that level and no more
  module _ (x : ℕ) (h : x < n) (exact : (i : ℕ) → high i x ≡ true → (z : ℕ) × (z < n) × (high i z ≡ true) × (high (suc i) z ≡ false)) where
    -- then a level that x passes leaves one number behind for each level before
    crowd : (m : ℕ) → high m x ≡ true → m + count (high m) n ≤ n
    crowd zero e = let c = count_most (high zero) n in omega arith
    crowd (suc m) e =
        let l = less m x e in
        let c = exact m l in
        let f = count_fewer (high (suc m)) (high m) n c.0 (less m) c.1 c.3 c.2 in
        let ih = crowd m l in
        omega arith

    -- so x does not pass level n
    pub levels : high n x ≡ false
    levels = elim (see (high n x)) [
      | is false e ↦ e
      | is true e ↦
          let c = crowd n e in
          let f = count_fewer (λ z. false) (high n) n x (λ z q. never (cc)) h refl e in
          absurd (omega arith)
    ]
