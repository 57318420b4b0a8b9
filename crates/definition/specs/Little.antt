-- Numbers written lowest byte first.
use Rattle.std.specs.Prelude.{◌≡◌, refl, List, [], ◌∷◌, ℕ, zero, suc, ◌+◌, ◌*◌, ◌^◌, ◌<◌, get_or}
use Rattle.std.proofs.Common.{zero-add, suc-add, one-mul, mul_assoc, arith}
use Rattle.std.proofs.Math.Nat.{pow-succ'}

-- the number that n bytes starting at i give, lowest first
unfoldable pub le : ℕ → List ℕ → ℕ → ℕ
le zero s i = 0
le (suc n) s i = get_or s i 0 + 256 * le n s (i + 1)

-- n bytes give a number below 256 ^ n
pub le_below : (n : ℕ) (s : List ℕ) (i : ℕ) → ((k : ℕ) → get_or s k 0 < 256) → le n s i < 256 ^ n
unfolding le
le_below zero s i h = omega arith
le_below (suc n) s i h = omega (arith, h i, le_below n s (i + 1) h)

-- m + n bytes are the lower m, and the n behind them at the weight 256 ^ m
pub le_split : (m n : ℕ) (s : List ℕ) (i : ℕ) → le (m + n) s i ≡ le m s i + 256 ^ m * le n s (i + m)
unfolding le
le_split zero n s i =
    let e : i + 0 ≡ i = omega arith in
    rw (zero-add n, one-mul, e) (omega arith)
le_split (suc m) n s i =
    let e : i + 1 + m ≡ i + suc m = omega arith in
    rw (suc-add, le, le_split m n s (i + 1), e, pow-succ', mul_assoc) (omega arith)

-- the length and the kind of a record's head
five : le 4 (5 ∷ 0 ∷ 0 ∷ 0 ∷ 7 ∷ 0 ∷ []) 0 ≡ 5
unfolding le
five = refl

kind : le 2 (5 ∷ 0 ∷ 0 ∷ 0 ∷ 7 ∷ 1 ∷ []) 4 ≡ 263
unfolding le
kind = refl
