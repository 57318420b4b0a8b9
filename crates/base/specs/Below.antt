-- Whether each word is below a number, word by word from a place on.
use Rattle.std.specs.Prelude.{◌≡◌, true, false, List, ℕ, ◌+◌, ◌≤◌, ◌<◌, ltb, length, get_or, drop}
use Rattle.std.proofs.Common.{add-one, lt-ltb, le-ltb, drop_of_length-le, drop-cons}
use Rattle.definition.specs.Test.{◌and◌, all}

-- one that is not
pub below_late : (n : ℕ) (xs : List ℕ) (i : ℕ) → i < length xs → n ≤ get_or xs i 0 → all (λ w. ltb w n) (drop i xs) ≡ false
unfolding all ◌and◌
below_late n xs i h l = rw (drop-cons xs i 0 h, all, le-ltb _ _ l, ◌and◌)

-- one that is
pub below_next : (n : ℕ) (xs : List ℕ) (i : ℕ) → i < length xs → get_or xs i 0 < n → all (λ w. ltb w n) (drop (i + 1) xs) ≡ all (λ w. ltb w n) (drop i xs)
unfolding all ◌and◌
below_next n xs i h l = rw (drop-cons xs i 0 h, add-one i, all, lt-ltb _ _ l, ◌and◌)

-- all of them
pub below_end : (n : ℕ) (xs : List ℕ) (i : ℕ) → length xs ≤ i → all (λ w. ltb w n) (drop i xs) ≡ true
unfolding all
below_end n xs i h = rw (drop_of_length-le xs h, all)
