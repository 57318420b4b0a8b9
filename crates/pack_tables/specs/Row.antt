-- Numbers and words behind a place of a list of bytes.
use Rattle.std.specs.Prelude.{◌≡◌, refl, true, false, List, ◌∷◌, ℕ, zero, suc, ◌+◌, ◌*◌, ◌-◌, ◌≤◌, ◌<◌, ltb, get_or, drop}
use Rattle.std.proofs.Common.{◌∙◌, arith, lt-ltb, le-ltb, get_or-drop, drop-drop}
use Rattle.definition.specs.Test.{◌and◌, all}
use Rattle.definition.specs.Little.{le}
use Rattle.definition.specs.Theory.{words}

-- a number behind the first a bytes
pub le-drop : (n a : ℕ) (s : List ℕ) (i : ℕ) → le n (drop a s) i ≡ le n s (a + i)
unfolding le
le-drop zero a s i = refl
le-drop (suc n) a s i =
    let e : a + (i + 1) ≡ a + i + 1 = omega arith in
    rw (get_or-drop a s i 0, le-drop n a s (i + 1), e)

-- word i of n
pub word_at : (n i : ℕ) (s : List ℕ) → i < n → get_or (words n s) i 0 ≡ le 4 s (4 * i)
unfolding words
word_at zero i s h = absurd (omega arith)
word_at (suc n) zero s h = refl
word_at (suc n) (suc i) s h =
    let e : 4 + 4 * i ≡ 4 * suc i = omega arith in
    word_at n i (drop 4 s) (omega arith) ∙ le-drop 4 4 s (4 * i) ∙ rw e

-- the words from word i on: the first, and those behind it
pub words-from : (n i at : ℕ) (s : List ℕ) → i < n → words (n - i) (drop (at + 4 * i) s) ≡ le 4 s (at + 4 * i) ∷ words (n - (i + 1)) (drop (at + 4 * (i + 1)) s)
unfolding words
words-from n i at s h =
    let k : n - i ≡ suc (n - (i + 1)) = omega arith in
    let e : at + 4 * i + 4 ≡ at + 4 * (i + 1) = omega arith in
    let f : at + 4 * i + 0 ≡ at + 4 * i = omega arith in
    rw (k, words, le-drop 4 (at + 4 * i) s 0, drop-drop 4 (at + 4 * i) s, e, f)

-- the words from the first on are all
pub below-start : (n at bound : ℕ) (s : List ℕ) → all (λ w. ltb w bound) (words (n - 0) (drop (at + 4 * 0) s)) ≡ all (λ w. ltb w bound) (words n (drop at s))
below-start n at bound s =
    let e : at + 4 * 0 ≡ at = omega arith in
    let f : n - 0 ≡ n = omega arith in
    rw (e, f)

-- one turn: a word below the bound leaves the rest to be tested
pub below-turn : (n i at bound : ℕ) (s : List ℕ) → i < n → le 4 s (at + 4 * i) < bound
    → all (λ w. ltb w bound) (words (n - (i + 1)) (drop (at + 4 * (i + 1)) s)) ≡ all (λ w. ltb w bound) (words (n - i) (drop (at + 4 * i) s))
unfolding all
below-turn n i at bound s h l = rw (words-from n i at s h, all, lt-ltb (le 4 s (at + 4 * i)) bound l, ◌and◌)

-- another word ends it
pub below_stop : (n i at bound : ℕ) (s : List ℕ) → i < n → bound ≤ le 4 s (at + 4 * i) → all (λ w. ltb w bound) (words (n - i) (drop (at + 4 * i) s)) ≡ false
unfolding all
below_stop n i at bound s h l = rw (words-from n i at s h, all, le-ltb (le 4 s (at + 4 * i)) bound l, ◌and◌)

-- so does the end of the row
pub below_end : (n i at bound : ℕ) (s : List ℕ) → n ≤ i → all (λ w. ltb w bound) (words (n - i) (drop (at + 4 * i) s)) ≡ true
unfolding all words
below_end n i at bound s h = let k : n - i ≡ 0 = omega arith in rw (k, words, all)
