-- The hash of a key: each cell is added and the sum multiplied, modulo 2^32; the last product is scaled to the range asked for. The factor
-- was chosen by counting probes over many regular sets of keys.
use Rattle.std.specs.Prelude.{◌≡◌, List, [], ◌∷◌, ℕ, ◌+◌, ◌*◌, ◌/◌, ◌%◌, ◌^◌, ◌≤◌, ◌<◌, length, get_or, drop, map}
use Rattle.std.proofs.Common.{div-lt_iff_lt-mul, mul-lt-mul_of_pos_right, mul-le-mul, lt_of_le_of_lt, sym, ap, add-one, arith, lit<, drop_of_length-le, drop-cons, map-id}

unfoldable pub hash_from : ℕ → List ℕ → ℕ
hash_from h [] = h
hash_from h (x ∷ xs) = hash_from ((h + x) * 1711563921 % 4294967296) xs

-- below m
unfoldable pub hash_of : ℕ → List ℕ → ℕ
hash_of m ws = hash_from 0 ws * m / 4294967296

from_lt : (h : ℕ) (ws : List ℕ) → h < 4294967296 → hash_from h ws < 4294967296
unfolding hash_from
from_lt h [] l = l
from_lt h (x ∷ xs) l = from_lt ((h + x) * 1711563921 % 4294967296) xs (omega arith)

pub hash_lt : (m : ℕ) (ws : List ℕ) → 0 < m → hash_of m ws < m
unfolding hash_of
hash_lt m ws p =
    let l = from_lt 0 ws (omega arith) in
    (div-lt_iff_lt-mul {k = 4294967296} {x = hash_from 0 ws * m} {y = m} (omega arith)).1 (omega (arith, mul-lt-mul_of_pos_right l p))

-- one turn over the cells xs, each of which is a number, and the end
module _ {A : Type 0} (number : A → ℕ) where
  pub hash_step : (h i : ℕ) (xs : List A) (x : A) → i < length xs → x ≡ get_or xs i x → hash_from ((h + number x) * 1711563921 % 4294967296) (map number (drop (i + 1) xs)) ≡ hash_from h (map number (drop i xs))
  unfolding hash_from
  hash_step h i xs x l e =
      let k : hash_from h (map number (drop i xs)) ≡ hash_from ((h + number (get_or xs i x)) * 1711563921 % 4294967296) (map number (drop (i + 1) xs)) = rw (drop-cons xs i x l, add-one i) in
      rw (ap number e) (sym k)

  pub hash_rest : (h i : ℕ) (xs : List A) → length xs ≤ i → hash_from h (map number (drop i xs)) ≡ h
  unfolding hash_from
  hash_rest h i xs l = rw (drop_of_length-le xs l)

-- the same of words
pub hash_turn : (h i : ℕ) (ws : List ℕ) → i < length ws → hash_from ((h + get_or ws i 0) * 1711563921 % 4294967296) (drop (i + 1) ws) ≡ hash_from h (drop i ws)
unfolding hash_from
hash_turn h i ws l = rw (drop-cons ws i 0 l, add-one i)

pub hash_end : (h i : ℕ) (ws : List ℕ) → length ws ≤ i → hash_from h (drop i ws) ≡ h
unfolding hash_from
hash_end h i ws l = rw (drop_of_length-le ws l)

-- the product of two words fits two words
pub words_fit : (a b : ℕ) → a < 4294967296 → b < 4294967296 → a * b < 2 ^ 64
words_fit a b h k =
    let p : a ≤ 4294967295 = omega arith in
    let q : b ≤ 4294967295 = omega arith in
    lt_of_le_of_lt (mul-le-mul p q) (lit< tt)

-- a key of plain numbers
pub plain_hash : (m : ℕ) (ws : List ℕ) → hash_of m (map (λ x. x) ws) ≡ hash_of m ws
plain_hash m ws = ap (hash_of m) (map-id ws)
