-- What a call leaves as it was: all of a list but the cells of one range.
use Rattle.std.specs.Prelude.{◌≡◌, refl, List, ℕ, ◌+◌, ◌≤◌, ◌<◌, length, get_or, set}
use Rattle.std.proofs.Common.{◌∙◌, arith, length-set, get_or-set_other}
use Rattle.base.specs.Part.{part, put, part_same, length-put, put-before, put-behind}

-- the cells ahead of a and those from e on are as they were
pub record Outside (a e : ℕ) (xs ys : List ℕ) : Type 0 where
  pub long : length ys ≡ length xs
  pub ahead : (i : ℕ) → i < a → get_or ys i 0 ≡ get_or xs i 0
  pub behind : (i : ℕ) → e ≤ i → get_or ys i 0 ≡ get_or xs i 0

-- nothing was written
pub outside_none : (a e : ℕ) (xs : List ℕ) → Outside a e xs xs
outside_none a e xs = record { long = refl; ahead = λ i h. refl; behind = λ i h. refl }

-- one call after the other
pub outside_then : (a e : ℕ) (xs ys zs : List ℕ) → Outside a e xs ys → Outside a e ys zs → Outside a e xs zs
outside_then a e xs ys zs A B = record { long = B.long ∙ A.long; ahead = λ i h. B.ahead i h ∙ A.ahead i h; behind = λ i h. B.behind i h ∙ A.behind i h }

-- a wider range
pub outside_wider : (a e b f : ℕ) (xs ys : List ℕ) → b ≤ a → e ≤ f → Outside a e xs ys → Outside b f xs ys
outside_wider a e b f xs ys l m A = record { long = A.long; ahead = λ i h. A.ahead i (omega arith); behind = λ i h. A.behind i (omega arith) }

-- a cell of the range is written
pub outside_set : (a e : ℕ) (xs : List ℕ) (i v : ℕ) → a ≤ i → i < e → Outside a e xs (set xs i v)
outside_set a e xs i v l m = record {
  long = length-set xs i v;
  ahead = λ j h. get_or-set_other xs i j v 0 (λ q. omega (arith, q));
  behind = λ j h. get_or-set_other xs i j v 0 (λ q. omega (arith, q));
}

-- a part of it was lent and came back
pub outside_put : (a n : ℕ) (xs ys : List ℕ) → a + n ≤ length xs → length ys ≡ n → Outside a (a + n) xs (put a n ys xs)
outside_put a n xs ys fits long = record {
  long = length-put a n xs fits ys long;
  ahead = λ i h. put-before a n xs fits ys long i h;
  behind = λ i h. put-behind a n xs fits ys long i h;
}

-- a part ahead of the range, and one behind it
pub part-ahead : (a e : ℕ) (xs ys : List ℕ) → Outside a e xs ys → (b n : ℕ) → b + n ≤ a → b + n ≤ length xs → part b n ys ≡ part b n xs
part-ahead a e xs ys A b n l m = part_same b n ys xs (omega (arith, A.long)) m (λ i h. A.ahead (b + i) (omega arith))

pub part-behind : (a e : ℕ) (xs ys : List ℕ) → Outside a e xs ys → (b n : ℕ) → e ≤ b → b + n ≤ length xs → part b n ys ≡ part b n xs
part-behind a e xs ys A b n l m = part_same b n ys xs (omega (arith, A.long)) m (λ i h. A.behind (b + i) (omega arith))
