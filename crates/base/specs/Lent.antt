-- A part of a list that is lent as `&mut xs[a..e]`, and the list once it has come back.
use Rattle.std.specs.Prelude.{◌≡◌, List, ℕ, ◌+◌, ◌-◌, ◌≤◌, ◌<◌, length, get_or}
use Rattle.std.proofs.Common.{sym, ap, ◌∙◌, arith}
use Rattle.std.proofs.Math.Decide.{dec_lt}
use Rattle.base.specs.Part.{part, put, part_at, length_part, length-put, part-put, put-before, put-at, put-behind}
use Rattle.base.specs.Outside.{Outside, outside_wider, outside_put, part-ahead, part-behind}

-- a part ahead of what was written
pub lent-ahead : (a e : ℕ) (xs ys : List ℕ) → Outside a e xs ys → (b f : ℕ) → b ≤ f → f ≤ a → f ≤ length xs → part b (f - b) ys ≡ part b (f - b) xs
lent-ahead a e xs ys A b f h k m = part-ahead a e xs ys A b (f - b) (omega arith) (omega arith)

-- a part behind it
pub lent-behind : (a e : ℕ) (xs ys : List ℕ) → Outside a e xs ys → (b f : ℕ) → b ≤ f → e ≤ b → f ≤ length xs → part b (f - b) ys ≡ part b (f - b) xs
lent-behind a e xs ys A b f h k m = part-behind a e xs ys A b (f - b) (omega arith) (omega arith)

-- ys came back in place of the part
module _ (a e : ℕ) (xs ys : List ℕ) (up : a ≤ e) (fits : e ≤ length xs) (long : length ys ≡ length (part a (e - a) xs)) where
  -- as many as there were
  many : length ys ≡ e - a
  many = long ∙ length_part a (e - a) xs (omega arith)

  -- they stand there
  pub back : part a (e - a) (put a (e - a) ys xs) ≡ ys
  back = part-put a (e - a) xs (omega arith) ys many

  -- one by one
  pub back_at : (i : ℕ) → i < e - a → get_or (put a (e - a) ys xs) (a + i) 0 ≡ get_or ys i 0
  back_at = put-at a (e - a) xs (omega arith) ys many

  -- if only the first m of them changed, nothing else has
  pub back-first : (m : ℕ) → ((i : ℕ) → m ≤ i → get_or ys i 0 ≡ get_or (part a (e - a) xs) i 0) → Outside a (a + m) xs (put a (e - a) ys xs)
  back-first m same = record {
    long = length-put a (e - a) xs (omega arith) ys many;
    ahead = put-before a (e - a) xs (omega arith) ys many;
    behind = λ i h. elim (dec_lt i e) [
      | yes b ↦
          let j : a + (i - a) ≡ i = omega arith in
          ap (λ (k : ℕ). get_or (put a (e - a) ys xs) k 0) (sym j) ∙ back_at (i - a) (omega arith) ∙ same (i - a) (omega arith) ∙ part_at a (e - a) xs (i - a) (omega arith) ∙ ap (λ (k : ℕ). get_or xs k 0) j
      | no b ↦ put-behind a (e - a) xs (omega arith) ys many i (omega (arith, b))
    ];
  }

  -- whatever changed of them
  pub back_outside : Outside a e xs (put a (e - a) ys xs)
  back_outside = outside_wider a (a + (e - a)) a e xs (put a (e - a) ys xs) (omega arith) (omega arith) (outside_put a (e - a) xs ys (omega arith) many)
