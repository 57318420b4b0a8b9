-- A value, zero mostly, behind a place of a list.
use Rattle.std.specs.Prelude.{◌≡◌, refl, List, ◌++◌, ℕ, suc, ◌+◌, ◌-◌, ◌<◌, ◌≤◌, length, get_or, take, drop, replicate, set}
use Rattle.std.proofs.Common.{ap, ◌∙◌, append_assoc, append-nil, add-one, arith, length-set, take_all, take-suc-set}
use Rattle.std.proofs.lemmas.List.{length-replicate, get_or-replicate}
use Rattle.base.specs.Part.{put, length_part, part-lent, length-put, put-before, put-at, put-behind, put-lent}

-- what stands before `from`, and v to the end
unfoldable pub filled : {A : Type 0} → A → ℕ → List A → List A
filled v from xs = take from xs ++ replicate (length xs - from) v

-- what stands before `from`, and zeros to the end
abbrev pub zeroed : ℕ → List ℕ → List ℕ
zeroed from xs = filled 0 from xs

-- one turn: a value stored at i leaves those behind i to be written
pub filled-turn : {A : Type 0} (v : A) (i : ℕ) (xs : List A) → i < length xs → filled v (i + 1) (set xs i v) ≡ filled v i xs
unfolding filled
filled-turn v i xs h =
    let e : length xs - i ≡ suc (length xs - suc i) = omega arith in
    rw (add-one, take-suc-set, length-set, append_assoc, e)

pub filled-end : {A : Type 0} (v : A) (i : ℕ) (xs : List A) → length xs ≤ i → filled v i xs ≡ xs
unfolding filled
filled-end v i xs h =
    let e : length xs - i ≡ 0 = omega arith in
    rw (take_all, e, append-nil)

-- the same of a zero
pub zeroed-turn : (i : ℕ) (xs : List ℕ) → i < length xs → zeroed (i + 1) (set xs i 0) ≡ zeroed i xs
zeroed-turn i xs h = filled-turn 0 i xs h

-- nothing is left to be written past the end
pub zeroed-end : (i : ℕ) (xs : List ℕ) → length xs ≤ i → zeroed i xs ≡ xs
zeroed-end i xs h = filled-end 0 i xs h

-- from 0 on, all is zero
pub zeroed-all : (xs : List ℕ) → zeroed 0 xs ≡ replicate (length xs) 0
unfolding filled
zeroed-all xs =
    let e : length xs - 0 ≡ length xs = omega arith in
    rw e

-- words were lent, `&mut xs[a..e]`, and came back as zeros: nothing is longer or shorter, there they stand, and all else is as it was
module _ (a e n : ℕ) (xs zs : List ℕ) (ends : e ≡ a + n) (l : e ≤ length xs) (z : zs ≡ replicate (length (take (e - a) (drop a xs))) 0) where
  as_lent : length (take (e - a) (drop a xs)) ≡ n
  as_lent = ap length (part-lent a e n xs ends) ∙ length_part a n xs (omega arith)

  as_many : length zs ≡ n
  as_many = ap length z ∙ length-replicate (length (take (e - a) (drop a xs))) 0 ∙ as_lent

  abbrev zeros : List ℕ
  zeros = put a (e - a) zs xs

  as_put : zeros ≡ put a n zs xs
  as_put = put-lent a e n xs zs zs ends refl

  pub zeros_long : length zeros ≡ length xs
  zeros_long = ap length as_put ∙ length-put a n xs (omega arith) zs as_many

  pub zeros_there : (k : ℕ) → k < n → get_or zeros (a + k) 0 ≡ 0
  zeros_there k h =
      ap (λ (ys : List ℕ). get_or ys (a + k) 0) as_put
      ∙ put-at a n xs (omega arith) zs as_many k h
      ∙ ap (λ (ys : List ℕ). get_or ys k 0) z
      ∙ get_or-replicate (length (take (e - a) (drop a xs))) k 0 0 (omega (arith, as_lent, h))

  pub zeros-before : (i : ℕ) → i < a → get_or zeros i 0 ≡ get_or xs i 0
  zeros-before i h = ap (λ (ys : List ℕ). get_or ys i 0) as_put ∙ put-before a n xs (omega arith) zs as_many i h

  pub zeros-behind : (i : ℕ) → e ≤ i → get_or zeros i 0 ≡ get_or xs i 0
  zeros-behind i h = ap (λ (ys : List ℕ). get_or ys i 0) as_put ∙ put-behind a n xs (omega arith) zs as_many i (omega arith)
