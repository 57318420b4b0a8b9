-- Parts of one buffer. `part a n xs` is what stands in the n cells from a; `put a n ys xs` is xs with ys in their place, in the form in
-- which a part that was lent as `&mut xs[a..a + n]` comes back. The laws say what a store, or a part that came back, leaves of a part:
-- of the same one, of one before it, of one behind it.
use Rattle.std.specs.Prelude.{◌≡◌, refl, List, [], ◌∷◌, ◌++◌, ℕ, ◌+◌, ◌-◌, ◌≤◌, ◌<◌, length, get_or, set, take}
use Rattle.std.proofs.Common.{sym, ap, ◌∙◌, append_assoc, add-one, arith, length-set, length-take, length-drop, length-append, take-append-drop, take-suc, take-suc-set, drop-cons, take_at, drop_at, get_or-take, get_or-drop, get_or-append-add, get_or-set_other, drop-set-lt, length-take-le, ext_get_or}
use Rattle.std.proofs.Math.Decide.{dec_lt}
use Rattle.std.proofs.Math.ListN.{drop, get_or-append}
use Rattle.std.proofs.Math.Seq.{take-length, take-set-lt}
use Rattle.std.proofs.lemmas.List.{set_at, take-set-le, drop-set-add}

unfoldable pub part : ℕ → ℕ → List ℕ → List ℕ
part a n xs = take n (drop a xs)

abbrev pub put : ℕ → ℕ → List ℕ → List ℕ → List ℕ
put a n ys xs = take a xs ++ (ys ++ drop n (drop a xs))

-- where a cell lies to a part
data Lies (a n i : ℕ) : Type 0 where
  before : i < a → Lies a n i
  within : (j : ℕ) → j < n → i ≡ a + j → Lies a n i
  behind : a + n ≤ i → Lies a n i

lies : (a n i : ℕ) → Lies a n i
lies a n i = elim (dec_lt i a) [
  | yes h ↦ before h
  | no g ↦ elim (dec_lt i (a + n)) [ yes h ↦ within (i - a) (omega arith) (omega arith) | no h ↦ behind (omega arith) ]
]

-- ---- what stands in a part
pub part_at : (a n : ℕ) (xs : List ℕ) (i : ℕ) → i < n → get_or (part a n xs) i 0 ≡ get_or xs (a + i) 0
unfolding part
part_at a n xs i h = get_or-take n (drop a xs) i 0 h ∙ get_or-drop a xs i 0

pub length_part : (a n : ℕ) (xs : List ℕ) → a + n ≤ length xs → length (part a n xs) ≡ n
unfolding part
length_part a n xs h = length-take-le n (drop a xs) (omega (arith, length-drop a xs))

-- a part is known by its cells
pub part_is : (a n : ℕ) (xs ys : List ℕ) → a + n ≤ length xs → length ys ≡ n → ((i : ℕ) → i < n → get_or xs (a + i) 0 ≡ get_or ys i 0) → part a n xs ≡ ys
part_is a n xs ys h l f =
    let p : length (part a n xs) ≡ n = length_part a n xs h in
    ext_get_or 0 (part a n xs) ys (p ∙ sym l) (λ i k. let j : i < n = omega arith in part_at a n xs i j ∙ f i j)

-- the same cells, the same part
pub part_same : (a n : ℕ) (xs zs : List ℕ) → a + n ≤ length xs → a + n ≤ length zs → ((i : ℕ) → i < n → get_or xs (a + i) 0 ≡ get_or zs (a + i) 0) → part a n xs ≡ part a n zs
part_same a n xs zs h k f = part_is a n xs (part a n zs) h (length_part a n zs k) (λ i l. f i l ∙ sym (part_at a n zs i l))

pub part-all : (xs : List ℕ) → part 0 (length xs) xs ≡ xs
unfolding part
part-all xs = take-length xs

pub part-more : (a n : ℕ) (xs : List ℕ) → a + n < length xs → part a (n + 1) xs ≡ part a n xs ++ (get_or xs (a + n) 0 ∷ [])
unfolding part
part-more a n xs h =
    let k : n < length (drop a xs) = omega (arith, length-drop a xs) in
    rw (add-one n, ← get_or-drop a xs n 0) (take-suc (drop a xs) n 0 k)

-- a part lent as `&xs[a..e]`
pub part-lent : (a e n : ℕ) (xs : List ℕ) → e ≡ a + n → take (e - a) (drop a xs) ≡ part a n xs
unfolding part
part-lent a e n xs h = let k : e - a ≡ n = omega arith in rw k

-- ---- a store
pub part-set : (a n : ℕ) (xs : List ℕ) (i v : ℕ) → i < n → part a n (set xs (a + i) v) ≡ set (part a n xs) i v
unfolding part
part-set a n xs i v h = rw (drop-set-add a xs i v) (take-set-lt n (drop a xs) i v h)

pub part-set-before : (a n : ℕ) (xs : List ℕ) (i v : ℕ) → i < a → part a n (set xs i v) ≡ part a n xs
unfolding part
part-set-before a n xs i v h = rw (drop-set-lt a xs i v h)

pub part-set-behind : (a n : ℕ) (xs : List ℕ) (i v : ℕ) → a + n ≤ i → part a n (set xs i v) ≡ part a n xs
unfolding part
part-set-behind a n xs i v h =
    let e : i ≡ a + (i - a) = omega arith in
    rw (e, drop-set-add a xs (i - a) v) (take-set-le n (drop a xs) (i - a) v (omega arith))

-- ---- a part that came back
module _ (a n : ℕ) (xs : List ℕ) (fits : a + n ≤ length xs) (ys : List ℕ) (long : length ys ≡ n) where
  pub length-put : length (put a n ys xs) ≡ length xs
  length-put = simp (length-append, length-take, length-drop) (omega arith)

  pub part-put : part a n (put a n ys xs) ≡ ys
  unfolding part
  part-put = rw (drop_at (take a xs) (ys ++ drop n (drop a xs)) a (length-take-le a xs (omega arith))) (take_at ys (drop n (drop a xs)) n long)

  pub put-before : (i : ℕ) → i < a → get_or (put a n ys xs) i 0 ≡ get_or xs i 0
  put-before i h = get_or-append (take a xs) _ 0 i (omega (arith, length-take-le a xs (omega arith))) ∙ get_or-take a xs i 0 h

  pub put-at : (i : ℕ) → i < n → get_or (put a n ys xs) (a + i) 0 ≡ get_or ys i 0
  put-at i h = sym (part_at a n (put a n ys xs) i h) ∙ ap (λ (l : List ℕ). get_or l i 0) part-put

  pub put-behind : (i : ℕ) → a + n ≤ i → get_or (put a n ys xs) i 0 ≡ get_or xs i 0
  put-behind i h =
      let t : length (take a xs) ≡ a = length-take-le a xs (omega arith) in
      let e : i ≡ length (take a xs) + (length ys + (i - (a + n))) = omega arith in
      let f : a + (n + (i - (a + n))) ≡ i = omega arith in
      ap (λ (k : ℕ). get_or (put a n ys xs) k 0) e
      ∙ get_or-append-add (take a xs) (ys ++ drop n (drop a xs)) (length ys + (i - (a + n))) 0
      ∙ get_or-append-add ys (drop n (drop a xs)) (i - (a + n)) 0
      ∙ get_or-drop n (drop a xs) (i - (a + n)) 0
      ∙ get_or-drop a xs (n + (i - (a + n))) 0
      ∙ ap (λ (k : ℕ). get_or xs k 0) f

  pub part-put-before : (b m : ℕ) → b + m ≤ a → part b m (put a n ys xs) ≡ part b m xs
  part-put-before b m h = part_same b m (put a n ys xs) xs (omega (arith, length-put)) (omega arith) (λ i k. put-before (b + i) (omega arith))

  pub part-put-behind : (b m : ℕ) → a + n ≤ b → b + m ≤ length xs → part b m (put a n ys xs) ≡ part b m xs
  part-put-behind b m h k = part_same b m (put a n ys xs) xs (omega (arith, length-put)) k (λ i l. put-behind (b + i) (omega arith))

  -- a list is known by what it has before, in and behind the part
  pub put_is : (zs : List ℕ) → length zs ≡ length xs → ((i : ℕ) → i < a → get_or zs i 0 ≡ get_or xs i 0) → ((i : ℕ) → i < n → get_or zs (a + i) 0 ≡ get_or ys i 0)
      → ((i : ℕ) → a + n ≤ i → get_or zs i 0 ≡ get_or xs i 0) → zs ≡ put a n ys xs
  put_is zs l front mid back = ext_get_or 0 zs (put a n ys xs) (l ∙ sym length-put) (λ i h. cell i (lies a n i))
    where
      cell : (i : ℕ) → Lies a n i → get_or zs i 0 ≡ get_or (put a n ys xs) i 0
      cell i (before h) = front i h ∙ sym (put-before i h)
      cell i (within j h e) = ap (λ (k : ℕ). get_or zs k 0) e ∙ mid j h ∙ sym (put-at j h) ∙ ap (λ (k : ℕ). get_or (put a n ys xs) k 0) (sym e)
      cell i (behind h) = back i h ∙ sym (put-behind i h)

-- what stands there, put there, changes nothing
pub put-part : (a n : ℕ) (xs : List ℕ) → a + n ≤ length xs → put a n (part a n xs) xs ≡ xs
put-part a n xs h = sym (put_is a n xs h (part a n xs) (length_part a n xs h) xs refl (λ i k. refl) (λ i k. sym (part_at a n xs i k)) (λ i k. refl))

-- of two puts in one place the second is left
pub put-put : (a n : ℕ) (xs ys zs : List ℕ) → a + n ≤ length xs → length ys ≡ n → length zs ≡ n → put a n zs (put a n ys xs) ≡ put a n zs xs
put-put a n xs ys zs h l m =
    let p : length (put a n ys xs) ≡ length xs = length-put a n xs h ys l in
    let k : a + n ≤ length (put a n ys xs) = omega arith in
    put_is a n xs h zs m (put a n zs (put a n ys xs)) (length-put a n (put a n ys xs) k zs m ∙ p)
    (λ i j. put-before a n (put a n ys xs) k zs m i j ∙ put-before a n xs h ys l i j)
    (λ i j. put-at a n (put a n ys xs) k zs m i j)
    (λ i j. put-behind a n (put a n ys xs) k zs m i j ∙ put-behind a n xs h ys l i j)

-- a store in a part, by the part
pub set-put : (a n : ℕ) (xs : List ℕ) (i v : ℕ) → a + n ≤ length xs → i < n → set xs (a + i) v ≡ put a n (set (part a n xs) i v) xs
set-put a n xs i v h k =
    let l : length (set (part a n xs) i v) ≡ n = length-set (part a n xs) i v ∙ length_part a n xs h in
    put_is a n xs h (set (part a n xs) i v) l (set xs (a + i) v) (length-set xs (a + i) v)
    (λ j lt. get_or-set_other xs (a + i) j v 0 (omega arith))
    (λ j lt. sym (part_at a n (set xs (a + i) v) j lt) ∙ ap (λ (ys : List ℕ). get_or ys j 0) (part-set a n xs i v k))
    (λ j le. get_or-set_other xs (a + i) j v 0 (omega arith))

-- a part lent as `&mut xs[a..e]` that came back at zs
pub put-lent : (a e n : ℕ) (xs ys zs : List ℕ) → e ≡ a + n → ys ≡ zs → put a (e - a) ys xs ≡ put a n zs xs
put-lent a e n xs ys zs h q = let k : e - a ≡ n = omega arith in rw (k, q)

-- ---- cells written one behind the other
pub put-none : (a : ℕ) (xs : List ℕ) → put a 0 [] xs ≡ xs
put-none a xs = take-append-drop a xs

pub put-more : (a n : ℕ) (xs ys : List ℕ) (v : ℕ) → length ys ≡ n → a + n < length xs → set (put a n ys xs) (a + n) v ≡ put a (n + 1) (ys ++ (v ∷ [])) xs
put-more a n xs ys v l h =
    let k : n < length (drop a xs) = omega (arith, length-drop a xs) in
    let p : length (take a xs ++ ys) ≡ a + n = length-append (take a xs) ys ∙ omega (arith, length-take-le a xs (omega arith)) in
    ap (λ (zs : List ℕ). set (take a xs ++ (ys ++ zs)) (a + n) v) (drop-cons (drop a xs) n 0 k)
    ∙ ap (λ (zs : List ℕ). set zs (a + n) v) (sym (append_assoc (take a xs) ys _))
    ∙ set_at (take a xs ++ ys) _ _ v (a + n) p
    ∙ simp (append_assoc, add-one)

-- one cell more is copied
pub take-copied : (i : ℕ) (xs ys : List ℕ) → i < length xs → i < length ys → take i ys ≡ take i xs → take (i + 1) (set ys i (get_or xs i 0)) ≡ take (i + 1) xs
take-copied i xs ys h k e = rw (add-one i, take-suc-set ys i (get_or xs i 0) k, take-suc xs i 0 h) (ap (λ (l : List ℕ). l ++ (get_or xs i 0 ∷ [])) e)

-- the same of any cells, where the copied one is x
pub copied-turn : {A : Type 0} (i : ℕ) (xs ys : List A) (x : A) → i < length xs → i < length ys → x ≡ get_or xs i x → take i ys ≡ take i xs → take (i + 1) (set ys i x) ≡ take (i + 1) xs
copied-turn i xs ys x h k e p = rw (add-one i, take-suc-set ys i x k, take-suc xs i x h) (ap (λ l. l ++ (x ∷ [])) p ∙ ap (λ y. take i xs ++ (y ∷ [])) e)

-- up to the end of a part
pub take_put : (a n : ℕ) (xs ys : List ℕ) → a ≤ length xs → length ys ≡ n → take (a + n) (put a n ys xs) ≡ take a xs ++ ys
take_put a n xs ys h l =
    let p : length (take a xs ++ ys) ≡ a + n = length-append (take a xs) ys ∙ omega (arith, length-take-le a xs h) in
    rw (← append_assoc (take a xs)) (take_at (take a xs ++ ys) (drop n (drop a xs)) (a + n) p)
