-- Lists that grow at their end: what holds of each element, what is given once, and what earlier numbers still stand for.
use Rattle.std.specs.Prelude.{◌≡◌, refl, Bool, true, false, not, ◌||◌, List, [], ◌∷◌, ◌++◌, map, ℕ, zero, suc, ◌+◌, ◌≤◌, ◌<◌, ltb, length, get_or}
use Rattle.std.proofs.Common.{sym, ap, ◌∙◌, arith, length-append}
use Rattle.std.proofs.lemmas.Bool.{not-true}
use Rattle.std.proofs.Math.ListN.{get_or-append, get_or-map}
use Rattle.std.proofs.lemmas.List.{length-map, get_or_at}
use Rattle.definition.specs.Test.{is, see, never, tests, any}
use Rattle.definition.specs.Good.{Below, Distinct}

-- numbers below n are below what is no less
pub below_more : (n m : ℕ) (xs : List ℕ) → n ≤ m → Below n xs → Below m xs
below_more n m [] h b = tt
below_more n m (x ∷ xs) h b = (omega (arith, b.0), below_more n m xs h b.1)

-- an element of numbers below n
pub below_both : (n : ℕ) (xs ys : List ℕ) → Below n xs → Below n ys → Below n (xs ++ ys)
below_both n [] ys a b = b
below_both n (x ∷ xs) ys a b = (a.0, below_both n xs ys a.1 b)

pub below_at : (n : ℕ) (xs : List ℕ) (i : ℕ) → Below n xs → i < length xs → get_or xs i 0 < n
below_at n [] i b l = absurd (omega arith)
below_at n (x ∷ xs) zero b l = b.0
below_at n (x ∷ xs) (suc i) b l = below_at n xs i b.1 (omega arith)

-- each element with its number is so
abbrev pub Each : {A : Type 0} → (ℕ → A → Type 0) → A → List A → Type 0
Each G d xs = (i : ℕ) → i < length xs → G i (get_or xs i d)

-- no element has the key of x
abbrev pub Fresh : {A B : Type 0} → (A → B) → A → List A → A → Type 0
Fresh key d xs x = (i : ℕ) → i < length xs → key (get_or xs i d) ≡ key x → ⊥

-- the same list, or one element more, which is as it must be
pub data Grown {A : Type 0} (New : A → Type 0) (xs : List A) : List A → Type 0 where
  still : Grown New xs xs
  more : (x : A) → New x → Grown New xs (xs ++ (x ∷ []))

-- the first list stands at the front of the second
pub record Begins {A : Type 0} (xs ys : List A) : Type 0 where
  pub longer : length xs ≤ length ys
  pub kept : (i : ℕ) (d : A) → i < length xs → get_or ys i d ≡ get_or xs i d

-- a number up to the last: one of those before, or the last
data Place (n i : ℕ) : Type 0 where
  before : i < n → Place n i
  last : i ≡ n → Place n i

-- every number up to n has one
place : (n i : ℕ) → i ≤ n → Place n i
place n i h = elim (see (ltb i n)) [
  | is true p ↦ before (omega tests)
  | is false p ↦ last (omega tests)
]

-- a mapped list, at a place
pub map_at : (f : ℕ → ℕ) (xs : List ℕ) (i : ℕ) → i < length xs → get_or (map f xs) i 0 ≡ f (get_or xs i 0)
map_at f [] i h = absurd (omega arith)
map_at f (x ∷ xs) zero h = refl
map_at f (x ∷ xs) (suc i) h = map_at f xs i (omega arith)

-- behind a list stands the other
pub get_d_behind : {A : Type 0} (xs ys : List A) (d : A) (n : ℕ) → get_or (xs ++ ys) (length xs + n) d ≡ get_or ys n d
get_d_behind [] ys d n = let e : 0 + n ≡ n = omega arith in ap (λ (m : ℕ). get_or ys m d) e
get_d_behind (x ∷ xs) ys d n = let e : suc (length xs) + n ≡ suc (length xs + n) = omega arith in ap (λ (m : ℕ). get_or (x ∷ (xs ++ ys)) m d) e ∙ get_d_behind xs ys d n

-- one element more
pub length_more : {A : Type 0} (xs : List A) (x : A) → length (xs ++ (x ∷ [])) ≡ suc (length xs)
length_more xs x = length-append xs (x ∷ []) ∙ omega arith

-- where an element of the longer list stands
where_more : {A : Type 0} (xs : List A) (x : A) (i : ℕ) → i < length (xs ++ (x ∷ [])) → Place (length xs) i
where_more xs x i h = place (length xs) i (omega (arith, length_more xs x))

-- a list that has grown begins with what it was
pub grown_begins : {A : Type 0} (New : A → Type 0) (xs ys : List A) → Grown New xs ys → Begins xs ys
grown_begins New xs _ still = record { longer = omega arith; kept = λ i d h. refl }
grown_begins New xs _ (more x n) = record { longer = omega (arith, length_more xs x); kept = λ i d h. get_or-append xs (x ∷ []) d i h }

-- what holds of each element and of the new one holds of each element
pub each_grown : {A : Type 0} (G H : ℕ → A → Type 0) (New : A → Type 0) (d : A) (xs ys : List A)
    → ((i : ℕ) (a : A) → i ≤ length xs → G i a → H i a) → ((x : A) → New x → G (length xs) x)
    → Grown New xs ys → Each G d xs → Each H d ys
each_grown G H New d xs _ keep new still each i h = keep i (get_or xs i d) (omega arith) (each i h)
each_grown G H New d xs _ keep new (more x n) each i h = elim (where_more xs x i h) [
  | before l ↦ rw (get_or-append xs (x ∷ []) d i l) (keep i (get_or xs i d) (omega arith) (each i l))
  | last e ↦ rw (get_or_at xs x [] d i (sym e)) (keep i x (omega arith) (rw (← e) at (new x n)))
]

-- a fresh element keeps all apart
pub distinct_grown : {A B : Type 0} (key : A → B) (New : A → Type 0) (d : A) (xs ys : List A)
    → ((x : A) → New x → Fresh key d xs x) → Grown New xs ys → Distinct key d xs → Distinct key d ys
distinct_grown key New d xs _ new still apart = apart
distinct_grown key New d xs _ new (more x n) apart = λ i j h k e. elim (where_more xs x i h) [
  | before l ↦ elim (where_more xs x j k) [
    | before m ↦ apart i j l m (ap key (sym (old i l)) ∙ e ∙ ap key (old j m))
    | last q ↦ absurd (new x n i l (ap key (sym (old i l)) ∙ e ∙ ap key (end j q)))
  ]
  | last p ↦ elim (where_more xs x j k) [
    | before m ↦ absurd (new x n j m (ap key (sym (old j m)) ∙ sym e ∙ ap key (end i p)))
    | last q ↦ p ∙ sym q
  ]
]
  where
    old : (i : ℕ) → i < length xs → get_or (xs ++ (x ∷ [])) i d ≡ get_or xs i d
    old i l = get_or-append xs (x ∷ []) d i l

    end : (i : ℕ) → i ≡ length xs → get_or (xs ++ (x ∷ [])) i d ≡ x
    end i q = get_or_at xs x [] d i (sym q)

-- a new one comes only where there are fewer than may be, so there are never more
pub few_grown : {A : Type 0} (New : A → Type 0) (most : ℕ) (xs ys : List A)
    → ((x : A) → New x → length xs < most) → Grown New xs ys → length xs ≤ most → length ys ≤ most
few_grown New most xs _ new still h = h
few_grown New most xs _ new (more x n) h = omega (arith, length_more xs x, new x n)

-- a key that none of the keys is, none of the elements has
pub fresh-map : {A B : Type 0} (key : A → B) (d : A) (xs : List A) (x : A)
    → Fresh (λ (b : B). b) (key d) (map key xs) (key x) → Fresh key d xs x
fresh-map key d xs x f i h e = f i (omega (arith, length-map xs key)) (get_or-map key xs i d ∙ e)

-- neither passes
or_parts : (a b : Bool) → a || b ≡ false → (a ≡ false) × (b ≡ false)
or_parts true b e = never (cc)
or_parts false b e = (refl, e)

-- where none passes, no element does
any_none : {A : Type 0} (f : A → Bool) (d : A) (xs : List A) → any f xs ≡ false → (i : ℕ) → i < length xs → f (get_or xs i d) ≡ false
unfolding any
any_none f d [] e i h = absurd (omega arith)
any_none f d (x ∷ xs) e zero h = (or_parts (f x) (any f xs) e).0
any_none f d (x ∷ xs) e (suc i) h = any_none f d xs (or_parts (f x) (any f xs) e).1 i (omega arith)

-- where none passes, and all with the key of x would, x is fresh
pub none-fresh : {A B : Type 0} (f : A → Bool) (key : A → B) (d : A) (xs : List A) (x : A)
    → ((y : A) → key y ≡ key x → f y ≡ true) → not (any f xs) ≡ true → Fresh key d xs x
none-fresh f key d xs x pass e i h q =
    let n = any_none f d xs (not-true (any f xs) e) i h in
    let p = pass (get_or xs i d) q in
    never (cc)
