-- Whether two lists are the same, cell by cell from a place on.
use Rattle.std.specs.Prelude.{◌≡◌, refl, Bool, true, false, ◌&&◌, List, [], ◌∷◌, ℕ, eqb, nat_eq, ◌+◌, ◌≤◌, ◌<◌, length, get_or, drop}
use Rattle.std.proofs.Common.{sym, ap, ◌∙◌, add-one, eq-eqb, ne_eqb, drop_of_length-le, drop-cons}
use Rattle.std.specs.Cmp.Lexicographic.{pointwise}
use Rattle.definition.specs.Test.{◌and◌, same, same_true, same_refl, is, see, never}

-- the test says that they are not the same just if they are not
pub same_not : (xs ys : List ℕ) → (xs ≡ ys → ⊥) → same xs ys ≡ false
same_not xs ys n = elim (see (same xs ys)) [ is true p ↦ absurd (n (same_true xs ys p)) | is false p ↦ p ]

pub same_false : (xs ys : List ℕ) → same xs ys ≡ false → xs ≡ ys → ⊥
same_false xs ys f e = let z : true ≡ false = sym (same_refl xs) ∙ ap (λ (zs : List ℕ). same xs zs) e ∙ f in never (cc)

-- one turn: equal cells leave the rest to be compared
pub same_turn : (i : ℕ) (xs ys : List ℕ) → i < length xs → i < length ys → get_or xs i 0 ≡ get_or ys i 0 → same (drop (i + 1) xs) (drop (i + 1) ys) ≡ same (drop i xs) (drop i ys)
unfolding same
same_turn i xs ys l m e = rw (drop-cons xs i 0 l, drop-cons ys i 0 m, eq-eqb (get_or xs i 0) (get_or ys i 0) e, ◌and◌, add-one i)

-- unlike cells end it
pub same_stop : (i : ℕ) (xs ys : List ℕ) → i < length xs → i < length ys → (get_or xs i 0 ≡ get_or ys i 0 → ⊥) → same (drop i xs) (drop i ys) ≡ false
unfolding same
same_stop i xs ys l m n = rw (drop-cons xs i 0 l, drop-cons ys i 0 m, ne_eqb (get_or xs i 0) (get_or ys i 0) n, ◌and◌)

-- so does the end of both
pub same_end : (i : ℕ) (xs ys : List ℕ) → length xs ≤ i → length ys ≤ i → same (drop i xs) (drop i ys) ≡ true
unfolding same
same_end i xs ys l m = rw (drop_of_length-le xs l, drop_of_length-le ys m)

-- the library's test of two slices is the same test
pub same_is : (xs ys : List ℕ) → pointwise nat_eq xs ys ≡ same xs ys
unfolding same ◌and◌
same_is [] [] = refl
same_is [] (y ∷ ys) = refl
same_is (x ∷ xs) [] = refl
same_is (x ∷ xs) (y ∷ ys) = by (eqb x y) (same_is xs ys)
  where
    by : (b : Bool) → pointwise nat_eq xs ys ≡ same xs ys → (b && pointwise nat_eq xs ys) ≡ (b and same xs ys)
    by true e = e
    by false e = refl
