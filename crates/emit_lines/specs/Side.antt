-- Texts side by side, one more at a time.
use Rattle.std.specs.Prelude.{◌≡◌, refl, List, [], ◌∷◌, ◌++◌, map, ℕ, zero, suc, ◌+◌, ◌<◌, length, get_or, take, replicate}
use Rattle.std.proofs.Common.{sym, ap, ◌∙◌, append_assoc, append-nil, arith}
use Rattle.emission.specs.Text.{blanked, joined}

-- the blank ahead of what stands at a place of a list: the first has none
abbrev pub gap : ℕ → List ℕ
gap zero = []
gap (suc i) = 32 ∷ []

pub gap-none : (i : ℕ) → i ≡ 0 → gap i ≡ []
gap-none i e = ap gap e

pub gap_some : (i : ℕ) → 0 < i → gap i ≡ 32 ∷ []
gap_some zero h = absurd (omega arith)
gap_some (suc i) h = refl

-- one text more, a blank ahead of each
blanked_suc : (f : ℕ → List ℕ) (s : List ℕ) (i : ℕ) → i < length s → blanked (map f (take i s)) ++ (32 ∷ f (get_or s i 0)) ≡ blanked (map f (take (suc i) s))
unfolding blanked
blanked_suc f [] i h = absurd (omega arith)
blanked_suc f (x ∷ s) zero h = sym (append-nil (32 ∷ f x))
blanked_suc f (x ∷ s) (suc i) h = append_assoc (32 ∷ f x) (blanked (map f (take i s))) (32 ∷ f (get_or s i 0)) ∙ ap (λ (t : List ℕ). (32 ∷ f x) ++ t) (blanked_suc f s i (omega arith))

pub blanked-next : (f : ℕ → List ℕ) (s : List ℕ) (i : ℕ) → i < length s → blanked (map f (take i s)) ++ (32 ∷ f (get_or s i 0)) ≡ blanked (map f (take (i + 1) s))
blanked-next f s i h = let e : suc i ≡ i + 1 = omega arith in blanked_suc f s i h ∙ ap (λ (n : ℕ). blanked (map f (take n s))) e

-- a blank between each two
joined_suc : (f : ℕ → List ℕ) (s : List ℕ) (i : ℕ) → i < length s → joined (map f (take i s)) ++ (gap i ++ f (get_or s i 0)) ≡ joined (map f (take (suc i) s))
unfolding blanked joined
joined_suc f [] i h = absurd (omega arith)
joined_suc f (x ∷ s) zero h = sym (append-nil (f x))
joined_suc f (x ∷ s) (suc i) h = append_assoc (f x) (blanked (map f (take i s))) (32 ∷ f (get_or s i 0)) ∙ ap (λ (t : List ℕ). f x ++ t) (blanked_suc f s i (omega arith))

pub joined-next : (f : ℕ → List ℕ) (s : List ℕ) (i : ℕ) → i < length s → joined (map f (take i s)) ++ (gap i ++ f (get_or s i 0)) ≡ joined (map f (take (i + 1) s))
joined-next f s i h = let e : suc i ≡ i + 1 = omega arith in joined_suc f s i h ∙ ap (λ (n : ℕ). joined (map f (take n s))) e

-- one underscore more
underscore_suc : (n : ℕ) → replicate {A = ℕ} n 95 ++ (95 ∷ []) ≡ replicate (suc n) 95
underscore_suc zero = refl
underscore_suc (suc n) = ap (λ (t : List ℕ). 95 ∷ t) (underscore_suc n)

pub underscore_next : (n : ℕ) → replicate {A = ℕ} n 95 ++ (95 ∷ []) ≡ replicate (n + 1) 95
underscore_next n = let e : suc n ≡ n + 1 = omega arith in underscore_suc n ∙ ap (λ (m : ℕ). replicate m 95) e
