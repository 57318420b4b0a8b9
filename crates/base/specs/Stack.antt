-- A stack of words in a part of a buffer: its base, and how many words stand on it.
use Rattle.std.specs.Prelude.{Option, Some, None}
use Rattle.std.specs.Prelude.{◌≡◌, refl, List, [], ◌∷◌, ℕ, zero, suc, ◌+◌, ◌≤◌, ◌<◌, length, get_or, set}
use Rattle.std.proofs.Common.{ap, ap₂, add-one, arith, get_or-set_same, get_or-set_other}
use Rattle.base.specs.declared.stack.Stack.{Stack}

-- the n words that stand on a, the last one first
unfoldable pub stacked : ℕ → ℕ → List ℕ → List ℕ
stacked a zero xs = []
stacked a (suc n) xs = get_or xs (a + n) 0 ∷ stacked a n xs

pub length-stacked : (a n : ℕ) (xs : List ℕ) → length (stacked a n xs) ≡ n
unfolding stacked
length-stacked a zero xs = refl
length-stacked a (suc n) xs = ap suc (length-stacked a n xs)

-- it is known by its words
pub stacked-same : (a n : ℕ) (xs ys : List ℕ) → ((i : ℕ) → i < n → get_or ys (a + i) 0 ≡ get_or xs (a + i) 0) → stacked a n ys ≡ stacked a n xs
unfolding stacked
stacked-same a zero xs ys f = refl
stacked-same a (suc n) xs ys f = ap₂ (λ (v : ℕ) (l : List ℕ). v ∷ l) (f n (omega arith)) (stacked-same a n xs ys (λ i h. f i (omega arith)))

-- a store outside it leaves it
pub stacked-set : (a n : ℕ) (xs : List ℕ) (i v : ℕ) → (a ≤ i → i < a + n → ⊥) → stacked a n (set xs i v) ≡ stacked a n xs
stacked-set a n xs i v h = stacked-same a n xs (set xs i v) (λ j l. get_or-set_other xs i (a + j) v 0 (λ e. h (omega arith) (omega arith)))

-- a word put on it
pub stacked-push : (a n : ℕ) (xs : List ℕ) (v : ℕ) → a + n < length xs → stacked a (n + 1) (set xs (a + n) v) ≡ v ∷ stacked a n xs
unfolding stacked
stacked-push a n xs v h = rw (add-one n) (ap₂ (λ (w : ℕ) (l : List ℕ). w ∷ l) (get_or-set_same xs (a + n) v 0 h) (stacked-set a n xs (a + n) v (λ p q. omega arith)))

-- a word taken off it
pub stacked_pop : (a n : ℕ) (xs : List ℕ) → stacked a (n + 1) xs ≡ get_or xs (a + n) 0 ∷ stacked a n xs
unfolding stacked
stacked_pop a n xs = rw (add-one n)

-- what taking a word off the stack ws gives: its first word and a stack of the others, or that it has none
abbrev pub Took : List ℕ → ℕ → List ℕ → Option (ℕ × Stack) → Type 0
Took ws a xs (Some (v, st)) = (st.at ≡ a) × (st.len < length ws) × (ws ≡ v ∷ stacked a st.len xs)
Took ws a xs None = ws ≡ []
