-- Pairs of words from a place of a list on: a worklist, or the frames of a walk.
use Rattle.std.specs.Prelude.{◌≡◌, refl, List, [], ◌∷◌, ℕ, zero, suc, ◌+◌, ◌*◌, ◌≤◌, ◌<◌, length, get_or, set}
use Rattle.std.proofs.Common.{ap, ap₂, ◌∙◌, arith, length-set, get_or-set_same, get_or-set_other}
use Rattle.definition.specs.Graph.{Pair}

-- two words
abbrev pub pair : ℕ → ℕ → Pair
pair a b = record { left = a; right = b }

-- the first n pairs from a place on, the last one on top
unfoldable pub pairs_in : ℕ → List ℕ → ℕ → List Pair
pairs_in from work zero = []
pairs_in from work (suc n) = pair (get_or work (from + 2 * n) 0) (get_or work (from + 2 * n + 1) 0) ∷ pairs_in from work n

-- so many
pub length-pairs_in : (from : ℕ) (work : List ℕ) (n : ℕ) → length (pairs_in from work n) ≡ n
unfolding pairs_in
length-pairs_in from work zero = refl
length-pairs_in from work (suc n) = ap suc (length-pairs_in from work n)

-- they are the same where their words are
pub pairs_same : (from : ℕ) (work work' : List ℕ) (n : ℕ) → ((i : ℕ) → from ≤ i → i < from + 2 * n → get_or work' i 0 ≡ get_or work i 0) → pairs_in from work' n ≡ pairs_in from work n
unfolding pairs_in
pairs_same from work work' zero h = refl
pairs_same from work work' (suc n) h =
    ap₂ (λ (p : Pair) (ps : List Pair). p ∷ ps)
    (ap₂ pair (h (from + 2 * n) (omega arith) (omega arith)) (h (from + 2 * n + 1) (omega arith) (omega arith)))
    (pairs_same from work work' n (λ i k l. h i k (omega arith)))

-- what stands behind them is no matter to them
pub pairs_kept : (from : ℕ) (work : List ℕ) (n i v : ℕ) → from + 2 * n ≤ i → pairs_in from (set work i v) n ≡ pairs_in from work n
pairs_kept from work n i v h = pairs_same from work (set work i v) n (λ j k l. get_or-set_other work i j v 0 (λ e. omega (arith, e)))

-- one pair more
pub pairs_more : (from : ℕ) (work : List ℕ) (n a b : ℕ) → from + 2 * n + 1 < length work → pairs_in from (set (set work (from + 2 * n) a) (from + 2 * n + 1) b) (suc n) ≡ pair a b ∷ pairs_in from work n
unfolding pairs_in
pairs_more from work n a b h =
    let i : ℕ = from + 2 * n in
    ap₂ (λ (p : Pair) (ps : List Pair). p ∷ ps)
    (ap₂ pair
    (get_or-set_other (set work i a) (i + 1) i b 0 (λ e. omega (arith, e)) ∙ get_or-set_same work i a 0 (omega arith))
    (get_or-set_same (set work i a) (i + 1) b 0 (omega (arith, length-set work i a))))
    (pairs_kept from (set work i a) n (i + 1) b (omega arith) ∙ pairs_kept from work n i a (omega arith))
