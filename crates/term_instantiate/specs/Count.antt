-- The numbers below another, as the words of an environment.
use Rattle.std.specs.Prelude.{◌≡◌, List, [], ◌∷◌, ◌++◌, ℕ, ◌+◌, ◌-◌, ◌≤◌, ◌<◌, length, set, take, drop}
use Rattle.std.proofs.Common.{sym, ap, ◌∙◌, arith, add-one, ext_get_or, length-take-le, get_or-take, take-suc-set}
use Rattle.definition.specs.Graph.{up_to}
use Rattle.theory.specs.Unification.Circle.{length_up_to}
use Rattle.theory.specs.Copies.Variables.{up_to_at}

-- one number more
pub up_more : (env : List ℕ) (i : ℕ) → i < length env → take i env ≡ up_to i → take (i + 1) (set env i i) ≡ up_to (i + 1)
unfolding up_to
up_more env i h e = rw (add-one i) (take-suc-set env i i h ∙ ap (λ (xs : List ℕ). xs ++ (i ∷ [])) e)

-- as they are lent
pub up-lent : (env : List ℕ) (n : ℕ) → take n env ≡ up_to n → take (n - 0) (drop 0 env) ≡ up_to n
up-lent env n e = let z : n - 0 ≡ n = omega arith in ap (λ (j : ℕ). take j env) z ∙ e

-- the first of them
pub up_first : (m n : ℕ) → n ≤ m → take n (up_to m) ≡ up_to n
up_first m n h =
    let l = length-take-le n (up_to m) (omega (arith, length_up_to m)) in
    ext_get_or 0 (take n (up_to m)) (up_to n) (l ∙ sym (length_up_to n)) (λ j p.
    let q : j < n = omega (arith, p, l) in
    get_or-take n (up_to m) j 0 q ∙ up_to_at m j (omega arith) ∙ sym (up_to_at n j q))
