-- The values of a rule's variables, a word each: 0 for none, else the node's number and one.
use Rattle.std.specs.Prelude.{◌≡◌, refl, Bool, true, false, List, ◌∷◌, ℕ, zero, suc, ◌+◌, ◌-◌, ◌<◌, eqb, length, get_or, set}
use Rattle.std.proofs.Common.{sym, ap, ◌∙◌, add-one, arith, eq-eqb, ne_eqb, eqb-true, get_or-set_same, get_or-set_other}
use Rattle.std.proofs.Math.Option.{Option, none, some}
use Rattle.std.proofs.Math.Decide.{ℕ_discrete}
use Rattle.std.proofs.lemmas.Bool.{eqb-false}
use Rattle.definition.specs.Test.{is, see}
use Rattle.definition.specs.Verdict.{Bound, value_of, bound}

abbrev pub value_in : ℕ → Option ℕ
value_in zero = none
value_in (suc n) = some n

-- the values of the first n variables
abbrev pub Values : ℕ → List ℕ → List Bound → Type 0
Values n vals bs = (k : ℕ) → k < n → value_of k bs ≡ value_in (get_or vals k 0)

-- what giving variable k the node m answers: the values with it, or that it has another
abbrev pub Binds : List ℕ → List ℕ → ℕ → ℕ → Bool → Type 0
Binds vals vals' k m true = (n : ℕ) (bs : List Bound) → k < n → Values n vals bs → (cs : List Bound) × (bound k m bs (value_of k bs) ≡ some cs) × Values n vals' cs
Binds vals vals' k m false = (n : ℕ) (bs : List Bound) → k < n → Values n vals bs → bound k m bs (value_of k bs) ≡ none

-- a value that is given again stays, another is refused
bound-same : (k m : ℕ) (bs : List Bound) → bound k m bs (some m) ≡ some bs
unfolding bound
bound-same k m bs = rw (eq-eqb m m refl, bound)

bound-other : (k m v : ℕ) (bs : List Bound) → (v ≡ m → ⊥) → bound k m bs (some v) ≡ none
unfolding bound
bound-other k m v bs d = rw (ne_eqb v m d, bound)

-- a variable with no value gets this one, the others keep theirs
pub bind-first : (vals : List ℕ) (k m : ℕ) → k < length vals → get_or vals k 0 ≡ 0 → Binds vals (set vals k (m + 1)) k m true
unfolding bound value_of
bind-first vals k m l z = λ n bs h vs. (record { variable = k; value = m } ∷ bs, ap (bound k m bs) (vs k h ∙ ap value_in z), λ j i. at bs j (vs j i) (ℕ_discrete j k))
  where
    at : (bs : List Bound) (j : ℕ) → value_of j bs ≡ value_in (get_or vals j 0) → Dec (j ≡ k) → value_of j (record { variable = k; value = m } ∷ bs) ≡ value_in (get_or (set vals k (m + 1)) j 0)
    at bs j v (yes e) =
        let s : get_or (set vals k (m + 1)) j 0 ≡ suc m = ap (λ (x : ℕ). get_or (set vals k (m + 1)) x 0) e ∙ get_or-set_same vals k (m + 1) 0 l ∙ add-one m in
        rw (s, eq-eqb k j (sym e), value_of)
    at bs j v (no d) = rw (ne_eqb k j (λ e. d (sym e)), value_of) (v ∙ ap value_in (sym (get_or-set_other vals k j (m + 1) 0 (λ e. d (omega (arith, e))))))

-- one with a value keeps it, and it must be the same
pub bind_again : (vals : List ℕ) (k m : ℕ) → (get_or vals k 0 ≡ 0 → ⊥) → Binds vals vals k m (eqb (get_or vals k 0) (m + 1))
bind_again vals k m z = elim (see (eqb (get_or vals k 0) (m + 1))) [
  | is true p ↦ rw p (λ n bs h vs. (bs, ap (bound k m bs) (vs k h ∙ ap value_in (eqb-true _ _ p ∙ add-one m)) ∙ bound-same k m bs, vs))
  | is false p ↦
      let v : ℕ = get_or vals k 0 - 1 in
      let e : get_or vals k 0 ≡ suc v = omega (arith, z) in
      rw p (λ n bs h vs. ap (bound k m bs) (vs k h ∙ ap value_in e) ∙ bound-other k m v bs (λ q. eqb-false _ _ p (e ∙ ap suc q ∙ sym (add-one m))))
]
