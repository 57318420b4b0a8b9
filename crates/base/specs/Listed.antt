-- The list f 0, f 1, .. of n elements: how things that stand one behind the other in a buffer are read as a list.
use Rattle.std.specs.Prelude.{◌≡◌, length, get_or, replicate}
use Rattle.std.proofs.Math.Path.{refl, sym, ap, ap₂}
use Rattle.std.proofs.Common.{◌∙◌, add-one, arith}
use mathlib.Core.List.{List, [], ◌∷◌, ◌++◌}
use Prim.Native.Nat.{ℕ, zero, suc, ◌+◌, ◌<◌}
use Rattle.std.proofs.Math.Decide.{ℕ_discrete}
use Rattle.std.proofs.Math.ListN.{length-append, get_or-append}
use Rattle.std.proofs.Math.Seq.{get_or_at}

module _ {A : Type 0} where
  unfoldable pub listed : (ℕ → A) → ℕ → List A
  listed f zero = []
  listed f (suc n) = listed f n ++ (f n ∷ [])

  pub listed_more : (f : ℕ → A) (n : ℕ) → listed f (n + 1) ≡ listed f n ++ (f n ∷ [])
  unfolding listed
  listed_more f n = rw (add-one n)

  pub length-listed : (f : ℕ → A) (n : ℕ) → length (listed f n) ≡ n
  unfolding listed
  length-listed f zero = refl
  length-listed f (suc n) = length-append (listed f n) (f n ∷ []) ∙ omega (arith, length-listed f n)

  pub listed_at : (f : ℕ → A) (n i : ℕ) (d : A) → i < n → get_or (listed f n) i d ≡ f i
  unfolding listed
  listed_at f zero i d h = absurd (omega arith)
  listed_at f (suc n) i d h = elim (ℕ_discrete i n) [
    | yes e ↦ get_or_at (listed f n) (f n) [] d i (length-listed f n ∙ sym e) ∙ ap f (sym e)
    | no e ↦ get_or-append (listed f n) (f n ∷ []) d i (omega (arith, length-listed f n)) ∙ listed_at f n i d (omega arith)
  ]

  pub listed_same : (f g : ℕ → A) (n : ℕ) → ((i : ℕ) → i < n → f i ≡ g i) → listed f n ≡ listed g n
  unfolding listed
  listed_same f g zero h = refl
  listed_same f g (suc n) h = ap₂ (λ (xs : List A) (x : A). xs ++ (x ∷ [])) (listed_same f g n (λ i l. h i (omega arith))) (h n (omega arith))

  -- a list of nothing but d has d at every place, and past its end
  pub only_at : (d : A) (n i : ℕ) → get_or (replicate n d) i d ≡ d
  only_at d zero i = refl
  only_at d (suc n) zero = refl
  only_at d (suc n) (suc i) = only_at d n i
