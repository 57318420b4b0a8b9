-- Values that patterns have: what a walk finds first that has none, and how many have none.
use Rattle.std.specs.Prelude.{◌≡◌, refl, List, [], ◌∷◌, ℕ, zero, suc, ◌+◌, ◌≤◌, ◌<◌, length, get_or}
use Rattle.std.proofs.Common.{sym, ap, ap₂, ◌∙◌, arith}
use Rattle.std.proofs.Math.Option.{Option, none, some}
use Rattle.std.proofs.Math.Decide.{ℕ_discrete}

-- values by pattern
abbrev pub Values : Type 0
Values = ℕ → Option ℕ

-- a pattern has a value
abbrev pub Known : Values → ℕ → Type 0
Known μ p = (v : ℕ) × (μ p ≡ some v)

-- its value, else 0
unfoldable pub valued : Option ℕ → ℕ
valued none = 0
valued (some v) = v

-- the same by pattern
abbrev pub value_of : Values → ℕ → ℕ
value_of μ p = valued (μ p)

-- all of these have one
abbrev pub AllKnown : Values → List ℕ → Type 0
AllKnown μ ps = (i : ℕ) → i < length ps → Known μ (get_or ps i 0)

-- the first of these without a value is a
pub record FirstOpen (μ : Values) (ps : List ℕ) (a : ℕ) : Type 0 where
  pub at : ℕ
  pub inside : at < length ps
  pub is_it : get_or ps at 0 ≡ a
  pub open_yet : μ a ≡ none
  pub known : (i : ℕ) → i < at → Known μ (get_or ps i 0)

-- one more of them has a value
pub known_more : (μ : Values) (ps : List ℕ) (i v : ℕ) → ((h : ℕ) → h < i → Known μ (get_or ps h 0)) → μ (get_or ps i 0) ≡ some v → (h : ℕ) → h < i + 1 → Known μ (get_or ps h 0)
known_more μ ps i v k e h l = elim (ℕ_discrete h i) [
  | yes q ↦ (v, ap (λ (z : ℕ). μ (get_or ps z 0)) q ∙ e)
  | no n ↦ k h (omega arith)
]

-- what stands on a walk's stack, the last pushed first: patterns without a value, each greater than the one before, at the end d
abbrev pub Waits : Values → ℕ → ℕ → List ℕ → Type 0
Waits μ d lo [] = lo ≡ suc d
Waits μ d lo (p ∷ ps) = (lo ≤ p) × (μ p ≡ none) × Waits μ d (suc p) ps

-- none is greater than d
pub waits_few : (μ : Values) (d lo : ℕ) (ps : List ℕ) → Waits μ d lo ps → lo + length ps ≤ suc d
waits_few μ d lo [] w = omega arith
waits_few μ d lo (p ∷ ps) w = omega (arith, w.0, waits_few μ d (suc p) ps w.2)

-- they wait for the same values
pub waits_same : (μ ν : Values) (d lo : ℕ) (ps : List ℕ) → ((p : ℕ) → lo ≤ p → ν p ≡ μ p) → Waits μ d lo ps → Waits ν d lo ps
waits_same μ ν d lo [] f w = w
waits_same μ ν d lo (p ∷ ps) f w = (w.0, f p w.0 ∙ w.1, waits_same μ ν d (suc p) ps (λ q h. f q (omega (arith, w.0))) w.2)

-- they wait from less on
pub waits_less : (μ : Values) (d lo hi p : ℕ) (ps : List ℕ) → lo ≤ hi → Waits μ d hi (p ∷ ps) → Waits μ d lo (p ∷ ps)
waits_less μ d lo hi p ps h w = (omega (arith, w.0), w.1, w.2)

-- ---- how many of the first n have no value
unfoldable pub gap : Option ℕ → ℕ
gap none = 1
gap (some v) = 0

-- of all of them
unfoldable pub gaps : Values → ℕ → ℕ
unfolding gap
gaps μ zero = 0
gaps μ (suc n) = gap (μ n) + gaps μ n

-- as many with the same values
pub gaps-same : (μ ν : Values) (n : ℕ) → ((p : ℕ) → p < n → ν p ≡ μ p) → gaps ν n ≡ gaps μ n
unfolding gaps
gaps-same μ ν zero f = refl
gaps-same μ ν (suc n) f = ap₂ ◌+◌ (ap gap (f n (omega arith))) (gaps-same μ ν n (λ p h. f p (omega arith)))

-- fewer with one value more
pub gaps_less : (μ ν : Values) (p v n : ℕ) → p < n → μ p ≡ none → ν p ≡ some v → ((q : ℕ) → (p ≡ q → ⊥) → ν q ≡ μ q) → gaps ν n < gaps μ n
unfolding gaps gap
gaps_less μ ν p v zero h old new others = absurd (omega arith)
gaps_less μ ν p v (suc n) h old new others = elim (ℕ_discrete p n) [
  | yes e ↦
      let a : ◌≡◌ {A = ℕ} (gap (ν n)) 0 = ap (λ (q : ℕ). gap (ν q)) (sym e) ∙ ap gap new in
      let b : ◌≡◌ {A = ℕ} (gap (μ n)) 1 = ap (λ (q : ℕ). gap (μ q)) (sym e) ∙ ap gap old in
      let c = gaps-same μ ν n (λ q l. others q (λ f. omega arith)) in
      omega arith
  | no d ↦
      let a : gap (ν n) ≡ gap (μ n) = ap gap (others n d) in
      let b = gaps_less μ ν p v n (omega arith) old new others in
      omega arith
]
