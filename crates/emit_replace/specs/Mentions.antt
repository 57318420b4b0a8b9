-- Whether x stands in patterns, by values 1 and 0.
use Rattle.std.proofs.Math.Path.{◌≡◌, refl, sym, ap, ap₂}
use Rattle.std.proofs.Common.{◌∙◌, arith}
use Rattle.std.specs.Prelude.{Bool, eqb, length, get_or}
use Rattle.std.proofs.Math.Bool.{true, false}
use mathlib.Core.List.{List, [], ◌∷◌}
use Rattle.std.proofs.Math.Option.{none, some}
use Prim.Native.Nat.{ℕ, zero, suc, ◌<◌}
use Rattle.std.proofs.Math.Decide.{ℕ_discrete}
use borrow.Author.Tests.{eq-eqb, ne_eqb}
use Rattle.definition.specs.Test.{is, see, never}
use Rattle.definition.specs.Pack.{Node}
use Rattle.definition.specs.Good.{Below}
use Rattle.definition.proofs.Laws.Grow.{below_more}
use Rattle.emission.specs.Patterns.{mentions}
use Rattle.emit_replace.specs.Again.{under, Rests}
use Rattle.emit_replace.specs.Known.{Values, Known, valued, value_of, AllKnown}

-- 1 for yes
unfoldable pub bit : Bool → ℕ
bit true = 1
bit false = 0

-- read back
pub bit-back : (v : ℕ) (b : Bool) → v ≡ bit b → eqb v 1 ≡ b
unfolding bit
bit-back v true e = eq-eqb v 1 e
bit-back v false e = ne_eqb v 1 (λ z. never (sym e ∙ z))

-- the first, else the second
infixl 20 ◌or◌
unfoldable pub ◌or◌ : Bool → Bool → Bool
true or b = true
false or b = b

-- whether one of these has the value 1
unfoldable pub any_one : Values → List ℕ → Bool
unfolding ◌or◌ valued
any_one μ [] = false
any_one μ (p ∷ ps) = eqb (value_of μ p) 1 or any_one μ ps

-- none of them has it
pub any_none : (μ : Values) (ps : List ℕ) → ((h : ℕ) → h < length ps → value_of μ (get_or ps h 0) ≡ 1 → ⊥) → any_one μ ps ≡ false
unfolding any_one ◌or◌
any_none μ [] f = refl
any_none μ (p ∷ ps) f = rw (ne_eqb (value_of μ p) 1 (f 0 (omega arith)), ◌or◌) (any_none μ ps (λ h l. f (suc h) (omega arith)))

-- one of them has it
pub any_some : (μ : Values) (ps : List ℕ) (i : ℕ) → i < length ps → value_of μ (get_or ps i 0) ≡ 1 → any_one μ ps ≡ true
unfolding any_one ◌or◌
any_some μ [] i l e = absurd (omega arith)
any_some μ (p ∷ ps) zero l e = rw (eq-eqb (value_of μ p) 1 e, ◌or◌)
any_some μ (p ∷ ps) (suc i) l e = elim (see (eqb (value_of μ p) 1)) [
  | is true t ↦ rw (t, ◌or◌)
  | is false t ↦ rw (t, ◌or◌) (any_some μ ps i (omega arith) e)
]

module _ (x : ℕ) (s : List Node) where
  -- one pattern, or others
  mentions-first : (d p : ℕ) (ps : List ℕ) → mentions (suc d) s x (p ∷ ps) ≡ (mentions (suc d) s x (p ∷ []) or mentions (suc d) s x ps)
  unfolding mentions ◌or◌
  mentions-first d p ps = elim (see (eqb p x)) [
    | is true t ↦ rw (t, mentions)
    | is false t ↦ elim (see (mentions d s x (under s p))) [
      | is true q ↦ rw (t, mentions, q, mentions)
      | is false q ↦ rw (t, mentions, q, mentions)
    ]
  ]

  -- x itself
  pub mentions_itself : (d p : ℕ) → p ≡ x → mentions (suc d) s x (p ∷ []) ≡ true
  unfolding mentions
  mentions_itself d p e = rw (eq-eqb p x e, mentions)

  -- another pattern, by those below it
  mentions-under : (d p : ℕ) → (p ≡ x → ⊥) → mentions (suc d) s x (p ∷ []) ≡ mentions d s x (under s p)
  unfolding mentions
  mentions-under d p n = elim (see (mentions d s x (under s p))) [
    | is true q ↦ rw (ne_eqb p x n, mentions, q, mentions)
    | is false q ↦ rw (ne_eqb p x n, mentions, q, mentions)
  ]

  -- deeper than the numbers
  mentions-deeper : (k : ℕ) → Rests k s → (d : ℕ) (ps : List ℕ) → Below k ps → Below d ps → mentions (suc d) s x ps ≡ mentions d s x ps
  unfolding mentions
  mentions-deeper k R zero [] b h = refl
  mentions-deeper k R zero (p ∷ ps) b h = absurd (omega (arith, h.0))
  mentions-deeper k R (suc d) [] b h = refl
  mentions-deeper k R (suc d) (p ∷ ps) b h =
      let e = R.earlier p b.0 in
      let deep = mentions-deeper k R d (under s p) (below_more p k (under s p) (omega (arith, b.0)) e) (below_more p d (under s p) (omega (arith, h.0)) e) in
      let first : mentions (suc (suc d)) s x (p ∷ []) ≡ mentions (suc d) s x (p ∷ []) = elim (ℕ_discrete p x) [
        | yes i ↦ mentions_itself (suc d) p i ∙ sym (mentions_itself d p i)
        | no n ↦ mentions-under (suc d) p n ∙ deep ∙ sym (mentions-under d p n)
      ] in
      mentions-first (suc d) p ps ∙ ap₂ ◌or◌ first (mentions-deeper k R (suc d) ps b.1 h.1) ∙ sym (mentions-first d p ps)

  module _ (d : ℕ) where
    -- each value says whether x stands in the pattern
    abbrev pub Says : Values → Type 0
    Says μ = (p v : ℕ) → μ p ≡ some v → v ≡ bit (mentions (suc d) s x (p ∷ []))

    -- x has 1
    pub says_first : (μ : Values) → μ x ≡ some 1 → ((p : ℕ) → (x ≡ p → ⊥) → μ p ≡ none) → Says μ
    unfolding bit
    says_first μ e f p v h = elim (ℕ_discrete x p) [
      | yes i ↦
          let g : some 1 ≡ some v = sym e ∙ ap μ i ∙ h in
          let k : ◌≡◌ {A = ℕ} v 1 = cc in
          k ∙ ap bit (sym (mentions_itself d p (sym i)))
      | no n ↦ never (let z : none ≡ some v = sym (f p n) ∙ h in cc)
    ]

    -- a value of 1 says yes
    says_one : (μ : Values) (p : ℕ) → Says μ → Known μ p → eqb (value_of μ p) 1 ≡ mentions (suc d) s x (p ∷ [])
    unfolding bit valued
    says_one μ p S k =
        let e : value_of μ p ≡ bit (mentions (suc d) s x (p ∷ [])) = ap valued k.1 ∙ S p k.0 k.1 in
        elim (see (mentions (suc d) s x (p ∷ []))) [
          | is true q ↦ eq-eqb (value_of μ p) 1 (e ∙ ap bit q) ∙ sym q
          | is false q ↦ ne_eqb (value_of μ p) 1 (λ z. never (sym (ap bit q) ∙ sym e ∙ z)) ∙ sym q
        ]

    -- of several
    says_any : (μ : Values) (ps : List ℕ) → Says μ → AllKnown μ ps → any_one μ ps ≡ mentions (suc d) s x ps
    unfolding any_one mentions
    says_any μ [] S k = refl
    says_any μ (p ∷ ps) S k = ap₂ ◌or◌ (says_one μ p S (k 0 (omega arith))) (says_any μ ps S (λ i l. k (suc i) (omega arith))) ∙ sym (mentions-first d p ps)

    -- a pattern all of whose arguments have values gets one
    pub says_more : (μ ν : Values) (p : ℕ) → Rests (suc d) s → Says μ → p < suc d → (p ≡ x → ⊥) → AllKnown μ (under s p) → ν p ≡ some (bit (any_one μ (under s p))) → ((q : ℕ) → (p ≡ q → ⊥) → ν q ≡ μ q) → Says ν
    says_more μ ν p R S b n k new others q v h = elim (ℕ_discrete p q) [
      | yes i ↦
          let e = R.earlier p b in
          let g : some (bit (any_one μ (under s p))) ≡ some v = sym new ∙ ap ν i ∙ h in
          let z : bit (any_one μ (under s p)) ≡ v = cc in
          let deep = mentions-deeper (suc d) R d (under s p) (below_more p (suc d) (under s p) (omega arith) e) (below_more p d (under s p) (omega arith) e) in
          sym z ∙ ap bit (says_any μ (under s p) S k ∙ deep ∙ sym (mentions-under d p n)) ∙ ap (λ (r : ℕ). bit (mentions (suc d) s x (r ∷ []))) i
      | no m ↦ S q v (sym (others q m) ∙ h)
    ]
