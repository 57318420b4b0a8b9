-- The values of a rule's variables, a word each: 0 for none, else the pattern and one.
use Rattle.std.specs.Prelude.{◌≡◌, Bool, List, [], ◌∷◌, eqb, length, set, take, drop, replicate}
use Rattle.std.proofs.Math.Path.{refl, ap}
use Rattle.std.proofs.Common.{◌∙◌, arith, get_or-set_same}
use Rattle.std.proofs.Math.Bool.{true, false}
use Rattle.std.proofs.Math.Option.{none, some}
use Prim.Native.Nat.{ℕ, ◌+◌, ◌-◌, ◌≤◌, ◌<◌}
use borrow.Author.Tests.{eq-eqb, ne_eqb, eqb-true, eqb-false}
use Rattle.std.proofs.Math.ListN.{get_or}
use Rattle.std.proofs.Math.Seq.{get_or-set_other}
use Rattle.definition.specs.Test.{is, see}
use Rattle.definition.specs.Verdict.{Bound, value_of, bound}
use Rattle.definition.specs.Analysis.{pairing}
use Rattle.base.specs.Part.{put}
use Rattle.base.specs.Outside.{Outside}
use Rattle.buffer.specs.Zero.{zeros_long, zeros_there, zeros-before, zeros-behind}
use Rattle.emit_maps.specs.Map.{told, told_more, Mapped, mapped_none, mapped_more}

-- what giving variable k the pattern p answers: the values with it, or that it has another
abbrev pub Binds : List ℕ → List ℕ → ℕ → ℕ → ℕ → Bool → Type 0
Binds work work' at k p true = (bs : List Bound) → Mapped work at 64 bs → (cs : List Bound) × (bound k p bs (value_of k bs) ≡ some cs) × Mapped work' at 64 cs
Binds work work' at k p false = (bs : List Bound) → Mapped work at 64 bs → bound k p bs (value_of k bs) ≡ none

module _ (work : List ℕ) (at k p : ℕ) (l : k < 64) where
  -- a variable with no value gets this one, the others keep theirs
  pub bind-first : at + 64 ≤ length work → get_or work (at + k) 0 ≡ 0 → Binds work (set work (at + k) (p + 1)) at k p true
  unfolding bound told
  bind-first fits z = λ bs B. (
    pairing k p ∷ bs,
    ap (bound k p bs) (B.values k l ∙ ap told z),
    mapped_more work (set work (at + k) (p + 1)) at 64 bs B k p (get_or-set_same work (at + k) (p + 1) 0 (omega arith)) (λ q h d. get_or-set_other work (at + k) (at + q) (p + 1) 0 (λ (e : at + q ≡ at + k). d (omega arith))),
  )

  -- one with a value keeps it, and it must be the same
  pub bind_again : (get_or work (at + k) 0 ≡ 0 → ⊥) → Binds work work at k p (eqb (get_or work (at + k) 0) (p + 1))
  unfolding bound
  bind_again z = elim (see (eqb (get_or work (at + k) 0) (p + 1))) [
    | is true e ↦ rw e (λ bs B. (bs, ap (bound k p bs) (B.values k l ∙ told_more (get_or work (at + k) 0) p (eqb-true _ _ e)) ∙ rw (eq-eqb p p refl, bound), B))
    | is false e ↦
        let v : ℕ = get_or work (at + k) 0 - 1 in
        let g : get_or work (at + k) 0 ≡ v + 1 = omega (arith, z) in
        rw e (λ bs B. ap (bound k p bs) (B.values k l ∙ told_more (get_or work (at + k) 0) v g) ∙ rw (ne_eqb v p (λ q. eqb-false _ _ e (g ∙ ap (λ (x : ℕ). x + 1) q)), bound))
  ]

-- the words were lent and came back as zeros
module _ (work : List ℕ) (at : ℕ) (fits : at + 64 ≤ length work) (zs : List ℕ) (z : zs ≡ replicate (length (take (at + 64 - at) (drop at work))) 0) where
  pub cleared-empty : Mapped (put at (at + 64 - at) zs work) at 64 []
  cleared-empty = mapped_none (put at (at + 64 - at) zs work) at 64 (λ k h. zeros_there at (at + 64) 64 work zs refl fits z k h)

  pub cleared_outside : Outside at (at + 64) work (put at (at + 64 - at) zs work)
  cleared_outside = record {
    long = zeros_long at (at + 64) 64 work zs refl fits z;
    ahead = zeros-before at (at + 64) 64 work zs refl fits z;
    behind = zeros-behind at (at + 64) 64 work zs refl fits z;
  }
