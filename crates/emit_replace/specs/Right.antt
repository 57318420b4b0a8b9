-- Values of patterns with y in place of x: what a turn of the walk does to what is left to be replaced.
use Rattle.std.specs.Prelude.{◌≡◌, get_or}
use Rattle.std.proofs.Math.Path.{refl, sym, ap, subst}
use Rattle.std.proofs.Common.{◌∙◌, arith}
use mathlib.Core.List.{List, [], ◌∷◌, map}
use Rattle.std.proofs.Math.Option.{none, some}
use Prim.Native.Nat.{ℕ, zero, suc, ◌<◌}
use Rattle.std.proofs.Math.Decide.{ℕ_discrete}
use Rattle.std.proofs.Math.ListN.{length}
use Rattle.definition.specs.Test.{never}
use Rattle.definition.specs.Pack.{Node, no_node}
use Rattle.definition.specs.Good.{Below}
use Rattle.definition.specs.Store.{below, Stored, intern}
use Rattle.definition.specs.Analysis.{StoredAll}
use Rattle.definition.proofs.Laws.Grow.{below_more}
use Rattle.emission.specs.Patterns.{replace}
use Rattle.theory.specs.Patterns.Interned.{Grows, grows_none}
use Rattle.theory.specs.Walks.Again.{stored, stored_all, headed}
use Rattle.emit_replace.specs.Again.{under, Rests, rests_same, rests_grow, made_over, one, one_itself, one-over, one_grows, replace-first, one_again, replace-deeper}
use Rattle.emit_replace.specs.Known.{Values, Known, valued, value_of, AllKnown, FirstOpen}

module _ (x y d : ℕ) where
  -- each value is what the pattern is replaced by, which the store has
  abbrev pub Right : Values → List Node → Type 0
  Right μ s = (p v : ℕ) → μ p ≡ some v → (one x y d p s ≡ stored v s) × ((p ≡ x → ⊥) → p < suc d)

  -- the same values
  pub right-same : (μ ν : Values) (s : List Node) → ((p : ℕ) → ν p ≡ μ p) → Right μ s → Right ν s
  right-same μ ν s f r p v h = r p v (sym (f p) ∙ h)

  -- x has y
  pub right-first : (μ : Values) (s : List Node) → μ x ≡ some y → ((p : ℕ) → (x ≡ p → ⊥) → μ p ≡ none) → Right μ s
  right-first μ s e f p v h = elim (ℕ_discrete x p) [
    | yes i ↦
        let g : some y ≡ some v = sym e ∙ ap μ i ∙ h in
        let k : y ≡ v = cc in
        (one_itself x y d p s (sym i) ∙ ap (λ (z : ℕ). stored z s) k, λ n. absurd (n (sym i)))
    | no n ↦ never (let z : none ≡ some v = sym (f p n) ∙ h in cc)
  ]

  -- values stay right when the store grows
  pub right_grows : (μ : Values) (s t : List Node) → Rests (suc d) s → Grows s t → Right μ s → Right μ t
  right_grows μ s t R g r p v h =
      let e = (r p v h).0 in
      let g' = subst (λ (m : Stored). Grows m.store t) (sym e) g in
      (one_again x y (suc d) d p s R (r p v h).1 t g' ∙ ap (λ (m : Stored). stored m.number t) e, (r p v h).1)

  -- a pattern that is replaced gets its value
  pub right-more : (μ ν : Values) (s t : List Node) (p v : ℕ) → Rests (suc d) s → Right μ s → p < suc d → one x y d p s ≡ stored v t → ν p ≡ some v → ((q : ℕ) → (p ≡ q → ⊥) → ν q ≡ μ q) → Right ν t
  right-more μ ν s t p v R r b e new others q w h =
      let g : Grows s t = subst (λ (m : Stored). Grows s m.store) e (one_grows x y d p s) in
      elim (ℕ_discrete p q) [
        | yes i ↦
            let f : some v ≡ some w = sym new ∙ ap ν i ∙ h in
            let k : v ≡ w = cc in
            let z = one_again x y (suc d) d p s R (λ _. b) t (subst (λ (m : Stored). Grows m.store t) (sym e) (grows_none t)) in
            (ap (λ (n : ℕ). one x y d n t) (sym i) ∙ z ∙ ap (λ (m : Stored). stored m.number t) e ∙ ap (λ (n : ℕ). stored n t) k, λ _. subst (λ (n : ℕ). n < suc d) i b)
        | no n ↦ right_grows μ s t R g r q w (sym (others q n) ∙ h)
      ]

  -- patterns that have values are replaced by them, and the store stays
  replace-known : (μ : Values) (ps : List ℕ) (s : List Node) → Right μ s → AllKnown μ ps → replace (suc d) x y ps s ≡ stored_all (map (value_of μ) ps) s
  unfolding replace valued
  replace-known μ [] s r k = refl
  replace-known μ (p ∷ ps) s r k =
      let h = k 0 (omega arith) in
      let v : value_of μ p ≡ h.0 = ap valued h.1 in
      replace-first x y d p ps s s (value_of μ p) ((r p h.0 h.1).0 ∙ ap (λ (n : ℕ). stored n s) (sym v))
      ∙ ap (λ (m : StoredAll). stored_all (value_of μ p ∷ m.numbers) m.store) (replace-known μ ps s r (λ i l. k (suc i) (omega arith)))

  -- a pattern all of whose arguments have values is made over them
  pub one_known : (μ : Values) (p : ℕ) (s : List Node) → Rests (suc d) s → Right μ s → p < suc d → (p ≡ x → ⊥) → 0 < length (under s p) → AllKnown μ (under s p)
      → one x y d p s ≡ intern s (headed (get_or s p no_node).head (map (value_of μ) (under s p)))
  unfolding made_over
  one_known μ p s R r b n h k =
      let args = under s p in
      let e = R.earlier p b in
      one-over x y d p s n h
      ∙ ap (made_over (get_or s p no_node).head) (sym (replace-deeper x y (suc d) d args s R (below_more p (suc d) args (omega arith) e) (below_more p d args (omega arith) e)) ∙ replace-known μ args s r k)

  -- the first of these without a value may be replaced ahead of all
  ahead_of_all : (μ : Values) (ps : List ℕ) (i : ℕ) (s : List Node) → Rests (suc d) s → Right μ s → Below (suc d) ps → i < length ps → ((h : ℕ) → h < i → Known μ (get_or ps h 0))
      → replace (suc d) x y ps (one x y d (get_or ps i 0) s).store ≡ replace (suc d) x y ps s
  unfolding replace
  ahead_of_all μ [] i s R r b l k = absurd (omega arith)
  ahead_of_all μ (p ∷ ps) zero s R r b l k =
      let t = (one x y d p s).store in
      replace-first x y d p ps t t (one x y d p s).number (one_again x y (suc d) d p s R (λ _. b.0) t (grows_none t))
  ahead_of_all μ (p ∷ ps) (suc i) s R r b l k =
      let t = (one x y d (get_or ps i 0) s).store in
      let h = k 0 (omega arith) in
      let new = (right_grows μ s t R (one_grows x y d (get_or ps i 0) s) r p h.0 h.1).0 in
      replace-first x y d p ps t t h.0 new
      ∙ ap (λ (m : StoredAll). stored_all (h.0 ∷ m.numbers) m.store) (ahead_of_all μ ps i s R r b.1 (omega arith) (λ j z. k (suc j) (omega arith)))
      ∙ sym (replace-first x y d p ps s s h.0 (r p h.0 h.1).0)

  -- so may the first argument without a value be replaced ahead of its pattern
  pub argument_first : (μ : Values) (p a : ℕ) (ps : List ℕ) (s : List Node) → Rests (suc d) s → Right μ s → p < suc d → (p ≡ x → ⊥) → FirstOpen μ (under s p) a
      → (replace (suc d) x y (a ∷ p ∷ ps) s).store ≡ (replace (suc d) x y (p ∷ ps) s).store
  unfolding replace
  argument_first μ p a ps s R r b n F =
      let args = under s p in
      let t = (one x y d a s).store in
      let g = one_grows x y d a s in
      let e = R.earlier p b in
      let wide = below_more p (suc d) args (omega arith) e in
      let deep = below_more p d args (omega arith) e in
      let q = rests_same (suc d) p s t R g b in
      let same : replace (suc d) x y args t ≡ replace (suc d) x y args s =
      subst (λ (z : ℕ). replace (suc d) x y args (one x y d z s).store ≡ replace (suc d) x y args s) F.is_it (ahead_of_all μ args F.at s R r wide F.inside F.known) in
      let h : 0 < length args = omega (arith, F.inside) in
      let made : one x y d p t ≡ one x y d p s =
      one-over x y d p t n (subst (λ (m : Node). 0 < length (below m)) (sym q) h)
      ∙ ap (λ (m : Node). made_over m.head (replace d x y (below m) t)) q
      ∙ ap (made_over (get_or s p no_node).head) (sym (replace-deeper x y (suc d) d args t (rests_grow (suc d) s t R g) wide deep) ∙ same ∙ replace-deeper x y (suc d) d args s R wide deep)
      ∙ sym (one-over x y d p s n h) in
      ap (λ (m : Stored). (replace (suc d) x y ps m.store).store) made

  -- what is left once the first is replaced
  pub left-more : (p v : ℕ) (ps : List ℕ) (s t : List Node) → one x y d p s ≡ stored v t → (replace (suc d) x y ps t).store ≡ (replace (suc d) x y (p ∷ ps) s).store
  left-more p v ps s t e = ap (λ (m : StoredAll). m.store) (sym (replace-first x y d p ps s t v e))

  -- the last pattern's value, and the store, are those of the whole
  pub whole_is : (s t : List Node) (v : ℕ) → Rests (suc d) s → one x y d d t ≡ stored v t → t ≡ (replace (suc d) x y (d ∷ []) s).store → replace (suc d) x y (d ∷ []) s ≡ stored_all (v ∷ []) t
  unfolding replace
  whole_is s t v R e q =
      let u = (one x y d d s).store in
      let z = one_again x y (suc d) d d s R (λ _. omega arith) u (grows_none u) in
      let n : (one x y d d s).number ≡ v = ap (λ (m : Stored). m.number) (sym z ∙ ap (one x y d d) (sym q) ∙ e) in
      replace-first x y d d [] s u (one x y d d s).number refl ∙ ap (λ (w : ℕ). stored_all (w ∷ []) u) n ∙ ap (stored_all (v ∷ [])) (sym q)
