-- Cases put one behind the other, by their places among the numbers.
use Rattle.std.specs.Prelude.{◌≡◌, List, [], ◌∷◌, ◌++◌, map, ℕ, zero, suc, ◌+◌, ◌-◌, ◌≤◌, ◌<◌, length, get_or, take, drop}
use Rattle.std.proofs.Math.Path.{refl}
use Rattle.std.proofs.Common.{sym, ap, ap₂, ◌∙◌, append_assoc, append-nil, arith, length-drop, drop_of_length-le, take_all, drop-drop, get_or-drop}
use Rattle.std.proofs.Math.Decide.{dec_le}
use Rattle.std.proofs.Math.Seq.{take-nil}
use Rattle.emission.specs.Line.{Case}
use Rattle.emission.specs.Text.{blanked, joined}
use Rattle.emission.specs.Render.{case_text}
use Rattle.text_write.specs.Written.{Adds, adds_none, adds_then, adds_as}
use Rattle.emit_lines.specs.Side.{gap}
use Rattle.emit_lines.specs.Cases.{case_in, cases_in, cases_next, cases_none}

-- where the case that starts at i ends: behind its variables, or where the numbers do
pub record Ends (cases : List ℕ) (i to : ℕ) : Type 0 where
  pub later : i < to
  pub within : to ≤ length cases
  pub whole : i + 2 + get_or cases (i + 1) 0 ≤ length cases → to ≡ i + 2 + get_or cases (i + 1) 0
  pub cut : length cases < i + 2 + get_or cases (i + 1) 0 → to ≡ length cases

-- where its variables start
pub record Starts (i to from : ℕ) : Type 0 where
  pub ahead : from ≤ to
  pub some : i + 2 ≤ to → from ≡ i + 2
  pub none : to < i + 2 → from ≡ to

module _ (cases : List ℕ) (i to : ℕ) (h : i < length cases) (E : Ends cases i to) where
  many-at : get_or (drop i cases) 1 0 ≡ get_or cases (i + 1) 0
  many-at = get_or-drop i cases 1 0

  -- the next case starts where this one ends
  next-at : drop (2 + get_or (drop i cases) 1 0) (drop i cases) ≡ drop to cases
  next-at =
      let d = drop-drop (2 + get_or (drop i cases) 1 0) i cases in
      elim (dec_le (i + 2 + get_or cases (i + 1) 0) (length cases)) [
        | yes k ↦ let e : i + (2 + get_or (drop i cases) 1 0) ≡ to = omega (arith, many-at, E.whole k) in d ∙ ap (λ (n : ℕ). drop n cases) e
        | no k ↦ d ∙ drop_of_length-le cases {i = i + (2 + get_or (drop i cases) 1 0)} (omega (arith, many-at, k)) ∙ sym (drop_of_length-le cases {i = to} (omega (arith, k, E.cut (omega (arith, k)))))
      ]

  -- a case that ends before its variables is the last
  short : to < i + 2 → length cases ≤ i + 2
  short s = elim (dec_le (i + 2 + get_or cases (i + 1) 0) (length cases)) [
    | yes k ↦ absurd (omega (arith, s, E.whole k))
    | no k ↦ omega (arith, s, k, E.cut (omega (arith, k)))
  ]

  -- its variables stand between
  variables_at : (from : ℕ) → Starts i to from → take (to - from) (drop from cases) ≡ (case_in (drop i cases)).variables
  variables_at from S =
      let d : drop 2 (drop i cases) ≡ drop (i + 2) cases = drop-drop 2 i cases in
      let l : length (drop (i + 2) cases) ≡ length cases - (i + 2) = length-drop (i + 2) cases in
      let m : get_or (drop i cases) 1 0 ≡ get_or cases (i + 1) 0 = many-at in
      elim (dec_le (i + 2) to) [
        | yes s ↦
            let e : from ≡ i + 2 = S.some s in
            let f : take (to - from) (drop from cases) ≡ take (to - (i + 2)) (drop (i + 2) cases) = ap (λ (n : ℕ). take (to - n) (drop n cases)) e in
            elim (dec_le (i + 2 + get_or cases (i + 1) 0) (length cases)) [
              | yes k ↦ let g : to - (i + 2) ≡ get_or (drop i cases) 1 0 = omega (arith, m, E.whole k) in f ∙ ap₂ (λ (n : ℕ) (xs : List ℕ). take n xs) g (sym d)
              | no k ↦
                  f ∙ take_all (to - (i + 2)) (drop (i + 2) cases) (omega (arith, l, E.cut (omega (arith, k)))) ∙ sym (take_all (get_or (drop i cases) 1 0) (drop (i + 2) cases) (omega (arith, l, m, k))) ∙ ap (λ (xs : List ℕ). take (get_or (drop i cases) 1 0) xs) (sym d)
            ]
        | no s ↦
            let e : from ≡ to = S.none (omega (arith, s)) in
            let z : to - from ≡ 0 = omega (arith, e) in
            let none : drop (i + 2) cases ≡ [] = drop_of_length-le cases {i = i + 2} (short (omega (arith, s))) in
            ap (λ (n : ℕ). take n (drop from cases)) z ∙ sym (ap (λ (xs : List ℕ). take (get_or (drop i cases) 1 0) xs) (d ∙ none) ∙ take-nil (get_or (drop i cases) 1 0))
      ]

  -- so it has its text
  pub case_at : (L : List ℕ) (from : ℕ) → Starts i to from → case_text L (record { last = get_or cases i 0; variables = take (to - from) (drop from cases) }) ≡ case_text L (case_in (drop i cases))
  case_at L from S =
      let z : i + 0 ≡ i = omega arith in
      let l : get_or cases i 0 ≡ get_or (drop i cases) 0 0 = sym (get_or-drop i cases 0 0 ∙ ap (λ (n : ℕ). get_or cases n 0) z) in
      ap₂ (λ (n : ℕ) (ks : List ℕ). case_text L (record { last = n; variables = ks })) l (variables_at from S)

-- ---- cases put one behind the other
-- what is left of texts with a blank between each two, from a place on
unfoldable pub left_from : ℕ → List (List ℕ) → List ℕ
unfolding blanked joined
left_from zero ts = joined ts
left_from (suc i) ts = blanked ts

left_one : (i : ℕ) (t : List ℕ) (ts : List (List ℕ)) → left_from i (t ∷ ts) ≡ (gap i ++ t) ++ blanked ts
unfolding left_from
left_one zero t ts = refl
left_one (suc i) t ts = refl

left-later : (i : ℕ) (ts : List (List ℕ)) → 0 < i → left_from i ts ≡ blanked ts
unfolding left_from
left-later zero ts h = absurd (omega arith)
left-later (suc i) ts h = refl

left-none : (i : ℕ) → left_from i [] ≡ []
unfolding left_from
left-none zero = refl
left-none (suc i) = refl

-- some are put, the rest is left
pub record Cased (L text text' : List ℕ) (at : ℕ) (cases : List ℕ) (i r : ℕ) : Type 0 where
  pub put : List ℕ
  pub adds : Adds text text' at put r
  pub all : put ++ left_from i (map (case_text L) (cases_in (drop i cases))) ≡ joined (map (case_text L) (cases_in cases))

module _ (L text : List ℕ) (at : ℕ) (cases : List ℕ) where
  pub cased_none : Cased L text text at cases 0 at
  unfolding left_from
  cased_none = record { put = []; adds = adds_none text at; all = refl }

  module _ (text₁ : List ℕ) (i r₁ : ℕ) (C : Cased L text text₁ at cases i r₁) where
    pub cased_on : (text' : List ℕ) (to r : ℕ) → i < length cases → Ends cases i to → Adds text₁ text' r₁ (gap i ++ case_text L (case_in (drop i cases))) r → Cased L text text' at cases to r
    cased_on text' to r h E A =
        let f = case_text L in
        let one = gap i ++ f (case_in (drop i cases)) in
        let more : left_from i (map f (cases_in (drop i cases))) ≡ one ++ left_from to (map f (cases_in (drop to cases))) =
        ap (λ (cs : List Case). left_from i (map f cs)) (cases_next (drop i cases) (omega (arith, h, length-drop i cases)))
        ∙ left_one i (f (case_in (drop i cases))) (map f (cases_in (drop (2 + get_or (drop i cases) 1 0) (drop i cases))))
        ∙ ap (λ (xs : List ℕ). one ++ blanked (map f (cases_in xs))) (next-at cases i to h E)
        ∙ ap (λ (t : List ℕ). one ++ t) (sym (left-later to (map f (cases_in (drop to cases))) (omega (arith, E.later)))) in
        record {
          put = C.put ++ one;
          adds = adds_then text text₁ text' at r₁ r C.put one C.adds A;
          all = append_assoc C.put one (left_from to (map f (cases_in (drop to cases)))) ∙ ap (λ (t : List ℕ). C.put ++ t) (sym more) ∙ C.all;
        }

    pub cased_all : length cases ≤ i → Adds text text₁ at (joined (map (case_text L) (cases_in cases))) r₁
    cased_all h =
        let none : left_from i (map (case_text L) (cases_in (drop i cases))) ≡ [] = ap (λ (cs : List Case). left_from i (map (case_text L) cs)) (cases_none (drop i cases) (omega (arith, h, length-drop i cases))) ∙ left-none i in
        adds_as text text₁ at r₁ C.put (joined (map (case_text L) (cases_in cases))) (sym (append-nil C.put) ∙ ap (λ (t : List ℕ). C.put ++ t) (sym none) ∙ C.all) C.adds
