-- A memoised walk that finishes each node at most once: what is known after it, and how much it takes in all.
use Rattle.std.specs.Prelude.{◌≡◌, Bool, eqb}
use Rattle.std.proofs.Math.Path.{refl, ap}
use Rattle.std.proofs.Common.{sym, ◌∙◌}
use Rattle.std.proofs.Math.Bool.{true, false}
use mathlib.Core.List.{List, [], ◌∷◌}
use Prim.Native.Nat.{ℕ, zero, suc, ◌+◌, ◌*◌, ◌<◌, ◌≤◌}
use native.Mathlib.Omega.{arith}
use Rattle.std.proofs.Math.ListN.{length}
use Rattle.definition.specs.Test.{is, see, tests}
use Rattle.definition.specs.Good.{Below}
use Rattle.theory.specs.Walks.Walk.{Under, Known, under_more, visit, walk, visit_effort, effort, kids_under, walk-induct}

-- what stands below a node, and whether a node is known
module _ {S : Type 0} (kids : ℕ → List ℕ) (known : S → ℕ → Bool) where
  -- the kids of nodes below n that are not known
  unfoldable pub unfinished : ℕ → S → ℕ
  unfinished zero s = 0
  unfinished (suc n) s = elim (known s n) [ true ↦ unfinished n s | false ↦ length (kids n) + unfinished n s ]

  -- a node becomes known, and no other
  module _ (x : ℕ) (s t : S) (made : known t x ≡ true) (others : (y : ℕ) → (x ≡ y → ⊥) → known t y ≡ known s y) where
    -- this changes nothing for those before it
    unfinished-before : (n : ℕ) → n ≤ x → unfinished n t ≡ unfinished n s
    unfolding unfinished
    unfinished-before zero h = refl
    unfinished-before (suc n) h =
        let o = others n (λ q. absurd (omega arith)) in
        let e = unfinished-before n (omega arith) in
        elim (see (known s n)) [
          | is true j ↦ let i = o ∙ j in rw (i, j, unfinished) e
          | is false j ↦ let i = o ∙ j in rw (i, j, unfinished) (omega arith)
        ]

    -- and takes away its kids
    pub unfinished_less : (n : ℕ) → x < n → known s x ≡ false → length (kids x) + unfinished n t ≡ unfinished n s
    unfolding unfinished
    unfinished_less zero h k = absurd (omega arith)
    unfinished_less (suc n) h k = elim (see (eqb x n)) [
      | is true e ↦
          let q : x ≡ n = omega tests in
          let k' : known s n ≡ false = rw q at k in
          let m : known t n ≡ true = rw q at made in
          let b = unfinished-before n (omega tests) in
          let l : length (kids x) ≡ length (kids n) = ap (λ (y : ℕ). length (kids y)) q in
          rw (k', m, unfinished) (omega arith)
      | is false e ↦
          let o = others n (λ q. absurd (omega tests)) in
          let ih = unfinished_less n (omega tests) k in
          elim (see (known s n)) [
            | is true j ↦ let i = o ∙ j in rw (i, j, unfinished) ih
            | is false j ↦ let i = o ∙ j in rw (i, j, unfinished) (omega arith)
          ]
    ]

-- alike where nodes and what is known of them are
pub unfinished_alike : {A B : Type 0} (kids kids' : ℕ → List ℕ) (known : A → ℕ → Bool) (known' : B → ℕ → Bool) (a : A) (b : B) (n : ℕ)
    → ((x : ℕ) → x < n → kids x ≡ kids' x) → ((x : ℕ) → x < n → known a x ≡ known' b x) → unfinished kids known n a ≡ unfinished kids' known' n b
unfolding unfinished
unfinished_alike kids kids' known known' a b zero k e = refl
unfinished_alike kids kids' known known' a b (suc n) k e =
    let ih = unfinished_alike kids kids' known known' a b n (λ x h. k x (omega arith)) (λ x h. e x (omega arith)) in
    let q = e n (omega arith) in
    let long : length (kids n) ≡ length (kids' n) = ap (λ (xs : List ℕ). length xs) (k n (omega arith)) in
    elim (see (known a n)) [
      | is true j ↦ let i = sym q ∙ j in rw (j, i, unfinished) ih
      | is false j ↦ let i = sym q ∙ j in rw (j, i, unfinished) (omega arith)
    ]

-- finishing a node makes it known, and no other node
module _ {S : Type 0} (kids : ℕ → List ℕ) (known : S → ℕ → Bool) (finish : ℕ → S → S)
    (made : (x : ℕ) (s : S) → known (finish x s) x ≡ true)
    (others : (x y : ℕ) (s : S) → (x ≡ y → ⊥) → known (finish x s) y ≡ known s y) where
  -- what is known stays known when a node is finished
  pub finish_keeps : (x y : ℕ) (s : S) → known s y ≡ true → known (finish x s) y ≡ true
  finish_keeps x y s k = elim (see (eqb x y)) [
    | is true e ↦ let q : x ≡ y = omega tests in rw (← q) (made x s)
    | is false e ↦ others x y s (λ q. absurd (omega tests)) ∙ k
  ]

  -- ranks that fall from a node to its kids
  module _ (rank : ℕ → ℕ) (falls : (x : ℕ) → Under rank (rank x) (kids x)) where
    -- after a walk is known what was known before, and each node walked
    pub walk_knows : (d : ℕ) (xs : List ℕ) (s : S) → Under rank d xs
        → ((y : ℕ) → known s y ≡ true → known (walk kids known finish d xs s) y ≡ true) × Known known (walk kids known finish d xs s) xs
    walk_knows = walk-induct kids known finish rank falls (λ xs s t. ((y : ℕ) → known s y ≡ true → known t y ≡ true) × Known known t xs)
        (λ s. (λ y k. k, tt))
        (λ x s k. (λ y j. j, (k, tt)))
        (λ x s t k q. (λ y j. finish_keeps x y t (q.0 y j), (made x t, tt)))
        (λ x xs s t u p q. (λ y j. q.0 y (p.0 y j), (q.0 x p.1.0, q.1)))

    -- a node of higher rank than all that are walked is known after the walk just if it was before
    pub walk-above : (y d : ℕ) (xs : List ℕ) (s : S) → Under rank d xs → Under rank (rank y) xs → known (walk kids known finish d xs s) y ≡ known s y
    walk-above y = walk-induct kids known finish rank falls (λ xs s t. Under rank (rank y) xs → known t y ≡ known s y)
        (λ s u. refl)
        (λ x s k u. refl)
        (λ x s t k q u. others x y t (λ e. absurd (omega (arith, u.0, ap rank e))) ∙ q (under_more rank (rank x) (rank y) (kids x) (omega (arith, u.0)) (falls x)))
        (λ x xs s t r p q u. q u.1 ∙ p (u.0, tt))

    -- a relation as `walk-induct` takes it, but a node is finished that is not known yet and whose kids are
    module _ (Q : List ℕ → S → S → Type 0)
        (none : (s : S) → Q [] s s)
        (old : (x : ℕ) (s : S) → known s x ≡ true → Q (x ∷ []) s s)
        (new : (x : ℕ) (s t : S) → known t x ≡ false → Known known t (kids x) → Q (kids x) s t → Q (x ∷ []) s (finish x t))
        (both : (x : ℕ) (xs : List ℕ) (s t u : S) → Known known t (x ∷ []) → Known known u (x ∷ xs) → Q (x ∷ []) s t → Q xs t u → Q (x ∷ xs) s u) where
      -- it holds of every walk that has enough fuel
      pub once_induct : (d : ℕ) (xs : List ℕ) (s : S) → Under rank d xs → Q xs s (walk kids known finish d xs s)
      unfolding walk
      once_induct zero [] s u = none s
      once_induct zero (x ∷ xs) s u = absurd (omega (arith, u.0))
      once_induct (suc d) [] s u = none s
      once_induct (suc d) (x ∷ xs) s u =
          let t = visit kids known finish (λ ys r. walk kids known finish d ys r) x s in
          let v = kids_under kids known finish rank falls d x u.0 in
          let first : Q (x ∷ []) s t = elim (see (known s x)) [
            | is true k ↦ rw (k, visit) (old x s k)
            | is false k ↦
                rw (k, visit) (new x s (walk kids known finish d (kids x) s) (walk-above x d (kids x) s v (falls x) ∙ k) (walk_knows d (kids x) s v).1 (once_induct d (kids x) s v))
          ] in
          both x xs s t (walk kids known finish (suc d) xs t) (walk_knows (suc d) (x ∷ []) s (u.0, tt)).1 (walk_knows (suc d) (x ∷ xs) s u).1 first (once_induct (suc d) xs t u.1)

    -- the effort is the kids of the nodes that become known: no node is finished twice
    pub once : (n : ℕ) → ((x : ℕ) → x < n → Below n (kids x)) → (d : ℕ) (xs : List ℕ) (s : S) → Under rank d xs → Below n xs
        → effort kids known finish d xs s + unfinished kids known n (walk kids known finish d xs s) ≡ unfinished kids known n s
    unfolding walk effort
    once n inside zero [] s u b = omega arith
    once n inside zero (x ∷ xs) s u b = absurd (omega (arith, u.0))
    once n inside (suc d) [] s u b = omega arith
    once n inside (suc d) (x ∷ xs) s u b =
        let t = visit kids known finish (λ ys r. walk kids known finish d ys r) x s in
        let v = kids_under kids known finish rank falls d x u.0 in
        let z = walk kids known finish d (kids x) s in
        let first : visit_effort kids known finish (λ ys r. effort kids known finish d ys r) x s + unfinished kids known n t ≡ unfinished kids known n s = elim (see (known s x)) [
          | is true k ↦ rw (k, visit, visit_effort) (omega arith)
          | is false k ↦
              let a = unfinished_less kids known x z (finish x z) (made x z) (λ y h. others x y z h) n b.0 (walk-above x d (kids x) s v (falls x) ∙ k) in
              let ih = once n inside d (kids x) s v (inside x b.0) in
              rw (k, visit, visit_effort) (omega arith)
        ] in
        let rest = once n inside (suc d) xs t u.1 b.1 in
        omega arith

    -- so the machine's turns for a walk, one and two for each kid, are at most one and two for each kid of a node not known
    pub turns-most : (n : ℕ) → ((x : ℕ) → x < n → Below n (kids x)) → (d x : ℕ) (s : S) → rank x < d → x < n
        → suc (2 * effort kids known finish d (x ∷ []) s) ≤ suc (2 * unfinished kids known n s)
    turns-most n inside d x s h b = let o = once n inside d (x ∷ []) s (h, tt) (b, tt) in omega arith
