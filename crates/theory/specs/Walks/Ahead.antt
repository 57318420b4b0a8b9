-- `valued` of pairs put ahead of others, and at whatever depth is enough.
use Rattle.std.specs.Prelude.{◌≡◌, eqb, length, get_or, take}
use Rattle.std.proofs.Math.Path.{refl, ap}
use Rattle.std.proofs.Common.{ap₂, ◌∙◌, arith, take_all}
use Rattle.std.proofs.Math.Bool.{true, false}
use mathlib.Core.List.{List, [], ◌∷◌, map}
use Rattle.std.proofs.Math.Option.{Option, none, some}
use Prim.Native.Nat.{ℕ, zero, suc, ◌+◌, ◌<◌}
use Rattle.definition.specs.Test.{is, see, never}
use Rattle.definition.specs.Pack.{Pack, node_of}
use Rattle.definition.specs.Verdict.{Bound, value_of, provided, onwards}
use Rattle.definition.specs.Good.{Below}
use Rattle.definition.specs.Graph.{Graph, vertex, root, is_var, Pair}
use Rattle.definition.specs.Analysis.{pairing, value_at, valued}
use Rattle.definition.proofs.Laws.Agreement.{onwards-same}
use Rattle.theory.specs.Walks.Walk.{Under}
use Rattle.theory.specs.Walks.Levels.{arg_roots, args-under}

-- a node with the ground node beside it
abbrev pub beside : ℕ → ℕ → Pair
beside x n = record { left = x; right = n }

-- the nodes of pairs
abbrev pub lefts : List Pair → List ℕ
lefts [] = []
lefts (p ∷ ps) = p.left ∷ lefts ps

-- the ground nodes of pairs
abbrev pub rights : List Pair → List ℕ
rights [] = []
rights (p ∷ ps) = p.right ∷ rights ps

-- nodes and ground nodes side by side, in their order ahead of the rest: none where one side is longer
unfoldable pub ahead : List ℕ → List ℕ → List Pair → Option (List Pair)
ahead [] [] work = some work
ahead [] (n ∷ ns) work = none
ahead (x ∷ xs) [] work = none
ahead (x ∷ xs) (n ∷ ns) work = elim (ahead xs ns work) [ none ↦ none | some w ↦ some (beside x n ∷ w) ]

-- numbers below k ahead of others below k are below k; there are as many pairs more
pub ahead_pairs : (k : ℕ) (xs ns : List ℕ) (work w : List Pair) → ahead xs ns work ≡ some w → Below k xs → Below k (lefts work) → Below k (lefts w) × (length w ≡ length xs + length work)
unfolding ahead
ahead_pairs k [] [] work w e b c = let q : work ≡ w = cc in rw (← q) (c, omega arith)
ahead_pairs k [] (n ∷ ns) work w e b c = never (cc)
ahead_pairs k (x ∷ xs) [] work w e b c = never (cc)
ahead_pairs k (x ∷ xs) (n ∷ ns) work w e b c = elim (see (ahead xs ns work)) [
  | is none p ↦ let z : none ≡ some w = rw (p, ahead) at e in never (cc)
  | is (some v) p ↦
      let z : some (beside x n ∷ v) ≡ some w = rw (p, ahead) at e in
      let q : beside x n ∷ v ≡ w = cc in
      let ih = ahead_pairs k xs ns work v p b.1 c in
      rw (← q) ((b.0, ih.0), omega (arith, ih.1))
]

-- ground nodes below k ahead of others below k are below k
pub ahead-rights : (k : ℕ) (xs ns : List ℕ) (work w : List Pair) → ahead xs ns work ≡ some w → Below k ns → Below k (rights work) → Below k (rights w)
unfolding ahead
ahead-rights k [] [] work w e b c = let q : work ≡ w = cc in rw (← q) c
ahead-rights k [] (n ∷ ns) work w e b c = never (cc)
ahead-rights k (x ∷ xs) [] work w e b c = never (cc)
ahead-rights k (x ∷ xs) (n ∷ ns) work w e b c = elim (see (ahead xs ns work)) [
  | is none p ↦ let z : none ≡ some w = rw (p, ahead) at e in never (cc)
  | is (some v) p ↦
      let z : some (beside x n ∷ v) ≡ some w = rw (p, ahead) at e in
      let q : beside x n ∷ v ≡ w = cc in
      rw (← q) (b.0, ahead-rights k xs ns work v p b.1 c)
]

-- where one side is longer nothing is put ahead
pub ahead-unlike : (xs ns : List ℕ) (w : List Pair) → (length xs ≡ length ns → ⊥) → ahead xs ns w ≡ none
unfolding ahead
ahead-unlike [] [] w d = absurd (d refl)
ahead-unlike [] (n ∷ ns) w d = refl
ahead-unlike (x ∷ xs) [] w d = refl
ahead-unlike (x ∷ xs) (n ∷ ns) w d = ap (λ (o : Option (List Pair)). elim o [ none ↦ none | some v ↦ some (beside x n ∷ v) ]) (ahead-unlike xs ns w (λ e. d (ap suc e)))

-- pairs put ahead of others from the last one on
pub ahead-turn : (xs ns : List ℕ) (i : ℕ) (w : List Pair) → i < length xs → i < length ns → ahead (take i xs) (take i ns) (beside (get_or xs i 0) (get_or ns i 0) ∷ w) ≡ ahead (take (suc i) xs) (take (suc i) ns) w
unfolding ahead
ahead-turn [] ns i w h k = absurd (omega arith)
ahead-turn (x ∷ xs) [] i w h k = absurd (omega arith)
ahead-turn (x ∷ xs) (n ∷ ns) zero w h k = refl
ahead-turn (x ∷ xs) (n ∷ ns) (suc i) w h k = ap (λ (o : Option (List Pair)). elim o [ none ↦ none | some v ↦ some (beside x n ∷ v) ]) (ahead-turn xs ns i w (omega arith) (omega arith))

-- all are still to be put there
pub ahead-all : (xs ns : List ℕ) (k : ℕ) (w : List Pair) → length xs ≡ k → length ns ≡ k → ahead (take k xs) (take k ns) w ≡ ahead xs ns w
ahead-all xs ns k w h m = ap₂ (λ (a b : List ℕ). ahead a b w) (take_all k xs (omega arith)) (take_all k ns (omega arith))

-- none is
pub ahead_none : (xs ns : List ℕ) (w : List Pair) → ahead (take 0 xs) (take 0 ns) w ≡ some w
unfolding ahead
ahead_none xs ns w = refl

module _ (P : Pack) (g : Graph) where
  -- what `valued` gives for pairs put ahead of others: none where one side is longer, else their values and then the others'
  abbrev pub Ahead : ℕ → List ℕ → List ℕ → List Pair → List Bound → Option (List Pair) → Type 0
  Ahead d xs ns work vs none = valued d P g xs ns vs ≡ none
  Ahead d xs ns work vs (some w) = valued d P g (lefts w) (rights w) vs ≡ onwards (valued d P g xs ns vs) (λ ws. valued d P g (lefts work) (rights work) ws)

  -- it gives that
  pub ahead_says : (d : ℕ) (xs ns : List ℕ) (work : List Pair) (vs : List Bound) → Ahead d xs ns work vs (ahead xs ns work)
  unfolding ahead valued onwards
  ahead_says zero [] [] work vs = refl
  ahead_says zero [] (n ∷ ns) work vs = refl
  ahead_says zero (x ∷ xs) [] work vs = refl
  ahead_says zero (x ∷ xs) (n ∷ ns) work vs = elim (see (ahead xs ns work)) [
    | is none p ↦ rw (p, ahead)
    | is (some w) p ↦ rw (p, ahead)
  ]
  ahead_says (suc d) [] [] work vs = refl
  ahead_says (suc d) [] (n ∷ ns) work vs = refl
  ahead_says (suc d) (x ∷ xs) [] work vs = refl
  ahead_says (suc d) (x ∷ xs) (n ∷ ns) work vs =
      let ih = ahead_says (suc d) xs ns work in
      let first = value_at P g (λ ys ms ws. valued d P g ys ms ws) (root g x) n vs in
      elim (see (ahead xs ns work)) [
        | is none p ↦ rw (p, ahead) (elim (see first) [
          | is none q ↦ rw (q, onwards)
          | is (some ws) q ↦ rw (q, onwards) (rw p at (ih ws))
        ])
        | is (some w) p ↦ rw (p, ahead) (elim (see first) [
          | is none q ↦ rw (q, onwards)
          | is (some ws) q ↦ rw (q, onwards) (rw p at (ih ws))
        ])
      ]

  -- a root's value, alike where what is below it is
  at_alike : (f h : List ℕ → List ℕ → List Bound → Option (List Bound)) (r n : ℕ) (vs : List Bound)
      → (is_var (vertex g r) ≡ false → f (vertex g r).args (node_of P n).args (pairing r n ∷ vs) ≡ h (vertex g r).args (node_of P n).args (pairing r n ∷ vs))
      → value_at P g f r n vs ≡ value_at P g h r n vs
  unfolding value_at
  at_alike f h r n vs e = elim (see (value_of r vs)) [
    | is (some m) p ↦ rw (p, value_at)
    | is none p ↦ elim (see (is_var (vertex g r))) [
      | is true v ↦ rw (p, v, value_at)
      | is false v ↦ rw (p, v, value_at) (ap (provided (eqb (vertex g r).head (node_of P n).head)) (e v))
    ]
  ]

  -- ranks that fall from a root to its arguments' roots
  module _ (rank : ℕ → ℕ) (falls : (x : ℕ) → Under rank (rank x) (arg_roots g x)) where
    -- the depth does not matter where it exceeds the ranks
    pub valued_deep : (d e : ℕ) (xs ns : List ℕ) (vs : List Bound) → Under rank d (map (root g) xs) → Under rank e (map (root g) xs) → valued d P g xs ns vs ≡ valued e P g xs ns vs
    unfolding valued
    valued_deep zero zero [] [] vs u w = refl
    valued_deep zero zero [] (n ∷ ns) vs u w = refl
    valued_deep zero (suc e) [] [] vs u w = refl
    valued_deep zero (suc e) [] (n ∷ ns) vs u w = refl
    valued_deep zero zero (x ∷ xs) ns vs u w = refl
    valued_deep zero (suc e) (x ∷ xs) ns vs u w = absurd (omega (arith, u.0))
    valued_deep (suc d) zero [] [] vs u w = refl
    valued_deep (suc d) zero [] (n ∷ ns) vs u w = refl
    valued_deep (suc d) zero (x ∷ xs) ns vs u w = absurd (omega (arith, w.0))
    valued_deep (suc d) (suc e) [] [] vs u w = refl
    valued_deep (suc d) (suc e) [] (n ∷ ns) vs u w = refl
    valued_deep (suc d) (suc e) (x ∷ xs) [] vs u w = refl
    valued_deep (suc d) (suc e) (x ∷ xs) (n ∷ ns) vs u w =
        let r = root g x in
        let first = at_alike (λ ys ms ws. valued d P g ys ms ws) (λ ys ms ws. valued e P g ys ms ws) r n vs
        (λ v. valued_deep d e (vertex g r).args (node_of P n).args (pairing r n ∷ vs) (args-under g rank falls d r u.0 v) (args-under g rank falls e r w.0 v)) in
        ap (λ o. onwards o (λ ws. valued (suc d) P g xs ns ws)) first
        ∙ onwards-same (value_at P g (λ ys ms ws. valued e P g ys ms ws) r n vs) (λ ws. valued (suc d) P g xs ns ws) (λ ws. valued (suc e) P g xs ns ws) (λ ws. valued_deep (suc d) (suc e) xs ns ws u.1 w.1)
