-- The ground values by a worklist: pairs from its top, arguments in their order ahead of the rest, give what `valued` gives, each root once.
use Rattle.std.specs.Prelude.{◌≡◌, eqb, length}
use Rattle.std.proofs.Math.Path.{refl, sym, ap}
use Rattle.std.proofs.Common.{◌∙◌, arith}
use Rattle.std.proofs.Math.Bool.{true, false}
use mathlib.Core.List.{List, [], ◌∷◌, map}
use Rattle.std.proofs.Math.Option.{Option, none, some}
use Prim.Native.Nat.{ℕ, zero, suc, ◌+◌, ◌<◌, ◌≤◌}
use Rattle.definition.specs.Test.{is, see}
use Rattle.definition.specs.Pack.{Pack, node_of}
use Rattle.definition.specs.Verdict.{Bound, value_of, provided, onwards}
use Rattle.definition.specs.Good.{Below}
use Rattle.definition.specs.Graph.{Vertex, Graph, vertex, cells, root, is_var, circular, Pair}
use Rattle.definition.specs.Analysis.{pairing, value_at, valued}
use Rattle.theory.specs.Unification.Forest.{Forest, root_inside}
use Rattle.theory.specs.Walks.Walk.{under_more}
use Rattle.theory.specs.Walks.WalkOnce.{unfinished, unfinished_less}
use Rattle.theory.specs.Walks.Memo.{has, has_new, has-others, none_has}
use Rattle.theory.specs.Unification.Inner.{Inner}
use Rattle.theory.specs.Walks.Levels.{args-under, rank_of, rank_most, roots_fall}
use Rattle.theory.specs.Walks.Ahead.{lefts, rights, ahead, ahead_pairs, ahead_says, valued_deep}

-- the pairs still to be taken, and the values so far
pub record Valuing : Type 0 where
  pub work : List Pair
  pub values : List Bound

-- pairs with values
abbrev pub valuing : List Pair → List Bound → Valuing
valuing work vs = record { work = work; values = vs }

-- one pair, a root and a ground node: a root's value is the same wherever it is met; an application's arguments are put ahead of the rest
unfoldable pub take_value : Pack → Graph → ℕ → ℕ → List Pair → List Bound → Option Valuing
unfolding value_of is_var vertex node_of ahead
take_value P g r n work vs =
    elim (value_of r vs) [
      | some m ↦ elim (eqb m n) [ true ↦ some (valuing work vs) | false ↦ none ]
      | none ↦
          elim (is_var (vertex g r)) [
            | true ↦ some (valuing work (pairing r n ∷ vs))
            | false ↦
                elim (eqb (vertex g r).head (node_of P n).head) [
                  | true ↦ elim (ahead (vertex g r).args (node_of P n).args work) [ none ↦ none | some w ↦ some (valuing w (pairing r n ∷ vs)) ]
                  | false ↦ none
                ]
          ]
    ]

-- pairs are taken from the worklist's top, at most k
unfoldable pub take_values : ℕ → Pack → Graph → List Pair → List Bound → Option (List Bound)
unfolding take_value root
take_values zero P g [] vs = some vs
take_values zero P g (p ∷ work) vs = none
take_values (suc k) P g [] vs = some vs
take_values (suc k) P g (p ∷ work) vs = elim (take_value P g (root g p.left) p.right work vs) [ none ↦ none | some s ↦ take_values k P g s.work s.values ]

-- pairs and the arguments of nodes below k without a value: how many pairs are still taken, at most
abbrev pub pairs_left : Graph → ℕ → Valuing → ℕ
pairs_left g k s = length s.work + unfinished (λ x. (vertex g x).args) has k s.values

-- the arguments of all nodes below k
unfoldable pub total : (ℕ → List ℕ) → ℕ → ℕ
total kids zero = 0
total kids (suc k) = length (kids k) + total kids k

-- one node in front
total_front : (v : Vertex) (g : Graph) (k : ℕ) → total (λ x. (vertex (v ∷ g) x).args) (suc k) ≡ length v.args + total (λ x. (vertex g x).args) k
unfolding total vertex
total_front v g zero = omega arith
total_front v g (suc k) = let ih = total_front v g k in omega arith

-- with the nodes themselves they are the graph's cells
pub total-cells : (g : Graph) → total (λ x. (vertex g x).args) (length g) + length g ≡ cells g
unfolding total cells
total-cells [] = refl
total-cells (v ∷ g) = let ih = total-cells g in let f = total_front v g (length g) in omega arith

-- the arguments of nodes below k without a value are no more than those of all
pub left-most : (kids : ℕ → List ℕ) (k : ℕ) (vs : List Bound) → unfinished kids has k vs ≤ total kids k
unfolding unfinished total
left-most kids zero vs = omega arith
left-most kids (suc k) vs =
    let ih = left-most kids k vs in
    elim (see (has vs k)) [
      | is true e ↦ rw (e, unfinished) (omega arith)
      | is false e ↦ rw (e, unfinished) (omega arith)
    ]

-- a graph without circles
module _ (P : Pack) (g : Graph) (F : Forest g) (inner : Inner g) (A : circular g ≡ false) where
  -- what a worklist's pairs come to
  abbrev pub valued_pairs : List Pair → List Bound → Option (List Bound)
  valued_pairs work vs = valued (suc (length g)) P g (lefts work) (rights work) vs

  -- what a turn gives: no values where there are none; else what is left gives the same, its nodes are nodes, and fewer pairs are left
  abbrev pub Taken : Pair → List Pair → List Bound → Option Valuing → Type 0
  Taken p work vs none = valued_pairs (p ∷ work) vs ≡ none
  Taken p work vs (some s) =
      (valued_pairs (p ∷ work) vs ≡ valued_pairs s.work s.values) × Below (length g) (lefts s.work) × (pairs_left g (length g) s < pairs_left g (length g) (valuing (p ∷ work) vs))

  -- a root that gets its value takes its arguments away from those left
  value_less : (r n : ℕ) (vs : List Bound) → r < length g → value_of r vs ≡ none
      → length (vertex g r).args + unfinished (λ x. (vertex g x).args) has (length g) (pairing r n ∷ vs) ≡ unfinished (λ x. (vertex g x).args) has (length g) vs
  value_less r n vs h e = unfinished_less (λ x. (vertex g x).args) has r vs (pairing r n ∷ vs) (has_new vs r n) (λ y d. has-others vs r n y d) (length g) h (none_has vs r e)

  -- the first pair, then the others
  pairs_first : (p : Pair) (work : List Pair) (vs : List Bound) (o : Option (List Bound)) → value_at P g (λ ys ms ws. valued (length g) P g ys ms ws) (root g p.left) p.right vs ≡ o
      → valued_pairs (p ∷ work) vs ≡ onwards o (λ ws. valued_pairs work ws)
  unfolding valued
  pairs_first p work vs o e = ap (λ (o : Option (List Bound)). onwards o (λ ws. valued_pairs work ws)) e

  -- every turn gives that
  pub take_says : (p : Pair) (work : List Pair) (vs : List Bound) → p.left < length g → Below (length g) (lefts work) → Taken p work vs (take_value P g (root g p.left) p.right work vs)
  unfolding take_value value_at onwards
  take_says p work vs h b =
      let r = root g p.left in
      let n = p.right in
      let ws = pairing r n ∷ vs in
      let first = pairs_first p work vs in
      elim (see (value_of r vs)) [
        | is (some m) e ↦ elim (see (eqb m n)) [
          | is true q ↦ rw (e, q, take_value) (first (some vs) (rw (e, value_at, q, provided)), b, omega arith)
          | is false q ↦ rw (e, q, take_value) (first none (rw (e, value_at, q, provided)))
        ]
        | is none e ↦
            let l = value_less r n vs (root_inside g F p.left h) e in
            elim (see (is_var (vertex g r))) [
              | is true v ↦ rw (e, v, take_value) (first (some ws) (rw (e, v, value_at)), b, omega arith)
              | is false v ↦ elim (see (eqb (vertex g r).head (node_of P n).head)) [
                | is false q ↦ rw (e, v, q, take_value) (first none (rw (e, v, value_at, q, provided)))
                | is true q ↦
                    let args = (vertex g r).args in
                    let ms = (node_of P n).args in
                    let c = inner r (root_inside g F p.left h) in
                    let says = ahead_says P g (suc (length g)) args ms work ws in
                    let u = args-under g (rank_of g) (roots_fall g F inner A) (length g) r (omega (arith, rank_most g F inner A p.left h)) v in
                    let deep = valued_deep P g (rank_of g) (roots_fall g F inner A) (length g) (suc (length g)) args ms ws u (under_more (rank_of g) (length g) (suc (length g)) (map (root g) args) (omega arith) u) in
                    let f = first (valued (suc (length g)) P g args ms ws) (rw (e, v, value_at, q, provided) deep) in
                    elim (see (ahead args ms work)) [
                      | is none a ↦
                          let z : valued (suc (length g)) P g args ms ws ≡ none = rw a at says in
                          rw (e, v, q, a, take_value) (f ∙ ap (λ (o : Option (List Bound)). onwards o (λ us. valued_pairs work us)) z)
                      | is (some w) a ↦
                          let z : valued_pairs w ws ≡ onwards (valued (suc (length g)) P g args ms ws) (λ us. valued_pairs work us) = rw a at says in
                          let s = ahead_pairs (length g) args ms work w a c b in
                          rw (e, v, q, a, take_value) (f ∙ sym z, s.0, omega (arith, s.1))
                    ]
              ]
            ]
      ]

  -- taken one by one pairs come to what `valued` gives, in as many turns as there are pairs left
  pub pairs_taken : (k : ℕ) (work : List Pair) (vs : List Bound) → Below (length g) (lefts work) → pairs_left g (length g) (valuing work vs) ≤ k → take_values k P g work vs ≡ valued_pairs work vs
  unfolding take_values valued
  pairs_taken zero [] vs b h = refl
  pairs_taken zero (p ∷ work) vs b h = absurd (omega arith)
  pairs_taken (suc k) [] vs b h = refl
  pairs_taken (suc k) (p ∷ work) vs b h =
      let says = take_says p work vs b.0 b.1 in
      elim (see (take_value P g (root g p.left) p.right work vs)) [
        | is none e ↦ let z : valued_pairs (p ∷ work) vs ≡ none = rw e at says in rw (e, take_values) (sym z)
        | is (some s) e ↦
            let z : Taken p work vs (some s) = rw e at says in
            rw (e, take_values) (pairs_taken k s.work s.values z.1 (omega (arith, z.2)) ∙ sym z.0)
      ]

  -- the instance test by the worklist: as many turns as nodes are tested and the graph has arguments are enough
  pub values-taken : (k : ℕ) (xs ns : List ℕ) (work : List Pair) → Below (length g) xs → ahead xs ns [] ≡ some work → length xs + total (λ x. (vertex g x).args) (length g) ≤ k
      → take_values k P g work [] ≡ valued (suc (length g)) P g xs ns []
  unfolding valued onwards
  values-taken k xs ns work b e h =
      let s = ahead_pairs (length g) xs ns [] work e b tt in
      let m = left-most (λ x. (vertex g x).args) (length g) [] in
      let z : valued_pairs work [] ≡ onwards (valued (suc (length g)) P g xs ns []) (λ us. valued_pairs [] us) = rw e at (ahead_says P g (suc (length g)) xs ns [] []) in
      pairs_taken k work [] s.0 (omega (arith, s.1)) ∙ z ∙ onwards_some (valued (suc (length g)) P g xs ns [])
    where
      onwards_some : (o : Option (List Bound)) → onwards o (λ us. some us) ≡ o
      onwards_some none = refl
      onwards_some (some vs) = refl
