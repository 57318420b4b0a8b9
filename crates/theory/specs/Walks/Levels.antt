-- In a graph without circles ranks fall from a root to the roots of its arguments: a root's rank is the levels that it takes to end.
use Rattle.std.specs.Prelude.{◌≡◌, Bool, not, ltb, leb, length}
use Rattle.std.proofs.Common.{sym, ap, ◌∙◌}
use Rattle.std.proofs.Math.Path.{subst}
use Rattle.std.proofs.Math.Bool.{true, false}
use mathlib.Core.List.{List, [], ◌∷◌, map}
use Rattle.std.proofs.Math.Option.{none, some}
use Prim.Native.Nat.{ℕ, zero, suc, ◌<◌, ◌≤◌}
use native.Mathlib.Omega.{arith}
use Rattle.std.proofs.lemmas.Bool.{not-false}
use Rattle.std.proofs.Math.ListN.{get_or-eq_default}
use Rattle.definition.specs.Test.{is, see, never, tests, all, ◌and◌, and_parts}
use Rattle.definition.specs.Good.{Below}
use Rattle.definition.specs.Graph.{Vertex, Graph, applied, vertex, root, is_var, ends, circular}
use Rattle.theory.specs.Unification.Count.{levels}
use Rattle.theory.specs.Unification.Inner.{Inner}
use Rattle.theory.specs.Unification.Forest.{Forest, root_inside, root_self}
use Rattle.theory.specs.Unification.Acyclic.{ends_more}
use Rattle.theory.specs.Unification.Circle.{acyclic_ends}
use Rattle.theory.specs.Walks.Walk.{Under, under_more}

-- the roots of an application's arguments; a variable has none
unfoldable pub arg_roots : Graph → ℕ → List ℕ
unfolding is_var vertex root
arg_roots g x = elim (is_var (vertex g x)) [ true ↦ [] | false ↦ map (root g) (vertex g x).args ]

-- a variable's
pub roots_variable : (g : Graph) (x : ℕ) → is_var (vertex g x) ≡ true → arg_roots g x ≡ []
unfolding arg_roots
roots_variable g x v = rw (v, arg_roots)

-- an application's
pub roots_applied : (g : Graph) (x : ℕ) → is_var (vertex g x) ≡ false → arg_roots g x ≡ map (root g) (vertex g x).args
unfolding arg_roots
roots_applied g x v = rw (v, arg_roots)

-- beyond the graph there are none
roots_beyond : (g : Graph) (x : ℕ) → length g ≤ x → arg_roots g x ≡ []
unfolding vertex
roots_beyond g x h = elim (see (is_var (vertex g x))) [
  | is true v ↦ roots_variable g x v
  | is false v ↦ roots_applied g x v ∙ ap (λ (w : Vertex). map (root g) w.args) (get_or-eq_default g (applied 0 []) {n = x} h)
]

-- how many levels beyond the first a node takes to end, of at most k
unfoldable pub level : ℕ → Graph → ℕ → ℕ
unfolding ends
level zero g x = 0
level (suc k) g x = elim (ends (suc k) g x) [ true ↦ level k g x | false ↦ suc k ]

-- it ends within so many
level-ends : (k : ℕ) (g : Graph) (x : ℕ) → ends (suc k) g x ≡ true → ends (suc (level k g x)) g x ≡ true
unfolding level
level-ends zero g x e = e
level-ends (suc k) g x e = elim (see (ends (suc k) g x)) [
  | is true p ↦ rw (p, level) (level-ends k g x p)
  | is false p ↦ rw (p, level) e
]

-- and within no fewer
level_least : (k j : ℕ) (g : Graph) (x : ℕ) → ends (suc j) g x ≡ true → level k g x ≤ j
unfolding level
level_least zero j g x e = omega arith
level_least (suc k) j g x e = elim (see (ends (suc k) g x)) [
  | is true p ↦ rw (p, level) (level_least k j g x e)
  | is false p ↦ rw (p, level) (elim (see (leb j k)) [
    | is true l ↦ let q = ends_more (suc j) (suc k) g x (omega tests) e in never (cc)
    | is false l ↦ omega tests
  ])
]

-- where a node ends its root does
ends-root : (k : ℕ) (g : Graph) → Forest g → (x : ℕ) → x < length g → ends k g x ≡ true → ends k g (root g x) ≡ true
unfolding ends
ends-root zero g F x h e = never (cc)
ends-root (suc k) g F x h e = ap at (root_self g (root g x) (F.rooted x h)) ∙ e
  where
    at : ℕ → Bool
    at r = elim (is_var (vertex g r)) [ true ↦ true | false ↦ all (λ y. ends k g y) (vertex g r).args ]

-- a root's rank: its levels; a joined node's is above all others
unfoldable pub rank_of : Graph → ℕ → ℕ
unfolding level vertex
rank_of g x = elim (vertex g x).link [ none ↦ level (length g) g x | some y ↦ length g ]

-- a root's rank
rank-root : (g : Graph) (x : ℕ) → (vertex g x).link ≡ none → rank_of g x ≡ level (length g) g x
unfolding rank_of
rank-root g x e = rw (e, rank_of)

-- a joined node's rank
rank-joined : (g : Graph) (x y : ℕ) → (vertex g x).link ≡ some y → rank_of g x ≡ length g
unfolding rank_of
rank-joined g x y e = rw (e, rank_of)

-- what ranks that fall from a root to its arguments' roots leave, below d, for the arguments of an application
pub args-under : (g : Graph) (rank : ℕ → ℕ) → ((x : ℕ) → Under rank (rank x) (arg_roots g x)) → (d x : ℕ) → rank x < suc d → is_var (vertex g x) ≡ false → Under rank d (map (root g) (vertex g x).args)
args-under g rank falls d x h v = rw (roots_applied g x v) at (under_more rank (rank x) d (arg_roots g x) (omega arith) (falls x))

-- a graph without circles
module _ (g : Graph) (F : Forest g) (inner : Inner g) (A : circular g ≡ false) where
  -- a node among these that does not end within i levels
  late_among : (k i : ℕ) (xs : List ℕ) → Below (length g) xs → all (λ y. ends k g y) xs ≡ true → all (λ y. ends i g y) xs ≡ false → (y : ℕ) × (y < length g) × (ends k g y ≡ true) × (ends i g y ≡ false)
  unfolding all
  late_among k i [] b e f = never (cc)
  late_among k i (x ∷ xs) b e f =
      let p = and_parts (ends k g x) (all (λ y. ends k g y) xs) e in
      elim (see (ends i g x)) [
        | is true q ↦ late_among k i xs b.1 p.1 (rw (q, ◌and◌) at f)
        | is false q ↦ (x, b.0, p.0, q)
      ]

  -- below a node that ends, but not within i levels, one ends within one level more
  late : (k i x : ℕ) → x < length g → ends k g x ≡ true → ends i g x ≡ false → (z : ℕ) × (z < length g) × (ends i g z ≡ false) × (ends (suc i) g z ≡ true)
  unfolding ends
  late zero i x h e f = never (cc)
  late (suc k) i x h e f = elim (see (ends (suc i) g x)) [
    | is true p ↦ (x, h, f, p)
    | is false p ↦
        let r = root g x in
        elim (see (is_var (vertex g r))) [
          | is true v ↦ let z : true ≡ false = rw (v, ends) at p in never (cc)
          | is false v ↦
              let y = late_among k i (vertex g r).args (inner r (root_inside g F x h)) (rw (v, ends) at e) (rw (v, ends) at p) in
              late k i y.0 y.1 y.2 y.3
        ]
  ]

  -- each node ends within as many levels as there are nodes
  ends_soon : (x : ℕ) → x < length g → ends (length g) g x ≡ true
  ends_soon x h =
      let n = length g in
      not-false _ (levels n (λ i z. not (ends i g z))
      (λ i z e. elim (see (ends i g z)) [
        | is true p ↦ let q = ends_more i (suc i) g z (omega arith) p in let w : not true ≡ true = rw q at e in never (cc)
        | is false p ↦ rw p
      ])
      x h
      (λ i e. elim (see (ends i g x)) [
        | is true p ↦ let w : not true ≡ true = rw p at e in never (cc)
        | is false p ↦ let z = late (suc n) i x h (acyclic_ends g A x h) p in (z.0, z.1, rw z.2, rw z.3)
      ]))

  -- the rank of the root of a node is below the number of nodes
  pub rank_most : (x : ℕ) → x < length g → rank_of g (root g x) < length g
  rank_most x h =
      let r = root g x in
      let e = rank-root g r (F.rooted x h) in
      elim (see (length g)) [
        | is zero z ↦ absurd (omega arith)
        | is (suc m) z ↦
            let s : ends (suc m) g r ≡ true = ap (λ (k : ℕ). ends k g r) (sym z) ∙ ends_soon r (root_inside g F x h) in
            let l = level_least (length g) m g r s in
            omega arith
      ]

  -- so are those of nodes
  pub ranks_most : (xs : List ℕ) → Below (length g) xs → Under (rank_of g) (length g) (map (root g) xs)
  ranks_most [] b = tt
  ranks_most (x ∷ xs) b = (rank_most x b.0, ranks_most xs b.1)

  -- the roots of nodes that end within k levels have ranks below k
  ranks_ended : (k : ℕ) (xs : List ℕ) → Below (length g) xs → all (λ y. ends k g y) xs ≡ true → Under (rank_of g) k (map (root g) xs)
  unfolding all ends
  ranks_ended k [] b e = tt
  ranks_ended zero (x ∷ xs) b e = let p = and_parts (ends 0 g x) (all (λ y. ends 0 g y) xs) e in never (let z : false ≡ true = p.0 in cc)
  ranks_ended (suc k) (x ∷ xs) b e =
      let p = and_parts (ends (suc k) g x) (all (λ y. ends (suc k) g y) xs) e in
      let q = rank-root g (root g x) (F.rooted x b.0) in
      let l = level_least (length g) k g (root g x) (ends-root (suc k) g F x b.0 p.0) in
      (omega arith, ranks_ended (suc k) xs b.1 p.1)

  -- ranks fall from a node to the roots of its arguments
  pub roots_fall : (x : ℕ) → Under (rank_of g) (rank_of g x) (arg_roots g x)
  unfolding ends
  roots_fall x = elim (see (ltb x (length g))) [
    | is false h ↦ subst (Under (rank_of g) (rank_of g x)) (sym (roots_beyond g x (omega tests))) tt
    | is true h ↦ elim (see (is_var (vertex g x))) [
      | is true v ↦ subst (Under (rank_of g) (rank_of g x)) (sym (roots_variable g x v)) tt
      | is false v ↦
          let args = (vertex g x).args in
          let b = inner x (omega tests) in
          subst (Under (rank_of g) (rank_of g x)) (sym (roots_applied g x v)) (elim (see (vertex g x).link) [
            | is (some y) e ↦ subst (λ (k : ℕ). Under (rank_of g) k (map (root g) args)) (sym (rank-joined g x y e)) (ranks_most args b)
            | is none e ↦
                let k = level (length g) g x in
                let p = level-ends (length g) g x (acyclic_ends g A x (omega tests)) in
                let r = root_self g x e in
                let w : is_var (vertex g (root g x)) ≡ false = rw r v in
                let q : all (λ y. ends k g y) (vertex g (root g x)).args ≡ true = rw (w, ends) at p in
                subst (λ (k : ℕ). Under (rank_of g) k (map (root g) args)) (sym (rank-root g x e)) (ranks_ended k args b (rw r at q))
          ])
    ]
  ]

  -- roots of nodes are nodes
  roots_below : (xs : List ℕ) → Below (length g) xs → Below (length g) (map (root g) xs)
  roots_below [] b = tt
  roots_below (x ∷ xs) b = (root_inside g F x b.0, roots_below xs b.1)

  -- and so are those of a node's arguments
  pub roots_inside : (x : ℕ) → x < length g → Below (length g) (arg_roots g x)
  roots_inside x h = elim (see (is_var (vertex g x))) [
    | is true v ↦ subst (Below (length g)) (sym (roots_variable g x v)) tt
    | is false v ↦ subst (Below (length g)) (sym (roots_applied g x v)) (roots_below (vertex g x).args (inner x h))
  ]
