-- Forests of links: every chain comes to an end; a link more from root to root, and a chain made shorter.
use Rattle.std.specs.Prelude.{◌≡◌, refl, eqb}
use Rattle.std.proofs.Math.Path.{sym, ap}
use Rattle.std.proofs.Common.{◌∙◌, arith}
use Rattle.std.proofs.Math.Bool.{true, false}
use Rattle.std.proofs.Math.Option.{none, some}
use Prim.Native.Nat.{ℕ, zero, suc, ◌≤◌, ◌<◌}
use Rattle.std.proofs.Math.ListN.{length}
use Rattle.definition.specs.Test.{is, see, never, tests}
use Rattle.definition.specs.Graph.{Graph, vertex, follow, root}
use Rattle.theory.specs.Unification.Roots.{follow-none, follow_some, follow-more, Ends, Inside, follow_inside, ends_soon}

-- links lead to nodes, and every chain comes to an end
pub record Forest (g : Graph) : Type 0 where
  pub inside : Inside g
  pub rooted : (x : ℕ) → x < length g → (vertex g (root g x)).link ≡ none

-- a node's root is a node
pub root_inside : (g : Graph) → Forest g → (x : ℕ) → x < length g → root g x < length g
unfolding root
root_inside g F x h = follow_inside g F.inside (length g) x h

-- a node without a link is its own root
pub root_self : (g : Graph) (x : ℕ) → (vertex g x).link ≡ none → root g x ≡ x
unfolding root
root_self g x e = follow-none (length g) g x e

-- a node that is linked has the root of the node it is linked to
pub root_along : (g : Graph) → Forest g → (x y : ℕ) → x < length g → (vertex g x).link ≡ some y → root g x ≡ root g y
unfolding root
root_along g F x y l e = sym (follow-more (length g) (suc (length g)) g x (F.rooted x l) (omega arith)) ∙ follow_some (length g) g x y e

-- ---- two graphs with the same links
pub record SameLinks (g h : Graph) : Type 0 where
  pub long : length h ≡ length g
  pub links : (x : ℕ) → (vertex h x).link ≡ (vertex g x).link

follow-same : (g h : Graph) → SameLinks g h → (k x : ℕ) → follow k h x ≡ follow k g x
unfolding follow
follow-same g h S zero x = refl
follow-same g h S (suc k) x = elim (see (vertex g x).link) [
  | is none e ↦ follow-none (suc k) h x (S.links x ∙ e) ∙ sym (follow-none (suc k) g x e)
  | is (some y) e ↦ follow_some k h x y (S.links x ∙ e) ∙ follow-same g h S k y ∙ sym (follow_some k g x y e)
]

pub same-root : (g h : Graph) → SameLinks g h → (x : ℕ) → root h x ≡ root g x
unfolding root
same-root g h S x = ap (λ (k : ℕ). follow k h x) S.long ∙ follow-same g h S (length g) x

pub same_forest : (g h : Graph) → SameLinks g h → Forest g → Forest h
same_forest g h S F = record {
  inside = λ x y l e. let m = S.long in let i = F.inside x y (omega arith) (sym (S.links x) ∙ e) in omega arith;
  rooted = λ x l. let m = S.long in ap (λ (y : ℕ). (vertex h y).link) (same-root g h S x) ∙ S.links (root g x) ∙ F.rooted x (omega arith);
}

-- what was x's goes to y
unfoldable pub sent : ℕ → ℕ → ℕ → ℕ
sent x y w = elim (eqb w x) [ true ↦ y | false ↦ w ]

-- a graph with the link of x to y, and with all others as they were
pub record Linked (g h : Graph) (x y : ℕ) : Type 0 where
  pub long : length h ≡ length g
  pub here : (vertex h x).link ≡ some y
  pub there : (z : ℕ) → (z ≡ x → ⊥) → (vertex h z).link ≡ (vertex g z).link

-- links lead to nodes still
linked_inside : (g h : Graph) (x y : ℕ) → Linked g h x y → Inside g → y < length g → Inside h
linked_inside g h x y L I hy z w l e = elim (see (eqb z x)) [
  | is true q ↦
      let zx : z ≡ x = omega tests in
      let c : some y ≡ some w = sym L.here ∙ (rw zx at e) in
      let yw : y ≡ w = cc in
      omega (arith, L.long)
  | is false q ↦ let m = L.long in let i = I z w (omega arith) (sym (L.there z (λ r. omega tests)) ∙ e) in omega arith
]

-- how many links a chain has, of at most k
unfoldable pub depth : ℕ → Graph → ℕ → ℕ
depth zero g x = 0
depth (suc k) g x = elim (vertex g x).link [ none ↦ 0 | some y ↦ suc (depth k g y) ]

depth-none : (k : ℕ) (g : Graph) (x : ℕ) → (vertex g x).link ≡ none → depth k g x ≡ 0
unfolding depth
depth-none zero g x e = refl
depth-none (suc k) g x e = rw (e, depth)

depth_some : (k : ℕ) (g : Graph) (x y : ℕ) → (vertex g x).link ≡ some y → depth (suc k) g x ≡ suc (depth k g y)
unfolding depth
depth_some k g x y e = rw (e, depth)

-- once a chain has ended, no more links are counted
depth-more : (k j : ℕ) (g : Graph) (x : ℕ) → Ends k g x → k ≤ j → depth j g x ≡ depth k g x
unfolding follow
depth-more zero j g x r h = depth-none j g x r ∙ sym (depth-none zero g x r)
depth-more (suc k) zero g x r h = absurd (omega arith)
depth-more (suc k) (suc j) g x r h = elim (see (vertex g x).link) [
  | is none e ↦ depth-none (suc j) g x e ∙ sym (depth-none (suc k) g x e)
  | is (some y) e ↦ depth_some j g x y e ∙ ap suc (depth-more k j g y (rw (follow_some k g x y e) at r) (omega arith)) ∙ sym (depth_some k g x y e)
]

-- a link more is one more
pub depth-link : (g : Graph) → Forest g → (x y : ℕ) → x < length g → (vertex g x).link ≡ some y → depth (length g) g x ≡ suc (depth (length g) g y)
unfolding root
depth-link g F x y l e = sym (depth-more (length g) (suc (length g)) g x (F.rooted x l) (omega arith)) ∙ depth_some (length g) g x y e

-- ---- one root is linked to another
module _ (g h : Graph) (x y : ℕ) (L : Linked g h x y) (rx : (vertex g x).link ≡ none) (ry : (vertex g y).link ≡ none) (n : x ≡ y → ⊥) where
  -- y is a root still
  still : (vertex h y).link ≡ none
  still = L.there y (λ q. n (sym q)) ∙ ry

  -- a root is sent to a root
  sent-root : (w : ℕ) → (vertex g w).link ≡ none → (vertex h (sent x y w)).link ≡ none
  unfolding sent
  sent-root w r = elim (see (eqb w x)) [
    | is true e ↦ rw (e, sent) still
    | is false e ↦ rw (e, sent) (L.there w (λ q. omega tests) ∙ r)
  ]

  -- from a root the chain goes where it is sent
  from-root : (k w : ℕ) → (vertex g w).link ≡ none → follow (suc k) h w ≡ sent x y w
  unfolding sent
  from-root k w r = elim (see (eqb w x)) [
    | is true e ↦ let q : w ≡ x = omega tests in rw (e, sent) (ap (follow (suc k) h) q ∙ follow_some k h x y L.here ∙ follow-none k h y still)
    | is false e ↦ rw (e, sent) (follow-none (suc k) h w (L.there w (λ q. omega tests) ∙ r))
  ]

  -- a chain that ended is followed on
  sent-follow : (k z : ℕ) → Ends k g z → follow (suc k) h z ≡ sent x y (follow k g z)
  unfolding follow
  sent-follow zero z r = rw (follow-none zero g z r) (from-root zero z r)
  sent-follow (suc k) z r = elim (see (vertex g z).link) [
    | is none e ↦ rw (follow-none (suc k) g z e) (from-root (suc k) z e)
    | is (some w) e ↦
        let o : (vertex h z).link ≡ some w = L.there z (λ q. let c : none ≡ some w = sym rx ∙ ap (λ v. (vertex g v).link) (sym q) ∙ e in never (cc)) ∙ e in
        let s = follow_some k g z w e in
        follow_some (suc k) h z w o ∙ sent-follow k w (rw s at r) ∙ ap (sent x y) (sym s)
  ]

  -- the graph stays a forest
  pub linked_forest : Forest g → y < length g → Forest h
  unfolding root
  linked_forest F hy = record {
    inside = linked_inside g h x y L F.inside hy;
    rooted = λ z hz.
        let l : z < length g = omega (arith, L.long) in
        ends_soon h (linked_inside g h x y L F.inside hy) (suc (length g)) z hz (rw (sent-follow (length g) z (F.rooted z l)) (sent-root (follow (length g) g z) (F.rooted z l)));
  }

  -- the root of a node afterwards: x's class goes to y, all others stay
  pub root-linked : Forest g → y < length g → (z : ℕ) → z < length g → root h z ≡ sent x y (root g z)
  unfolding root
  root-linked F hy z l =
      let m = L.long in
      sym (follow-more (length h) (suc (length g)) h z ((linked_forest F hy).rooted z (omega arith)) (omega arith)) ∙ sent-follow (length g) z (F.rooted z l)

-- ---- a node that is linked to y, and y to z, is linked to z itself
module _ (g h : Graph) (x y z : ℕ) (L : Linked g h x z) (xy : (vertex g x).link ≡ some y) (yz : (vertex g y).link ≡ some z) where
  -- a node without a link has none still
  no_link : (w : ℕ) → (vertex g w).link ≡ none → (vertex h w).link ≡ none
  no_link w r = L.there w (λ q. let c : none ≡ some y = sym r ∙ ap (λ v. (vertex g v).link) q ∙ xy in never (cc)) ∙ r

  -- a chain that ends does so at the same node, and as soon
  same_end : (k w : ℕ) → Ends k g w → Ends k h w × (follow k h w ≡ follow k g w)
  unfolding follow
  same_end zero w r = (no_link w r, refl)
  same_end (suc zero) w r = elim (see (vertex g w).link) [
    | is none e ↦ (rw (follow-none 1 h w (no_link w e)) (no_link w e), follow-none 1 h w (no_link w e) ∙ sym (follow-none 1 g w e))
    | is (some v) e ↦
        let rv : (vertex g v).link ≡ none = rw (follow_some zero g w v e) at r in
        let o : (vertex h w).link ≡ some v =
        L.there w (λ q.
        let c : some v ≡ some y = sym e ∙ ap (λ u. (vertex g u).link) q ∙ xy in
        let vy : v ≡ y = cc in
        let d : none ≡ some z = sym rv ∙ ap (λ u. (vertex g u).link) vy ∙ yz in
        never (cc)) ∙ e in
        (rw (follow_some zero h w v o) (no_link v rv), follow_some zero h w v o ∙ sym (follow_some zero g w v e))
  ]
  same_end (suc (suc k)) w r = elim (see (vertex g w).link) [
    | is none e ↦ (rw (follow-none (suc (suc k)) h w (no_link w e)) (no_link w e), follow-none (suc (suc k)) h w (no_link w e) ∙ sym (follow-none (suc (suc k)) g w e))
    | is (some v) e ↦ elim (see (eqb w x)) [
      | is true q ↦
          let wx : w ≡ x = omega tests in
          let c : some v ≡ some y = sym e ∙ ap (λ u. (vertex g u).link) wx ∙ xy in
          let vy : v ≡ y = cc in
          let s : follow (suc (suc k)) g w ≡ follow k g z = follow_some (suc k) g w v e ∙ follow_some k g v z (ap (λ u. (vertex g u).link) vy ∙ yz) in
          let i = same_end k z (rw s at r) in
          let t : follow (suc (suc k)) h w ≡ follow k h z = follow_some (suc k) h w z (ap (λ u. (vertex h u).link) wx ∙ L.here) ∙ follow-more k (suc k) h z i.0 (omega arith) in
          (rw t i.0, t ∙ i.1 ∙ sym s)
      | is false q ↦
          let o : (vertex h w).link ≡ some v = L.there w (λ p. omega tests) ∙ e in
          let s = follow_some (suc k) g w v e in
          let i = same_end (suc k) v (rw s at r) in
          let t = follow_some (suc k) h w v o in
          (rw t i.0, t ∙ i.1 ∙ sym s)
    ]
  ]

  -- the graph stays a forest, and each node keeps its root
  pub shorter_forest : Forest g → x < length g → y < length g → Forest h
  unfolding root
  shorter_forest F hx hy = record {
    inside = linked_inside g h x z L F.inside (F.inside y z hy yz);
    rooted = λ w hw. let m = L.long in rw m (same_end (length g) w (F.rooted w (omega arith))).0;
  }

  pub shorter_root : Forest g → (w : ℕ) → w < length g → root h w ≡ root g w
  unfolding root
  shorter_root F w l = let m = L.long in rw m (same_end (length g) w (F.rooted w l)).1

  -- and no chain is longer
  no_deeper : (k w : ℕ) → Ends k g w → depth k h w ≤ depth k g w
  unfolding follow
  no_deeper zero w r = omega (arith, depth-none zero h w (no_link w r))
  no_deeper (suc zero) w r = elim (see (vertex g w).link) [
    | is none e ↦ omega (arith, depth-none 1 h w (no_link w e))
    | is (some v) e ↦
        let rv : (vertex g v).link ≡ none = rw (follow_some zero g w v e) at r in
        let o : (vertex h w).link ≡ some v =
        L.there w (λ q.
        let c : some v ≡ some y = sym e ∙ ap (λ u. (vertex g u).link) q ∙ xy in
        let vy : v ≡ y = cc in
        let d : none ≡ some z = sym rv ∙ ap (λ u. (vertex g u).link) vy ∙ yz in
        never (cc)) ∙ e in
        omega (arith, depth_some zero h w v o, depth_some zero g w v e, depth-none zero h v (no_link v rv), depth-none zero g v rv)
  ]
  no_deeper (suc (suc k)) w r = elim (see (vertex g w).link) [
    | is none e ↦ omega (arith, depth-none (suc (suc k)) h w (no_link w e))
    | is (some v) e ↦ elim (see (eqb w x)) [
      | is true q ↦
          let wx : w ≡ x = omega tests in
          let c : some v ≡ some y = sym e ∙ ap (λ u. (vertex g u).link) wx ∙ xy in
          let vy : v ≡ y = cc in
          let s : follow (suc (suc k)) g w ≡ follow k g z = follow_some (suc k) g w v e ∙ follow_some k g v z (ap (λ u. (vertex g u).link) vy ∙ yz) in
          let i = no_deeper k z (rw s at r) in
          let j = same_end k z (rw s at r) in
          let t : depth (suc (suc k)) h w ≡ suc (depth k h z) = depth_some (suc k) h w z (ap (λ u. (vertex h u).link) wx ∙ L.here) ∙ ap suc (depth-more k (suc k) h z j.0 (omega arith)) in
          omega (arith, t, i, depth_some (suc k) g w v e, depth_some k g v z (ap (λ u. (vertex g u).link) vy ∙ yz))
      | is false q ↦
          let o : (vertex h w).link ≡ some v = L.there w (λ p. omega tests) ∙ e in
          let i = no_deeper (suc k) v (rw (follow_some (suc k) g w v e) at r) in
          omega (arith, i, depth_some (suc k) h w v o, depth_some (suc k) g w v e)
    ]
  ]

  -- so that the walk from z on is shorter than the one from x
  pub shorter_depth : Forest g → x < length g → y < length g → depth (length h) h z < depth (length g) g x
  unfolding root
  shorter_depth F hx hy =
      let hz : z < length g = F.inside y z hy yz in
      let d = no_deeper (length g) z (F.rooted z hz) in
      let m : depth (length h) h z ≡ depth (length g) h z = ap (λ (k : ℕ). depth k h z) L.long in
      omega (arith, d, m, depth-link g F x y hx xy, depth-link g F y z hy yz)
