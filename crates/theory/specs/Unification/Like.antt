-- Graphs that differ in their links alone and have the same roots: what code keeps of a graph whose chains it makes shorter.
use Rattle.std.specs.Prelude.{◌≡◌, Bool, length, set}
use Rattle.std.proofs.Math.Path.{refl, sym, ap}
use Rattle.std.proofs.Common.{◌∙◌, arith, length-append, length-set}
use mathlib.Core.List.{[], ◌∷◌, ◌++◌}
use Rattle.std.proofs.Math.Option.{none, some}
use Prim.Native.Nat.{ℕ, zero, suc, ◌<◌}
use Rattle.std.proofs.Math.Decide.{dec_lt, ℕ_discrete}
use Rattle.std.proofs.Math.ListN.{get_or-append}
use Rattle.std.proofs.Math.Seq.{get_or_at, get_or-set_same, get_or-set_other}
use Rattle.definition.specs.Test.{is, see, never}
use Rattle.definition.specs.Graph.{Vertex, Graph, applied, vertex, follow, root, link_to, with_flex, join}
use Rattle.theory.specs.Unification.Roots.{follow-none, follow_some, follow-more, Inside}
use Rattle.theory.specs.Unification.Forest.{Forest, root_inside, root_self, SameLinks, same-root, same_forest, sent, Linked, linked_forest, root-linked, shorter_forest, shorter_root}

-- a node but for its link
pub record SameVertex (v w : Vertex) : Type 0 where
  pub head : v.head ≡ w.head
  pub args : v.args ≡ w.args
  pub sort : v.sort ≡ w.sort
  pub flex : v.flex ≡ w.flex
  pub rigid : v.rigid ≡ w.rigid

-- c is g but for its links, and every node has the same root in both
pub record Like (c g : Graph) : Type 0 where
  pub long : length c ≡ length g
  pub nodes : (x : ℕ) → x < length g → SameVertex (vertex c x) (vertex g x)
  pub own : Forest c
  pub forest : Forest g
  pub roots : (x : ℕ) → x < length g → root c x ≡ root g x

-- a graph is like itself
pub like_same : (g : Graph) → Forest g → Like g g
like_same g F = record { long = refl; nodes = λ x l. record { head = refl; args = refl; sort = refl; flex = refl; rigid = refl }; own = F; forest = F; roots = λ x l. refl }

-- a node that is its own root has no link
pub own_root : (g : Graph) → Forest g → (x : ℕ) → x < length g → root g x ≡ x → (vertex g x).link ≡ none
own_root g F x l e = ap (λ (z : ℕ). (vertex g z).link) (sym e) ∙ F.rooted x l

module _ (c g : Graph) (S : Like c g) where
  -- the roots of one are those of the other
  pub like_root : (x : ℕ) → x < length g → (vertex c x).link ≡ none → (vertex g x).link ≡ none
  like_root x l e = own_root g S.forest x l (sym (S.roots x l) ∙ root_self c x e)

  -- a chain made shorter
  pub like_shorter : (h : Graph) (x y z : ℕ) → Linked c h x z → ((w : ℕ) → w < length g → SameVertex (vertex h w) (vertex c w)) → x < length g → y < length g → (vertex c x).link ≡ some y → (vertex c y).link ≡ some z → Like h g
  like_shorter h x y z L alike lx ly xy yz =
      let m = S.long in
      record {
        long = L.long ∙ m;
        nodes = λ w l.
            let a = alike w l in
            let b = S.nodes w l in
            record { head = a.head ∙ b.head; args = a.args ∙ b.args; sort = a.sort ∙ b.sort; flex = a.flex ∙ b.flex; rigid = a.rigid ∙ b.rigid };
        own = shorter_forest c h x y z L xy yz S.own (omega arith) (omega arith);
        forest = S.forest;
        roots = λ w l. shorter_root c h x y z L xy yz S.own w (omega arith) ∙ S.roots w l;
      }

  -- other marks in both
  pub like_marked : (h k : Graph) → SameLinks c h → SameLinks g k → ((w : ℕ) → w < length g → SameVertex (vertex h w) (vertex k w)) → Like h k
  like_marked h k L M alike = record {
    long = L.long ∙ S.long ∙ sym M.long;
    nodes = λ w l. alike w (omega (arith, M.long));
    own = same_forest c h L S.own;
    forest = same_forest g k M S.forest;
    roots = λ w l. same-root c h L w ∙ S.roots w (omega (arith, M.long)) ∙ sym (same-root g k M w);
  }

  -- one root linked to another in both
  pub like_linked : (h k : Graph) (x y : ℕ) → Linked c h x y → Linked g k x y → ((w : ℕ) → w < length g → SameVertex (vertex h w) (vertex k w)) → x < length g → y < length g → (vertex c x).link ≡ none → (vertex c y).link ≡ none → (x ≡ y → ⊥) → Like h k
  like_linked h k x y L M alike lx ly rx ry n =
      let m = S.long in
      let gx = like_root x lx rx in
      let gy = like_root y ly ry in
      record {
        long = L.long ∙ m ∙ sym M.long;
        nodes = λ w l. alike w (omega (arith, M.long));
        own = linked_forest c h x y L rx ry n S.own (omega arith);
        forest = linked_forest g k x y M gx gy n S.forest ly;
        roots = λ w l.
            let lw : w < length g = omega (arith, M.long) in
            root-linked c h x y L rx ry n S.own (omega arith) w (omega arith) ∙ ap (sent x y) (S.roots w lw) ∙ sym (root-linked g k x y M gx gy n S.forest ly w lw);
      }

-- ---- a node more, without a link
module _ (g : Graph) (v : Vertex) (bare : v.link ≡ none) where
  abbrev more : Graph
  more = g ++ (v ∷ [])

  pub vertex-old : (x : ℕ) → x < length g → vertex more x ≡ vertex g x
  unfolding vertex
  vertex-old x l = get_or-append g (v ∷ []) (applied 0 []) x l

  pub vertex-new : vertex more (length g) ≡ v
  unfolding vertex
  vertex-new = get_or_at g v [] (applied 0 []) (length g) refl

  long_more : length more ≡ suc (length g)
  long_more = length-append g (v ∷ []) ∙ omega arith

  -- chains of earlier nodes are what they were
  follow-old : Inside g → (k x : ℕ) → x < length g → follow k more x ≡ follow k g x
  unfolding follow
  follow-old I zero x l = refl
  follow-old I (suc k) x l = elim (see (vertex g x).link) [
    | is none e ↦ follow-none (suc k) more x (ap (λ (w : Vertex). w.link) (vertex-old x l) ∙ e) ∙ sym (follow-none (suc k) g x e)
    | is (some y) e ↦ follow_some k more x y (ap (λ (w : Vertex). w.link) (vertex-old x l) ∙ e) ∙ follow-old I k y (I x y l e) ∙ sym (follow_some k g x y e)
  ]

  -- and so are their roots
  pub root-old : Forest g → (x : ℕ) → x < length g → root more x ≡ root g x
  unfolding root
  root-old F x l = ap (λ (k : ℕ). follow k more x) long_more ∙ follow-old F.inside (suc (length g)) x l ∙ follow-more (length g) (suc (length g)) g x (F.rooted x l) (omega arith)

  pub root-new : root more (length g) ≡ length g
  root-new = root_self more (length g) (ap (λ (w : Vertex). w.link) vertex-new ∙ bare)

  pub forest_more : Forest g → Forest more
  forest_more F = record {
    inside = λ x y h e. elim (dec_lt x (length g)) [
      | yes l ↦ let i = F.inside x y l (ap (λ (w : Vertex). w.link) (sym (vertex-old x l)) ∙ e) in omega (arith, long_more)
      | no l ↦
          let q : x ≡ length g = omega (arith, long_more, l) in
          let z : none ≡ some y = sym bare ∙ ap (λ (w : Vertex). w.link) (sym vertex-new) ∙ ap (λ (k : ℕ). (vertex more k).link) (sym q) ∙ e in
          never (cc)
    ];
    rooted = λ x h. elim (dec_lt x (length g)) [
      | yes l ↦ ap (λ (k : ℕ). (vertex more k).link) (root-old F x l) ∙ ap (λ (w : Vertex). w.link) (vertex-old (root g x) (root_inside g F x l)) ∙ F.rooted x l
      | no l ↦
          let q : x ≡ length g = omega (arith, long_more, l) in
          ap (λ (k : ℕ). (vertex more (root more k)).link) q ∙ ap (λ (k : ℕ). (vertex more k).link) root-new ∙ ap (λ (w : Vertex). w.link) vertex-new ∙ bare
    ];
  }

-- the same node more in both
pub like_more : (c g : Graph) → Like c g → (v w : Vertex) → v.link ≡ none → w.link ≡ none → SameVertex v w → Like (c ++ (v ∷ [])) (g ++ (w ∷ []))
like_more c g S v w bv bw alike = record {
  long = length-append c (v ∷ []) ∙ omega (arith, S.long) ∙ sym (length-append g (w ∷ []));
  nodes = λ x h. at x h (dec_lt x (length g));
  own = forest_more c v bv S.own;
  forest = forest_more g w bw S.forest;
  roots = λ x h. roots x h (dec_lt x (length g));
}
  where
    at : (x : ℕ) → x < length (g ++ (w ∷ [])) → Dec (x < length g) → SameVertex (vertex (c ++ (v ∷ [])) x) (vertex (g ++ (w ∷ [])) x)
    at x h (yes l) = rw (vertex-old c v bv x (omega (arith, S.long)), vertex-old g w bw x l) (S.nodes x l)
    at x h (no l) =
        let q : x ≡ length g = omega (arith, length-append g (w ∷ []), l) in
        let a : vertex (c ++ (v ∷ [])) x ≡ v = ap (vertex (c ++ (v ∷ []))) (q ∙ sym S.long) ∙ vertex-new c v bv in
        let b : vertex (g ++ (w ∷ [])) x ≡ w = ap (vertex (g ++ (w ∷ []))) q ∙ vertex-new g w bw in
        rw (a, b) alike

    roots : (x : ℕ) → x < length (g ++ (w ∷ [])) → Dec (x < length g) → root (c ++ (v ∷ [])) x ≡ root (g ++ (w ∷ [])) x
    roots x h (yes l) = root-old c v bv S.own x (omega (arith, S.long)) ∙ S.roots x l ∙ sym (root-old g w bw S.forest x l)
    roots x h (no l) =
        let q : x ≡ length g = omega (arith, length-append g (w ∷ []), l) in
        ap (root (c ++ (v ∷ []))) (q ∙ sym S.long) ∙ root-new c v bv ∙ S.long ∙ sym (root-new g w bw) ∙ ap (root (g ++ (w ∷ []))) (sym q)

-- ---- a node put in place of another
module _ (g : Graph) (x : ℕ) (v : Vertex) (l : x < length g) where
  pub placed_here : vertex (set g x v) x ≡ v
  unfolding vertex
  placed_here = get_or-set_same g x v (applied 0 []) l

  pub placed_there : (z : ℕ) → (z ≡ x → ⊥) → vertex (set g x v) z ≡ vertex g z
  unfolding vertex
  placed_there z d = get_or-set_other g x z v (applied 0 []) d

-- joined: one link more, and each node as it was but for that
pub join-linked : (g : Graph) (x y : ℕ) → x < length g → Linked g (join g x y) x y
unfolding join
join-linked g x y l = record {
  long = length-set g x (link_to (vertex g x) y);
  here = ap (λ (v : Vertex). v.link) (placed_here g x (link_to (vertex g x) y) l);
  there = λ z d. ap (λ (v : Vertex). v.link) (placed_there g x (link_to (vertex g x) y) l z d);
}

pub same-vertex : (v : Vertex) → SameVertex v v
same-vertex v = record { head = refl; args = refl; sort = refl; flex = refl; rigid = refl }

pub join_alike : (g : Graph) (x y : ℕ) → x < length g → (w : ℕ) → SameVertex (vertex (join g x y) w) (vertex g w)
unfolding join
join_alike g x y l w = elim (ℕ_discrete w x) [
  | yes e ↦ rw (e, placed_here g x (link_to (vertex g x) y) l) (record { head = refl; args = refl; sort = refl; flex = refl; rigid = refl })
  | no d ↦ rw (placed_there g x (link_to (vertex g x) y) l w d) (same-vertex (vertex g w))
]

-- another flex mark: the links stay
pub flexed_links : (g : Graph) (y : ℕ) (f : Bool) → y < length g → SameLinks g (set g y (with_flex (vertex g y) f))
flexed_links g y f l = record {
  long = length-set g y (with_flex (vertex g y) f);
  links = λ w. elim (ℕ_discrete w y) [
    | yes e ↦ rw (e, placed_here g y (with_flex (vertex g y) f) l)
    | no d ↦ ap (λ (v : Vertex). v.link) (placed_there g y (with_flex (vertex g y) f) l w d)
  ];
}
