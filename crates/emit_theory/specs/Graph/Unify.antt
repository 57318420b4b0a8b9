-- Unification of two nodes of one sort keeps a graph well sorted, and keeps its nodes. Nothing is asked of links but that they lead to nodes
-- of one's own sort.
use Rattle.std.specs.Prelude.{◌≡◌, refl, ◌||◌, List, [], ◌∷◌, ℕ, zero, suc, ◌<◌, eqb, length, set}
use Rattle.std.proofs.Common.{sym, ap, ◌∙◌, arith, eqb-true, length-set}
use Rattle.std.proofs.Math.Bool.{true, false}
use Rattle.std.proofs.Math.Option.{none, some}
use Rattle.definition.specs.Test.{is, see, never, tests}
use Rattle.definition.specs.Pack.{Pack, symbol_of}
use Rattle.definition.specs.Graph.{Vertex, Graph, vertex, follow, root, is_var, is_free, link_to, with_flex, join, bind, Pair, last_first, Turn, on, clashed, meet, take_pairs, unify, cells}
use Rattle.theory.specs.Unification.Solve.{sort_at, SortsAt, SameNodes}
use Rattle.theory.specs.Unification.Roots.{follow-none, follow_some, follow_inside}
use Rattle.theory.specs.Unification.Join.{same_refl, same_trans, vertex-same, vertex-other}
use Rattle.theory.specs.Unification.Kept.{same_var, same-sort, same-sorts}
use Rattle.theory.specs.Unification.Pairs.{Paired, paired_same, args-paired}
use Rattle.emit_theory.specs.Graphs.{SortedGraph}

-- a node's root lies in the graph
pub root_inside : (P : Pack) (g : Graph) → SortedGraph P g → (x : ℕ) → x < length g → root g x < length g
unfolding root
root_inside P g S x h = follow_inside g (λ x y l e. ((S x l).linked y e).0) (length g) x h

-- a chain has one sort
follow-sort : (P : Pack) (g : Graph) → SortedGraph P g → (k x : ℕ) → x < length g → sort_at P g x ≡ sort_at P g (follow k g x)
unfolding follow
follow-sort P g S zero x h = refl
follow-sort P g S (suc k) x h = elim (see (vertex g x).link) [
  | is none e ↦ ap (sort_at P g) (sym (follow-none (suc k) g x e))
  | is (some y) e ↦ let q = (S x h).linked y e in q.1 ∙ follow-sort P g S k y q.0 ∙ ap (sort_at P g) (sym (follow_some k g x y e))
]

-- a node and its root have one sort
pub root-sort : (P : Pack) (g : Graph) → SortedGraph P g → (x : ℕ) → x < length g → sort_at P g x ≡ sort_at P g (root g x)
unfolding root
root-sort P g S x h = follow-sort P g S (length g) x h

-- a well-sorted graph of the same nodes
pub record Relinked (P : Pack) (g h : Graph) : Type 0 where
  pub sorted : SortedGraph P h
  pub same : SameNodes g h

-- a graph is one of its own nodes
pub relinked_refl : (P : Pack) (g : Graph) → SortedGraph P g → Relinked P g g
relinked_refl P g S = record { sorted = S; same = same_refl g }

-- and so on from one to the next
pub relinked_trans : (P : Pack) (f g h : Graph) → Relinked P f g → Relinked P g h → Relinked P f h
relinked_trans P f g h a b = record { sorted = b.sorted; same = same_trans f g h a.same b.same }

-- where links still lead to nodes of one's own sort, a graph of the same nodes is well sorted
relinked : (P : Pack) (g h : Graph) → SortedGraph P g → SameNodes g h
    → ((z y : ℕ) → z < length g → (vertex h z).link ≡ some y → (y < length g) × (sort_at P g z ≡ sort_at P g y)) → Relinked P g h
relinked P g h S s link = record {
  sorted = λ z hz.
      let m = s.long in
      let l : z < length g = omega arith in
      let f = S z l in
      let v = same_var g h s z in
      record {
        head = λ e. rw (s.heads z) (f.head (sym v ∙ e));
        below = rw (m, s.args z) f.below;
        sorts = λ e. rw (s.heads z, s.args z) (same-sorts P g h s (vertex g z).args (symbol_of P (vertex g z).head).inputs (f.sorts (sym v ∙ e)));
        linked = λ w e. let q = link z w l e in (rw m q.0, same-sort P g h s z ∙ q.1 ∙ sym (same-sort P g h s w));
      };
  same = s;
}

-- what the new node has as the old one had, every node has as before
field : {A : Type 0} (f : Vertex → A) (g : Graph) (x : ℕ) (v : Vertex) → x < length g → f v ≡ f (vertex g x) → (z : ℕ) → f (vertex (set g x v) z) ≡ f (vertex g z)
field f g x v h e z = elim (see (eqb z x)) [
  | is true p ↦ let q : z ≡ x = omega tests in rw (q, vertex-same g x v h) e
  | is false p ↦ ap f (vertex-other g x v z (λ q. omega tests))
]

-- a node in place of one with its head, arguments and sort, joined to a node of that sort or to none
set_relinked : (P : Pack) (g : Graph) (x : ℕ) (v : Vertex) → SortedGraph P g → x < length g → v.head ≡ (vertex g x).head → v.args ≡ (vertex g x).args → v.sort ≡ (vertex g x).sort
    → ((y : ℕ) → v.link ≡ some y → (y < length g) × (sort_at P g x ≡ sort_at P g y)) → Relinked P g (set g x v)
set_relinked P g x v S hx a b c link =
    relinked P g (set g x v) S
    (record {
      long = length-set g x v;
      heads = field (λ (v : Vertex). v.head) g x v hx a;
      args = field (λ (v : Vertex). v.args) g x v hx b;
      sorts = field (λ (v : Vertex). v.sort) g x v hx c;
    })
    (λ z y l e. elim (see (eqb z x)) [
      | is true p ↦
          let q : z ≡ x = omega tests in
          let f : (vertex (set g x v) x).link ≡ some y = rw q at e in
          rw q (link y (ap (λ (v : Vertex). v.link) (sym (vertex-same g x v hx)) ∙ f))
      | is false p ↦ (S z l).linked y (ap (λ (v : Vertex). v.link) (sym (vertex-other g x v z (λ q. omega tests))) ∙ e)
    ])

-- joining two nodes of one sort
pub join_sorted : (P : Pack) (g : Graph) (x y : ℕ) → SortedGraph P g → x < length g → y < length g → sort_at P g x ≡ sort_at P g y → Relinked P g (join g x y)
unfolding join
join_sorted P g x y S hx hy s = set_relinked P g x (link_to (vertex g x) y) S hx refl refl refl (λ w e. let q : y ≡ w = cc in rw (← q) (hy, s))

-- binding one to another of its sort
pub bind_sorted : (P : Pack) (g : Graph) (x y : ℕ) → SortedGraph P g → x < length g → y < length g → sort_at P g x ≡ sort_at P g y → Relinked P g (bind g x y)
unfolding bind
bind_sorted P g x y S hx hy s = elim (see (is_var (vertex g y))) [
  | is false e ↦ rw (e, bind) (join_sorted P g x y S hx hy s)
  | is true e ↦
      let v = with_flex (vertex g y) ((vertex g y).flex || (vertex g x).flex) in
      let h = set g y v in
      let R = set_relinked P g y v S hy refl refl refl (λ w f. (S y hy).linked w f) in
      let m = R.same.long in
      let J = join_sorted P h x y R.sorted (omega arith) (omega arith) (same-sort P g h R.same x ∙ s ∙ sym (same-sort P g h R.same y)) in
      rw (e, bind) (relinked_trans P g h (join h x y) R J)
]

-- what a turn comes to: a well-sorted graph of the same nodes, and pairs of one sort; or a clash
abbrev Turned : Pack → Graph → Turn → Type 0
Turned P g (on h more) = Relinked P g h × Paired P h more
Turned P g clashed = Unit {0}

-- a well-sorted graph and pairs of it
module _ (P : Pack) (g : Graph) (S : SortedGraph P g) (work : List Pair) (W : Paired P g work) (x y : ℕ) (hx : x < length g) (hy : y < length g) (s : sort_at P g x ≡ sort_at P g y) where
  -- two applications of one head
  both : is_var (vertex g x) || is_var (vertex g y) ≡ false → (vertex g x).head ≡ (vertex g y).head → Turned P g (on (join g x y) (last_first (vertex g x).args (vertex g y).args work))
  both o e =
      let vx : is_var (vertex g x) ≡ false = left (is_var (vertex g x)) (is_var (vertex g y)) o in
      let vy : is_var (vertex g y) ≡ false = right (is_var (vertex g x)) (is_var (vertex g y)) o in
      let xs = (vertex g x).args in
      let ys = (vertex g y).args in
      let ss = (symbol_of P (vertex g x).head).inputs in
      let sx : SortsAt P g xs ss = (S x hx).sorts vx in
      let sy : SortsAt P g ys ss = rw e ((S y hy).sorts vy) in
      let J = join_sorted P g x y S hx hy s in
      (J, paired_same P g (join g x y) J.same (last_first xs ys work) (args-paired P g xs ys ss work (S x hx).below (S y hy).below sx sy W))
    where
      left : (a b : _) → a || b ≡ false → a ≡ false
      left true b e = e
      left false b e = refl

      right : (a b : _) → a || b ≡ false → b ≡ false
      right true b e = never (cc)
      right false b e = e

  -- a turn on two nodes of one sort
  meet_sorted : Turned P g (meet g x y work)
  unfolding meet
  meet_sorted = elim (see (eqb x y)) [
    | is true a ↦ rw (a, meet) (relinked_refl P g S, W)
    | is false a ↦ elim (see (is_free (vertex g x))) [
      | is true b ↦ let B = bind_sorted P g x y S hx hy s in rw (a, b, meet) (B, paired_same P g (bind g x y) B.same work W)
      | is false b ↦ elim (see (is_free (vertex g y))) [
        | is true c ↦ let B = bind_sorted P g y x S hy hx (sym s) in rw (a, b, c, meet) (B, paired_same P g (bind g y x) B.same work W)
        | is false c ↦ elim (see (is_var (vertex g x) || is_var (vertex g y))) [
          | is true d ↦ rw (a, b, c, d, meet) tt
          | is false d ↦ elim (see (eqb (vertex g x).head (vertex g y).head)) [
            | is true e ↦ rw (a, b, c, d, e, meet) (both d (eqb-true (vertex g x).head (vertex g y).head e))
            | is false e ↦ rw (a, b, c, d, e, meet) tt
          ]
        ]
      ]
    ]
  ]

-- pairs taken one by one
taken_sorted : (P : Pack) (k : ℕ) (g : Graph) (work : List Pair) (n : ℕ) → SortedGraph P g → Paired P g work → (h : Graph) → (take_pairs k g work n).graph ≡ some h → Relinked P g h
unfolding take_pairs
taken_sorted P zero g [] n S W h e = let q : g ≡ h = cc in rw (← q) (relinked_refl P g S)
taken_sorted P zero g (p ∷ work) n S W h e = never (cc)
taken_sorted P (suc k) g [] n S W h e = let q : g ≡ h = cc in rw (← q) (relinked_refl P g S)
taken_sorted P (suc k) g (p ∷ work) n S W h e =
    let x = root g p.left in
    let y = root g p.right in
    let s : sort_at P g x ≡ sort_at P g y = sym (root-sort P g S p.left W.0) ∙ W.2 ∙ root-sort P g S p.right W.1 in
    let T = meet_sorted P g S work W.3 x y (root_inside P g S p.left W.0) (root_inside P g S p.right W.1) s in
    elim (see (meet g x y work)) [
      | is (on f more) q ↦
          let t : Turned P g (on f more) = rw q at T in
          relinked_trans P g f h t.0 (taken_sorted P k f more (suc n) t.0.sorted t.1 h (rw (q, take_pairs) at e))
      | is clashed q ↦ let z : none ≡ some h = rw (q, take_pairs) at e in never (cc)
    ]

-- two nodes of one sort unified
pub unify_sorted : (P : Pack) (g : Graph) (x y : ℕ) → SortedGraph P g → x < length g → y < length g → sort_at P g x ≡ sort_at P g y → (h : Graph) → (unify g x y).graph ≡ some h → Relinked P g h
unfolding unify
unify_sorted P g x y S hx hy s h e = taken_sorted P (suc (cells g)) g (record { left = x; right = y } ∷ []) 0 S (hx, hy, s, tt) h e
