-- One link more: what joining and binding do to nodes, links and open cells.
use Rattle.std.specs.Prelude.{◌≡◌, refl, true, false, ◌||◌, [], ◌∷◌, ℕ, zero, suc, ◌+◌, ◌<◌, eqb, length, set}
use Rattle.std.proofs.Common.{ap, ◌∙◌, arith, length-set, get_or-set_same, get_or-set_other}
use Rattle.std.proofs.Math.Option.{none, some}
use Rattle.definition.specs.Test.{is, see, tests}
use Rattle.definition.specs.Graph.{Vertex, Graph, applied, vertex, is_var, link_to, with_flex, join, bind}
use Rattle.theory.specs.Unification.Solve.{SameNodes, open_cells}

-- a node put in place of another
pub vertex-same : (g : Graph) (x : ℕ) (v : Vertex) → x < length g → vertex (set g x v) x ≡ v
unfolding vertex
vertex-same g x v h = get_or-set_same g x v (applied 0 []) h

-- the other nodes stay
pub vertex-other : (g : Graph) (x : ℕ) (v : Vertex) (z : ℕ) → (z ≡ x → ⊥) → vertex (set g x v) z ≡ vertex g z
unfolding vertex
vertex-other g x v z n = get_or-set_other g x z v (applied 0 []) n

-- what the new node has as the old one had, every node has as before
field : {A : Type 0} (f : Vertex → A) (g : Graph) (x : ℕ) (v : Vertex) → x < length g → f v ≡ f (vertex g x)
    → (z : ℕ) → f (vertex (set g x v) z) ≡ f (vertex g z)
field f g x v h e z = elim (see (eqb z x)) [
  | is true p ↦ let q : z ≡ x = omega tests in rw (q, vertex-same g x v h) e
  | is false p ↦ ap f (vertex-other g x v z (λ q. omega tests))
]

-- the open cells of one node
own : Vertex → ℕ
own v = elim v.link [ none ↦ length v.args | some y ↦ 0 ]

-- the open cells, node by node
open_cons : (v : Vertex) (g : Graph) → open_cells (v ∷ g) ≡ own v + open_cells g
unfolding open_cells own
open_cons v g = elim (see v.link) [
  | is none e ↦ rw (e, open_cells, own) refl
  | is (some y) e ↦ rw (e, open_cells, own) (omega arith)
]

-- a node put in place of another brings its own open cells for the other's
open_set : (g : Graph) (x : ℕ) (v : Vertex) → x < length g → open_cells (set g x v) + own (vertex g x) ≡ open_cells g + own v
unfolding vertex
open_set [] x v h = absurd (omega arith)
open_set (w ∷ g) zero v h = let a = open_cons v g in let b = open_cons w g in omega arith
open_set (w ∷ g) (suc x) v h =
    let ih = open_set g x v (omega arith) in
    let a = open_cons w (set g x v) in
    let b = open_cons w g in
    omega arith

-- a graph with one link more, from x to y, and with marks as they may be
pub record Joined (g h : Graph) (x y : ℕ) : Type 0 where
  pub same : SameNodes g h
  pub soft : (z : ℕ) → (vertex h z).rigid ≡ (vertex g z).rigid
  pub here : (vertex h x).link ≡ some y
  pub there : (z : ℕ) → (z ≡ x → ⊥) → (vertex h z).link ≡ (vertex g z).link
  pub closed : open_cells h + length (vertex g x).args ≡ open_cells g

-- a graph has its own nodes
pub same_refl : (g : Graph) → SameNodes g g
same_refl g = record { long = refl; heads = λ x. refl; args = λ x. refl; sorts = λ x. refl }

-- the same nodes as the same nodes
pub same_trans : (f g h : Graph) → SameNodes f g → SameNodes g h → SameNodes f h
same_trans f g h s t = record {
  long = t.long ∙ s.long;
  heads = λ x. t.heads x ∙ s.heads x;
  args = λ x. t.args x ∙ s.args x;
  sorts = λ x. t.sorts x ∙ s.sorts x;
}

-- a node put in place of one with the same head, arguments and sort
set_same : (g : Graph) (x : ℕ) (v : Vertex) → x < length g → v.head ≡ (vertex g x).head → v.args ≡ (vertex g x).args → v.sort ≡ (vertex g x).sort
    → SameNodes g (set g x v)
set_same g x v h a b c = record {
  long = length-set g x v;
  heads = field (λ (v : Vertex). v.head) g x v h a;
  args = field (λ (v : Vertex). v.args) g x v h b;
  sorts = field (λ (v : Vertex). v.sort) g x v h c;
}

-- joining is one link more
pub join-joined : (g : Graph) (x y : ℕ) → x < length g → (vertex g x).link ≡ none → Joined g (join g x y) x y
unfolding join own
join-joined g x y h r =
    let v = link_to (vertex g x) y in
    let o = open_set g x v h in
    let w : own (vertex g x) ≡ length (vertex g x).args = rw (r, own) refl in
    record {
      same = set_same g x v h refl refl refl;
      soft = field (λ (v : Vertex). v.rigid) g x v h refl;
      here = ap (λ (v : Vertex). v.link) (vertex-same g x v h);
      there = λ z n. ap (λ (v : Vertex). v.link) (vertex-other g x v z n);
      closed = omega arith;
    }

-- binding is one link more too
pub bind-joined : (g : Graph) (x y : ℕ) → x < length g → y < length g → (vertex g x).link ≡ none → (x ≡ y → ⊥) → Joined g (bind g x y) x y
unfolding bind own
bind-joined g x y hx hy r n = elim (see (is_var (vertex g y))) [
  | is false e ↦ rw (e, bind) (join-joined g x y hx r)
  | is true e ↦
      let v = with_flex (vertex g y) ((vertex g y).flex || (vertex g x).flex) in
      let s = set_same g y v hy refl refl refl in
      let l = field (λ (v : Vertex). v.link) g y v hy refl in
      let i = s.long in
      let j = join-joined (set g y v) x y (omega arith) (l x ∙ r) in
      let w : own v ≡ own (vertex g y) = refl in
      let o = open_set g y v hy in
      let c = j.closed in
      let d : length (vertex (set g y v) x).args ≡ length (vertex g x).args = ap length (s.args x) in
      rw (e, bind) (record {
        same = same_trans g (set g y v) (join (set g y v) x y) s j.same;
        soft = λ z. j.soft z ∙ field (λ (v : Vertex). v.rigid) g y v hy refl z;
        here = j.here;
        there = λ z q. j.there z q ∙ l z;
        closed = omega arith;
      })
]
