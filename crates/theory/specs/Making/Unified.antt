-- Unification keeps the nodes, whatever it is asked: heads, arguments and sorts are as they were; and a forest over nodes stays one.
use Rattle.std.specs.Prelude.{◌≡◌, refl, true, false, ◌||◌, List, [], ◌∷◌, ℕ, zero, suc, ◌<◌, length, set}
use Rattle.std.proofs.Common.{sym, ap, subst, ◌∙◌, arith, length-set}
use Rattle.std.proofs.Math.Option.{none, some}
use Rattle.std.proofs.Math.Decide.{ℕ_discrete}
use Rattle.definition.specs.Test.{is, see, never}
use Rattle.definition.specs.Graph.{Vertex, Graph, Pair, Unified, on, clashed, vertex, link_to, with_flex, is_free, is_var, bind, join, meet, root, cells, take_pairs, unify}
use Rattle.theory.specs.Unification.Solve.{SameNodes}
use Rattle.theory.specs.Unification.Forest.{Forest, Linked, root_inside, linked_forest}
use Rattle.theory.specs.Unification.Join.{Joined, same_refl, same_trans, join-joined, bind-joined}
use Rattle.theory.specs.Unification.Unify.{take_clashed, take_on}
use Rattle.theory.specs.Unification.Inner.{Inner}
use Rattle.theory.specs.Unification.Turn.{meet-same, meet_left, meet_right, meet_rigid, meet-unlike, meet_alike, Within, meet_keeps}

-- ---- a node put in place of another
-- what the new one has as the old one had, every node has as before
field-kept : {A : Type 0} (f : Vertex → A) (g : Graph) (x : ℕ) (v : Vertex) → f v ≡ f (vertex g x) → (z : ℕ) → f (vertex (set g x v) z) ≡ f (vertex g z)
unfolding vertex
field-kept f [] x v e z = refl
field-kept f (w ∷ g) zero v e zero = e
field-kept f (w ∷ g) zero v e (suc z) = refl
field-kept f (w ∷ g) (suc x) v e zero = refl
field-kept f (w ∷ g) (suc x) v e (suc z) = field-kept f g x v e z

-- with the same head, arguments and sort it is the same node
set-kept : (g : Graph) (x : ℕ) (v : Vertex) → v.head ≡ (vertex g x).head → v.args ≡ (vertex g x).args → v.sort ≡ (vertex g x).sort → SameNodes g (set g x v)
set-kept g x v a b c = record { long = length-set g x v; heads = field-kept (λ (w : Vertex). w.head) g x v a; args = field-kept (λ (w : Vertex). w.args) g x v b; sorts = field-kept (λ (w : Vertex). w.sort) g x v c }

join_kept : (g : Graph) (x y : ℕ) → SameNodes g (join g x y)
unfolding join
join_kept g x y = set-kept g x (link_to (vertex g x) y) refl refl refl

bind-kept : (g : Graph) (x y : ℕ) → SameNodes g (bind g x y)
unfolding bind
bind-kept g x y = elim (see (is_var (vertex g y))) [
  | is false e ↦ rw (e, bind) (join_kept g x y)
  | is true e ↦
      let v = with_flex (vertex g y) ((vertex g y).flex || (vertex g x).flex) in
      rw (e, bind) (same_trans g (set g y v) (join (set g y v) x y) (set-kept g y v refl refl refl) (join_kept (set g y v) x y))
]

-- ---- a turn
on_graph : {g h : Graph} {ps qs : List Pair} → on g ps ≡ on h qs → g ≡ h
on_graph e = cc

no_graph : {h : Graph} {qs : List Pair} → clashed ≡ on h qs → ⊥
no_graph e = never (cc)

module _ (Q : Graph → Type 0) (g : Graph) (x y : ℕ) (work : List Pair) where
  -- what holds of the graph after each way that two nodes meet holds of it after any
  meet_cases : Q g → ((x ≡ y → ⊥) → Q (bind g x y)) → ((x ≡ y → ⊥) → Q (bind g y x)) → ((x ≡ y → ⊥) → Q (join g x y)) → (h : Graph) (more : List Pair) → meet g x y work ≡ on h more → Q h
  meet_cases q l r j h more m = elim (ℕ_discrete x y) [
    | yes e ↦ subst Q (on_graph (sym (meet-same g x y work e) ∙ m)) q
    | no d ↦ elim (see (is_free (vertex g x))) [
      | is true a ↦ subst Q (on_graph (sym (meet_left g x y work d a) ∙ m)) (l d)
      | is false a ↦ elim (see (is_free (vertex g y))) [
        | is true b ↦ subst Q (on_graph (sym (meet_right g x y work d a b) ∙ m)) (r d)
        | is false b ↦ elim (see (is_var (vertex g x) || is_var (vertex g y))) [
          | is true v ↦ absurd (no_graph (sym (meet_rigid g x y work d a b v) ∙ m))
          | is false v ↦ elim (ℕ_discrete (vertex g x).head (vertex g y).head) [
            | yes s ↦ subst Q (on_graph (sym (meet_alike g x y work d a b v s) ∙ m)) (j d)
            | no s ↦ absurd (no_graph (sym (meet-unlike g x y work d a b v s) ∙ m))
          ]
        ]
      ]
    ]
  ]

-- the nodes are kept
meet-kept : (g : Graph) (x y : ℕ) (work : List Pair) (h : Graph) (more : List Pair) → meet g x y work ≡ on h more → SameNodes g h
meet-kept g x y work h more m = meet_cases (SameNodes g) g x y work (same_refl g) (λ d. bind-kept g x y) (λ d. bind-kept g y x) (λ d. join_kept g x y) h more m

-- a forest stays one
linked_by : (g h : Graph) (x y : ℕ) → Joined g h x y → Linked g h x y
linked_by g h x y J = record { long = J.same.long; here = J.here; there = J.there }

meet_forest : (g : Graph) (x y : ℕ) (work : List Pair) → Forest g → x < length g → y < length g → (vertex g x).link ≡ none → (vertex g y).link ≡ none → (h : Graph) (more : List Pair) → meet g x y work ≡ on h more → Forest h
meet_forest g x y work F lx ly rx ry h more m = meet_cases Forest g x y work F
    (λ d. linked_forest g (bind g x y) x y (linked_by g (bind g x y) x y (bind-joined g x y lx ly rx d)) rx ry d F ly)
    (λ d. linked_forest g (bind g y x) y x (linked_by g (bind g y x) y x (bind-joined g y x ly lx ry (λ q. d (sym q)))) ry rx (λ q. d (sym q)) F lx)
    (λ d. linked_forest g (join g x y) x y (linked_by g (join g x y) x y (join-joined g x y lx rx)) rx ry d F ly)
    h more m

-- arguments are nodes still
pub inner_same : (g h : Graph) → SameNodes g h → Inner g → Inner h
inner_same g h S I x l = let m = S.long in rw (m, S.args x) (I x (omega arith))

-- ---- pairs taken from a worklist
some_graph : {g h : Graph} → some g ≡ some h → g ≡ h
some_graph e = cc

none_graph : {h : Graph} → none ≡ some h → ⊥
none_graph e = never (cc)

take-kept : (k : ℕ) (g : Graph) (work : List Pair) (n : ℕ) (h : Graph) → (take_pairs k g work n).graph ≡ some h → SameNodes g h
unfolding take_pairs
take-kept zero g [] n h e = subst (SameNodes g) (some_graph e) (same_refl g)
take-kept zero g (p ∷ work) n h e = absurd (none_graph e)
take-kept (suc k) g [] n h e = subst (SameNodes g) (some_graph e) (same_refl g)
take-kept (suc k) g (p ∷ work) n h e = elim (see (meet g (root g p.left) (root g p.right) work)) [
  | is clashed m ↦ absurd (none_graph (sym (ap (λ (u : Unified). u.graph) (take_clashed k g p work n m)) ∙ e))
  | is (on f more) m ↦ same_trans g f h (meet-kept g (root g p.left) (root g p.right) work f more m) (take-kept k f more (suc n) h (sym (ap (λ (u : Unified). u.graph) (take_on k g p work n f more m)) ∙ e))
]

take_forest : (k : ℕ) (g : Graph) (work : List Pair) (n : ℕ) (h : Graph) → Forest g → Inner g → Within (length g) work → (take_pairs k g work n).graph ≡ some h → Forest h
unfolding take_pairs
take_forest zero g [] n h F I w e = subst Forest (some_graph e) F
take_forest zero g (p ∷ work) n h F I w e = absurd (none_graph e)
take_forest (suc k) g [] n h F I w e = subst Forest (some_graph e) F
take_forest (suc k) g (p ∷ work) n h F I w e = elim (see (meet g (root g p.left) (root g p.right) work)) [
  | is clashed m ↦ absurd (none_graph (sym (ap (λ (u : Unified). u.graph) (take_clashed k g p work n m)) ∙ e))
  | is (on f more) m ↦
      let x = root g p.left in
      let y = root g p.right in
      let lx = root_inside g F p.left w.0 in
      let ly = root_inside g F p.right w.1 in
      let rx = F.rooted p.left w.0 in
      let ry = F.rooted p.right w.1 in
      let K = meet_keeps g x y work lx ly rx ry f more m in
      take_forest k f more (suc n) h (meet_forest g x y work F lx ly rx ry f more m) (inner_same g f K.same I) (subst (λ (i : ℕ). Within i more) (sym K.same.long) (K.within w.2 I))
      (sym (ap (λ (u : Unified). u.graph) (take_on k g p work n f more m)) ∙ e)
]

-- ---- unification
pub unify-same : (g : Graph) (x y : ℕ) (h : Graph) → (unify g x y).graph ≡ some h → SameNodes g h
unfolding unify
unify-same g x y h e = take-kept (suc (cells g)) g (record { left = x; right = y } ∷ []) 0 h e

pub unify_inner : (g : Graph) (x y : ℕ) (h : Graph) → (unify g x y).graph ≡ some h → Inner g → Inner h
unify_inner g x y h e I = inner_same g h (unify-same g x y h e) I

pub unify_forest : (g : Graph) (x y : ℕ) (h : Graph) → Forest g → Inner g → x < length g → y < length g → (unify g x y).graph ≡ some h → Forest h
unfolding unify
unify_forest g x y h F I lx ly e = take_forest (suc (cells g)) g (record { left = x; right = y } ∷ []) 0 h F I (lx, ly, tt) e
