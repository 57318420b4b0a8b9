-- A copy of patterns of a well-sorted store under way: the graph stays well formed, and each copy is a node of its pattern's sort over the
-- copies of what is below it.
use Rattle.std.specs.Prelude.{◌≡◌, refl, Bool, List, [], ◌∷◌, map, ℕ, ◌<◌, length}
use Rattle.std.proofs.Math.Path.{sym, ap}
use Rattle.std.proofs.Common.{◌∙◌, arith, eq-eqb}
use Rattle.std.proofs.Math.Bool.{true, false}
use Rattle.std.proofs.Math.Option.{none, some}
use Rattle.std.proofs.Math.ListN.{get_or}
use Rattle.definition.specs.Test.{is, see, never}
use Rattle.definition.specs.Pack.{Node, no_node, Pack, symbol_of}
use Rattle.definition.specs.Good.{Below}
use Rattle.definition.specs.Verdict.{Bound, value_of}
use Rattle.definition.specs.Store.{variable_head, is_variable, below}
use Rattle.definition.specs.Graph.{Vertex, Graph, variable_vertex, applied, vertex, push, is_var}
use Rattle.definition.specs.Analysis.{copied, Copy, pairing, copy_node}
use Rattle.theory.specs.Derive.{In}
use Rattle.theory.specs.Unification.Solve.{sort_at, SortsAt, Formed, Begins}
use Rattle.theory.specs.Copies.Begin.{begins_trans, sort_at_begins}
use Rattle.theory.specs.Copies.Push.{push-length, push_begins, push-new, push_formed, push-sort-variable, push-sort-applied, NewNode, new-variable, new_applied}
use Rattle.theory.specs.Copies.Terms.{below-applied}
use Rattle.theory.specs.Copies.Parts.{here, there, in_front, in_none, in_here, in_there}
use Rattle.theory.specs.Copies.Copying.{value_of_new, value_of_old, value_apart, newest, older, looked, Made, number_at, pattern_sort, grown}
use Rattle.emit_theory.specs.Stores.{Sorted, SortedStore}

-- x stands for the pattern q: a node of its sort, joined to none; an application of its head over what stands for its arguments
pub record CopyAt (P : Pack) (s : List Node) (c : Copy) (q x : ℕ) : Type 0 where
  pub inside : x < length c.graph
  pub sort : sort_at P c.graph x ≡ pattern_sort P s q
  pub alone : (vertex c.graph x).link ≡ none
  pub applied : is_variable (get_or s q no_node) ≡ false → is_var (vertex c.graph x) ≡ false
  pub head : is_variable (get_or s q no_node) ≡ false → (vertex c.graph x).head ≡ (get_or s q no_node).head
  pub over : is_variable (get_or s q no_node) ≡ false → (a : ℕ) → In a (get_or s q no_node).args → (y : ℕ) × (value_of a c.nodes ≡ some y) × In y (vertex c.graph x).args

-- some patterns are copied behind a graph's nodes
pub record Copying (P : Pack) (s : List Node) (g : Graph) (c : Copy) : Type 0 where
  pub begins : Begins g c.graph
  pub formed : Formed P c.graph
  pub made : (q x : ℕ) → value_of q c.nodes ≡ some x → CopyAt P s c q x
  -- a variable's copy is a pattern's
  pub variables : (k x : ℕ) → value_of k c.variables ≡ some x → (q : ℕ) × (value_of q c.nodes ≡ some x)

-- what numbers were copied to
pub in_map : (f : ℕ → ℕ) (a : ℕ) (xs : List ℕ) → In a xs → In (f a) (map f xs)
in_map f a [] i = absurd (in_none a i)
in_map f a (x ∷ xs) i = elim (in_front a x xs i) [
  | here e ↦ rw e (in_here (f x) (map f xs))
  | there t ↦ in_there (f a) (f x) (map f xs) (in_map f a xs t)
]

module _ (P : Pack) (s : List Node) (g : Graph) where
  -- copies of patterns of these sorts are nodes of these sorts
  copies_below : (c : Copy) → Copying P s g c → (args : List ℕ) → ((a : ℕ) → In a args → Made c.nodes a) → Below (length c.graph) (map (copied c.nodes) args)
  copies_below c C [] m = tt
  copies_below c C (a ∷ args) m = ((C.made a (copied c.nodes a) (m a (in_here a args))).inside, copies_below c C args (λ b i. m b (in_there b a args i)))

  copies_sorts : (c : Copy) → Copying P s g c → (i : ℕ) (ss args : List ℕ) → Sorted P s i ss args → ((a : ℕ) → In a args → Made c.nodes a) → SortsAt P c.graph (map (copied c.nodes) args) ss
  copies_sorts c C i [] [] S m = tt
  copies_sorts c C i [] (a ∷ args) S m = absurd S
  copies_sorts c C i (so ∷ ss) [] S m = absurd S
  copies_sorts c C i (so ∷ ss) (a ∷ args) S m =
      ((C.made a (copied c.nodes a) (m a (in_here a args))).sort ∙ S.1, copies_sorts c C i ss args S.2 (λ b k. m b (in_there b a args k)))

  -- a copy stays one when the graph grows and the copies stay
  copy_at_kept : (c d : Copy) (q x : ℕ) → Begins c.graph d.graph → ((a y : ℕ) → value_of a c.nodes ≡ some y → value_of a d.nodes ≡ some y) → CopyAt P s c q x → CopyAt P s d q x
  copy_at_kept c d q x b stay C =
      let same = b.kept x C.inside in
      record {
        inside = omega (arith, C.inside, b.longer);
        sort = sort_at_begins P c.graph d.graph b x C.inside ∙ C.sort;
        alone = ap (λ (v : Vertex). v.link) same ∙ C.alone;
        applied = λ e. ap is_var same ∙ C.applied e;
        head = λ e. ap (λ (v : Vertex). v.head) same ∙ C.head e;
        over = λ e a i. let o = C.over e a i in (o.0, stay a o.0 o.1, rw same o.2);
      }

  -- one node more, for a pattern that was not copied
  next : (c : Copy) → Copying P s g c → (p : ℕ) → value_of p c.nodes ≡ none → (v : Vertex) (vs : List Bound) → NewNode P c.graph v
      → ((d : Copy) → d ≡ grown c p v vs → CopyAt P s d p (length c.graph))
      → ((k x : ℕ) → value_of k vs ≡ some x → (q : ℕ) × (value_of q (pairing p (length c.graph) ∷ c.nodes) ≡ some x)) → Copying P s g (grown c p v vs)
  next c C p new v vs N own vars =
      let h = c.graph in
      let d = grown c p v vs in
      let b = push_begins h v in
      record {
        begins = begins_trans g h d.graph C.begins b;
        formed = push_formed P h v C.formed N;
        made = λ q x e. elim (looked p (length h) c.nodes q x e) [
          | newest i j ↦ rw (i, j) (own d refl)
          | older o ↦ copy_at_kept c d q x b (λ a y f. value_of_old p (length h) c.nodes a (value_apart c.nodes a p y f new) ∙ f) (C.made q x o)
        ];
        variables = vars;
      }

  -- one pattern's copy, if what is below it was copied
  pub copy_node_copying : SortedStore P s → (flex : List Bool) (c : Copy) → Copying P s g c → (p : ℕ) → p < length s → value_of p c.nodes ≡ none
      → ((a : ℕ) → In a (below (get_or s p no_node)) → Made c.nodes a) → Copying P s g (copy_node s flex c p)
  unfolding copy_node push is_var is_variable pattern_sort
  copy_node_copying S flex c C p l new m =
      let n = get_or s p no_node in
      let h = c.graph in
      let ns = pairing p (length h) ∷ c.nodes in
      elim (see (is_variable n)) [
        | is true e ↦
            let v = variable_vertex (get_or n.args 1 0) (get_or flex (number_at s p) false) false in
            let vs = pairing (number_at s p) (length h) ∷ c.variables in
            rw (e, copy_node) (next c C p new v vs (new-variable P h (get_or n.args 1 0) (get_or flex (number_at s p) false))
            (λ d q. rw q (record {
              inside = omega (arith, push-length h v);
              sort = push-sort-variable P h v (eq-eqb variable_head variable_head refl) ∙ sym (rw (e, pattern_sort));
              alone = ap (λ (v : Vertex). v.link) (push-new h v);
              applied = λ f. never (let z : true ≡ false = sym e ∙ f in cc);
              head = λ f. never (let z : true ≡ false = sym e ∙ f in cc);
              over = λ f a i. never (let z : true ≡ false = sym e ∙ f in cc);
            }))
            (λ k x f. elim (looked (number_at s p) (length h) c.variables k x f) [
              | newest i j ↦ (p, rw j (value_of_new p (length h) c.nodes))
              | older o ↦ let r = C.variables k x o in (r.0, value_of_old p (length h) c.nodes r.0 (value_apart c.nodes r.0 p x r.1 new) ∙ r.1)
            ]))
        | is false e ↦
            let v = applied n.head (map (copied c.nodes) n.args) in
            let made : (a : ℕ) → In a n.args → Made c.nodes a = λ a i. m a (rw (below-applied n e) i) in
            let N = S p l in
            rw (e, copy_node) (next c C p new v c.variables
            (new_applied P h n.head (map (copied c.nodes) n.args) e (N.head e) (copies_below c C n.args made) (copies_sorts c C p (symbol_of P n.head).inputs n.args (N.args e) made))
            (λ d q. rw q (record {
              inside = omega (arith, push-length h v);
              sort = push-sort-applied P h v e ∙ sym (rw (e, pattern_sort));
              alone = ap (λ (v : Vertex). v.link) (push-new h v);
              applied = λ f. ap is_var (push-new h v) ∙ e;
              head = λ f. ap (λ (v : Vertex). v.head) (push-new h v);
              over = λ f a i.
                  let y = copied c.nodes a in
                  (y, value_of_old p (length h) c.nodes a (value_apart c.nodes a p y (made a i) new) ∙ made a i, rw (push-new h v) (in_map (copied c.nodes) a n.args i));
            }))
            (λ k x f. let r = C.variables k x f in (r.0, value_of_old p (length h) c.nodes r.0 (value_apart c.nodes r.0 p x r.1 new) ∙ r.1)))
      ]
