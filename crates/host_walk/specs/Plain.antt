-- Graphs in which nothing is joined and each node rests on earlier ones: they have no circle, and copies of patterns are such.
use Rattle.std.specs.Prelude.{◌≡◌, Bool, length, get_or}
use Rattle.std.proofs.Math.Path.{refl}
use Rattle.std.proofs.Common.{sym, ap, ◌∙◌, length-append}
use Rattle.std.proofs.Math.Bool.{true, false}
use mathlib.Core.List.{List, [], ◌∷◌, ◌++◌, map}
use Rattle.std.proofs.Math.Option.{none, some}
use Prim.Native.Nat.{ℕ, zero, suc, ◌+◌, ◌≤◌, ◌<◌}
use native.Mathlib.Omega.{arith}
use Rattle.std.proofs.Math.Decide.{ℕ_discrete}
use Rattle.std.proofs.Math.ListN.{length-map, get_or-append}
use Rattle.std.proofs.lemmas.List.{get_or_at}
use Rattle.definition.specs.Test.{is, see, never, all, ◌and◌}
use Rattle.definition.specs.Pack.{Node, no_node}
use Rattle.definition.specs.Good.{Below}
use Rattle.definition.specs.Verdict.{value_of}
use Rattle.definition.specs.Store.{is_variable}
use Rattle.definition.specs.Graph.{Vertex, Graph, variable_vertex, applied, vertex, push, root, is_var, ends, circular, cells as cells_of}
use Rattle.definition.specs.Analysis.{parts, copied, pairing, Copy, copy_node, copy_all, copy}
use Rattle.definition.proofs.Laws.Grow.{below_more}
use Rattle.theory.specs.Unification.Forest.{root_self}
use Rattle.theory.specs.Unification.Circle.{all_up_to}
use Rattle.theory.specs.Copies.Terms.{below-applied, Patterns}
use Rattle.theory.specs.Copies.Parts.{kids_in, kids_fall, kids_inside, in_any, parts_self}
use Rattle.theory.specs.Copies.Copying.{looked, newest, older}
use Rattle.theory.specs.Copies.CopyNode.{copy_node-nodes}
use Rattle.theory.specs.Walks.Walk.{Under, Known, walk}
use Rattle.theory.specs.Walks.WalkOnce.{once_induct}
use Rattle.theory.specs.Walks.Memo.{has_value}
use Rattle.theory.specs.Unification.Inner.{Inner}
use Rattle.theory.specs.Walks.CopyWalk.{no_copy, is_copied, copy_at, copy-made, copy-others, copy-known, copy_walk}
use Rattle.graph.specs.Cells.{cells-more}

-- nothing is joined, each node rests on few earlier ones
abbrev pub Plain : Graph → Type 0
Plain g = (x : ℕ) → x < length g → ((vertex g x).link ≡ none) × Below x (vertex g x).args × (length (vertex g x).args ≤ 16)

-- no node
pub plain_none : Plain []
plain_none x h = absurd (omega arith)

-- one more
plain_more : (g : Graph) (v : Vertex) → Plain g → v.link ≡ none → Below (length g) v.args → length v.args ≤ 16 → Plain (g ++ (v ∷ []))
unfolding vertex
plain_more g v p l b f x h = elim (ℕ_discrete x (length g)) [
  | yes e ↦ rw (get_or_at g v [] (applied 0 []) x (sym e), e) (l, b, f)
  | no d ↦ let k : x < length g = omega (arith, h, d, length-append g (v ∷ [])) in rw (get_or-append g (v ∷ []) (applied 0 []) x k) (p x k)
]

module _ (g : Graph) (p : Plain g) where
  -- arguments are nodes
  pub plain_inner : Inner g
  plain_inner x h = below_more x (length g) (vertex g x).args (omega arith) (p x h).1

  -- what is true below a node is true of its arguments
  all-below : (f : ℕ → Bool) (n : ℕ) (xs : List ℕ) → Below n xs → ((y : ℕ) → y < n → f y ≡ true) → all f xs ≡ true
  unfolding all ◌and◌
  all-below f n [] b h = refl
  all-below f n (x ∷ xs) b h = rw (h x b.0, ◌and◌) (all-below f n xs b.1 h)

  -- each node ends within as many levels as there are nodes up to it
  ends_at : (k x : ℕ) → x < length g → x < k → ends k g x ≡ true
  unfolding ends
  ends_at zero x h l = absurd (omega arith)
  ends_at (suc k) x h l =
      let r = root_self g x (p x h).0 in
      elim (see (is_var (vertex g x))) [
        | is true v ↦ rw (r, v, ends)
        | is false v ↦ let w : is_var (vertex g (root g x)) ≡ false = rw r v in rw (w, ends) (rw r (all-below (λ y. ends k g y) x (vertex g x).args (p x h).1 (λ y m. ends_at k y (omega arith) (omega arith))))
      ]

  -- so there is no circle
  pub plain_ends : circular g ≡ false
  unfolding circular
  plain_ends = rw (all_up_to (λ x. ends (suc (length g)) g x) (length g) (λ x h. ends_at (suc (length g)) x h (omega arith)))

-- ---- copies
-- a copy under way: a plain graph, and copies that are nodes of it
abbrev Tidy : Copy → Type 0
Tidy c = Plain c.graph × ((q x : ℕ) → value_of q c.nodes ≡ some x → x < length c.graph)

-- the copies of nodes that were copied are nodes
made-below : (c : Copy) → Tidy c → (xs : List ℕ) → Known is_copied c xs → Below (length c.graph) (map (copied c.nodes) xs)
unfolding is_copied
made-below c T [] k = tt
made-below c T (x ∷ xs) k = (T.1 x (copied c.nodes x) (has_value c.nodes x k.0), made-below c T xs k.1)

-- a node more
tidy_more : (c d : Copy) (p : ℕ) (v : Vertex) → Tidy c → v.link ≡ none → Below (length c.graph) v.args → length v.args ≤ 16 → d.graph ≡ c.graph ++ (v ∷ []) → d.nodes ≡ pairing p (length c.graph) ∷ c.nodes → Tidy d
tidy_more c d p v T l b f eg en = (
  rw eg (plain_more c.graph v T.0 l b f),
  λ q x e.
      let e' : value_of q (pairing p (length c.graph) ∷ c.nodes) ≡ some x = rw en at e in
      let n : length d.graph ≡ length c.graph + 1 = ap length eg ∙ length-append c.graph (v ∷ []) in
      elim (looked p (length c.graph) c.nodes q x e') [
        | newest i j ↦ omega (arith, j, n)
        | older o ↦ omega (arith, T.1 q x o, n)
      ],
)

module _ (s : List Node) (flex : List Bool) (Q : Patterns s) where
  -- one node's copy
  tidy_node : (c : Copy) (p : ℕ) → p < length s → Tidy c → Known is_copied c (kids_in s p) → Tidy (copy_node s flex c p)
  unfolding copy_node push
  tidy_node c p h T k = elim (see (is_variable (get_or s p no_node))) [
    | is true v ↦ tidy_more c (copy_node s flex c p) p (variable_vertex (get_or (get_or s p no_node).args 1 0) (get_or flex (get_or (get_or s p no_node).args 0 0) false) false) T refl tt (omega arith) (rw (v, copy_node)) (copy_node-nodes s flex c p)
    | is false v ↦
        let args = (get_or s p no_node).args in
        let known : Known is_copied c args = rw (below-applied (get_or s p no_node) v) at k in
        tidy_more c (copy_node s flex c p) p (applied (get_or s p no_node).head (map (copied c.nodes) args)) T refl (made-below c T args known) (omega (arith, length-map args (copied c.nodes), Q.few p h v)) (rw (v, copy_node)) (copy_node-nodes s flex c p)
  ]

  -- all of a walk
  tidy_walk : (d : ℕ) (xs : List ℕ) (c : Copy) → Under (λ n. n) d xs → Below (length s) xs → Tidy c → Tidy (walk (kids_in s) is_copied (copy_at s flex) d xs c)
  unfolding copy_at
  tidy_walk = once_induct (kids_in s) is_copied (copy_at s flex) (copy-made s flex) (copy-others s flex) (λ n. n) (kids_fall s Q.earlier)
      (λ xs c d. Below (length s) xs → Tidy c → Tidy d)
      (λ c b T. T)
      (λ x c k b T. T)
      (λ x c d u k J b T. tidy_node d x b.0 (J (kids_inside s Q.earlier x b.0) T) k)
      (λ x xs c d e k l J K b T. K b.1 (J (b.0, tt) T))

  module _ (g : Graph) (p : ℕ) (h : p < length s) (plain : Plain g) where
    -- a copy
    tidy_copy : Tidy (copy s flex g p)
    unfolding value_of
    tidy_copy = rw (copy_walk s flex g p) (tidy_walk (suc p) (p ∷ []) (no_copy g) (omega arith, tt) (h, tt) (plain, λ q x e. never (cc)))

    -- its graph is plain
    pub copy_plain : Plain (copy s flex g p).graph
    copy_plain = tidy_copy.0

    -- the pattern's own copy is a node
    pub copy_inside : copied (copy s flex g p).nodes p < length (copy s flex g p).graph
    unfolding is_copied
    copy_inside = tidy_copy.1 p (copied (copy s flex g p).nodes p) (has_value (copy s flex g p).nodes p (copy-known s flex g p p ∙ in_any p (parts s p) (parts_self s p)))

  -- it has no fewer cells than before
  node_grows : (c : Copy) (p : ℕ) → cells_of c.graph ≤ cells_of (copy_node s flex c p).graph
  unfolding copy_node push
  node_grows c p = elim (see (is_variable (get_or s p no_node))) [
    | is true v ↦ rw (v, copy_node) (omega (arith, cells-more c.graph (variable_vertex (get_or (get_or s p no_node).args 1 0) (get_or flex (get_or (get_or s p no_node).args 0 0) false) false)))
    | is false v ↦ rw (v, copy_node) (omega (arith, cells-more c.graph (applied (get_or s p no_node).head (map (copied c.nodes) (get_or s p no_node).args))))
  ]

  -- nor with all of them
  all_grows : (c : Copy) (ps : List ℕ) → cells_of c.graph ≤ cells_of (copy_all s flex c ps).graph
  unfolding copy_all
  all_grows c [] = omega arith
  all_grows c (p ∷ ps) = omega (arith, node_grows c p, all_grows (copy_node s flex c p) ps)

  -- nor with a copy
  pub copy_grows : (g : Graph) (p : ℕ) → cells_of g ≤ cells_of (copy s flex g p).graph
  unfolding copy
  copy_grows g p = all_grows (no_copy g) (parts s p)
