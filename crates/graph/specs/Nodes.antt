-- What is asked of a node: its arguments, its sort, its marks, whether it is a root.
use Rattle.std.specs.Prelude.{◌≡◌, Bool, true, false, List, length, get_or}
use Rattle.std.proofs.Math.Path.{refl, sym}
use Rattle.std.proofs.Common.{ap, ◌∙◌, arith, add-one}
use Rattle.std.proofs.Math.Bool.{not}
use Rattle.std.proofs.Math.Option.{none, some}
use Prim.Native.Nat.{ℕ, zero, suc, ◌+◌, ◌*◌, ◌-◌, ◌≤◌, ◌<◌}
use borrow.Author.Tests.{eq-eqb, ne_eqb, lt-ltb}
use Rattle.std.proofs.Math.Dec.{eqb, ltb}
use Rattle.definition.specs.Test.{never}
use Rattle.definition.specs.Graph.{Vertex, Graph, vertex, is_var, is_free, root}
use Rattle.base.specs.Part.{part, length_part, part_at}
use Rattle.theory.specs.Unification.Like.{own_root}
use Rattle.graph.specs.declared.graph.Graph.{Graph as Counts}
use Rattle.graph.specs.Cells.{start_in, link_word, sort_word, flex_word, rigid_word, link_in, mark_in, vertex_in, graph_in, length-graph_in, graph_at, Laid, Shows, start-before}
use Rattle.graph.specs.Links.{link_of, found_here}

-- of whatever graph is held: how many arguments a node has, one of them, whether it is a free variable
abbrev pub ArityOf : List ℕ → List ℕ → Counts → ℕ → ℕ → Type 0
ArityOf words table s x r = (g : Graph) → Shows words table s g → r ≡ length (vertex g x).args

abbrev pub ArgumentOf : List ℕ → List ℕ → Counts → ℕ → ℕ → ℕ → Type 0
ArgumentOf words table s x i r = (g : Graph) → Shows words table s g → r ≡ get_or (vertex g x).args i 0

abbrev pub FreeOf : List ℕ → List ℕ → Counts → ℕ → Bool → Type 0
FreeOf words table s x r = (g : Graph) → Shows words table s g → r ≡ is_free (vertex g x)

-- and its sort, whether it is flexible, whether it is a root
abbrev pub SortOf : List ℕ → List ℕ → Counts → ℕ → ℕ → Type 0
SortOf words table s x r = (g : Graph) → Shows words table s g → r ≡ (vertex g x).sort

abbrev pub FlexOf : List ℕ → List ℕ → Counts → ℕ → Bool → Type 0
FlexOf words table s x r = (g : Graph) → Shows words table s g → r ≡ (vertex g x).flex

abbrev pub RootOf : List ℕ → List ℕ → Counts → ℕ → Bool → Type 0
RootOf words table s x r = (g : Graph) → Shows words table s g → r ≡ eqb (root g x) x

-- ---- a node's arguments
-- a node ends where the next one starts, however that is written
next_start : (table : List ℕ) (x : ℕ) → start_in table (x + 1) ≡ start_in table (suc x)
next_start table x = ap (start_in table) (add-one x)

pub end-word : (table : List ℕ) (x : ℕ) → get_or table (2 * x + 2) 0 ≡ start_in table (x + 1)
end-word table x = let e : 2 * x + 2 ≡ 2 * (x + 1) = omega arith in ap (λ (k : ℕ). get_or table k 0) e

-- behind its head, and within the cells
module _ (words table : List ℕ) (s : Counts) (L : Laid words table s) (x : ℕ) (l : x < s.nodes) where
  pub head_first : start_in table x + 1 ≤ start_in table (x + 1)
  head_first = omega (arith, next_start table x, L.rising x l)

  pub end_there : start_in table (x + 1) ≤ length words
  end_there = let t = start-before words table s L (s.nodes - suc x) (suc x) (omega arith) in omega (arith, next_start table x, L.fits)

module _ (words table : List ℕ) (s : Counts) (g : Graph) (S : Shows words table s g) (x : ℕ) (l : x < s.nodes) where
  same-node : x < length g
  same-node = omega (arith, length-graph_in words table s.nodes, S.like.long)

  args_of : part (start_in table x + 1) (start_in table (suc x) - (start_in table x + 1)) words ≡ (vertex g x).args
  unfolding vertex_in
  args_of = sym (ap (λ (v : Vertex). v.args) (graph_at words table s.nodes x l)) ∙ (S.like.nodes x same-node).args

  pub arity_of : start_in table (x + 1) - (start_in table x + 1) ≡ length (vertex g x).args
  arity_of =
      let p = length_part (start_in table x + 1) (start_in table (suc x) - (start_in table x + 1)) words (omega (arith, next_start table x, head_first words table s S.laid x l, end_there words table s S.laid x l)) in
      omega (arith, next_start table x, p, ap (λ (a : List ℕ). length a) args_of)

  pub argument_of : (i : ℕ) → start_in table x + 1 + i < start_in table (x + 1) → get_or words (start_in table x + 1 + i) 0 ≡ get_or (vertex g x).args i 0
  argument_of i h =
      sym (part_at (start_in table x + 1) (start_in table (suc x) - (start_in table x + 1)) words i (omega (arith, next_start table x)))
      ∙ ap (λ (a : List ℕ). get_or a i 0) args_of

  -- an argument is one of those that the count has
  pub argument_there : (i : ℕ) → i < length (vertex g x).args → start_in table x + 1 + i < start_in table (x + 1)
  argument_there i h = omega (arith, arity_of, h)

  -- ---- free variables: no application is one, a variable is one if it has no rigid mark
  pub free-none : is_var (vertex g x) ≡ false → false ≡ is_free (vertex g x)
  unfolding is_free
  free-none e = rw (e, is_free)

  rigid_of : mark_in (rigid_word words table x) ≡ (vertex g x).rigid
  unfolding vertex_in
  rigid_of = sym (ap (λ (v : Vertex). v.rigid) (graph_at words table s.nodes x l)) ∙ (S.like.nodes x same-node).rigid

  pub free-mark : is_var (vertex g x) ≡ true → eqb (rigid_word words table x) 0 ≡ is_free (vertex g x)
  unfolding is_free
  free-mark e = rw (e, is_free, ← rigid_of) (unmarked (rigid_word words table x))
    where
      unmarked : (m : ℕ) → eqb m 0 ≡ not (mark_in m)
      unmarked zero = eq-eqb zero 0 refl
      unmarked (suc m) = ne_eqb (suc m) 0 (λ e. omega (arith, e))

  -- ---- the other words
  pub sort_of : sort_word words table x ≡ (vertex g x).sort
  unfolding vertex_in
  sort_of = sym (ap (λ (v : Vertex). v.sort) (graph_at words table s.nodes x l)) ∙ (S.like.nodes x same-node).sort

  pub flex_of : ltb 0 (flex_word words table x) ≡ (vertex g x).flex
  unfolding vertex_in
  flex_of = marked (flex_word words table x) ∙ sym (ap (λ (v : Vertex). v.flex) (graph_at words table s.nodes x l)) ∙ (S.like.nodes x same-node).flex
    where
      marked : (m : ℕ) → ltb 0 m ≡ mark_in m
      marked zero = refl
      marked (suc m) = lt-ltb 0 (suc m) (omega arith)

  -- a root has no link
  pub root_of : (w : ℕ) → w ≡ link_word table x → eqb w 0 ≡ eqb (root g x) x
  root_of zero e = eq-eqb 0 0 refl ∙ sym (eq-eqb (root g x) x (found_here words table s g S x l (sym e)))
  root_of (suc y) e = ne_eqb (suc y) 0 (λ q. omega (arith, q)) ∙ sym (ne_eqb (root g x) x (λ q. linked (own_root own S.like.own x (omega (arith, length-graph_in words table s.nodes)) (S.like.roots x same-node ∙ q))))
    where
      own : Graph
      own = graph_in words table s.nodes

      linked : (vertex (graph_in words table s.nodes) x).link ≡ none → ⊥
      linked o = let z : some y ≡ none = ap link_in e ∙ sym (link_of words table s.nodes x l) ∙ o in never (cc)
