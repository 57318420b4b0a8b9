-- Joining: one root is linked to another, and a flexible variable makes the one it is bound to flexible.
use Rattle.std.specs.Prelude.{◌≡◌, Bool, ◌||◌, get_or, set}
use Rattle.std.proofs.Math.Path.{refl, sym, ap}
use Rattle.std.proofs.Common.{subst, ◌∙◌, add-one, arith, eq-eqb, ne_eqb}
use Rattle.std.proofs.Math.Bool.{true, false}
use mathlib.Core.List.{List}
use Prim.Native.Nat.{ℕ, zero, suc, ◌+◌, ◌*◌, ◌-◌, ◌<◌}
use Rattle.std.proofs.Math.Decide.{ℕ_discrete, dec_lt}
use Rattle.std.proofs.Math.ListN.{length}
use Rattle.std.proofs.lemmas.List.{set-get_or}
use Rattle.definition.specs.Test.{is, see, or_right, or-none}
use Rattle.definition.specs.Store.{variable_head}
use Rattle.definition.specs.Graph.{Vertex, Graph, vertex, is_var, with_flex, join, bind}
use Rattle.theory.specs.Unification.Forest.{SameLinks}
use Rattle.theory.specs.Unification.Like.{SameVertex, like_linked, like_marked, placed_here, placed_there, join-linked, join_alike, flexed_links}
use Rattle.graph.specs.declared.graph.Graph.{Graph as Counts}
use Rattle.graph.specs.Cells.{start_in, link_word, rest_at, flex_word, link_in, mark_in, vertex_in, graph_in, length-graph_in, graph_at, rows_end, Laid, nodes_few, Shows, start-before, Unchanged, unchanged_then, unchanged_set}
use Rattle.graph.specs.Links.{laid_linked, vertices_kept, rest_unmarked, link_unmarked, laid_marked, head-marked, args-marked, mark-new, link_of, graph_past, linked-word}

-- two roots, apart
pub record Apart (table : List ℕ) (s : Counts) (x y : ℕ) : Type 0 where
  pub left : x < s.nodes
  pub right : y < s.nodes
  pub free : link_word table x ≡ 0
  pub bare : link_word table y ≡ 0
  pub unlike : x ≡ y → ⊥

-- alike by way of a third
alike_then : {u v w : Vertex} → SameVertex u v → SameVertex v w → SameVertex u w
alike_then A B = record { head = A.head ∙ B.head; args = A.args ∙ B.args; sort = A.sort ∙ B.sort; flex = A.flex ∙ B.flex; rigid = A.rigid ∙ B.rigid }

alike_back : {u v : Vertex} → SameVertex u v → SameVertex v u
alike_back A = record { head = sym A.head; args = sym A.args; sort = sym A.sort; flex = sym A.flex; rigid = sym A.rigid }

module _ (words table : List ℕ) (s : Counts) (g : Graph) (S : Shows words table s g) where
  many : length g ≡ s.nodes
  many = sym S.like.long ∙ length-graph_in words table s.nodes

  -- x is joined to y
  pub shows_joined : (x y : ℕ) → Apart table s x y → Shows words (set table (2 * x + 1) (y + 1)) s (join g x y)
  shows_joined x y A = subst (λ (v : ℕ). Shows words (set table (2 * x + 1) v) s (join g x y)) (sym (add-one y)) (record {
    laid = laid_linked words table s S.laid x (suc y) A.left;
    like = like_linked (graph_in words table s.nodes) g S.like (graph_in words (set table (2 * x + 1) (suc y)) s.nodes) (join g x y) x y
        (linked-word words table s S.laid x y A.left) (join-linked g x y (omega (arith, many, A.left)))
        (λ w h. alike_then (vertices_kept words table s S.laid x (suc y) A.left w (omega (arith, many))) (alike_then (S.like.nodes w h) (alike_back (join_alike g x y (omega (arith, many, A.left)) w))))
        (omega (arith, many, A.left)) (omega (arith, many, A.right)) (link_of words table s.nodes x A.left ∙ ap link_in A.free) (link_of words table s.nodes y A.right ∙ ap link_in A.bare) A.unlike;
  })

  -- y's flex word becomes m
  module _ (y m : ℕ) (l : y < s.nodes) where
    abbrev marked : List ℕ
    marked = set table (rest_at words + (3 * y + 1)) m

    flexed : SameLinks (graph_in words table s.nodes) (graph_in words marked s.nodes)
    flexed = record {
      long = length-graph_in words marked s.nodes ∙ sym (length-graph_in words table s.nodes);
      links = λ w. elim (dec_lt w s.nodes) [
        | yes h ↦ link_of words marked s.nodes w h ∙ ap link_in (link_unmarked words table s S.laid y m w h) ∙ sym (link_of words table s.nodes w h)
        | no h ↦ ap (λ (u : Vertex). u.link) (graph_past words marked s.nodes w (omega (arith, h)) ∙ sym (graph_past words table s.nodes w (omega (arith, h))))
      ];
    }

    pub shows_flexed : (f : Bool) → mark_in m ≡ f → Shows words marked s (set g y (with_flex (vertex g y) f))
    unfolding vertex_in
    shows_flexed f e = record {
      laid = laid_marked words table s S.laid y m;
      like = like_marked (graph_in words table s.nodes) g S.like (graph_in words marked s.nodes) (set g y (with_flex (vertex g y) f)) flexed (flexed_links g y f (omega (arith, many, l))) (λ w h. at w h (ℕ_discrete w y));
    }
      where
        at : (w : ℕ) → w < length g → Dec (w ≡ y) → SameVertex (vertex (graph_in words marked s.nodes) w) (vertex (set g y (with_flex (vertex g y) f)) w)
        at w h (yes q) =
            let lw : w < s.nodes = omega (arith, many) in
            let o = rw (graph_at words table s.nodes w lw) at (S.like.nodes w h) in
            let gw : vertex (set g y (with_flex (vertex g y) f)) w ≡ with_flex (vertex g w) f = ap (vertex (set g y (with_flex (vertex g y) f))) q ∙ placed_here g y (with_flex (vertex g y) f) (omega (arith, many, l)) ∙ ap (λ (k : ℕ). with_flex (vertex g k) f) (sym q) in
            rw (graph_at words marked s.nodes w lw, gw) (record {
              head = head-marked words table s S.laid y m w lw ∙ o.head;
              args = args-marked words table s S.laid y m w lw ∙ o.args;
              sort = rest_unmarked words table s S.laid y m (3 * w) (λ e. omega (arith, e)) ∙ o.sort;
              flex = ap (λ (k : ℕ). mark_in (flex_word words marked k)) q ∙ ap mark_in (mark-new words table s S.laid y m l) ∙ e;
              rigid = ap mark_in (rest_unmarked words table s S.laid y m (3 * w + 2) (λ e. omega (arith, e))) ∙ o.rigid;
            })
        at w h (no d) =
            let lw : w < s.nodes = omega (arith, many) in
            let o = rw (graph_at words table s.nodes w lw) at (S.like.nodes w h) in
            rw (graph_at words marked s.nodes w lw, placed_there g y (with_flex (vertex g y) f) (omega (arith, many, l)) w d) (record {
              head = head-marked words table s S.laid y m w lw ∙ o.head;
              args = args-marked words table s S.laid y m w lw ∙ o.args;
              sort = rest_unmarked words table s S.laid y m (3 * w) (λ e. omega (arith, e)) ∙ o.sort;
              flex = ap mark_in (rest_unmarked words table s S.laid y m (3 * w + 1) (λ e. d (omega (arith, e)))) ∙ o.flex;
              rigid = ap mark_in (rest_unmarked words table s S.laid y m (3 * w + 2) (λ e. omega (arith, e))) ∙ o.rigid;
            })

-- ---- binding: the mark, then the link
-- y is flexible if x is, if y is a variable
unfoldable pub sharing : Graph → ℕ → ℕ → Graph
unfolding is_var vertex
sharing g x y = elim (is_var (vertex g y)) [ true ↦ set g y (with_flex (vertex g y) ((vertex g y).flex || (vertex g x).flex)) | false ↦ g ]

pub bind_shares : (g : Graph) (x y : ℕ) → bind g x y ≡ join (sharing g x y) x y
unfolding bind sharing
bind_shares g x y = elim (see (is_var (vertex g y))) [
  | is true e ↦ rw (e, bind, sharing)
  | is false e ↦ rw (e, bind, sharing)
]

module _ (words table : List ℕ) (s : Counts) (g : Graph) (S : Shows words table s g) (x y : ℕ) (A : Apart table s x y) where
  inside : (z : ℕ) → z < s.nodes → z < length g
  inside z l = omega (arith, length-graph_in words table s.nodes, S.like.long)

  flex_of : (z : ℕ) → z < s.nodes → mark_in (flex_word words table z) ≡ (vertex g z).flex
  unfolding vertex_in
  flex_of z l = sym (ap (λ (v : Vertex). v.flex) (graph_at words table s.nodes z l)) ∙ (S.like.nodes z (inside z l)).flex

  -- y is an application
  pub shares_none : (is_var (vertex g y) ≡ false) → Shows words table s (sharing g x y)
  unfolding sharing
  shares_none e = rw (e, sharing) S

  -- x is not flexible
  pub shares_same : (is_var (vertex g y) ≡ true) → flex_word words table x ≡ 0 → Shows words table s (sharing g x y)
  unfolding sharing
  shares_same e z =
      let f : (vertex g x).flex ≡ false = sym (flex_of x A.left) ∙ ap mark_in z in
      let h : mark_in (flex_word words table y) ≡ ((vertex g y).flex || (vertex g x).flex) = flex_of y A.right ∙ sym (or-none (vertex g y).flex (vertex g x).flex f) in
      rw (e, sharing) (subst (λ (t : List ℕ). Shows words t s (set g y (with_flex (vertex g y) ((vertex g y).flex || (vertex g x).flex)))) (set-get_or table (rest_at words + (3 * y + 1)) 0) (shows_flexed words table s g S y (flex_word words table y) A.right ((vertex g y).flex || (vertex g x).flex) h))

  -- x is
  pub shares_flex : (is_var (vertex g y) ≡ true) → (flex_word words table x ≡ 0 → ⊥) → Shows words (set table (rest_at words + (3 * y + 1)) 1) s (sharing g x y)
  unfolding sharing
  shares_flex e z =
      let f : (vertex g x).flex ≡ true = sym (flex_of x A.left) ∙ marked_some (flex_word words table x) z in
      rw (e, sharing) (shows_flexed words table s g S y 1 A.right ((vertex g y).flex || (vertex g x).flex) (sym (or_right (vertex g y).flex (vertex g x).flex f)))
    where
      marked_some : (m : ℕ) → (m ≡ 0 → ⊥) → mark_in m ≡ true
      marked_some zero d = absurd (d refl)
      marked_some (suc m) d = refl

-- they are apart still
pub apart_flexed : (words table : List ℕ) (s : Counts) → Laid words table s → (x y m : ℕ) → Apart table s x y → Apart (set table (rest_at words + (3 * y + 1)) m) s x y
apart_flexed words table s L x y m A = record {
  left = A.left;
  right = A.right;
  free = link_unmarked words table s L y m x A.left ∙ A.free;
  bare = link_unmarked words table s L y m y A.right ∙ A.bare;
  unlike = A.unlike;
}

-- what joining and binding leave of whatever graph is held; behind the rows nothing changes
abbrev pub Joins : List ℕ → List ℕ → List ℕ → Counts → ℕ → ℕ → Type 0
Joins words table table' s x y = ((g : Graph) → Shows words table s g → Shows words table' s (join g x y)) × Unchanged (rows_end words) table table'

abbrev pub Shares : List ℕ → List ℕ → List ℕ → Counts → ℕ → ℕ → Type 0
Shares words table table' s x y = Laid words table' s × Apart table' s x y × ((g : Graph) → Shows words table s g → Shows words table' s (sharing g x y)) × Unchanged (rows_end words) table table'

abbrev pub Binds : List ℕ → List ℕ → List ℕ → Counts → ℕ → ℕ → Type 0
Binds words table table' s x y = ((g : Graph) → Shows words table s g → Shows words table' s (bind g x y)) × Unchanged (rows_end words) table table'

-- a link is written, or a mark
pub behind-link : (words table : List ℕ) (s : Counts) → Laid words table s → (x v : ℕ) → x < s.nodes → Unchanged (rows_end words) table (set table (2 * x + 1) v)
behind-link words table s L x v l = unchanged_set (rows_end words) table (2 * x + 1) v (omega (arith, nodes_few words table s L, L.fits))

pub behind-mark : (words table : List ℕ) (s : Counts) → Laid words table s → (x v : ℕ) → x < s.nodes → Unchanged (rows_end words) table (set table (rest_at words + (3 * x + 1)) v)
behind-mark words table s L x v l = unchanged_set (rows_end words) table (rest_at words + (3 * x + 1)) v (omega (arith, nodes_few words table s L, L.fits))

-- a node's head stands in the cells
pub head_there : (words table : List ℕ) (s : Counts) → Laid words table s → (x : ℕ) → x < s.nodes → start_in table x < length words
head_there words table s L x l = let t = start-before words table s L (s.nodes - x) x (omega arith) in omega (arith, L.fits)

pub head_of : (words table : List ℕ) (s : Counts) (g : Graph) → Shows words table s g → (x : ℕ) → x < s.nodes → get_or words (start_in table x) 0 ≡ (vertex g x).head
unfolding vertex_in
head_of words table s g S x l = sym (ap (λ (v : Vertex). v.head) (graph_at words table s.nodes x l)) ∙ (S.like.nodes x (omega (arith, length-graph_in words table s.nodes, S.like.long))).head

-- the head of a node, of whatever graph is held
abbrev pub HeadOf : List ℕ → List ℕ → Counts → ℕ → ℕ → Type 0
HeadOf words table s x r = (g : Graph) → Shows words table s g → r ≡ (vertex g x).head

-- a head tells variables
pub head-variable : (g : Graph) (x r : ℕ) → r ≡ (vertex g x).head → r ≡ variable_head → is_var (vertex g x) ≡ true
unfolding is_var
head-variable g x r e f = eq-eqb (vertex g x).head variable_head (sym e ∙ f)

pub head-other : (g : Graph) (x r : ℕ) → r ≡ (vertex g x).head → (r ≡ variable_head → ⊥) → is_var (vertex g x) ≡ false
unfolding is_var
head-other g x r e f = ne_eqb (vertex g x).head variable_head (λ q. f (e ∙ q))

-- the mark, then the link: bound
pub bound_by : (words table mid table' : List ℕ) (s : Counts) (x y : ℕ) → Shares words table mid s x y → Joins words mid table' s x y → Binds words table table' s x y
bound_by words table mid table' s x y A B = (λ g S. subst (Shows words table' s) (sym (bind_shares g x y)) (B.0 (sharing g x y) (A.2 g S)), unchanged_then (rows_end words) table mid table' A.3 B.1)
