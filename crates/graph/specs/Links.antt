-- Links: what a word written to a node's row leaves of the graph, and the root that is found.
use Rattle.std.specs.Prelude.{◌≡◌, refl, List, [], ℕ, suc, ◌+◌, ◌*◌, ◌-◌, ◌≤◌, ◌<◌, length, get_or, set}
use Rattle.std.proofs.Common.{sym, ◌∙◌, arith, length-set, get_or-set_same, get_or-set_other}
use Rattle.std.proofs.Math.Path.{ap}
use Rattle.std.proofs.Math.Option.{some}
use Rattle.std.proofs.Math.Decide.{dec_lt}
use Rattle.std.proofs.Math.ListN.{get_or-eq_default}
use Rattle.definition.specs.Graph.{Vertex, Graph, applied, vertex, root}
use Rattle.base.specs.Part.{part}
use Rattle.theory.specs.Unification.Forest.{root_self, root_along, Linked, depth, shorter_depth}
use Rattle.theory.specs.Unification.Like.{SameVertex, like_shorter}
use Rattle.graph.specs.declared.graph.Graph.{Graph as Counts}
use Rattle.graph.specs.Cells.{start_in, link_word, rest_at, flex_word, link_in, mark_in, vertex_in, graph_in, length-graph_in, graph_at, rows_end, Laid, nodes_few, room, Shows, Unchanged, unchanged_same, unchanged_then, unchanged_set}

-- ---- a word of the table that doesn't say where a node starts becomes v
module _ (words table : List ℕ) (s : Counts) (L : Laid words table s) (at v : ℕ) (apart : (i : ℕ) → i ≤ s.nodes → 2 * i ≡ at → ⊥) where
  abbrev table' : List ℕ
  table' = set table at v

  -- where nodes start stays
  start-kept : (i : ℕ) → i ≤ s.nodes → start_in table' i ≡ start_in table i
  start-kept i h = get_or-set_other table at (2 * i) v 0 (apart i h)

  laid_word : Laid words table' s
  laid_word = record {
    wide = omega (arith, L.wide, length-set table at v);
    first = start-kept 0 (omega arith) ∙ L.first;
    rising = λ i h. omega (arith, start-kept i (omega arith), start-kept (suc i) (omega arith), L.rising i h);
    end = start-kept s.nodes (omega arith) ∙ L.end;
    fits = L.fits;
    small = L.small;
  }

  -- heads and arguments are what they were
  head-kept : (i : ℕ) → i < s.nodes → get_or words (start_in table' i) 0 ≡ get_or words (start_in table i) 0
  head-kept i h = ap (λ (n : ℕ). get_or words n 0) (start-kept i (omega arith))

  args-kept : (i : ℕ) → i < s.nodes → part (start_in table' i + 1) (start_in table' (suc i) - (start_in table' i + 1)) words ≡ part (start_in table i + 1) (start_in table (suc i) - (start_in table i + 1)) words
  args-kept i h = ap (λ (n : ℕ). part (n + 1) (start_in table' (suc i) - (n + 1)) words) (start-kept i (omega arith)) ∙ ap (λ (n : ℕ). part (start_in table i + 1) (n - (start_in table i + 1)) words) (start-kept (suc i) (omega arith))

-- ---- node x's link becomes v
module _ (words table : List ℕ) (s : Counts) (L : Laid words table s) (x v : ℕ) (l : x < s.nodes) where
  abbrev linked : List ℕ
  linked = set table (2 * x + 1) v

  link_apart : (i : ℕ) → i ≤ s.nodes → 2 * i ≡ 2 * x + 1 → ⊥
  link_apart i h e = omega (arith, e)

  -- the words behind those in front stay
  rest-kept : (i : ℕ) → get_or linked (rest_at words + i) 0 ≡ get_or table (rest_at words + i) 0
  rest-kept i = get_or-set_other table (2 * x + 1) (rest_at words + i) v 0 (λ e. omega (arith, e, nodes_few words table s L, L.fits))

  pub laid_linked : Laid words linked s
  laid_linked = laid_word words table s L (2 * x + 1) v link_apart

  -- so does each node but for its link
  pub vertices_kept : (i : ℕ) → i < s.nodes → SameVertex (vertex (graph_in words linked s.nodes) i) (vertex (graph_in words table s.nodes) i)
  unfolding vertex_in
  vertices_kept i h = rw (graph_at words linked s.nodes i h, graph_at words table s.nodes i h) (record {
    head = head-kept words table s L (2 * x + 1) v link_apart i h;
    args = args-kept words table s L (2 * x + 1) v link_apart i h;
    sort = rest-kept (3 * i);
    flex = ap mark_in (rest-kept (3 * i + 1));
    rigid = ap mark_in (rest-kept (3 * i + 2));
  })

-- ---- node y's flex mark becomes m
module _ (words table : List ℕ) (s : Counts) (L : Laid words table s) (y m : ℕ) where
  abbrev marked : List ℕ
  marked = set table (rest_at words + (3 * y + 1)) m

  -- it stands behind the words in front
  pub front_unmarked : (i : ℕ) → i < rest_at words → get_or marked i 0 ≡ get_or table i 0
  front_unmarked i h = get_or-set_other table (rest_at words + (3 * y + 1)) i m 0 (λ e. omega (arith, e))

  pub rest_unmarked : (i : ℕ) → (3 * y + 1 ≡ i → ⊥) → get_or marked (rest_at words + i) 0 ≡ get_or table (rest_at words + i) 0
  rest_unmarked i d = get_or-set_other table (rest_at words + (3 * y + 1)) (rest_at words + i) m 0 (λ e. d (omega (arith, e)))

  pub link_unmarked : (w : ℕ) → w < s.nodes → link_word marked w ≡ link_word table w
  link_unmarked w h = front_unmarked (2 * w + 1) (omega (arith, nodes_few words table s L, L.fits))

  mark_apart : (i : ℕ) → i ≤ s.nodes → 2 * i ≡ rest_at words + (3 * y + 1) → ⊥
  mark_apart i h e = omega (arith, e, nodes_few words table s L, L.fits)

  pub laid_marked : Laid words marked s
  laid_marked = laid_word words table s L (rest_at words + (3 * y + 1)) m mark_apart

  pub head-marked : (i : ℕ) → i < s.nodes → get_or words (start_in marked i) 0 ≡ get_or words (start_in table i) 0
  head-marked = head-kept words table s L (rest_at words + (3 * y + 1)) m mark_apart

  pub args-marked : (i : ℕ) → i < s.nodes → part (start_in marked i + 1) (start_in marked (suc i) - (start_in marked i + 1)) words ≡ part (start_in table i + 1) (start_in table (suc i) - (start_in table i + 1)) words
  args-marked = args-kept words table s L (rest_at words + (3 * y + 1)) m mark_apart

  pub mark-new : y < s.nodes → flex_word words marked y ≡ m
  mark-new l = get_or-set_same table (rest_at words + (3 * y + 1)) m 0 (omega (arith, nodes_few words table s L, L.fits, L.wide))

pub link_of : (words table : List ℕ) (n i : ℕ) → i < n → (vertex (graph_in words table n) i).link ≡ link_in (link_word table i)
unfolding vertex_in
link_of words table n i l = ap (λ (u : Vertex). u.link) (graph_at words table n i l)

-- past the end stands nothing
pub graph_past : (words table : List ℕ) (n z : ℕ) → n ≤ z → vertex (graph_in words table n) z ≡ applied 0 []
unfolding vertex
graph_past words table n z h = get_or-eq_default (graph_in words table n) (applied 0 []) (omega (arith, length-graph_in words table n))

-- node x is linked to y
pub linked-word : (words table : List ℕ) (s : Counts) → Laid words table s → (x y : ℕ) → x < s.nodes → Linked (graph_in words table s.nodes) (graph_in words (set table (2 * x + 1) (suc y)) s.nodes) x y
unfolding graph_in
linked-word words table s L x y l = record {
  long = length-graph_in words (set table (2 * x + 1) (suc y)) s.nodes ∙ sym (length-graph_in words table s.nodes);
  here = link_of words (set table (2 * x + 1) (suc y)) s.nodes x l ∙ ap link_in (get_or-set_same table (2 * x + 1) (suc y) 0 (omega (arith, room words table s L)));
  there = λ z d. elim (dec_lt z s.nodes) [
    | yes h ↦ link_of words (set table (2 * x + 1) (suc y)) s.nodes z h ∙ ap link_in (get_or-set_other table (2 * x + 1) (2 * z + 1) (suc y) 0 (λ e. d (omega (arith, e)))) ∙ sym (link_of words table s.nodes z h)
    | no h ↦ ap (λ (u : Vertex). u.link) (graph_past words (set table (2 * x + 1) (suc y)) s.nodes z (omega (arith, h)) ∙ sym (graph_past words table s.nodes z (omega (arith, h))))
  ];
}

-- ---- a chain made shorter
module _ (words table : List ℕ) (s : Counts) (g : Graph) (S : Shows words table s g) (x y z : ℕ) (l : x < s.nodes) (xy : link_word table x ≡ suc y) (yz : link_word table y ≡ suc z) where
  many : length (graph_in words table s.nodes) ≡ s.nodes
  many = length-graph_in words table s.nodes

  x_link : (vertex (graph_in words table s.nodes) x).link ≡ some y
  x_link = link_of words table s.nodes x l ∙ ap link_in xy

  pub y_there : y < s.nodes
  y_there = let i = S.like.own.inside x y (omega (arith, many)) x_link in omega (arith, many)

  y_link : (vertex (graph_in words table s.nodes) y).link ≡ some z
  y_link = link_of words table s.nodes y y_there ∙ ap link_in yz

  pub z_there : z < s.nodes
  z_there = let i = S.like.own.inside y z (omega (arith, many, y_there)) y_link in omega (arith, many)

  pub shows_shorter : Shows words (set table (2 * x + 1) (suc z)) s g
  shows_shorter = record {
    laid = laid_linked words table s S.laid x (suc z) l;
    like = like_shorter (graph_in words table s.nodes) g S.like (graph_in words (set table (2 * x + 1) (suc z)) s.nodes) x y z
        (linked-word words table s S.laid x z l)
        (λ w h. vertices_kept words table s S.laid x (suc z) l w (omega (arith, many, S.like.long)))
        (omega (arith, many, S.like.long)) (omega (arith, many, S.like.long, y_there)) x_link y_link;
  }

  -- the walk that is left is shorter
  pub walk_shorter : depth s.nodes (graph_in words (set table (2 * x + 1) (suc z)) s.nodes) z < depth s.nodes (graph_in words table s.nodes) x
  walk_shorter =
      let d = shorter_depth (graph_in words table s.nodes) (graph_in words (set table (2 * x + 1) (suc z)) s.nodes) x y z (linked-word words table s S.laid x z l) x_link y_link S.like.own (omega (arith, many)) (omega (arith, many, y_there)) in
      let m = length-graph_in words (set table (2 * x + 1) (suc z)) s.nodes in
      rw (m, many) at d

-- ---- the root that is found
module _ (words table : List ℕ) (s : Counts) (g : Graph) (S : Shows words table s g) (x : ℕ) (l : x < s.nodes) where
  inside : x < length g
  inside = omega (arith, length-graph_in words table s.nodes, S.like.long)

  -- without a link it is the node itself
  pub found_here : link_word table x ≡ 0 → root g x ≡ x
  found_here e = sym (S.like.roots x inside) ∙ root_self (graph_in words table s.nodes) x (link_of words table s.nodes x l ∙ ap link_in e)

  -- else it is that of the node it is linked to
  pub found_there : (y : ℕ) → link_word table x ≡ suc y → (y < s.nodes) × (root g x ≡ root g y)
  found_there y e =
      let c : Graph = graph_in words table s.nodes in
      let m = length-graph_in words table s.nodes in
      let k : (vertex c x).link ≡ some y = link_of words table s.nodes x l ∙ ap link_in e in
      let i = S.like.own.inside x y (omega (arith, m)) k in
      (omega (arith, m), sym (S.like.roots x inside) ∙ root_along c S.like.own x y (omega (arith, m)) k ∙ S.like.roots y (omega (arith, S.like.long)))

-- some graph is held
abbrev pub Holds : List ℕ → List ℕ → Counts → Type 0
Holds words table s = (g : Graph) × Shows words table s g

-- what finding the root of x answers: it, of whatever graph is held, which is held still; behind the rows nothing changes
abbrev pub Found : List ℕ → List ℕ → List ℕ → Counts → ℕ → ℕ → Type 0
Found words table table' s x r = (r < s.nodes) × (link_word table' r ≡ 0) × ((g : Graph) → Shows words table s g → (r ≡ root g x) × Shows words table' s g) × Unchanged (rows_end words) table table'

-- on the way to it
pub record Seeking (words before table : List ℕ) (s : Counts) (x at : ℕ) : Type 0 where
  pub there : at < s.nodes
  pub same : (g : Graph) → Shows words before s g → Shows words table s g × (root g at ≡ root g x)
  pub behind : Unchanged (rows_end words) before table

pub seeking_first : (words table : List ℕ) (s : Counts) (x : ℕ) → x < s.nodes → Seeking words table table s x x
seeking_first words table s x l = record { there = l; same = λ g S. (S, refl); behind = unchanged_same (rows_end words) table }

module _ (words before table : List ℕ) (s : Counts) (x at : ℕ) (K : Seeking words before table s x at) (H : Holds words before s) where
  abbrev now-held : Shows words table s H.0
  now-held = (K.same H.0 H.1).0

  -- the row of a node stands in the table
  pub row_there : 2 * at + 2 ≤ length table
  row_there = omega (arith, room words table s now-held.laid, K.there)

  -- it has no link: it is the root
  pub found_at : link_word table at ≡ 0 → Found words before table s x at
  found_at e = (K.there, e, λ g S. let k = K.same g S in (sym (found_here words table s g k.0 at K.there e) ∙ k.1, k.0), K.behind)

  module _ (y : ℕ) (up : link_word table at ≡ suc y) where
    pub next_there : y < s.nodes
    next_there = (found_there words table s H.0 now-held at K.there y up).0

    -- the next one has none: it is the root
    pub found_next : link_word table y ≡ 0 → Found words before table s x y
    found_next e =
        let same : (g : Graph) → Shows words before s g → (y ≡ root g x) × Shows words table s g =
        λ g S. let k = K.same g S in (sym (found_here words table s g k.0 y next_there e) ∙ sym (found_there words table s g k.0 at K.there y up).1 ∙ k.1, k.0) in
        (next_there, e, same, K.behind)

    -- it has one: the walk goes on behind it
    module _ (z : ℕ) (upper : link_word table y ≡ suc z) where
      pub seeking_on : Seeking words before (set table (2 * at + 1) (suc z)) s x z
      seeking_on = record {
        there = z_there words table s H.0 now-held at y z K.there up upper;
        same = λ g S.
            let k = K.same g S in
            (shows_shorter words table s g k.0 at y z K.there up upper, sym (found_there words table s g k.0 y next_there z upper).1 ∙ sym (found_there words table s g k.0 at K.there y up).1 ∙ k.1);
        behind =
            unchanged_then (rows_end words) before table (set table (2 * at + 1) (suc z)) K.behind
            (unchanged_set (rows_end words) table (2 * at + 1) (suc z) (omega (arith, K.there, nodes_few words table s now-held.laid, now-held.laid.fits)));
      }

      pub seeking_less : depth s.nodes (graph_in words (set table (2 * at + 1) (suc z)) s.nodes) z < depth s.nodes (graph_in words table s.nodes) at
      seeking_less = walk_shorter words table s H.0 now-held at y z K.there up upper
