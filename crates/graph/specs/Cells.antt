-- The nodes that cells and a table stand for. Of each node the table has two words in front, which unification reads at every turn: where it
-- starts in the cells, and its link and one or 0. Behind those of all nodes stand three more of each: its sort, whether it is flexible,
-- whether it is rigid.
use Rattle.std.specs.Prelude.{◌≡◌, Bool, true, false, List, [], ◌∷◌, ◌++◌, map, length, get_or, set}
use Rattle.std.proofs.Math.Path.{refl, ap₂}
use Rattle.std.proofs.Common.{sym, ap, subst, ◌∙◌, arith, add-one, length-set, length-append, get_or-set_other}
use Rattle.std.proofs.Math.Option.{Option, none, some}
use Prim.Native.Nat.{ℕ, zero, suc, ◌+◌, ◌*◌, ◌-◌, ◌≤◌, ◌<◌}
use Rattle.std.proofs.Math.Decide.{ℕ_discrete}
use Rattle.std.proofs.Math.ListN.{get_or-append}
use Rattle.std.proofs.lemmas.List.{get_or_at}
use Rattle.definition.specs.Graph.{Vertex, Graph, applied, vertex, cells}
use Rattle.definition.specs.Store.{nothing}
use Rattle.base.specs.Part.{part, part_same, length_part}
use Rattle.theory.specs.Unification.Like.{Like}
use Rattle.graph.specs.declared.graph.Graph.{Graph as Counts}
use Rattle.graph.specs.Places.{pairs_at}

-- a node's words in front
abbrev pub start_in : List ℕ → ℕ → ℕ
start_in table i = get_or table (2 * i) 0

abbrev pub link_word : List ℕ → ℕ → ℕ
link_word table i = get_or table (2 * i + 1) 0

-- and those behind them, which start here
abbrev pub rest_at : List ℕ → ℕ
rest_at words = 2 * length words + 2

abbrev pub sort_word : List ℕ → List ℕ → ℕ → ℕ
sort_word words table i = get_or table (rest_at words + 3 * i) 0

abbrev pub flex_word : List ℕ → List ℕ → ℕ → ℕ
flex_word words table i = get_or table (rest_at words + (3 * i + 1)) 0

abbrev pub rigid_word : List ℕ → List ℕ → ℕ → ℕ
rigid_word words table i = get_or table (rest_at words + (3 * i + 2)) 0

-- 0 is no link, else it is the node's number and one
abbrev pub link_in : ℕ → Option ℕ
link_in zero = none
link_in (suc y) = some y

-- a mark is set or 0
abbrev pub mark_in : ℕ → Bool
mark_in zero = false
mark_in (suc m) = true

-- a class's marks
abbrev pub marks_in : List ℕ → List Bool
marks_in flex = map mark_in flex

-- a node's arguments end where the next node starts
unfoldable pub vertex_in : List ℕ → List ℕ → ℕ → Vertex
vertex_in words table i = record {
  head = get_or words (start_in table i) 0;
  args = part (start_in table i + 1) (start_in table (suc i) - (start_in table i + 1)) words;
  link = link_in (link_word table i);
  sort = sort_word words table i;
  flex = mark_in (flex_word words table i);
  rigid = mark_in (rigid_word words table i);
}

-- the first n nodes
unfoldable pub graph_in : List ℕ → List ℕ → ℕ → Graph
unfolding vertex_in
graph_in words table zero = []
graph_in words table (suc n) = graph_in words table n ++ (vertex_in words table n ∷ [])

pub length-graph_in : (words table : List ℕ) (n : ℕ) → length (graph_in words table n) ≡ n
unfolding graph_in
length-graph_in words table zero = refl
length-graph_in words table (suc n) = length-append (graph_in words table n) (vertex_in words table n ∷ []) ∙ ap (λ (k : ℕ). k + 1) (length-graph_in words table n) ∙ add-one n

pub graph_at : (words table : List ℕ) (n i : ℕ) → i < n → vertex (graph_in words table n) i ≡ vertex_in words table i
unfolding graph_in vertex
graph_at words table zero i l = absurd (omega arith)
graph_at words table (suc n) i l = elim (ℕ_discrete i n) [
  | yes e ↦ get_or_at (graph_in words table n) (vertex_in words table n) [] (applied 0 []) i (length-graph_in words table n ∙ sym e) ∙ ap (vertex_in words table) (sym e)
  | no d ↦ get_or-append (graph_in words table n) (vertex_in words table n ∷ []) (applied 0 []) i (omega (arith, length-graph_in words table n, d)) ∙ graph_at words table n i (omega (arith, d))
]

-- there are words for as many nodes as the cells can hold, and for one more, for where the next one starts; behind them is room for others
abbrev pub rows_end : List ℕ → ℕ
rows_end words = pairs_at (length words)

-- the nodes stand one behind the other in the cells
pub record Laid (words table : List ℕ) (s : Counts) : Type 0 where
  pub wide : rows_end words ≤ length table
  pub first : start_in table 0 ≡ 0
  pub rising : (i : ℕ) → i < s.nodes → start_in table i + 1 ≤ start_in table (suc i)
  pub end : start_in table s.nodes ≡ s.used
  pub fits : s.used ≤ length words
  pub small : length words < nothing

-- cells and table hold the graph g, whatever way its links go
pub record Shows (words table : List ℕ) (s : Counts) (g : Graph) : Type 0 where
  pub laid : Laid words table s
  pub like : Like (graph_in words table s.nodes) g

-- a node starts, and ends, within the cells that are used
pub start-before : (words table : List ℕ) (s : Counts) → Laid words table s → (k i : ℕ) → i + k ≡ s.nodes → start_in table i + k ≤ s.used
start-before words table s L zero i e = let q : i ≡ s.nodes = omega arith in omega (arith, ap (start_in table) q, L.end)
start-before words table s L (suc k) i e = let r = L.rising i (omega arith) in let t = start-before words table s L k (suc i) (omega arith) in omega arith

-- there are no more nodes than cells
pub nodes_few : (words table : List ℕ) (s : Counts) → Laid words table s → s.nodes ≤ s.used
nodes_few words table s L = let t = start-before words table s L s.nodes 0 (omega arith) in omega (arith, L.first)

-- so that there are words for each, and for the next
pub room : (words table : List ℕ) (s : Counts) → Laid words table s → 2 * s.nodes + 2 ≤ length table
room words table s L = omega (arith, nodes_few words table s L, L.fits, L.wide)

-- a node more takes a cell for its head and one for each argument
pub cells-more : (g : Graph) (v : Vertex) → cells (g ++ (v ∷ [])) ≡ cells g + suc (length v.args)
unfolding cells
cells-more [] v = omega arith
cells-more (w ∷ g) v = omega (arith, cells-more g v)

-- as many cells as are used
pub cells_used : (words table : List ℕ) (s : Counts) → Laid words table s → (n : ℕ) → n ≤ s.nodes → cells (graph_in words table n) ≡ start_in table n
unfolding graph_in cells vertex_in
cells_used words table s L zero l = sym L.first
cells_used words table s L (suc n) l =
    let r = L.rising n (omega arith) in
    let t = start-before words table s L (s.nodes - suc n) (suc n) (omega arith) in
    let a = length_part (start_in table n + 1) (start_in table (suc n) - (start_in table n + 1)) words (omega (arith, L.fits)) in
    cells-more (graph_in words table n) (vertex_in words table n) ∙ ap (λ (k : ℕ). k + suc (length (vertex_in words table n).args)) (cells_used words table s L n (omega arith)) ∙ omega (arith, a)

-- ---- the words up to here are as they were
module _ (words table words' table' : List ℕ) (s : Counts) (L : Laid words table s) (long-words : length words' ≡ length words)
    (fronts : (i : ℕ) → i ≤ 2 * s.nodes → get_or table' i 0 ≡ get_or table i 0) (rests : (i : ℕ) → i < 3 * s.nodes → get_or table' (rest_at words + i) 0 ≡ get_or table (rest_at words + i) 0)
    (filled : (i : ℕ) → i < s.used → get_or words' i 0 ≡ get_or words i 0) where
  -- so are the nodes
  vertex-kept : (i : ℕ) → i < s.nodes → vertex_in words' table' i ≡ vertex_in words table i
  unfolding vertex_in
  vertex-kept i h =
      let a : start_in table' i ≡ start_in table i = fronts (2 * i) (omega arith) in
      let b : start_in table' (suc i) ≡ start_in table (suc i) = fronts (2 * suc i) (omega arith) in
      let r = L.rising i h in
      let t = start-before words table s L (s.nodes - suc i) (suc i) (omega arith) in
      let p : part (start_in table i + 1) (start_in table (suc i) - (start_in table i + 1)) words' ≡ part (start_in table i + 1) (start_in table (suc i) - (start_in table i + 1)) words =
      part_same (start_in table i + 1) (start_in table (suc i) - (start_in table i + 1)) words' words (omega (arith, L.fits, long-words)) (omega (arith, L.fits)) (λ k m. filled (start_in table i + 1 + k) (omega arith)) in
      rw (long-words, a, b, p, fronts (2 * i + 1) (omega arith), rests (3 * i) (omega arith), rests (3 * i + 1) (omega arith), rests (3 * i + 2) (omega arith), filled (start_in table i) (omega arith))

  pub graph_kept : (n : ℕ) → n ≤ s.nodes → graph_in words' table' n ≡ graph_in words table n
  unfolding graph_in
  graph_kept zero h = refl
  graph_kept (suc n) h = ap₂ (λ (g : Graph) (v : Vertex). g ++ (v ∷ [])) (graph_kept n (omega arith)) (vertex-kept n (omega arith))

-- ---- the rows, and what stands behind them
-- the rows are as they were
pub record SameRows (words table table' : List ℕ) : Type 0 where
  pub long : length table' ≡ length table
  pub rows : (i : ℕ) → i < rows_end words → get_or table' i 0 ≡ get_or table i 0

pub rows_same : (words table : List ℕ) → SameRows words table table
rows_same words table = record { long = refl; rows = λ i h. refl }

pub rows_then : (words table table' table'' : List ℕ) → SameRows words table table' → SameRows words table' table'' → SameRows words table table''
rows_then words table table' table'' A B = record { long = B.long ∙ A.long; rows = λ i h. B.rows i h ∙ A.rows i h }

-- a word behind them is written
pub rows-set : (words table : List ℕ) (i v : ℕ) → rows_end words ≤ i → SameRows words table (set table i v)
rows-set words table i v h = record { long = length-set table i v; rows = λ j l. get_or-set_other table i j v 0 (λ e. omega (arith, e)) }

-- a node starts where it did
pub start-same : (words table table' : List ℕ) (s : Counts) → Laid words table s → SameRows words table table' → (i : ℕ) → i ≤ s.nodes → start_in table' i ≡ start_in table i
start-same words table table' s L R i h = R.rows (2 * i) (omega (arith, nodes_few words table s L, L.fits))

pub laid_rows : (words table table' : List ℕ) (s : Counts) → SameRows words table table' → Laid words table s → Laid words table' s
laid_rows words table table' s R L = record {
  wide = omega (arith, L.wide, R.long);
  first = R.rows 0 (omega arith) ∙ L.first;
  rising = λ i h. omega (arith, start-same words table table' s L R i (omega arith), start-same words table table' s L R (suc i) (omega arith), L.rising i h);
  end = start-same words table table' s L R s.nodes (omega arith) ∙ L.end;
  fits = L.fits;
  small = L.small;
}

-- then the same graph is held
pub shows_rows : (words table table' : List ℕ) (s : Counts) (g : Graph) → SameRows words table table' → Shows words table s g → Shows words table' s g
shows_rows words table table' s g R S =
    let few = nodes_few words table s S.laid in
    let e = graph_kept words table words table' s S.laid refl (λ i h. R.rows i (omega (arith, S.laid.fits))) (λ i h. R.rows (rest_at words + i) (omega (arith, S.laid.fits))) (λ i h. refl) s.nodes (omega arith) in
    record { laid = laid_rows words table table' s R S.laid; like = subst (λ (h : Graph). Like h g) (sym e) S.like }

-- from a place on, the words of a table are as they were
pub record Unchanged (from : ℕ) (table table' : List ℕ) : Type 0 where
  pub long : length table' ≡ length table
  pub words : (i : ℕ) → from ≤ i → get_or table' i 0 ≡ get_or table i 0

pub unchanged_same : (from : ℕ) (table : List ℕ) → Unchanged from table table
unchanged_same from table = record { long = refl; words = λ i h. refl }

pub unchanged_then : (from : ℕ) (table table' table'' : List ℕ) → Unchanged from table table' → Unchanged from table' table'' → Unchanged from table table''
unchanged_then from table table' table'' A B = record { long = B.long ∙ A.long; words = λ i h. B.words i h ∙ A.words i h }

-- from a later place on, too
pub unchanged_later : (from later : ℕ) (table table' : List ℕ) → from ≤ later → Unchanged from table table' → Unchanged later table table'
unchanged_later from later table table' h A = record { long = A.long; words = λ i l. A.words i (omega arith) }

-- a word ahead of it is written
pub unchanged_set : (from : ℕ) (table : List ℕ) (i v : ℕ) → i < from → Unchanged from table (set table i v)
unchanged_set from table i v h = record { long = length-set table i v; words = λ j l. get_or-set_other table i j v 0 (λ e. omega (arith, e)) }
