-- What the words of work hold while a pattern is copied, and what copying asks and answers.
use Rattle.std.specs.Prelude.{Option, Some, None}
use Rattle.std.specs.Prelude.{◌≡◌, List, [], ◌∷◌, ℕ, zero, suc, ◌+◌, ◌*◌, ◌-◌, ◌/◌, ◌≤◌, ◌<◌, length, get_or}
use Rattle.std.proofs.Math.Option.{some}
use Rattle.definition.specs.Verdict.{value_of}
use Rattle.definition.specs.Graph.{Graph, cells}
use Rattle.definition.specs.Analysis.{copied, Copy, copy}
use Rattle.theory.specs.Copies.Terms.{Patterns}
use Rattle.theory.specs.Copies.Parts.{kids_in, kids_fall, kids_inside}
use Rattle.theory.specs.Walks.Machine.{Frame, frame, Stacked}
use Rattle.theory.specs.Walks.WalkReady.{Sound}
use Rattle.theory.specs.Walks.CopyWalk.{is_copied, copy_at, copy-made, copy-others}
use Rattle.base.specs.Word.{word_of}
use Rattle.base.specs.Part.{part}
use Rattle.store.specs.Stored.{Stored, nodes}
use Rattle.memo.specs.Recall.{Remembers}
use Rattle.store.specs.declared.nodes.Store.{Store}
use Rattle.memo.specs.declared.memo.Memo.{Memo}
use Rattle.graph.specs.Cells.{marks_in, Shows}
use Rattle.theory.specs.Unification.Inner.{Inner}
use Rattle.graph.specs.Inner.{HoldsInner}
use Rattle.term_copy.specs.declared.node.Copying.{Copying}
use Rattle.term_copy.specs.Places.{table_in, rows_at, rows_in, value_in, Apart, Beside}
use Rattle.graph.specs.declared.graph.Graph.{Graph as Counts}
use Rattle.base.specs.declared.id.Node.{Node as Id}

-- ---- the regions
-- the store's index
abbrev pub index_in : List ℕ → Copying → List ℕ
index_in work l = part l.index (l.copied - l.index) work

-- all of the graph's table
abbrev pub graph_in : List ℕ → Copying → List ℕ
graph_in work l = part l.graph (l.end - l.graph) work

-- room for as many pattern nodes as the words can hold
pub record Room (words : List ℕ) (l : Copying) : Type 0 where
  pub table : l.copied + 2 * (length words / 2) ≤ l.walk
  pub stack : l.walk + 2 * (length words / 2) ≤ l.variables

-- the words hold a copy under way
pub record Holding (work words cells flex : List ℕ) (l : Copying) (st : Store) (memo : Memo) (g : Counts) (c : Copy) : Type 0 where
  pub apart : Apart work cells flex l
  pub room : Room words l
  pub stored : Stored (index_in work l) words st
  pub remembers : Remembers (table_in work l) memo
  pub shows : Shows cells (rows_in work cells l) g c.graph
  pub inner : Inner c.graph
  pub values : (q : ℕ) → value_in work l memo q ≡ value_of q c.nodes
  pub inside : (q x : ℕ) → value_of q c.nodes ≡ some x → x < length c.graph
  pub variables : (k : ℕ) → k < length flex → get_or work (l.variables + k) 0 ≡ word_of (value_of k c.variables)

-- the frames on the stack from a, the last one first
unfoldable pub frames_in : List ℕ → ℕ → ℕ → List Frame
frames_in work a zero = []
frames_in work a (suc k) = frame (get_or work (a + 2 * k) 0) (get_or work (a + 2 * k + 1) 0) ∷ frames_in work a k

-- so many frames stand on the stack, in the midst of a walk
pub record Going (work words cells flex : List ℕ) (l : Copying) (st : Store) (memo : Memo) (P : Patterns (nodes words st)) (g : Counts) (top : ℕ) (c : Copy) : Type 0 where
  pub holds : Holding work words cells flex l st memo g c
  pub stacked : Stacked (kids_in (nodes words st)) is_copied (copy_at (nodes words st) (marks_in flex)) (λ n. n) (kids_fall (nodes words st) P.earlier) 0 (length (nodes words st)) (frames_in work l.walk top)
  pub sound :
      Sound (kids_in (nodes words st)) is_copied (copy_at (nodes words st) (marks_in flex)) (copy-made (nodes words st) (marks_in flex)) (copy-others (nodes words st) (marks_in flex)) (λ n. n)
      (kids_fall (nodes words st) P.earlier) (length (nodes words st)) (kids_inside (nodes words st) P.earlier) c (frames_in work l.walk top)

-- some such walk is under way
abbrev pub Ready : List ℕ → List ℕ → List ℕ → List ℕ → Copying → Store → Memo → Counts → ℕ → Type 0
Ready work words cells flex l st memo g top = (P : Patterns (nodes words st)) × (c : Copy) × Going work words cells flex l st memo P g top c

-- ---- what `copy` asks and answers
-- the regions stand one behind the other and fit
pub record Laid (work words cells flex : List ℕ) (l : Copying) : Type 0 where
  pub index : l.index ≤ l.copied
  pub table : l.copied + 2 * (length words / 2) ≤ l.walk
  pub stack : l.walk + 2 * (length words / 2) ≤ l.variables
  pub marks : l.variables + length flex ≤ l.graph
  pub rows : rows_at cells l ≤ l.end
  pub inside : l.end ≤ length work

-- and hold the store, a memo and an inner graph
pub record Given (work words cells flex : List ℕ) (l : Copying) (st : Store) (memo : Memo) (g : Counts) : Type 0 where
  pub laid : Laid work words cells flex l
  pub stored : Stored (index_in work l) words st
  pub patterns : Patterns (nodes words st)
  pub remembers : Remembers (table_in work l) memo
  pub graph : HoldsInner cells (graph_in work l) g

-- what is held then of the definition's copy
pub record Made (work cells flex : List ℕ) (l : Copying) (g : Counts) (x p : ℕ) (r : Copy) : Type 0 where
  pub node : x ≡ copied r.nodes p
  pub shows : Shows cells (graph_in work l) g r.graph
  pub inner : Inner r.graph
  pub variables : (k : ℕ) → k < length flex → get_or work (l.variables + k) 0 ≡ word_of (value_of k r.variables)

-- a fresh copy of the pattern in whatever inner graph is held; or short, when it has more cells than there are
abbrev pub Copies : List ℕ → List ℕ → List ℕ → List ℕ → List ℕ → List ℕ → Copying → Store → Counts → ℕ → Option (Id × Counts × Memo) → Type 0
Copies work work' words cellsₒ cells' flex l st g p (Some (x, g', memo')) =
    ((h : Graph) → Shows cellsₒ (graph_in work l) g h → Inner h → Made work' cells' flex l g' x.0 p (copy (nodes words st) (marks_in flex) h p))
    × Remembers (table_in work' l) memo' × Beside work work' cellsₒ l
Copies work work' words cellsₒ cells' flex l st g p None =
    ((h : Graph) → Shows cellsₒ (graph_in work l) g h → Inner h → length cellsₒ < cells (copy (nodes words st) (marks_in flex) h p).graph) × Beside work work' cellsₒ l
