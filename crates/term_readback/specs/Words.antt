-- What the words of work say of a graph, of its nodes' ground values, and of what was read back.
use Rattle.std.specs.Prelude.{◌≡◌, Bool, true, false, List, ℕ, ◌+◌, ◌-◌, ◌≤◌, ◌<◌, length, get_or, take, drop}
use Rattle.std.proofs.Math.Option.{some}
use Rattle.definition.specs.Pack.{Pack}
use Rattle.definition.specs.Verdict.{Bound, value_of}
use Rattle.definition.specs.Graph.{Graph, vertex, circular}
use Rattle.definition.specs.Analysis.{number_of}
use Rattle.theory.specs.Unification.Inner.{Inner}
use Rattle.theory.specs.Walks.Resolving.{Resolving, is_read_whole, Right}
use Rattle.base.specs.Word.{word_of}
use Rattle.base.specs.Part.{part}
use Rattle.base.specs.Probe.{taken}
use Rattle.store.specs.Stored.{nodes}
use Rattle.store.specs.declared.nodes.Store.{Store}
use Rattle.pack_tables.specs.Catalog.{records_of}
use Rattle.pack_tables.specs.declared.catalog.Catalog.{Catalog}
use Rattle.pack_read.specs.Reads.{Reads}
use Rattle.pack_read.specs.Held.{Proper}
use Rattle.term_lift.specs.Lifts.{Lifts}
use Rattle.term_lift.specs.declared.lift.Lifted.{Lifted}
use Rattle.graph.specs.declared.graph.Graph.{Graph as Counts}
use Rattle.graph.specs.Places as places
use Rattle.graph.specs.Cells.{Shows}
use Rattle.term_readback.specs.declared.table.Table.{Table}

-- where the values start
abbrev pub values_at : List ℕ → ℕ
values_at cells = places.values_at (length cells)

-- where the patterns start
abbrev pub patterns_at : List ℕ → ℕ
patterns_at cells = places.patterns_at (length cells)

-- where the numbered variables start
abbrev pub numbers_at : List ℕ → ℕ
numbers_at cells = places.numbers_at (length cells)

-- where they end
abbrev pub table_end : List ℕ → ℕ
table_end cells = places.copies_at (length cells)

-- the graph's table, as it is lent
abbrev pub table_in : Table → List ℕ → List ℕ
table_in t work = take (t.end - t.at) (drop t.at work)

-- the patterns' words
abbrev pub marks_in : List ℕ → List ℕ → Counts → List ℕ
marks_in cells table g = part (patterns_at cells) g.nodes table

-- cells and table hold a graph without circles, of nodes with few arguments, and values of its nodes
pub record Stands (cells table : List ℕ) (g : Counts) (h : Graph) (vs : List Bound) : Type 0 where
  pub shows : Shows cells table g h
  pub inner : Inner h
  pub ends : circular h ≡ false
  pub few : (x : ℕ) → x < length h → length (vertex h x).args ≤ 16
  pub values : (r : ℕ) → r < g.nodes → get_or table (values_at cells + r) 0 ≡ word_of (value_of r vs)

-- the words of the table and of the store say what was read back; a variable that has a number was, and has a pattern's word of its own
pub record Says (cells table words : List ℕ) (g : Counts) (st : Store) (n : ℕ) (s : Resolving) : Type 0 where
  pub store : s.state.store ≡ nodes words st
  pub numbering : s.state.numbering ≡ part (numbers_at cells) n table
  pub memo : (r : ℕ) → word_of (value_of r s.memo) ≡ get_or (marks_in cells table g) r 0
  pub known : (r k : ℕ) → number_of r s.state.numbering 0 ≡ some k → is_read_whole s r ≡ true
  pub most : n ≤ taken (marks_in cells table g)

-- where some are read back by their ground values there is a ground node: a variable without a value stands for the first
abbrev pub Grounded : Bool → Lifted → Type 0
Grounded everyone l = everyone ≡ false → 0 < l.nodes

-- work holds a pack, behind it the words of lifting, behind these the graph's table, with values that are ground nodes
pub record Lies (bytes work words cells : List ℕ) (c : Catalog) (l : Lifted) (t : Table) (st : Store) (g : Counts) (P : Pack) (h : Graph) (vs : List Bound) : Type 0 where
  pub lifts : Lifts bytes work words c l st
  pub reads : Reads bytes (records_of work c) P
  pub proper : Proper P
  pub apart : l.end ≤ t.at
  pub room : t.at + table_end cells ≤ t.end
  pub fits : t.end ≤ length work
  pub stands : Stands cells (table_in t work) g h vs
  pub below : (r n : ℕ) → value_of r vs ≡ some n → n < l.nodes

-- and what was read back, as it is read back of that graph with these values
pub record Holding (bytes work words cells : List ℕ) (c : Catalog) (l : Lifted) (t : Table) (st : Store) (g : Counts) (n : ℕ) (everyone : Bool) (P : Pack) (h : Graph) (vs : List Bound) (s : Resolving) : Type 0 where
  pub lies : Lies bytes work words cells c l t st g P h vs
  pub says : Says cells (table_in t work) words g st n s
  pub right : Right P h vs everyone s
  pub grounded : Grounded everyone l

-- there is such a pack, graph, values and state
pub record Ready (bytes work words cells : List ℕ) (c : Catalog) (l : Lifted) (t : Table) (st : Store) (g : Counts) (n : ℕ) (everyone : Bool) : Type 0 where
  pub pack : Pack
  pub graph : Graph
  pub values : List Bound
  pub state : Resolving
  pub holding : Holding bytes work words cells c l t st g n everyone pack graph values state

-- nothing ahead of lifting's words has changed, nor between them and the table, nor behind the table's
pub record Framed (cells work work' : List ℕ) (l : Lifted) (t : Table) : Type 0 where
  pub long : length work' ≡ length work
  pub ahead : (i : ℕ) → i < l.at → get_or work' i 0 ≡ get_or work i 0
  pub between : (i : ℕ) → l.end ≤ i → i < t.at → get_or work' i 0 ≡ get_or work i 0
  pub behind : (i : ℕ) → t.at + table_end cells ≤ i → get_or work' i 0 ≡ get_or work i 0

-- only rows and stack were written, and the graph is held still
pub record Moves (cells work work' : List ℕ) (t : Table) (g : Counts) : Type 0 where
  pub long : length work' ≡ length work
  pub ahead : (i : ℕ) → i < t.at → get_or work' i 0 ≡ get_or work i 0
  pub behind : (i : ℕ) → t.at + values_at cells ≤ i → get_or work' i 0 ≡ get_or work i 0
  pub shows : (h : Graph) → Shows cells (table_in t work) g h → Shows cells (table_in t work') g h
