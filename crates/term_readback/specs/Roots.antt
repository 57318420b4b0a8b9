-- One root read back: what is asked for it, and what each way of it answers.
use Rattle.std.specs.Prelude.{Option, Some, None}
use Rattle.std.specs.Prelude.{◌≡◌, Bool, true, false, ◌||◌, List, ℕ, suc, ◌≤◌, ◌<◌, length, get_or}
use Rattle.std.proofs.Math.Option.{none}
use Rattle.definition.specs.Pack.{Pack}
use Rattle.definition.specs.Verdict.{Bound}
use Rattle.definition.specs.Store.{pattern_words}
use Rattle.definition.specs.Graph.{Graph, vertex, is_var}
use Rattle.definition.specs.Analysis.{ResolvedOne, resolve_at}
use Rattle.theory.specs.Walks.Walk.{Known}
use Rattle.theory.specs.Walks.Levels.{arg_roots}
use Rattle.theory.specs.Walks.Resolving.{Resolving, is_read_whole, looks_up, read_root}
use Rattle.base.specs.Part.{part}
use Rattle.store.specs.Stored.{nodes, written}
use Rattle.store.specs.declared.nodes.Store.{Store}
use Rattle.pack_tables.specs.declared.catalog.Catalog.{Catalog}
use Rattle.term_lift.specs.declared.lift.Lifted.{Lifted}
use Rattle.graph.specs.declared.graph.Graph.{Graph as Counts}
use Rattle.graph.specs.Cells.{rows_end}
use Rattle.term_readback.specs.declared.table.Table.{Table}
use Rattle.term_readback.specs.Words.{values_at, numbers_at, table_in, Lies, Holding, Framed}
use Rattle.base.specs.declared.id.Pattern.{Pattern}

-- a root that was not read back while its arguments' roots were
pub record Open (h : Graph) (s : Resolving) (x : ℕ) : Type 0 where
  pub node : x < length h
  pub root : (vertex h x).link ≡ none
  pub unread : is_read_whole s x ≡ false
  pub ripe : Known is_read_whole s (arg_roots h x)

-- of all of these
abbrev pub Any : Graph → Type 0
Any h = Unit {0}

-- the variables
abbrev pub Variable : ℕ → Graph → Type 0
Variable x h = is_var (vertex h x) ≡ true

-- those that get a number
abbrev pub Named : Bool → ℕ → Graph → Type 0
Named everyone x h = (is_var (vertex h x) ≡ true) × ((everyone || (vertex h x).flex) ≡ true)

-- those that do not
abbrev pub Fixed : Bool → ℕ → Graph → Type 0
Fixed everyone x h = (is_var (vertex h x) ≡ true) × ((everyone || (vertex h x).flex) ≡ false)

-- the applications
abbrev pub Applied : ℕ → Graph → Type 0
Applied x h = is_var (vertex h x) ≡ false

-- what is asked
pub record Opening (bytes work words cells : List ℕ) (c : Catalog) (l : Lifted) (t : Table) (st : Store) (g : Counts) (n : ℕ) (everyone : Bool) (x : ℕ) (Q : Graph → Type 0) : Type 0 where
  pub pack : Pack
  pub graph : Graph
  pub values : List Bound
  pub state : Resolving
  pub holding : Holding bytes work words cells c l t st g n everyone pack graph values state
  pub opened : Open graph state x
  pub asked : Q graph

-- how it is read back, over the patterns of its arguments' roots
abbrev pub reads_as : Pack → Graph → List Bound → Bool → ℕ → Resolving → ResolvedOne
reads_as P h vs everyone x s = resolve_at P h vs everyone (looks_up h s.memo) x s.state

-- it is read back as p, its number is put down if it is a new one, its pattern's word is not; the stack is as it was
pub record Given (bytes work work' words' cells : List ℕ) (c : Catalog) (l : Lifted) (t : Table) (st' : Store) (g : Counts) (n n' p : ℕ) (P : Pack) (h : Graph) (vs : List Bound) (o : ResolvedOne) : Type 0 where
  pub lies : Lies bytes work' words' cells c l t st' g P h vs
  pub kept : (i : ℕ) → rows_end cells ≤ i → i < numbers_at cells → get_or (table_in t work') i 0 ≡ get_or (table_in t work) i 0
  pub numbering : o.state.numbering ≡ part (numbers_at cells) n' (table_in t work')
  pub store : o.state.store ≡ nodes words' st'
  pub pattern : o.pattern ≡ p
  pub within : p < length (nodes words' st')
  pub count : n' ≤ suc n

-- what is answered but for the pattern's word
abbrev pub Gives : List ℕ → List ℕ → List ℕ → List ℕ → List ℕ → List ℕ → Catalog → Lifted → Table → Store → Counts → ℕ → Bool → ℕ → (Graph → Type 0) → Option (Pattern × Store × ℕ) → Type 0
Gives bytes work words work' words' cells c l t st g n everyone x Q (Some (p, st', n')) =
    Framed cells work work' l t
    × (words' ≡ written (nodes words' st') words)
    × ((P : Pack) (h : Graph) (vs : List Bound) (s : Resolving) → Holding bytes work words cells c l t st g n everyone P h vs s → Open h s x → Q h → Given bytes work work' words' cells c l t st' g n n' p.0 P h vs (reads_as P h vs everyone x s))
Gives bytes work words work' words' cells c l t st g n everyone x Q None =
    Framed cells work work' l t
    × ((P : Pack) (h : Graph) (vs : List Bound) (s : Resolving) → Holding bytes work words cells c l t st g n everyone P h vs s → Open h s x → Q h → length words < length (pattern_words (reads_as P h vs everyone x s).state.store))

-- ---- what is asked and answered where the code needs no more than this, whatever stands around it
-- a variable to be numbered
pub record Naming (work words cells : List ℕ) (l : Lifted) (t : Table) (st : Store) (g : Counts) (n x : ℕ) : Type 0 where
  pub bytes : List ℕ
  pub catalog : Catalog
  pub everyone : Bool
  pub opening : Opening bytes work words cells catalog l t st g n everyone x (Named everyone x)

-- it is
abbrev pub Names : List ℕ → List ℕ → List ℕ → List ℕ → List ℕ → Lifted → Table → Store → Counts → ℕ → ℕ → Option (Pattern × Store × ℕ) → Type 0
Names work words work' words' cells l t st g n x r = (bytes : List ℕ) (c : Catalog) (everyone : Bool) → Opening bytes work words cells c l t st g n everyone x (Named everyone x)
    → Gives bytes work words work' words' cells c l t st g n everyone x (Named everyone x) r

-- a variable to be fixed
pub record Valuing (bytes work words cells : List ℕ) (c : Catalog) (l : Lifted) (t : Table) (st : Store) (n x : ℕ) : Type 0 where
  pub counts : Counts
  pub everyone : Bool
  pub opening : Opening bytes work words cells c l t st counts n everyone x (Fixed everyone x)

-- it is
abbrev pub Values : List ℕ → List ℕ → List ℕ → List ℕ → List ℕ → List ℕ → Catalog → Lifted → Table → Store → ℕ → ℕ → Option (Pattern × Store × ℕ) → Type 0
Values bytes work words work' words' cells c l t st n x r = (g : Counts) (everyone : Bool) → Opening bytes work words cells c l t st g n everyone x (Fixed everyone x)
    → Gives bytes work words work' words' cells c l t st g n everyone x (Fixed everyone x) r

-- an application
pub record Applying (work words cells : List ℕ) (l : Lifted) (t : Table) (st : Store) (g : Counts) (n x : ℕ) : Type 0 where
  pub bytes : List ℕ
  pub catalog : Catalog
  pub everyone : Bool
  pub opening : Opening bytes work words cells catalog l t st g n everyone x (Applied x)

-- it is read back
abbrev pub Applies : List ℕ → List ℕ → List ℕ → List ℕ → List ℕ → Lifted → Table → Store → Counts → ℕ → ℕ → Option (Pattern × Store × ℕ) → Type 0
Applies work words work' words' cells l t st g n x r = (bytes : List ℕ) (c : Catalog) (everyone : Bool) → Opening bytes work words cells c l t st g n everyone x (Applied x)
    → Gives bytes work words work' words' cells c l t st g n everyone x (Applied x) r

-- what `read_root` answers: the state with the root read back, the stack as it was; or short
abbrev pub Notes : List ℕ → List ℕ → List ℕ → List ℕ → List ℕ → List ℕ → Catalog → Lifted → Table → Store → Counts → ℕ → Bool → ℕ → Option (Pattern × Store × ℕ) → Type 0
Notes bytes work words work' words' cells c l t st g n everyone x (Some (p, st', n')) =
    Framed cells work work' l t
    × (words' ≡ written (nodes words' st') words)
    × ((P : Pack) (h : Graph) (vs : List Bound) (s : Resolving) → Holding bytes work words cells c l t st g n everyone P h vs s → Open h s x
    → Holding bytes work' words' cells c l t st' g n' everyone P h vs (read_root P h vs everyone x s) × ((i : ℕ) → rows_end cells ≤ i → i < values_at cells → get_or (table_in t work') i 0 ≡ get_or (table_in t work) i 0))
Notes bytes work words work' words' cells c l t st g n everyone x None =
    Framed cells work work' l t
    × ((P : Pack) (h : Graph) (vs : List Bound) (s : Resolving) → Holding bytes work words cells c l t st g n everyone P h vs s → Open h s x → length words < length (pattern_words (read_root P h vs everyone x s).state.store))
