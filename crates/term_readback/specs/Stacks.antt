-- The walk's stack: what is asked for a turn on it, and what is answered.
use Rattle.std.specs.Prelude.{Option, Some, None}
use Rattle.std.specs.Prelude.{◌≡◌, Bool, false, List, [], ◌∷◌, ℕ, suc, ◌+◌, ◌*◌, ◌≤◌, ◌<◌, length, get_or}
use Rattle.definition.specs.Pack.{Pack}
use Rattle.definition.specs.Verdict.{Bound}
use Rattle.definition.specs.Store.{pattern_words}
use Rattle.definition.specs.Graph.{Graph, vertex, root, circular}
use Rattle.definition.specs.Analysis.{resolve}
use Rattle.theory.specs.Unification.Forest.{Forest}
use Rattle.theory.specs.Walks.Machine.{Frame, frame, Walking, turn, Stacked}
use Rattle.theory.specs.Walks.WalkReady.{Sound}
use Rattle.theory.specs.Unification.Inner.{Inner}
use Rattle.theory.specs.Walks.Levels.{arg_roots, rank_of, roots_fall, roots_inside}
use Rattle.theory.specs.Walks.Reading.{numbered_as, resolved_as}
use Rattle.theory.specs.Walks.Resolving.{Resolving, resolving, is_read_whole, read_root, read_made, read_others}
use Rattle.store.specs.Stored.{nodes, written}
use Rattle.store.specs.declared.nodes.Store.{Store}
use Rattle.pack_tables.specs.declared.catalog.Catalog.{Catalog}
use Rattle.term_lift.specs.Lifts.{frames_in}
use Rattle.term_lift.specs.declared.lift.Lifted.{Lifted}
use Rattle.graph.specs.declared.graph.Graph.{Graph as Counts}
use Rattle.graph.specs.Cells.{rows_end, Shows}
use Rattle.term_readback.specs.declared.table.Table.{Table}
use Rattle.term_readback.specs.Words.{patterns_at, table_in, Grounded, Lies, Holding, Framed, Moves}
use Rattle.term_readback.specs.Asked.{Arguing}
use Rattle.base.specs.declared.id.Pattern.{Pattern}

-- a forest whose nodes have nodes as arguments, without circles
pub record Sane (h : Graph) : Type 0 where
  pub forest : Forest h
  pub inner : Inner h
  pub ends : circular h ≡ false

-- the frames on the stack, the last one first
abbrev pub frames_of : List ℕ → Table → List ℕ → ℕ → List Frame
frames_of cells t work k = frames_in (table_in t work) (rows_end cells) k

-- a stack as the walk of roots of such a graph has it
pub record Going (P : Pack) (h : Graph) (C : Sane h) (vs : List Bound) (everyone : Bool) (fs : List Frame) (s : Resolving) : Type 0 where
  pub stacked : Stacked (arg_roots h) is_read_whole (read_root P h vs everyone) (rank_of h) (roots_fall h C.forest C.inner C.ends) 0 (length h) fs
  pub sound : Sound (arg_roots h) is_read_whole (read_root P h vs everyone) (read_made P h vs everyone) (read_others P h vs everyone) (rank_of h) (roots_fall h C.forest C.inner C.ends) (length h) (roots_inside h C.forest C.inner C.ends) s fs

-- so many frames on the stack, in the midst of a walk
pub record Running (bytes work words cells : List ℕ) (c : Catalog) (l : Lifted) (t : Table) (st : Store) (g : Counts) (n : ℕ) (everyone : Bool) (P : Pack) (h : Graph) (C : Sane h) (vs : List Bound) (s : Resolving) (top : ℕ) : Type 0 where
  pub holding : Holding bytes work words cells c l t st g n everyone P h vs s
  pub going : Going P h C vs everyone (frames_of cells t work top) s

-- one frame above so many others
pub record Turning (bytes work words cells : List ℕ) (c : Catalog) (l : Lifted) (t : Table) (st : Store) (g : Counts) (n : ℕ) (everyone : Bool) (top : ℕ) : Type 0 where
  pub pack : Pack
  pub graph : Graph
  pub sane : Sane graph
  pub values : List Bound
  pub state : Resolving
  pub running : Running bytes work words cells c l t st g n everyone pack graph sane values state (suc top)

-- the machine after one turn
unfoldable pub turn_of : Pack → Graph → List Bound → Bool → List Frame → Resolving → Walking Resolving
unfolding turn arg_roots is_read_whole read_root
turn_of P h vs everyone fs s = turn (arg_roots h) is_read_whole (read_root P h vs everyone) fs s

-- what `advance` answers: the machine's stack and state after the turn; or short
abbrev pub Advances : List ℕ → List ℕ → List ℕ → List ℕ → List ℕ → List ℕ → Catalog → Lifted → Table → Store → Counts → ℕ → Bool → ℕ → Option (ℕ × Store × ℕ) → Type 0
Advances bytes work words work' words' cells c l t st g n everyone top (Some (k, st', n')) =
    Framed cells work work' l t
    × (words' ≡ written (nodes words' st') words)
    × ((P : Pack) (h : Graph) (C : Sane h) (vs : List Bound) (s : Resolving) → Running bytes work words cells c l t st g n everyone P h C vs s (suc top)
    → Holding bytes work' words' cells c l t st' g n' everyone P h vs (turn_of P h vs everyone (frames_of cells t work (suc top)) s).state × (frames_of cells t work' k ≡ (turn_of P h vs everyone (frames_of cells t work (suc top)) s).stack))
Advances bytes work words work' words' cells c l t st g n everyone top None =
    Framed cells work work' l t
    × ((P : Pack) (h : Graph) (C : Sane h) (vs : List Bound) (s : Resolving) → Running bytes work words cells c l t st g n everyone P h C vs s (suc top)
    → length words < length (pattern_words (turn_of P h vs everyone (frames_of cells t work (suc top)) s).state.state.store))

-- an argument of the frame on top gets a frame
pub record Entering (cells work : List ℕ) (t : Table) (g : Counts) (top x taken : ℕ) : Type 0 where
  pub arguing : Arguing cells work t g x taken
  pub is : get_or (table_in t work) (rows_end cells + 2 * top) 0 ≡ x
  pub room : suc top < length cells
  pub small : taken < 16

-- it has one then
pub record Enters (cells work work' : List ℕ) (t : Table) (g : Counts) (top x taken : ℕ) : Type 0 where
  pub moves : Moves cells work work' t g
  pub frames : (h : Graph) → Shows cells (table_in t work) g h → frames_of cells t work' (suc (suc top)) ≡ frame (root h (get_or (vertex h x).args taken 0)) 0 ∷ frame x (suc taken) ∷ frames_of cells t work top

-- the root of a node has the only frame
pub record Begins (cells work work' : List ℕ) (t : Table) (g : Counts) (x r : ℕ) : Type 0 where
  pub moves : Moves cells work work' t g
  pub node : r < g.nodes
  pub is : (h : Graph) → Shows cells (table_in t work) g h → r ≡ root h x
  pub frames : frames_of cells t work' 1 ≡ frame r 0 ∷ []

-- what `clear` answers: whatever stands there, nothing was read back of it
pub record Clears (work work' cells : List ℕ) (t : Table) (g : Counts) : Type 0 where
  pub long : length work' ≡ length work
  pub ahead : (i : ℕ) → i < t.at + patterns_at cells → get_or work' i 0 ≡ get_or work i 0
  pub behind : (i : ℕ) → t.at + patterns_at cells + g.nodes ≤ i → get_or work' i 0 ≡ get_or work i 0
  pub holding : (bytes words : List ℕ) (c : Catalog) (l : Lifted) (st : Store) (everyone : Bool) (P : Pack) (h : Graph) (vs : List Bound) → Lies bytes work words cells c l t st g P h vs
      → Grounded everyone l → Holding bytes work' words cells c l t st g 0 everyone P h vs (resolving (numbered_as [] (nodes words st)) [])

-- what `resolve` answers: the definition's pattern and state, with the store's words written; or short, when these words are more than there are
abbrev pub Answers : List ℕ → List ℕ → List ℕ → List ℕ → List ℕ → List ℕ → Catalog → Lifted → Table → Store → Counts → ℕ → Bool → ℕ → Option (Pattern × Store × ℕ) → Type 0
Answers bytes work words work' words' cells c l t st g n everyone x (Some (p, st', n')) =
    Framed cells work work' l t
    × (words' ≡ written (nodes words' st') words)
    × ((P : Pack) (h : Graph) (vs : List Bound) (s : Resolving) → Holding bytes work words cells c l t st g n everyone P h vs s
    → (s' : Resolving) × Holding bytes work' words' cells c l t st' g n' everyone P h vs s' × (resolve (suc (length h)) P h vs everyone (x ∷ []) s.state ≡ resolved_as (p.0 ∷ []) s'.state))
Answers bytes work words work' words' cells c l t st g n everyone x None =
    Framed cells work work' l t
    × ((P : Pack) (h : Graph) (vs : List Bound) (s : Resolving) → Holding bytes work words cells c l t st g n everyone P h vs s
    → length words < length (pattern_words (resolve (suc (length h)) P h vs everyone (x ∷ []) s.state).state.store))
