-- What the functions that copy a node ask of each other and answer.
use Rattle.std.specs.Prelude.{Option as Optional, Some, None}
use Rattle.std.specs.Prelude.{◌≡◌, Bool, true, false, List, map, ℕ, suc, ◌+◌, ◌≤◌, ◌<◌, eqb, length, get_or, set, drop}
use Rattle.std.proofs.Math.Option.{Option, none, some}
use Rattle.definition.specs.Store.{variable_head}
use Rattle.definition.specs.Good.{Below}
use Rattle.definition.specs.Graph.{Vertex, variable_vertex, applied, cells}
use Rattle.base.specs.Outside.{Outside}
use Rattle.memo.specs.Recall.{recall, Remembers}
use Rattle.memo.specs.declared.memo.Memo.{Memo}
use Rattle.graph.specs.Pushes.{Pushes}
use Rattle.term_copy.specs.declared.node.Copying.{Copying}
use Rattle.base.specs.declared.id.Node.{Node as Id}
use Rattle.graph.specs.declared.graph.Graph.{Graph as Counts}
use Rattle.term_copy.specs.Places.{table_in, rows_at, rows_in, copy_in, Beside}
use Rattle.graph.specs.Cells.{marks_in}

-- a class variable's mark; beyond the last there is none
abbrev pub mark_at : List ℕ → ℕ → Bool
mark_at flex k = get_or (marks_in flex) k false

-- a variable's word once variable k, if one, was copied to node x
abbrev pub noted : Option ℕ → ℕ → ℕ → ℕ → ℕ
noted none x j w = w
noted (some k) x j w = elim (eqb k j) [ true ↦ suc x | false ↦ w ]

-- the variables' words then
abbrev pub Notes : List ℕ → List ℕ → List ℕ → Copying → Option ℕ → ℕ → Type 0
Notes work work' flex l o x = (j : ℕ) → j < length flex → get_or work' (l.variables + j) 0 ≡ noted o x j (get_or work (l.variables + j) 0)

-- a node more in the graph
abbrev pub Grows : List ℕ → List ℕ → List ℕ → List ℕ → Copying → Counts → Vertex → Optional (Id × Counts) → Type 0
Grows work work' cells cells' l g v r = Pushes cells cells' (rows_in work cells l) (rows_in work' cells l) g v r × Outside l.graph (rows_at cells l) work work'

-- a node more in the graph, the copy of the variable that o names or of none
abbrev pub Makes : List ℕ → List ℕ → List ℕ → List ℕ → List ℕ → Copying → Counts → Vertex → Option ℕ → Id → Counts → Type 0
Makes work work' cells cells' flex l g v o x g' = Pushes cells cells' (rows_in work cells l) (rows_in work' cells l) g v (Some (x, g')) × Outside l.variables (rows_at cells l) work work' × Notes work work' flex l o x.0

-- what a node with a key is copied to
abbrev pub vertex_for : List ℕ → Copying → Memo → List ℕ → List ℕ → Vertex
vertex_for work l memo flex key = elim (eqb (get_or key 0 0) variable_head) [ true ↦ variable_vertex (get_or key 2 0) (mark_at flex (get_or key 1 0)) false | false ↦ applied (get_or key 0 0) (map (copy_in work l memo) (drop 1 key)) ]

-- the variable that a node with a key is, if it is one
abbrev pub number_for : List ℕ → Option ℕ
number_for key = elim (eqb (get_or key 0 0) variable_head) [ true ↦ some (get_or key 1 0) | false ↦ none ]

-- arguments that the memo has room for, and no more than 16
pub record Arguments (work : List ℕ) (l : Copying) (memo : Memo) (key : List ℕ) : Type 0 where
  pub some : 0 < length key
  pub few : length key ≤ 17
  pub known : Below (length (recall (table_in work l) memo)) (drop 1 key)

-- a key that can be copied
pub record Key (work : List ℕ) (l : Copying) (memo : Memo) (key : List ℕ) : Type 0 where
  pub some : 0 < length key
  pub variable : get_or key 0 0 ≡ variable_head → length key ≡ 3
  pub applied : (get_or key 0 0 ≡ variable_head → ⊥) → Arguments work l memo key

-- the words beside the memo, the variables and the rows are as they were
pub record Stays (work work' cells : List ℕ) (l : Copying) : Type 0 where
  pub beside : Beside work work' cells l
  pub stack : (i : ℕ) → l.walk ≤ i → i < l.variables → get_or work' i 0 ≡ get_or work i 0

-- a pattern with a key was copied to node x
abbrev pub CopiedTo : List ℕ → List ℕ → List ℕ → List ℕ → List ℕ → Copying → Memo → Counts → ℕ → List ℕ → Id → Counts → Type 0
CopiedTo work work' cells cells' flex l memo g p key x g' =
    Pushes cells cells' (rows_in work cells l) (rows_in work' cells l) g (vertex_for work l memo flex key) (Some (x, g'))
    × Stays work work' cells l × Notes work work' flex l (number_for key) x.0
    × Remembers (table_in work' l) memo × (recall (table_in work' l) memo ≡ set (recall (table_in work l) memo) p (some x.0))

-- or there was no room for its copy
abbrev pub NoRoom : List ℕ → List ℕ → List ℕ → List ℕ → List ℕ → Copying → Memo → Counts → List ℕ → Type 0
NoRoom work work' cells cells' flex l memo g key = Pushes cells cells' (rows_in work cells l) (rows_in work' cells l) g (vertex_for work l memo flex key) None × Stays work work' cells l

-- what `copy_node` answers
abbrev pub CopiesNode : List ℕ → List ℕ → List ℕ → List ℕ → List ℕ → Copying → Memo → Counts → ℕ → List ℕ → Optional (Id × Counts) → Type 0
CopiesNode work work' cells cells' flex l memo g p key (Some (x, g')) = CopiedTo work work' cells cells' flex l memo g p key x g'
CopiesNode work work' cells cells' flex l memo g p key None = NoRoom work work' cells cells' flex l memo g key
