-- What the functions of the walk ask of each other and answer.
use Rattle.std.specs.Prelude.{Option, Some, None}
use Rattle.std.specs.Prelude.{◌≡◌, Bool, List, ℕ, suc, ◌+◌, ◌<◌, ltb, length, get_or, set}
use Rattle.std.proofs.Math.Option.{none}
use Rattle.definition.specs.Store.{below}
use Rattle.definition.specs.Graph.{cells}
use Rattle.definition.specs.Analysis.{Copy}
use Rattle.theory.specs.Copies.Parts.{kids_in}
use Rattle.theory.specs.Walks.Machine.{Walking, turn, left}
use Rattle.theory.specs.Walks.CopyWalk.{is_copied, copy_at}
use Rattle.base.specs.Outside.{Outside}
use Rattle.store.specs.Words.{node_with}
use Rattle.store.specs.Stored.{nodes}
use Rattle.memo.specs.Recall.{Remembers}
use Rattle.store.specs.declared.nodes.Store.{Store}
use Rattle.memo.specs.declared.memo.Memo.{Memo}
use Rattle.term_copy.specs.declared.node.Copying.{Copying}
use Rattle.graph.specs.declared.graph.Graph.{Graph as Counts}
use Rattle.term_copy.specs.Places.{table_in, value_in, Beside}
use Rattle.theory.specs.Copies.Terms.{Patterns}
use Rattle.graph.specs.Cells.{marks_in}
use Rattle.term_copy.specs.Held.{Holding, frames_in, Going}

-- whether an argument of the node with a key is left to the frame at `at`
abbrev pub is_left : List ℕ → ℕ → List ℕ → Bool
is_left work at key = ltb (get_or work (at + 1) 0) (length (below (node_with key)))

-- its word stands in the key, and there is room above the frame
pub record Deeper (work : List ℕ) (at : ℕ) (key : List ℕ) : Type 0 where
  pub inside : at + 3 < length work
  pub few : get_or work (at + 1) 0 < 16
  pub word : get_or work (at + 1) 0 + 1 < length key

-- it is counted and has a frame above
abbrev pub deepened : List ℕ → ℕ → List ℕ → List ℕ
deepened work at key = set (set (set work (at + 1) (get_or work (at + 1) 0 + 1)) (at + 2) (get_or key (get_or work (at + 1) 0 + 1) 0)) (at + 3) 0

-- one turn of the machine
abbrev pub turn_of : List ℕ → List ℕ → List ℕ → Copying → Store → ℕ → Copy → Walking Copy
turn_of work words flex l st top c = turn (kids_in (nodes words st)) is_copied (copy_at (nodes words st) (marks_in flex)) (frames_in work l.walk top) c

-- what `advance` answers: the machine after one turn, or that its graph has more cells than there are
abbrev pub Advances : List ℕ → List ℕ → List ℕ → List ℕ → List ℕ → List ℕ → Copying → Store → Memo → Counts → ℕ → Option (ℕ × Counts) → Type 0
Advances work work' words cells cells' flex l st memo g top (Some (k, g')) =
    ((P : Patterns (nodes words st)) (c : Copy) → Going work words cells flex l st memo P g (suc top) c
    → Going work' words cells' flex l st memo P g' k (turn_of work words flex l st (suc top) c).state × (frames_in work' l.walk k ≡ (turn_of work words flex l st (suc top) c).stack))
    × Beside work work' cells l
Advances work work' words cellsₒ cells' flex l st memo g top None =
    ((P : Patterns (nodes words st)) (c : Copy) → Going work words cellsₒ flex l st memo P g (suc top) c → length cellsₒ < cells (turn_of work words flex l st (suc top) c).state.graph) × Beside work work' cellsₒ l

-- what the frames still give
abbrev pub left_of : List ℕ → List ℕ → List ℕ → Copying → Store → ℕ → Copy → Copy
left_of work words flex l st top c = left (kids_in (nodes words st)) is_copied (copy_at (nodes words st) (marks_in flex)) (length (nodes words st)) (frames_in work l.walk top) c

-- what `run` answers: what the frames gave, or that its graph has more cells than there are
abbrev pub Runs : List ℕ → List ℕ → List ℕ → List ℕ → List ℕ → List ℕ → Copying → Store → Memo → Counts → ℕ → Option (ℕ × Counts) → Type 0
Runs work work' words cells cells' flex l st memo g top (Some (k, g')) =
    ((P : Patterns (nodes words st)) (c : Copy) → Going work words cells flex l st memo P g top c → Holding work' words cells' flex l st memo g' (left_of work words flex l st top c)) × Beside work work' cells l
Runs work work' words cellsₒ cells' flex l st memo g top None =
    ((P : Patterns (nodes words st)) (c : Copy) → Going work words cellsₒ flex l st memo P g top c → length cellsₒ < cells (left_of work words flex l st top c).graph) × Beside work work' cellsₒ l

-- the memo is empty, no variable is noted, and there is one frame; beside them nothing has changed
pub record Begins (work work' flex : List ℕ) (l : Copying) (p : ℕ) (memo : Memo) : Type 0 where
  pub outside : Outside l.copied (l.variables + length flex) work work'
  pub remembers : Remembers (table_in work' l) memo
  pub empty : (q : ℕ) → value_in work' l memo q ≡ none
  pub node : get_or work' l.walk 0 ≡ p
  pub taken : get_or work' (l.walk + 1) 0 ≡ 0
  pub variables : (k : ℕ) → k < length flex → get_or work' (l.variables + k) 0 ≡ 0
