-- Patterns replaced one after the other.
use Rattle.std.specs.Prelude.{Option, Some, None}
use Rattle.std.specs.Prelude.{◌≡◌, List, ℕ, suc, ◌≤◌, ◌<◌, length, get_or}
use Rattle.definition.specs.Pack.{Node, most_arity}
use Rattle.definition.specs.Store.{pattern_words}
use Rattle.theory.specs.Walks.Again.{stored}
use Rattle.base.specs.declared.stack.Stack.{Stack}
use Rattle.memo.specs.Recall.{Remembers}
use Rattle.memo.specs.declared.memo.Memo.{Memo}
use Rattle.store.specs.Stored.{Stored, nodes}
use Rattle.store.specs.declared.nodes.Store.{Store}
use Rattle.emission.specs.Patterns.{replace}
use Rattle.emit_state.specs.Places.{stamp_at, index_in, replaced_in}
use Rattle.emit_state.specs.Grown.{Apart}
use Rattle.emit_state.specs.declared.places.Places.{Places}
use Rattle.emit_replace.specs.Again.{under, one}
use Rattle.emit_replace.specs.Known.{Known, gaps}
use Rattle.emit_replace.specs.Right.{Right}
use Rattle.emit_replace.specs.Reading.{values_in}
use Rattle.emit_replace.specs.Walking.{queue, Pending}
use Rattle.emit_replace.specs.Asking.{alone}
use Rattle.emit_replace.specs.declared.put.Turn.{Turn}
use Rattle.emit_replace.specs.declared.put.Turn.TheVariants.{On, Done}
use Rattle.base.specs.declared.id.Pattern.{Pattern}

-- y in place of x in pattern d, and the store that this comes to
pub record Task : Type 0 where
  pub x : ℕ
  pub y : ℕ
  pub d : ℕ
  pub final : List Node

-- patterns wait, each value is right, and what is left comes to the store
pub record Going (work words : List ℕ) (l : Places) (st : Store) (memo : Memo) (p : ℕ) (stack : Stack) (t : Task) : Type 0 where
  pub pending : Pending work words l st memo p stack t.d
  pub remembers : Remembers (replaced_in work l) memo
  pub few : (i : ℕ) → i < suc t.d → length (under (nodes words st) i) ≤ most_arity
  pub begun : Known (values_in work l memo) t.x
  pub right : Right t.x t.y t.d (values_in work l memo) (nodes words st)
  pub left : (replace (suc t.d) t.x t.y (queue work p stack) (nodes words st)).store ≡ t.final

-- so for some task
abbrev pub Puttable : List ℕ → List ℕ → Places → Store → Memo → ℕ → Stack → Type 0
Puttable work words l st memo p stack = (t : Task) × Going work words l st memo p stack t

-- the last pattern has its value, and nothing is left
pub record Came (work words : List ℕ) (l : Places) (st : Store) (memo : Memo) (v : ℕ) (t : Task) : Type 0 where
  pub stored_on : Stored (index_in work l) words st
  pub remembers : Remembers (replaced_in work l) memo
  pub nodes_are : nodes words st ≡ t.final
  pub value : one t.x t.y t.d t.d (nodes words st) ≡ stored v (nodes words st)

-- where a turn leads
abbrev pub PutsTo : List ℕ → List ℕ → List ℕ → Places → Memo → Task → Option Turn → Type 0
PutsTo words work' words' l memo t (Some (On st' p stack)) = Going work' words' l st' memo p stack t
PutsTo words work' words' l memo t (Some (Done st' v)) = Came work' words' l st' memo v t
PutsTo words work' words' l memo t None = length words < length (pattern_words t.final)

-- it leaves no pattern out
abbrev pub TurnGrown : Store → Option Turn → Type 0
TurnGrown st (Some (On st' p stack)) = st.len ≤ st'.len
TurnGrown st (Some (Done st' v)) = st.len ≤ st'.len
TurnGrown st None = Unit {0}

-- one value more
abbrev pub TurnLess : List ℕ → List ℕ → Places → Memo → Option Turn → Type 0
TurnLess work work' l memo (Some (On st' p stack)) = gaps (values_in work' l memo) l.room < gaps (values_in work l memo) l.room
TurnLess work work' l memo (Some (Done st' v)) = Unit {0}
TurnLess work work' l memo None = Unit {0}

-- a turn
pub record PutsOn (work words work' words' : List ℕ) (l : Places) (st : Store) (memo : Memo) (p : ℕ) (stack : Stack) (r : Option Turn) : Type 0 where
  pub apart : Apart l work work'
  pub stamp : get_or work' (stamp_at l) 0 ≡ get_or work (stamp_at l) 0
  pub grown : TurnGrown st r
  pub less : TurnLess work work' l memo r
  pub goes : (t : Task) → Going work words l st memo p stack t → PutsTo words work' words' l memo t r

-- all turns
abbrev pub PutsAll : List ℕ → List ℕ → Places → Store → Memo → ℕ → Type 0
PutsAll work words l st memo j = Puttable work words l st memo j (alone l)

-- what they come to
abbrev pub AllTo : List ℕ → List ℕ → List ℕ → Places → Memo → Task → Option (Pattern × Store) → Type 0
AllTo words work' words' l memo t (Some (q, st')) = Came work' words' l st' memo q.0 t
AllTo words work' words' l memo t None = length words < length (pattern_words t.final)

-- they leave no pattern out
abbrev pub AllGrown : Store → Option (Pattern × Store) → Type 0
AllGrown st (Some (q, st')) = st.len ≤ st'.len
AllGrown st None = Unit {0}

-- all of them
pub record PutAll (work words work' words' : List ℕ) (l : Places) (st : Store) (memo : Memo) (j : ℕ) (r : Option (Pattern × Store)) : Type 0 where
  pub apart : Apart l work work'
  pub stamp : get_or work' (stamp_at l) 0 ≡ get_or work (stamp_at l) 0
  pub grown : AllGrown st r
  pub goes : (t : Task) → Going work words l st memo j (alone l) t → AllTo words work' words' l memo t r
