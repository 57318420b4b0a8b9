-- Whether x stands in a pattern, asked of one pattern after the other.
use Rattle.std.specs.Prelude.{◌≡◌, List, [], ◌∷◌, ℕ, suc, ◌<◌, get_or}
use Rattle.base.specs.Outside.{Outside}
use Rattle.base.specs.declared.stack.Stack.{Stack}
use Rattle.memo.specs.Recall.{Remembers}
use Rattle.memo.specs.declared.memo.Memo.{Memo}
use Rattle.store.specs.Stored.{nodes}
use Rattle.store.specs.declared.nodes.Store.{Store}
use Rattle.emission.specs.Patterns.{mentions}
use Rattle.emit_state.specs.Places.{replaced_at, stamp_at, walk_at, values_at, replaced_in}
use Rattle.emit_state.specs.declared.places.Places.{Places}
use Rattle.emit_replace.specs.Known.{Known, gaps}
use Rattle.emit_replace.specs.Mentions.{bit, Says}
use Rattle.emit_replace.specs.Reading.{values_in}
use Rattle.emit_replace.specs.Walking.{Pending}
use Rattle.emit_replace.specs.declared.mentions.Told.{Told}
use Rattle.emit_replace.specs.declared.mentions.Told.TheVariants.{On, Done}

-- an empty stack
abbrev pub alone : Places → Stack
alone l = record { at = walk_at l; len = 0 }

-- nothing was written but values and the walk's stack
pub record Kept (l : Places) (work work' : List ℕ) : Type 0 where
  pub outside : Outside (replaced_at l) (values_at l) work work'
  pub stamp : get_or work' (stamp_at l) 0 ≡ get_or work (stamp_at l) 0

-- patterns wait, and each value says whether x stands there
pub record Asking (work words : List ℕ) (l : Places) (st : Store) (memo : Memo) (p : ℕ) (stack : Stack) (x d : ℕ) : Type 0 where
  pub pending : Pending work words l st memo p stack d
  pub remembers : Remembers (replaced_in work l) memo
  pub begun : Known (values_in work l memo) x
  pub says : Says x (nodes words st) d (values_in work l memo)

-- so for some x
abbrev pub Asked : List ℕ → List ℕ → Places → Store → Memo → ℕ → Stack → Type 0
Asked work words l st memo p stack = (x : ℕ) × (d : ℕ) × Asking work words l st memo p stack x d

-- what is asked of the last pattern
abbrev pub Answered : List ℕ → List ℕ → Places → Store → Memo → ℕ → ℕ → ℕ → Type 0
Answered work words l st memo x d v = (v ≡ bit (mentions (suc d) (nodes words st) x (d ∷ []))) × Remembers (replaced_in work l) memo

-- where a turn leads
abbrev pub AsksTo : List ℕ → List ℕ → Places → Store → Memo → ℕ → ℕ → Told → Type 0
AsksTo work words l st memo x d (On p stack) = Asking work words l st memo p stack x d
AsksTo work words l st memo x d (Done v) = Answered work words l st memo x d v

-- a turn: one value more
pub record AsksOn (work work' words : List ℕ) (l : Places) (st : Store) (memo : Memo) (p : ℕ) (stack : Stack) (r : Told) : Type 0 where
  pub kept : Kept l work work'
  pub goes : (x d : ℕ) → Asking work words l st memo p stack x d → AsksTo work' words l st memo x d r
  pub less : gaps (values_in work' l memo) l.room < gaps (values_in work l memo) l.room

-- all turns
abbrev pub AsksAll : List ℕ → List ℕ → Places → Store → Memo → ℕ → Type 0
AsksAll work words l st memo j = Asked work words l st memo j (alone l)

-- what they come to
pub record Mentioned (work work' words : List ℕ) (l : Places) (st : Store) (memo : Memo) (j v : ℕ) : Type 0 where
  pub kept : Kept l work work'
  pub says : (x d : ℕ) → Asking work words l st memo j (alone l) x d → Answered work' words l st memo x d v
