-- Where copying has its tables in work, and what they say of a pattern node.
use Rattle.std.specs.Prelude.{List, ℕ, ◌+◌, ◌-◌, ◌≤◌, length, get_or}
use Rattle.std.proofs.Math.Option.{Option, none, some}
use Rattle.base.specs.Part.{part}
use Rattle.base.specs.Outside.{Outside}
use Rattle.memo.specs.Recall.{recall}
use Rattle.memo.specs.declared.memo.Memo.{Memo}
use Rattle.graph.specs.Cells.{rows_end}
use Rattle.term_copy.specs.declared.node.Copying.{Copying}

-- ---- the regions
-- the memo's table
abbrev pub table_in : List ℕ → Copying → List ℕ
table_in work l = part l.copied (l.walk - l.copied) work

-- where the graph's rows end
abbrev pub rows_at : List ℕ → Copying → ℕ
rows_at words l = l.graph + rows_end words

-- these rows
abbrev pub rows_in : List ℕ → List ℕ → Copying → List ℕ
rows_in work words l = part l.graph (rows_at words l - l.graph) work

-- they stand one behind the other, with room for so many cells and so many variables
pub record Apart (work cells flex : List ℕ) (l : Copying) : Type 0 where
  pub index : l.index ≤ l.copied
  pub table : l.copied ≤ l.walk
  pub stack : l.walk ≤ l.variables
  pub marks : l.variables + length flex ≤ l.graph
  pub rows : rows_at cells l ≤ length work

-- ---- what is held
-- what the memo has for a pattern node
abbrev pub value_in : List ℕ → Copying → Memo → ℕ → Option ℕ
value_in work l memo q = get_or (recall (table_in work l) memo) q none

-- a copy, or 0
abbrev pub or_zero : Option ℕ → ℕ
or_zero none = 0
or_zero (some x) = x

-- what a pattern node was copied to, or 0
unfoldable pub copy_in : List ℕ → Copying → Memo → ℕ → ℕ
copy_in work l memo q = or_zero (value_in work l memo q)

-- the words ahead of the memo, and behind the graph's rows, are as they were
abbrev pub Beside : List ℕ → List ℕ → List ℕ → Copying → Type 0
Beside work work' cells l = Outside l.copied (rows_at cells l) work work'
