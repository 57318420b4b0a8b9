-- A stack of pairs behind the table's rows, of two words each.
use Rattle.std.specs.Prelude.{◌≡◌, List, ℕ, ◌+◌, ◌*◌, length, get_or}
use Rattle.base.specs.Pairs.{pairs_in, pairs_same as same-pairs}
use Rattle.graph.specs.Cells.{rows_end, Unchanged}

-- where the stack ends: a pair for each cell, and one more
abbrev pub pairs_end : List ℕ → ℕ
pairs_end words = rows_end words + 2 * length words + 2

-- the words of the pair behind top others
abbrev pub left_word : List ℕ → List ℕ → ℕ → ℕ
left_word words table top = get_or table (rows_end words + 2 * top) 0

abbrev pub right_word : List ℕ → List ℕ → ℕ → ℕ
right_word words table top = get_or table (rows_end words + 2 * top + 1) 0

-- pairs from a place on are the same where all words from there on are
pub pairs_same : (from : ℕ) (table table' : List ℕ) → Unchanged from table table' → (n : ℕ) → pairs_in from table' n ≡ pairs_in from table n
pairs_same from table table' U n = same-pairs from table table' n (λ i h l. U.words i h)
