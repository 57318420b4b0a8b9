-- A pattern copied so many times into one graph, and its last copy read back.
use Rattle.std.specs.Prelude.{true, false, ◌||◌, Bool, List, [], ℕ, zero, suc, eqb, leb, ltb, length}
use Rattle.definition.specs.Pack.{Node, Pack}
use Rattle.definition.specs.Graph.{Grown, cells}
use Rattle.definition.specs.Analysis.{copied, copy}
use Rattle.graph.specs.Cells.{marks_in}
use Rattle.host_walk.specs.Came.{Came, done, refused, Left, leaves, lent_to, opened, read_back}
use Rattle.host_walk.specs.Listed.{Listed, whole, broken, full, listed}

-- the graph with so many copies, each with variables of its own, and the node of the last
unfoldable pub copied_times : ℕ → List Node → List Bool → ℕ → Grown
unfolding copy copied
copied_times zero s flex p = record { at = 0; graph = [] }
copied_times (suc k) s flex p =
    let c = copy s flex (copied_times k s flex p).graph p in
    record { at = copied c.nodes p; graph = c.graph }

-- the last one is read back if it is asked for and there is one
unfoldable pub last_read : Pack → List Node → Grown → ℕ → ℕ → ℕ → Came
unfolding read_back cells
last_read P s last copies read patterns = elim (eqb read 0 || eqb copies 0) [ true ↦ done 0 s 0 (cells last.graph) | false ↦ read_back P last.graph last.at s patterns ]

-- if the graph has room for all of them
unfoldable pub times_read : Pack → List Node → Grown → ℕ → ℕ → ℕ → ℕ → Came
unfolding last_read cells
times_read P s last copies read patterns room = elim (leb (cells last.graph) room) [ false ↦ refused 8 3 | true ↦ last_read P s last copies read patterns ]

-- pattern p of a store, if there is such a one
unfoldable pub pattern_copied : Pack → List Node → List ℕ → ℕ → ℕ → ℕ → ℕ → ℕ → Came
unfolding copied_times times_read
pattern_copied P s flex p copies read patterns room = elim (ltb p (length s)) [ false ↦ refused 12 0 | true ↦ times_read P s (copied_times copies s (marks_in flex) p) copies read patterns room ]

-- of the store that a list gives
unfoldable pub list_copied_of : Pack → Listed → List ℕ → ℕ → ℕ → ℕ → ℕ → ℕ → Came
unfolding pattern_copied
list_copied_of P (whole s) flex p copies read patterns room = pattern_copied P s flex p copies read patterns room
list_copied_of P broken flex p copies read patterns room = refused 12 0
list_copied_of P full flex p copies read patterns room = refused 8 2

-- no more marks than the store has words
unfoldable pub pack_copied : Pack → List ℕ → List ℕ → ℕ → ℕ → ℕ → ℕ → ℕ → Came
unfolding listed list_copied_of
pack_copied P from flex p copies read patterns room = elim (ltb patterns (length flex)) [ true ↦ refused 2 0 | false ↦ list_copied_of P (listed from patterns) flex p copies read patterns room ]

-- what the call leaves
unfoldable pub copy_leaves : List ℕ → List ℕ → List ℕ → ℕ → ℕ → ℕ → ℕ → ℕ → ℕ → Left
unfolding leaves opened pack_copied
copy_leaves pack from flex p copies read patterns cells work = leaves (opened (lent_to (length pack) patterns cells work) pack (λ P. pack_copied P from flex p copies read patterns cells)) patterns cells work
