-- Well-sorted stores: each variable with a number and a sort, each application with its head's number of arguments, patterns before it of
-- its head's input sorts.
use Rattle.std.specs.Prelude.{◌≡◌, true, false, List, [], ◌∷◌, ℕ, ◌<◌, length, get_or}
use Rattle.definition.specs.Pack.{Node, no_node, Pack, symbol_of}
use Rattle.definition.specs.Store.{variable_node, is_variable}
use Rattle.definition.specs.Test.{is, see}
use Rattle.definition.specs.Good.{Below}
use Rattle.theory.specs.Copies.Copying.{pattern_sort}
use Rattle.theory.specs.Copies.Terms.{Earlier, below-variable, below-applied}

-- patterns before i of these sorts, one for each
abbrev pub Sorted : Pack → List Node → ℕ → List ℕ → List ℕ → Type 0
Sorted P s i [] [] = Unit {0}
Sorted P s i [] (p ∷ ps) = ⊥
Sorted P s i (so ∷ sorts) [] = ⊥
Sorted P s i (so ∷ sorts) (p ∷ ps) = (p < i) × (pattern_sort P s p ≡ so) × Sorted P s i sorts ps

-- the i-th node of a store
pub record SortedNode (P : Pack) (s : List Node) (i : ℕ) (n : Node) : Type 0 where
  pub variable : is_variable n ≡ true → n ≡ variable_node (get_or n.args 0 0) (get_or n.args 1 0)
  pub head : is_variable n ≡ false → n.head < length P.symbols
  pub args : is_variable n ≡ false → Sorted P s i (symbol_of P n.head).inputs n.args

abbrev pub SortedStore : Pack → List Node → Type 0
SortedStore P s = (i : ℕ) → i < length s → SortedNode P s i (get_or s i no_node)

-- sorted patterns stand before i
pub sorted_below : (P : Pack) (s : List Node) (i : ℕ) (sorts ps : List ℕ) → Sorted P s i sorts ps → Below i ps
sorted_below P s i [] [] h = tt
sorted_below P s i [] (p ∷ ps) h = absurd h
sorted_below P s i (so ∷ sorts) [] h = absurd h
sorted_below P s i (so ∷ sorts) (p ∷ ps) h = (h.0, sorted_below P s i sorts ps h.2)

-- in a well-sorted store each node rests on earlier ones
pub sorted_earlier : (P : Pack) (s : List Node) → SortedStore P s → Earlier s
sorted_earlier P s W i h = elim (see (is_variable (get_or s i no_node))) [
  | is true v ↦ rw (below-variable (get_or s i no_node) v) tt
  | is false v ↦ rw (below-applied (get_or s i no_node) v) (sorted_below P s i (symbol_of P (get_or s i no_node).head).inputs (get_or s i no_node).args ((W i h).args v))
]
