-- Well-sorted graphs: each application with its head's number of arguments, nodes of its head's input sorts; links lead to nodes of one's
-- own sort. Rigid nodes are allowed, for L is one; whether links end is not asked.
use Rattle.std.specs.Prelude.{◌≡◌, false, ℕ, ◌<◌, length}
use Rattle.std.proofs.Math.Option.{some}
use Rattle.definition.specs.Pack.{Pack, symbol_of}
use Rattle.definition.specs.Good.{Below}
use Rattle.definition.specs.Graph.{Graph, vertex, is_var}
use Rattle.theory.specs.Unification.Solve.{sort_at, SortsAt}

-- a well-sorted node of a graph
pub record SortedVertex (P : Pack) (g : Graph) (x : ℕ) : Type 0 where
  pub head : is_var (vertex g x) ≡ false → (vertex g x).head < length P.symbols
  pub below : Below (length g) (vertex g x).args
  pub sorts : is_var (vertex g x) ≡ false → SortsAt P g (vertex g x).args (symbol_of P (vertex g x).head).inputs
  pub linked : (y : ℕ) → (vertex g x).link ≡ some y → (y < length g) × (sort_at P g x ≡ sort_at P g y)

abbrev pub SortedGraph : Pack → Graph → Type 0
SortedGraph P g = (x : ℕ) → x < length g → SortedVertex P g x
