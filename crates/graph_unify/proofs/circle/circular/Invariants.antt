-- `circular` meets its contract: with each node one more was seen.
use mathlib.Core.Path.{◌≡◌}
use Rattle.graph_unify.specs.Circles.{Tellings}
use Rattle.graph_unify.specs.CircleWords.{path_in, colour_in, Beyond}
use Rattle.graph_unify.proofs.circle.circular.Given as goal

abbrev pub invariant-loop-x : goal.invariant-loop-x
invariant-loop-x l = (l.n ≡ l.g.nodes) × Beyond l.cells l.initial.table l.table × (Tellings l.cells l.initial.table l.initial.table (colour_in l.cells l.initial.table) (path_in l.cells l.initial.table) l.g 0 → Tellings l.cells l.initial.table l.table (colour_in l.cells l.table) (path_in l.cells l.table) l.g l.x)
