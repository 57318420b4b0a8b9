-- `advance` meets its contract: with each turn one argument more ends.
use Rattle.graph_unify.specs.Circles.{Steppings}
use Rattle.graph_unify.specs.CircleWords.{path_in, colour_in, Beyond}
use Rattle.graph_unify.proofs.circle.advance.Given as goal

abbrev pub invariant-loop-i : goal.invariant-loop-i
invariant-loop-i l = Beyond l.cells l.initial.table l.table × Steppings l.cells l.initial.table l.table (colour_in l.cells l.initial.table) (colour_in l.cells l.table) (path_in l.cells l.initial.table) (path_in l.cells l.table) l.g l.top l.x.0 l.n l.i
