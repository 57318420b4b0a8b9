-- `finish` meets its contract: each turn leaves less to do.
use Rattle.graph_unify.specs.Paths.{to_do}
use Rattle.graph_unify.specs.Circles.{Onwards}
use Rattle.graph_unify.specs.CircleWords.{path_in, colour_in, Beyond}
use Rattle.graph_unify.proofs.circle.finish.Given as goal

abbrev pub invariant-loop-top : goal.invariant-loop-top
invariant-loop-top l = Beyond l.cells l.initial.table l.table × Onwards l.cells l.initial.table l.table (colour_in l.cells l.initial.table) (colour_in l.cells l.table) (path_in l.cells l.initial.table) (path_in l.cells l.table) l.g l.start l.top

abbrev pub decreases-loop-top : goal.decreases-loop-top
decreases-loop-top l = to_do (colour_in l.cells l.table) l.g.nodes
