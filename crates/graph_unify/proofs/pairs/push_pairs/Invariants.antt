-- `push_pairs` meets its contract.
use Rattle.graph_unify.specs.Pairs.{Piled}
use Rattle.graph_unify.proofs.pairs.push_pairs.Given as goal

abbrev pub invariant-loop-i : goal.invariant-loop-i
invariant-loop-i l = Piled l.cells l.initial.table l.g l.x.0 l.y.0 l.top l.n l.table l.left.0 l.right.0 l.i
