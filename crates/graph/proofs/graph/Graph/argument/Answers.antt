-- `Graph::argument` meets its contract.
use native.Mathlib.Omega.{arith}
use Rattle.graph.specs.Nodes.{end_there, argument_of}
use Rattle.graph.proofs.graph.Graph.argument.Goals as goal

pub bounds-cells-start : goal.bounds-cells-start
bounds-cells-start c = omega (arith, end_there _ _ _ c.requires.0 _ c.requires.1, c.requires.2)

pub returns : goal.returns
returns c = λ g S. argument_of _ _ _ g S _ c.requires.1 _ c.requires.2
