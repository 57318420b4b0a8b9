-- `Graph::head` meets its contract.
use Rattle.graph.specs.Joins.{head_there, head_of}
use Rattle.graph.proofs.graph.Graph.head.Goals as goal

pub bounds-cells-start : goal.bounds-cells-start
bounds-cells-start c = head_there _ _ _ c.requires.0 _ c.requires.1

pub returns : goal.returns
returns c = λ g S. head_of _ _ _ g S _ c.requires.1
