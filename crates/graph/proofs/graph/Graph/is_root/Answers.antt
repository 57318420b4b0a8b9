-- `Graph::is_root` meets its contract.
use Rattle.graph.specs.Nodes.{root_of}
use Rattle.graph.proofs.graph.Graph.is_root.Goals as goal

pub returns : goal.returns
returns c = λ g S. root_of _ _ _ g S _ c.requires.1 c.link.result c.link.ensures
