-- `Graph::bind` meets its contract.
use Rattle.graph.specs.Joins.{bound_by}
use Rattle.graph.proofs.graph.Graph.bind.Goals as goal

pub returns : goal.returns
returns c = bound_by _ _ _ _ _ _ _ c.share_flex.ensures c.join.ensures
