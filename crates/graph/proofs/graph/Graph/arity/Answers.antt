-- `Graph::arity` meets its contract.
use native.Mathlib.Omega.{arith}
use Rattle.graph.specs.Nodes.{end-word, arity_of}
use Rattle.graph.proofs.graph.Graph.arity.Goals as goal

pub returns : goal.returns
returns c = λ g S. let a = c.args in omega (arith, end-word a.table.now a.x.0, arity_of _ _ _ g S _ c.requires.1)
