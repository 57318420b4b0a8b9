-- `Graph::sort` meets its contract.
use native.Mathlib.Omega.{arith}
use Rattle.graph.specs.Cells.{nodes_few}
use Rattle.graph.specs.Nodes.{sort_of}
use Rattle.graph.proofs.graph.Graph.sort.Goals as goal

pub bounds-table-cells : goal.bounds-table-cells
bounds-table-cells c = let p = c.requires in omega (arith, nodes_few _ _ _ p.0, p.0.fits, p.0.wide, p.1)

pub returns : goal.returns
returns c = λ g S. sort_of _ _ _ g S _ c.requires.1
