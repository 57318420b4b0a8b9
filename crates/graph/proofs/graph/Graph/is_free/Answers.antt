-- `Graph::is_free` meets its contract.
use native.Mathlib.Omega.{arith}
use Rattle.graph.specs.Cells.{nodes_few}
use Rattle.graph.specs.Joins.{head-variable, head-other}
use Rattle.graph.specs.Nodes.{free-none, free-mark}
use Rattle.graph.proofs.graph.Graph.is_free.Goals as goal

pub returns-then-head : goal.returns-then-head
returns-then-head c = λ g S. free-none _ _ _ g S _ c.requires.1 (head-other g _ c.head.result (c.head.ensures g S) c.if-head.true)

pub bounds-table-cells : goal.bounds-table-cells
bounds-table-cells c = let p = c.requires in omega (arith, nodes_few _ _ _ p.0, p.0.fits, p.0.wide, p.1)

pub returns : goal.returns
returns c = λ g S. free-mark _ _ _ g S _ c.requires.1 (head-variable g _ c.head.result (c.head.ensures g S) c.if-head.false)
