-- `Graph::join` meets its contract.
use native.Mathlib.Omega.{arith}
use Rattle.graph.specs.Cells.{room, nodes_few}
use Rattle.graph.specs.Joins.{shows_joined, behind-link}
use Rattle.graph.proofs.graph.Graph.join.Goals as goal

pub overflow_add-table : goal.overflow_add-table
overflow_add-table c = let n = nodes_few _ _ _ c.requires.0 in omega (arith, c.requires.0.fits, c.requires.0.small, c.requires.1.right)

pub bounds-table-i : goal.bounds-table-i
bounds-table-i c = omega (arith, room _ _ _ c.requires.0, c.requires.1.left)

pub returns : goal.returns
returns c = (λ g S. shows_joined _ _ _ g S _ _ c.requires.1, behind-link _ _ _ c.requires.0 _ _ c.requires.1.left)
