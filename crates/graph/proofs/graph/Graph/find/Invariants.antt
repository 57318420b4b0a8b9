-- `Graph::find` meets its contract: with each turn the walk that is left is shorter, and no root has changed.
use mathlib.Core.Path.{◌≡◌}
use lib.ListN.{length}
use Rattle.theory.specs.Unification.Forest.{depth}
use Rattle.graph.specs.Cells.{graph_in}
use Rattle.graph.specs.Links.{Seeking}
use Rattle.graph.proofs.graph.Graph.find.Given as goal

abbrev pub invariant-loop-self : goal.invariant-loop-self
invariant-loop-self l = (length l.table ≡ length l.initial.table) × Seeking l.cells l.initial.table l.table l.self l.initial.at l.at

abbrev pub decreases-loop-self : goal.decreases-loop-self
decreases-loop-self l = depth l.self.nodes (graph_in l.cells l.table l.self.nodes) l.at
