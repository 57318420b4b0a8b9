-- `Graph::new` meets its contract.
use native.Mathlib.Omega.{arith}
use lib.ListN.{length-set}
use lib.Seq.{get_or-set_same}
use Rattle.graph.specs.Cells.{rows_end, unchanged_set}
use Rattle.graph.specs.Pushes.{shows_none}
use Rattle.graph.proofs.graph.Graph.new.Goals as goal

pub returns : goal.returns
returns c = (
  shows_none _ _ (omega (arith, c.requires.0, length-set c.args.table.now 0 0)) c.requires.1 (get_or-set_same c.args.table.now 0 0 0 (omega (arith, c.requires.0))),
  unchanged_set (rows_end c.args.cells.now) c.args.table.now 0 0 (omega arith),
)
