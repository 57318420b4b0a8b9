-- `Graph::put_row` meets its contract.
use mathlib.Core.Path.{refl}
use Rattle.graph.specs.Pushes.{rows_written}
use Rattle.graph.proofs.graph.Graph.put_row.Goals as goal

pub returns : goal.returns
returns c = let a = c.args in (rows_written a.cells.now a.table.now a.self a.sort a.flex a.rigid a.end c.requires.0 c.requires.1, (refl, refl))
