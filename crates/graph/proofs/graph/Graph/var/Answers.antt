-- `Graph::var` meets its contract.
use native.Mathlib.Omega.{arith}
use lib.ListN.{length-set}
use Rattle.definition.specs.Graph.{variable_vertex}
use Rattle.graph.specs.Cells.{mark_in, nodes_few}
use Rattle.graph.specs.Pushes.{no_room, pushed_next, var_pushed}
use Rattle.graph.proofs.graph.Graph.var.Goals as goal

pub returns-then-cells-at : goal.returns-then-cells-at
returns-then-cells-at c = let a = c.args in no_room a.cells.now a.cells.now a.table.now a.table.now a.self (variable_vertex a.sort (mark_in a.flex) (mark_in a.rigid)) (omega (arith, c.if-cells-at.true))

pub put_row-requires : goal.put_row-requires
put_row-requires c =
    let L = c.requires in
    let n = nodes_few _ _ _ L in
    (simp length-set (omega (arith, c.if-cells-at.false)), simp length-set (omega (arith, L.wide)), omega (arith, L.fits, L.small), omega (arith, L.small, c.if-cells-at.false))

pub returns : goal.returns
returns c = let R = c.put_row.ensures in pushed_next _ _ _ _ _ _ _ _ R.1 (λ n e. var_pushed _ _ _ _ n e c.requires (omega (arith, c.if-cells-at.false)) _ _ _ R.0)
