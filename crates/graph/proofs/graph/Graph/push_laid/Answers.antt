-- `Graph::push_laid` meets its contract.
use native.Mathlib.Omega.{arith}
use lib.ListN.{length-set}
use Rattle.graph.specs.Cells.{nodes_few}
use Rattle.graph.specs.Pushes.{pushed_next, laid_pushed}
use Rattle.graph.proofs.graph.Graph.push_laid.Goals as goal

pub put_row-requires : goal.put_row-requires
put_row-requires c =
    let p = c.requires in
    let n = nodes_few _ _ _ p.0 in
    (simp length-set (omega (arith, p.1, p.2)), simp length-set (omega (arith, p.0.wide)), omega (arith, p.0.fits, p.0.small), omega (arith, p.0.small, p.2))

pub returns : goal.returns
returns c = let p = c.requires in let R = c.put_row.ensures in pushed_next _ _ _ _ _ _ _ _ R.1 (λ n e. laid_pushed _ _ _ _ n e _ _ p.0 p.1 p.2 R.0)
