-- `Graph::share_flex` meets its contract.
use native.Mathlib.Omega.{arith}
use Rattle.graph.specs.Cells.{nodes_few, unchanged_same}
use Rattle.graph.specs.Links.{laid_marked}
use Rattle.graph.specs.Joins.{shares_none, shares_same, shares_flex, apart_flexed, behind-mark, head-variable, head-other}
use Rattle.graph.proofs.graph.Graph.share_flex.Goals as goal

pub returns-then-head : goal.returns-then-head
returns-then-head c = let p = c.requires in (p.0, p.1, λ g S. shares_none _ _ _ g S _ _ p.1 (head-other g _ c.head.result (c.head.ensures g S) c.if-head.true), unchanged_same _ _)

pub bounds-table-rest : goal.bounds-table-rest
bounds-table-rest c = let p = c.requires in omega (arith, nodes_few _ _ _ p.0, p.0.fits, p.0.wide, p.1.left)

pub returns-then-table-rest-eq0 : goal.returns-then-table-rest-eq0
returns-then-table-rest-eq0 c = let p = c.requires in (p.0, p.1, λ g S. shares_same _ _ _ g S _ _ p.1 (head-variable g _ c.head.result (c.head.ensures g S) c.if-head.false) c.if-table-rest-eq0.true, unchanged_same _ _)

pub bounds-table-rest-2 : goal.bounds-table-rest-2
bounds-table-rest-2 c = let p = c.requires in omega (arith, nodes_few _ _ _ p.0, p.0.fits, p.0.wide, p.1.right)

pub returns : goal.returns
returns c =
    let p = c.requires in (
      laid_marked _ _ _ p.0 _ 1,
      apart_flexed _ _ _ p.0 _ _ 1 p.1,
      λ g S. shares_flex _ _ _ g S _ _ p.1 (head-variable g _ c.head.result (c.head.ensures g S) c.if-head.false) c.if-table-rest-eq0.false,
      behind-mark _ _ _ p.0 _ 1 p.1.right,
    )
