-- `circular` meets its contract: with each node one more was seen.
use Prim.Native.Nat.{◌≤◌}
use native.Mathlib.Omega.{arith}
use Rattle.graph.specs.Cells.{unchanged_then}
use Rattle.graph_unify.specs.Circles.{few_nodes, telling_ready, telling_on, telling_circle, telling_done}
use Rattle.graph_unify.specs.CircleWords.{path_in, colour_in}
use Rattle.graph_unify.specs.CircleTurns.{unseen_long, unseen-held, telling_unseen, tells-unseen}
use Rattle.graph_unify.proofs.circle.circular.Goals as goal

pub slice_bounds-fill-end : goal.slice_bounds-fill-end
slice_bounds-fill-end c = omega (arith, few_nodes _ _ _ c.requires.0.0 c.requires.0.1, c.requires.1, c.colours_at-colours.ensures)

pub overflow_cast-x : goal.overflow_cast-x
overflow_cast-x c = omega (arith, c.loop-x-test.true, c.loop-x.invariant.0, few_nodes _ _ _ c.requires.0.0 c.requires.0.1, c.requires.0.1.laid.small)

pub walk-requires : goal.walk-requires
walk-requires c =
    let p = c.requires in
    let v = rw c.colours_at-colours.ensures at c.loop-x.invariant in
    let t = c.args.table.now in
    let z = rw c.colours_at-colours.ensures at (c.fill.ensures.after (λ y e. e)) in (
      (telling_ready _ _ _ _ _ _ _ (v.2 (telling_unseen _ t _ _ p.1 p.0 z)) (unseen-held _ t _ _ p.1 p.0 z), omega (arith, p.1, v.1.long, unseen_long _ t _ _ p.1 p.0 z)),
      omega (arith, c.loop-x-test.true, v.0),
    )

pub returns-then-walk : goal.returns-then-walk
returns-then-walk c =
    let p = c.requires in
    let v = rw c.colours_at-colours.ensures at c.loop-x.invariant in
    let t = c.args.table.now in
    let z = rw c.colours_at-colours.ensures at (c.fill.ensures.after (λ y e. e)) in
    let m = rw c.if-walk.true at c.walk.ensures in
    tells-unseen _ t _ _ p.1 p.0 z _ _ (telling_circle _ _ _ _ _ _ _ (v.2 (telling_unseen _ t _ _ p.1 p.0 z)) _ (colour_in c.args.cells.now c.walk.new.table) (path_in c.args.cells.now c.walk.new.table) m.0, unchanged_then _ _ _ _ v.1 m.1)

pub loop-x-preserved : goal.loop-x-preserved
loop-x-preserved c =
    let v = c.loop-x.invariant in
    let m = rw c.if-walk.false at c.walk.ensures in
    (v.0, unchanged_then _ _ _ _ v.1 m.1, λ T. telling_on _ _ _ _ _ _ _ (v.2 T) _ _ _ m.0)

pub returns : goal.returns
returns c =
    let done : c.args.g.nodes ≤ c.loop-x.x = omega (arith, c.loop-x-test.false, c.loop-x.invariant.0) in
    let p = c.requires in
    let v = rw c.colours_at-colours.ensures at c.loop-x.invariant in
    let t = c.args.table.now in
    let z = rw c.colours_at-colours.ensures at (c.fill.ensures.after (λ y e. e)) in
    tells-unseen _ t _ _ p.1 p.0 z _ _ (telling_done _ _ _ _ _ _ _ (v.2 (telling_unseen _ t _ _ p.1 p.0 z)) done, v.1)
