-- `walk` meets its contract.
use native.Mathlib.Omega.{arith}
use Rattle.graph_unify.specs.CircleTurns.{idle_wide, idle_inside, idle-entering, walks_again, walks_ready, walks_on}
use Rattle.graph_unify.proofs.circle.walk.Goals as goal

pub bounds-table-colours : goal.bounds-table-colours
bounds-table-colours c = omega (arith, idle_inside _ _ _ _ _ _ c.find-root.ensures c.requires.0, idle_wide _ _ _ _ _ _ c.find-root.ensures c.requires.0, c.colours_at-colours.ensures)

pub returns-then-table-colours-ne-UNSEEN : goal.returns-then-table-colours-ne-UNSEEN
returns-then-table-colours-ne-UNSEEN c = walks_again _ _ _ _ _ _ c.find-root.ensures c.requires.0 (rw c.colours_at-colours.ensures at c.if-table-colours-ne-UNSEEN.true)

pub enter-top-requires : goal.enter-top-requires
enter-top-requires c = idle-entering _ _ _ _ _ _ c.find-root.ensures c.requires.0

pub finish-requires : goal.finish-requires
finish-requires c = walks_ready _ _ _ _ _ _ c.find-root.ensures c.requires.0 c.requires.1 (rw c.colours_at-colours.ensures at c.if-table-colours-ne-UNSEEN.false) _ c.enter-top.result c.enter-top.ensures

pub returns : goal.returns
returns c = walks_on _ _ _ _ _ _ c.find-root.ensures c.requires.0 c.requires.1 (rw c.colours_at-colours.ensures at c.if-table-colours-ne-UNSEEN.false) _ c.enter-top.result c.enter-top.ensures _ c.finish.result c.finish.ensures
