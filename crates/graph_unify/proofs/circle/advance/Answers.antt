-- `advance` meets its contract: with each turn one argument more ends.
use native.Mathlib.Omega.{arith}
use Rattle.graph.specs.Cells.{unchanged_same, unchanged_then}
use Rattle.graph_unify.specs.Circles.{stepping_ready, stepping_ends, stepping_deeper, stepping_circle, walking_here, walking_laid}
use Rattle.graph_unify.specs.CircleWords.{path_in, colour_in}
use Rattle.graph_unify.specs.CircleTurns.{walking_low, node_there, node_inside, advance_first, advance_done}
use Rattle.graph_unify.proofs.circle.advance.Goals as goal

pub overflow_mul-at : goal.overflow_mul-at
overflow_mul-at c = omega (arith, walking_low _ _ _ _ c.requires, (walking_laid _ _ _ _ _ _ c.requires.0).small, c.pairs_at.ensures)

pub overflow_add-at : goal.overflow_add-at
overflow_add-at c = omega (arith, walking_low _ _ _ _ c.requires, (walking_laid _ _ _ _ _ _ c.requires.0).small, c.pairs_at.ensures)

pub offset_bounds-table-at : goal.offset_bounds-table-at
offset_bounds-table-at c = omega (arith, walking_low _ _ _ _ c.requires, (walking_laid _ _ _ _ _ _ c.requires.0).small, c.pairs_at.ensures)

pub bounds-table-at : goal.bounds-table-at
bounds-table-at c = omega (arith, walking_low _ _ _ _ c.requires, c.requires.1, c.pairs_at.ensures)

pub arity-n-requires : goal.arity-n-requires
arity-n-requires c = let H = c.requires in rw c.pairs_at.ensures (walking_laid _ _ _ _ _ _ H.0, node_there _ _ _ _ H)

pub overflow_add-taken : goal.overflow_add-taken
overflow_add-taken c = omega (arith, walking_low _ _ _ _ c.requires, (walking_laid _ _ _ _ _ _ c.requires.0).small, c.pairs_at.ensures)

pub offset_bounds-table-at-2 : goal.offset_bounds-table-at-2
offset_bounds-table-at-2 c = omega (arith, walking_low _ _ _ _ c.requires, (walking_laid _ _ _ _ _ _ c.requires.0).small, c.pairs_at.ensures)

pub bounds-table-at-2 : goal.bounds-table-at-2
bounds-table-at-2 c = omega (arith, walking_low _ _ _ _ c.requires, c.requires.1, c.pairs_at.ensures)

pub loop-i-init : goal.loop-i-init
loop-i-init c = rw c.pairs_at.ensures (unchanged_same _ _, advance_first _ _ _ _ c.requires _ (rw c.pairs_at.ensures at c.arity-n.ensures))

pub look-requires : goal.look-requires
look-requires c = let v = c.loop-i.invariant in let H = c.requires in
    (stepping_ready _ _ _ _ _ _ _ _ _ _ _ _ v.1 (walking_here _ _ _ _ _ _ H.0) c.loop-i-test.true, omega (arith, H.1, v.0.long))

pub loop-i-preserved : goal.loop-i-preserved
loop-i-preserved c =
    let v = c.loop-i.invariant in
    let m = c.in-Ends.ensures in
    (unchanged_then _ _ _ _ v.0 m.1, stepping_ends _ _ _ _ _ _ _ _ _ _ _ _ v.1 _ _ _ c.loop-i-test.true m.0)

pub overflow_add-result : goal.overflow_add-result
overflow_add-result c = omega (arith, walking_low _ _ _ _ c.requires, (walking_laid _ _ _ _ _ _ c.requires.0).small, c.pairs_at.ensures)

pub returns-in-Deeper : goal.returns-in-Deeper
returns-in-Deeper c =
    let v = c.loop-i.invariant in
    let m = c.in-Deeper.ensures in
    (stepping_deeper _ _ _ _ _ _ _ _ _ _ _ _ v.1 _ _ _ c.loop-i-test.true m.0, unchanged_then _ _ _ _ v.0 m.1)

pub returns-in-Circle : goal.returns-in-Circle
returns-in-Circle c =
    let v = c.loop-i.invariant in
    let t = c.look.new.table in
    let m = c.in-Circle.ensures in
    (stepping_circle _ _ _ _ _ _ _ _ _ _ _ _ v.1 t (colour_in c.args.cells.now t) (path_in c.args.cells.now t) c.loop-i-test.true m.0, unchanged_then _ _ _ _ v.0 m.1)

pub bounds-table-colours : goal.bounds-table-colours
bounds-table-colours c = rw c.pairs_at.ensures (omega (arith, node_inside _ _ _ _ c.requires, c.requires.1, c.loop-i.invariant.0.long, c.colours_at-colours.ensures, c.pairs_at.ensures))

pub returns : goal.returns
returns c = rw (c.colours_at-colours.ensures, c.pairs_at.ensures) (advance_done _ _ _ _ _ _ _ _ (node_inside _ _ _ _ c.requires) (rw c.pairs_at.ensures at c.loop-i.invariant.1) c.loop-i.invariant.0 c.loop-i-test.false)
