-- `finish` meets its contract: each turn leaves less to do.
use mathlib.Core.Path.{◌≡◌}
use native.Mathlib.Omega.{arith}
use Rattle.graph.specs.Cells.{unchanged_then}
use Rattle.graph_unify.specs.Circles.{onward-at, onward_on, onward_less, onward_circle, onward-done}
use Rattle.graph_unify.specs.CircleWords.{path_in, colour_in}
use Rattle.graph_unify.proofs.circle.finish.Goals as goal

pub loop-top-smaller : goal.loop-top-smaller
loop-top-smaller c =
    let m = c.in-Some.ensures in
    onward_less _ _ _ _ _ _ _ _ _ _ (onward-at _ _ _ _ _ _ _ _ _ _ c.loop-top-test.true c.loop-top.invariant.1) c.requires.0 _ _ _ _ m.0

pub loop-top-preserved : goal.loop-top-preserved
loop-top-preserved c =
    let v = c.loop-top.invariant in
    let m = c.in-Some.ensures in
    (unchanged_then _ _ _ _ v.0 m.1, onward_on _ _ _ _ _ _ _ _ _ _ (onward-at _ _ _ _ _ _ _ _ _ _ c.loop-top-test.true v.1) _ _ _ _ m.0)

pub returns-in_default : goal.returns-in_default
returns-in_default c =
    let v = c.loop-top.invariant in
    let t = c.advance.new.table in
    let m = c.in_default.ensures in
    (onward_circle _ _ _ _ _ _ _ _ _ _ (onward-at _ _ _ _ _ _ _ _ _ _ c.loop-top-test.true v.1) t (colour_in c.args.cells.now t) (path_in c.args.cells.now t) m.0, unchanged_then _ _ _ _ v.0 m.1)

pub returns : goal.returns
returns c =
    let z : c.loop-top.top ≡ 0 = omega (arith, c.loop-top-test.false) in
    (onward-done _ _ _ _ _ _ _ _ _ (rw z at c.loop-top.invariant.1), c.loop-top.invariant.0)
