-- `unify` meets its contract.
use mathlib.Core.Path.{◌≡◌, ◌∙◌}
use Prim.Native.Nat.{◌+◌}
use native.Mathlib.Omega.{arith}
use Rattle.graph.specs.Cells.{rows_end}
use Rattle.graph_unify.specs.Unifies.{first_long, first-held, topmost_at, going_first, joined-first, clash_first, going_at, going_ready, going_few, going_on, going_clash, going_done}
use Rattle.graph_unify.proofs.unify.unify.Goals as goal

pub take_pair-requires : goal.take_pair-requires
take_pair-requires c =
    let p = c.requires in
    let I = rw c.pairs_at-rows.ensures at c.loop-p.invariant in
    let G = going_at _ _ _ _ _ _ _ _ c.loop-p-test.true (I.1 _ _ (going_first _ c.args.table.now _ _ _ p.3 p.1 p.2)) in
    let T = topmost_at c.args.cells.now c.loop-p.table c.loop-p.p c.loop-p-test.true I.2 in
    (going_ready _ _ _ _ _ _ _ _ G (first-held _ c.args.table.now _ _ _ p.3 p.0), omega (arith, I.0, p.3, first_long c.args.table.now (rows_end c.args.cells.now) c.args.x.0 (rows_end c.args.cells.now + 1) c.args.y.0), T.0, T.1)

pub overflow_add-taken : goal.overflow_add-taken
overflow_add-taken c =
    let p = c.requires in
    let G = going_at _ _ _ _ _ _ _ _ c.loop-p-test.true ((rw c.pairs_at-rows.ensures at c.loop-p.invariant.1) _ _ (going_first _ c.args.table.now _ _ _ p.3 p.1 p.2)) in
    let n = going_few _ _ _ _ _ _ _ _ G (first-held _ c.args.table.now _ _ _ p.3 p.0) in
    omega (arith, p.0.1.laid.fits, p.0.1.laid.small)

pub loop-p-smaller : goal.loop-p-smaller
loop-p-smaller c =
    let p = c.requires in
    let G = going_at _ _ _ _ _ _ _ _ c.loop-p-test.true ((rw c.pairs_at-rows.ensures at c.loop-p.invariant.1) _ _ (going_first _ c.args.table.now _ _ _ p.3 p.1 p.2)) in
    let n = going_few _ _ _ _ _ _ _ _ G (first-held _ c.args.table.now _ _ _ p.3 p.0) in
    omega arith

pub loop-p-preserved : goal.loop-p-preserved
loop-p-preserved c =
    let p = c.requires in
    let E = c.in-Some.ensures in
    rw c.pairs_at-rows.ensures (c.take_pair.auto.table ∙ rw c.pairs_at-rows.ensures at c.loop-p.invariant.0, λ x y F. going_on _ _ _ _ _ _ _ _ (going_at _ _ _ _ _ _ _ _ c.loop-p-test.true ((rw c.pairs_at-rows.ensures at c.loop-p.invariant.1) x y F)) (first-held _ c.args.table.now _ _ _ p.3 p.0) _ _ c.in-Some.ensures, E.2)

pub overflow_add-result : goal.overflow_add-result
overflow_add-result c =
    let p = c.requires in
    let G = going_at _ _ _ _ _ _ _ _ c.loop-p-test.true ((rw c.pairs_at-rows.ensures at c.loop-p.invariant.1) _ _ (going_first _ c.args.table.now _ _ _ p.3 p.1 p.2)) in
    let n = going_few _ _ _ _ _ _ _ _ G (first-held _ c.args.table.now _ _ _ p.3 p.0) in
    omega (arith, p.0.1.laid.fits, p.0.1.laid.small)

pub returns-in_default : goal.returns-in_default
returns-in_default c =
    let p = c.requires in
    let G = going_at _ _ _ _ _ _ _ _ c.loop-p-test.true ((rw c.pairs_at-rows.ensures at c.loop-p.invariant.1) _ _ (going_first _ c.args.table.now _ _ _ p.3 p.1 p.2)) in
    clash_first c.args.cells.now c.args.table.now c.args.g c.args.x.0 c.args.y.0 p.3 c.take_pair.new.table _ (going_clash _ _ _ _ _ _ _ _ G (first-held _ c.args.table.now _ _ _ p.3 p.0) c.take_pair.new.table c.in_default.ensures)

pub returns : goal.returns
returns c =
    let z : c.loop-p.p.top ≡ 0 = omega (arith, c.loop-p-test.false) in
    let p = c.requires in
    joined-first c.args.cells.now c.args.table.now c.args.g c.args.x.0 c.args.y.0 p.3 _ _ (going_done _ _ _ _ _ _ _ (rw z at ((rw c.pairs_at-rows.ensures at c.loop-p.invariant.1) _ _ (going_first _ c.args.table.now _ _ _ p.3 p.1 p.2))))
