-- `run` meets its contract.
use Prim.Native.Nat.{◌-◌}
use Rattle.term_copy.specs.Runs.{loops_at, loops_ready, loops_done, loops_on, loops_fewer, loops_short}
use native.Mathlib.Omega.{arith}
use Rattle.term_copy.proofs.copy.run.Goals as goal

pub advance-requires : goal.advance-requires
advance-requires c =
    let g = c.loop-top in
    loops_ready _ _ _ _ _ _ _ _ _ _ _ _ (loops_at _ _ _ _ _ _ _ _ _ _ _ g.top c.loop-top-test.true g.invariant) c.requires

pub loop-top-smaller : goal.loop-top-smaller
loop-top-smaller c =
    let g = c.loop-top in
    let v = c.advance in
    loops_fewer _ _ _ _ _ _ _ _ _ _ _ g.top c.loop-top-test.true g.invariant c.requires v.new.work v.new.cells _ _ (rw c.in_ok-top.was at v.ensures)

pub loop-top-preserved : goal.loop-top-preserved
loop-top-preserved c =
    let g = c.loop-top in
    let v = c.advance in
    let L = loops_at _ _ _ _ _ _ _ _ _ _ _ g.top c.loop-top-test.true g.invariant in
    loops_on _ _ _ _ _ _ _ _ _ _ _ (g.top - 1) L v.new.work v.new.cells _ _ v.auto.cells (rw c.in_ok-top.was at v.ensures)

pub returns-in_err-top : goal.returns-in_err-top
returns-in_err-top c =
    let g = c.loop-top in
    let v = c.advance in
    let L = loops_at _ _ _ _ _ _ _ _ _ _ _ g.top c.loop-top-test.true g.invariant in
    rw c.from_residual.ensures (loops_short _ _ _ _ _ _ _ _ _ _ _ (g.top - 1) L v.new.work v.new.cells (rw c.in_err-top.was at v.ensures))

pub returns : goal.returns
returns c = let g = c.loop-top in loops_done _ _ _ _ _ _ _ _ _ _ _ g.top (omega (arith, c.loop-top-test.false)) g.invariant
