-- `count_coloured` meets its contract.
use native.Mathlib.Omega.{arith}
use Rattle.class_conclude.specs.Fixed.{asked_few, looked_none, looked_on, looked_all}
use Rattle.class_conclude.proofs.fixed.count_coloured.Goals as goal

pub loop-x-init : goal.loop-x-init
loop-x-init c = looked_none _ _ _ _

pub overflow_cast-x : goal.overflow_cast-x
overflow_cast-x c =
    let p = c.requires in
    omega (arith, asked_few _ _ _ _ _ (record { held = p; node = c.loop-x-test.true }), p.coloured.stands.shows.laid.small, c.loop-x-test.true)

pub fixes-k-requires : goal.fixes-k-requires
fixes-k-requires c = record { held = c.requires; node = c.loop-x-test.true }

pub loop-x-preserved : goal.loop-x-preserved
loop-x-preserved c = looked_on _ _ _ _ _ _ _ c.loop-x.invariant c.loop-x-test.true c.fixes-k.ensures

pub returns : goal.returns
returns c = looked_all _ _ _ _ _ _ c.loop-x.invariant (omega (arith, c.loop-x-test.false))
