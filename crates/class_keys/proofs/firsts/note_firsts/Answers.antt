-- `note_firsts` meets its contract: with each turn one step more is noted.
use Prim.Native.Nat.{◌-◌}
use native.Mathlib.Omega.{arith}
use Rattle.pack_read.specs.Held.{readable}
use Rattle.class_keys.specs.Firsts.{noting-none, noting-placed, noting-left, noting_small, noting-room, noting-more, noting-all}
use Rattle.class_keys.proofs.firsts.note_firsts.Goals as goal

pub count-steps-requires : goal.count-steps-requires
count-steps-requires c = (c.requires.held.cataloged.fits, omega arith)

pub loop-s-init : goal.loop-s-init
loop-s-init c = noting-none _ _ _ _ c.requires _ c.count-steps.ensures

pub step_judgment-n-requires : goal.step_judgment-n-requires
step_judgment-n-requires c = let q = noting-placed _ _ _ _ c.requires _ _ c.loop-s.invariant in (readable _ _ _ q.held, noting-left _ _ _ _ c.requires _ _ c.loop-s.invariant _ (omega (arith, c.loop-s-test.true)))

pub overflow_cast-work : goal.overflow_cast-work
overflow_cast-work c = omega (arith, noting_small _ _ _ _ c.requires _ _ c.loop-s.invariant (c.loop-s.s - 1) (omega (arith, c.loop-s-test.true)) _ c.step_judgment-n.ensures)

pub bounds-work-at : goal.bounds-work-at
bounds-work-at c = noting-room _ _ _ _ c.requires _ _ c.loop-s.invariant (c.loop-s.s - 1) (omega (arith, c.loop-s-test.true)) _ c.step_judgment-n.ensures

pub loop-s-preserved : goal.loop-s-preserved
loop-s-preserved c = noting-more _ _ _ _ c.requires _ _ c.loop-s.invariant (c.loop-s.s - 1) (omega (arith, c.loop-s-test.true)) _ c.step_judgment-n.ensures

pub returns : goal.returns
returns c = record { noted = noting-all _ _ _ _ c.requires _ _ c.loop-s.invariant (omega (arith, c.loop-s-test.false)); frame = c.loop-s.invariant.outside }
