-- `push_judgments` meets its contract: with each turn the judgment of one ref more stands on the stack.
use native.Mathlib.Omega.{arith}
use Rattle.pack_read.specs.Held.{readable}
use Rattle.check_steps.specs.Pushed.{step_recorded, judgments_own, judgments-left, judgments-room, ref_recorded, judgments-more, judgments-all}
use Rattle.check_steps.proofs.pending.push_judgments.Goals as goal

pub step_judgment-requires : goal.step_judgment-requires
step_judgment-requires c = let p = c.requires in (readable _ _ _ p.0, step_recorded _ _ _ p.0 _ p.1)

pub step_refs-refs-requires : goal.step_refs-refs-requires
step_refs-refs-requires c = let p = c.requires in (readable _ _ _ p.0, step_recorded _ _ _ p.0 _ p.1)

pub loop-k-init : goal.loop-k-init
loop-k-init c = judgments_own _ _ _ _ _ _ c.step_judgment.result.0 c.step_judgment.ensures c.step_refs-refs.ensures _ c.push-on.result c.push-on.ensures.stack

pub step_ref-r-requires : goal.step_ref-r-requires
step_ref-r-requires c =
    let p = c.requires in
    (readable _ _ _ p.0, step_recorded _ _ _ p.0 _ p.1, judgments-left _ _ _ _ _ _ _ _ c.loop-k.invariant p.0 c.loop-k-test.true)

pub step_judgment-requires-in-loop-k : goal.step_judgment-requires-in-loop-k
step_judgment-requires-in-loop-k c =
    let p = c.requires in
    (readable _ _ _ p.0, ref_recorded _ _ _ _ _ _ _ _ c.loop-k.invariant p.0 p.1 c.loop-k-test.true c.step_ref-r.result c.step_ref-r.ensures)

pub push-on-requires-in-loop-k : goal.push-on-requires-in-loop-k
push-on-requires-in-loop-k c = let p = c.requires in judgments-room _ _ _ _ _ _ _ _ c.loop-k.invariant p.0 (omega (arith, p.2, c.push-on.auto.words)) c.loop-k-test.true

pub loop-k-preserved : goal.loop-k-preserved
loop-k-preserved c =
    judgments-more _ _ _ _ _ _ _ _ c.loop-k.invariant c.loop-k-test.true c.step_ref-r.result c.step_judgment-in-loop-k.result.0 c.step_ref-r.ensures c.step_judgment-in-loop-k.ensures
    c.push-on-in-loop-k.new.words c.push-on-in-loop-k.result c.push-on-in-loop-k.auto.words c.push-on-in-loop-k.ensures.stack

pub returns : goal.returns
returns c = judgments-all _ _ _ _ _ _ _ _ c.loop-k.invariant c.loop-k-test.false
