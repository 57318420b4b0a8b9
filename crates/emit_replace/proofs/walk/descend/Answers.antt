-- `descend` meets its contract.
use native.Mathlib.Omega.{arith}
use Rattle.emit_replace.specs.Reading.{args_in}
use Rattle.emit_replace.specs.Walking.{pending-at, pending-room, open_less, descending_none, descending_more, ripe_before}
use Rattle.emit_replace.proofs.walk.descend.Goals as goal

pub loop-a-init : goal.loop-a-init
loop-a-init c = descending_none _ _ _ _ _ _ _

pub first_open-requires : goal.first_open-requires
first_open-requires c = let W = c.requires in pending-at _ _ _ _ _ _ _ W.0 (c.loop-a.invariant.pending W.0 W.1)

pub push-wait-requires : goal.push-wait-requires
push-wait-requires c =
    let W = c.requires in
    let P = c.loop-a.invariant.pending W.0 W.1 in
    omega (arith, pending-room _ _ _ _ _ _ _ W.0 P, P.readable.laid.within)

pub loop-a-smaller : goal.loop-a-smaller
loop-a-smaller c =
    let W = c.requires in
    let P = c.loop-a.invariant.pending W.0 W.1 in
    open_less _ _ _ _ _ _ _ W.0 P _ c.in-Some.ensures

pub loop-a-preserved : goal.loop-a-preserved
loop-a-preserved c =
    descending_more _ _ _ _ _ _ _ _ _ _ c.requires c.loop-a.invariant _ c.in-Some.ensures _ _ c.push-wait.ensures.stack.0 c.push-wait.ensures.stack.2 c.push-wait.ensures.frame

pub returns : goal.returns
returns c =
    let a = c.args in
    let W = c.requires in
    let D = c.loop-a.invariant in
    record { down = D; ripe = ripe_before _ _ _ _ W.1.readable.laid D.outside (args_in a.words.now a.st c.loop-a.top) c.in-None.ensures }
