-- `enter` meets its contract.
use native.Mathlib.Omega.{arith}
use Rattle.emit_maps.specs.Map.{word-within}
use Rattle.emit_maps.specs.Entering.{entered_at}
use Rattle.emit_maps.proofs.trail.enter.Goals as goal

pub mark-length-requires : goal.mark-length-requires
mark-length-requires c =
    let w = word-within c.args.m 4 c.args.map c.args.p c.requires.1 c.requires.2 in
    let e = c.place-at.ensures in
    (c.requires.0, omega (arith, e), omega (arith, e, w), c.requires.4)

pub offset_bounds-work-at : goal.offset_bounds-work-at
offset_bounds-work-at c =
    omega (arith, c.requires.0.small, c.place-at.ensures, word-within c.args.m 4 c.args.map c.args.p c.requires.1 c.requires.2)

pub bounds-work-at : goal.bounds-work-at
bounds-work-at c =
    omega (arith, c.requires.0.within, c.mark-length.auto.work, c.place-at.ensures, word-within c.args.m 4 c.args.map c.args.p c.requires.1 c.requires.2)

pub returns : goal.returns
returns c =
    let q = c.place-at in
    let r = c.mark-length in
    entered_at _ _ c.requires.0 _ _ _ _ c.requires.1 c.requires.2 c.requires.4 _ q.ensures _ _ r.ensures
