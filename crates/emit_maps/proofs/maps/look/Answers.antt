-- `look` meets its contract.
use native.Mathlib.Omega.{arith}
use Rattle.emit_maps.specs.Map.{word-within}
use Rattle.emit_maps.specs.Asking.{looked_nothing, looked_number}
use Rattle.emit_maps.proofs.maps.look.Goals as goal

pub offset_bounds-work-place : goal.offset_bounds-work-place
offset_bounds-work-place c =
    omega (arith, c.requires.0.small, c.place.ensures, word-within c.args.m 5 c.args.map c.args.p c.requires.1 c.requires.2)

pub bounds-work-place : goal.bounds-work-place
bounds-work-place c =
    omega (arith, c.requires.0.within, c.place.ensures, word-within c.args.m 5 c.args.map c.args.p c.requires.1 c.requires.2)

pub returns-then-word-eq0 : goal.returns-then-word-eq0
returns-then-word-eq0 c =
    let at = c.place in
    looked_nothing _ _ _ _ _ c.requires.2 at.ensures c.if-word-eq0.true

pub returns : goal.returns
returns c =
    let at = c.place in
    looked_number _ _ _ _ _ c.requires.2 at.ensures c.if-word-eq0.false
