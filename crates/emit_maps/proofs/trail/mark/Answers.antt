-- `mark` meets its contract.
use mathlib.Core.Path.{refl}
use native.Mathlib.Omega.{arith}
use Rattle.emit_maps.specs.Trail.{marks-room, fresh, again}
use Rattle.emit_maps.proofs.trail.mark.Goals as goal

pub returns-then-work-at-ne0 : goal.returns-then-work-at-ne0
returns-then-work-at-ne0 c = again c.if-work-at-ne0.true refl refl

pub overflow_add-end-2 : goal.overflow_add-end-2
overflow_add-end-2 c =
    omega (arith, c.requires.0.small, marks-room _ _ _ _ c.requires.3 c.requires.1 c.requires.2 c.if-work-at-ne0.false)

pub offset_bounds-work-end : goal.offset_bounds-work-end
offset_bounds-work-end c =
    omega (arith, c.requires.0.small, marks-room _ _ _ _ c.requires.3 c.requires.1 c.requires.2 c.if-work-at-ne0.false)

pub bounds-work-end : goal.bounds-work-end
bounds-work-end c =
    omega (arith, c.requires.0.within, marks-room _ _ _ _ c.requires.3 c.requires.1 c.requires.2 c.if-work-at-ne0.false)

pub overflow_add-result : goal.overflow_add-result
overflow_add-result c =
    omega (arith, c.requires.0.small, marks-room _ _ _ _ c.requires.3 c.requires.1 c.requires.2 c.if-work-at-ne0.false)

pub returns : goal.returns
returns c =
    let z = c.if-work-at-ne0.false in
    fresh z (marks-room _ _ _ _ c.requires.3 c.requires.1 c.requires.2 z) refl refl
