-- `remember` meets its contract.
use mathlib.Core.Path.{ap}
use native.Mathlib.Omega.{arith}
use Rattle.emit_maps.specs.declared.maps.Maps.{Maps}
use Rattle.emit_state.specs.Writes.{maps_laid}
use Rattle.emit_search.specs.Known.{entered_failed, remembered_under, remembered_alone}
use Rattle.emit_search.proofs.known.remember.Goals as goal

pub returns-then-m-ne0 : goal.returns-then-m-ne0
returns-then-m-ne0 c = remembered_under _ _ _ _ _ c.if-m-ne0.true

pub enter-trail-requires : goal.enter-trail-requires
enter-trail-requires c =
    let m = c.maps-maps.ensures in
    (rw m (maps_laid _ _ c.requires.0.laid), omega arith, omega (arith, c.requires.1, ap (λ (h : Maps). h.room) m), c.requires.2, rw m c.requires.0.counted)

pub clear-failed-requires : goal.clear-failed-requires
clear-failed-requires c =
    let f = c.failed-from.ensures in
    let t = c.replaced-to.ensures in
    let m = c.maps-maps.ensures in
    let E = rw m at c.enter-trail.ensures in (
      omega (arith, f, t),
      omega (arith, t, c.requires.0.laid.within, c.enter-trail.auto.work),
      rw (f, t, entered_failed _ _ _ c.requires.0.laid _ _ _ _ _ E) c.requires.0.remembers,
    )

pub returns : goal.returns
returns c =
    let f = c.failed-from.ensures in
    let t = c.replaced-to.ensures in
    let m = c.maps-maps.ensures in
    remembered_alone _ _ _ _ _ _ _ _ (rw (f, t) at c.clear-failed.ensures) _ (omega arith) (rw m at c.enter-trail.ensures)
