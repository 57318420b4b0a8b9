-- `enter_hypothesis` meets its contract.
use mathlib.Core.Path.{ap}
use native.Mathlib.Omega.{arith}
use Rattle.emit_maps.specs.declared.maps.Maps.{Maps}
use Rattle.emit_state.specs.Writes.{maps_laid}
use Rattle.emit_case.specs.Hypotheses.{hyps_failed, entered}
use Rattle.emit_case.proofs.suppose.enter_hypothesis.Goals as goal

pub enter_hyp-requires : goal.enter_hyp-requires
enter_hyp-requires c =
    let m = c.maps-maps.ensures in
    (rw m (maps_laid _ _ c.requires.0.laid), omega (arith, c.requires.1, ap (λ (h : Maps). h.room) m), c.requires.2)

pub clear-failed-requires : goal.clear-failed-requires
clear-failed-requires c =
    let f = c.failed-from.ensures in
    let t = c.replaced-to.ensures in
    let S = rw c.maps-maps.ensures at c.enter_hyp.ensures in
    (omega (arith, f, t), omega (arith, t, c.requires.0.laid.within, c.enter_hyp.auto.work), rw (f, t, hyps_failed _ _ _ c.requires.0.laid S.outside) c.requires.0.remembers)

pub returns : goal.returns
returns c =
    let f = c.failed-from.ensures in
    let t = c.replaced-to.ensures in
    entered _ _ _ _ _ _ (rw (f, t) at c.clear-failed.ensures) _ _ (rw c.maps-maps.ensures at c.enter_hyp.ensures)
