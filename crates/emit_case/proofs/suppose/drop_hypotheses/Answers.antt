-- `drop_hypotheses` meets its contract.
use native.Mathlib.Omega.{arith}
use Rattle.emit_state.specs.Writes.{maps_laid}
use Rattle.emit_case.specs.Hypotheses.{hyps_failed, dropped}
use Rattle.emit_case.proofs.suppose.drop_hypotheses.Goals as goal

pub drop_hyps-requires : goal.drop_hyps-requires
drop_hyps-requires c =
    let m = c.maps-maps.ensures in
    (rw m (maps_laid _ _ c.requires.laid), omega arith, rw m (λ i h. c.requires.below i (omega (arith, h))))

pub clear-failed-requires : goal.clear-failed-requires
clear-failed-requires c =
    let f = c.failed-from.ensures in
    let t = c.replaced-to.ensures in
    let D = rw c.maps-maps.ensures at c.drop_hyps.ensures in
    (omega (arith, f, t), omega (arith, t, c.requires.laid.within, c.drop_hyps.auto.work), rw (f, t, hyps_failed _ _ _ c.requires.laid D.outside) c.requires.remembers)

pub returns : goal.returns
returns c =
    let f = c.failed-from.ensures in
    let t = c.replaced-to.ensures in
    dropped _ _ _ _ _ _ (rw (f, t) at c.clear-failed.ensures) _ (rw c.maps-maps.ensures at c.drop_hyps.ensures)
