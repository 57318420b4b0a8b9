-- `begin_tables` meets its contract.
use Rattle.emit_state.specs.Writes.{maps_laid}
use Rattle.emit_state.specs.Begin.{emptied}
use Rattle.emit_state.proofs.begin.begin_tables.Goals as goal

pub begin-requires : goal.begin-requires
begin-requires c = rw c.maps.ensures (maps_laid _ _ c.requires)

pub returns : goal.returns
returns c =
    let f = c.failed-from.ensures in
    let r = c.replaced-to.ensures in
    let m = c.maps.ensures in
    emptied _ _ _ _ c.args.l _ c.requires (rw m at c.begin.ensures) (rw (f, r) at c.begin-failed.ensures) c.begin_replaced.ensures
