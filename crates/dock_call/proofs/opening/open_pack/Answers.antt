-- `open_pack` meets its contract.
use Rattle.dock_call.specs.Lengths.{lent_of}
use Rattle.dock_call.specs.Opening.{lengths-refused, room, takes_opens}
use mathlib.Core.Path.{sym}
use Rattle.std.proofs.lemmas.Result.{err_from_is_err_and}
use Rattle.dock_call.proofs.opening.open_pack.Goals as goal

pub take_pack-requires : goal.take_pack-requires
take_pack-requires c = let a = c.args in room (lent_of a.l) a.pack.now c.in_ok-test_lengths.ensures a.work.now c.requires.0 c.requires.1

pub returns-in_err-test_lengths : goal.returns-in_err-test_lengths
returns-in_err-test_lengths c =
    let p = err_from_is_err_and c.from_residual.result c.from_residual.ensures.1 in
    rw (p.1, p.2) (lengths-refused (lent_of c.args.l) c.args.pack.now _ c.in_err-test_lengths.ensures)

pub returns : goal.returns
returns c = let a = c.args in takes_opens a.l a.pack.now c.take_pack.new.work c.take_pack.result (sym c.in_ok-test_lengths.ensures) c.take_pack.ensures
