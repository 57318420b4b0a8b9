-- `put_first` meets its contract: two stores.
use Prim.Native.Nat.{◌+◌}
use native.Mathlib.Omega.{arith}
use lib.ListN.{get_or, length-set}
use Rattle.emit_chains.specs.Places.{stored-first, stored-link, stored_outside}
use Rattle.emit_chains.proofs.chain.put_first.Goals as goal

pub bounds-work-at-2 : goal.bounds-work-at-2
bounds-work-at-2 c =
    let a = c.args in
    let p = c.requires in
    omega (arith, length-set a.work.now (a.chains.next + a.i) (get_or a.work.now (a.chains.first + a.key) 0), p.0.apart, p.0.room, p.1)

pub returns : goal.returns
returns c =
    let a = c.args in
    let p = c.requires in record { first = stored-first a.work.now a.chains p.0 a.key a.i (a.i + 1) p.1 p.2; link = stored-link a.work.now a.chains p.0 a.key a.i (a.i + 1) p.1 p.2; frame = stored_outside a.work.now a.chains p.0 a.key a.i (a.i + 1) p.1 p.2 }
