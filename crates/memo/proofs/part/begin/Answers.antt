-- `begin` meets its contract.
use Prim.Native.Nat.{◌/◌}
use lib.ListN.{length}
use Rattle.memo.specs.Lent.{lent, clears}
use Rattle.memo.proofs.part.begin.Goals as goal

pub returns : goal.returns
returns c =
    let a = c.args in
    let p = c.requires in
    let i = c.new in
    clears a.work.now a.from a.to i.result (length (lent a.from a.to a.work.now) / 2) p.0 p.1 i.new.table i.auto.table i.ensures.0 i.ensures.1
