-- `clear` meets its contract.
use lib.ListN.{length}
use Rattle.memo.specs.Recall.{recall}
use Rattle.memo.specs.Lent.{lent, clears}
use Rattle.memo.proofs.part.clear.Goals as goal

pub returns : goal.returns
returns c =
    let a = c.args in
    let p = c.requires in
    let i = c.clear in
    clears a.work.now a.from a.to i.result (length (recall (lent a.from a.to a.work.now) a.memo)) p.0 p.1 i.new.table i.auto.table i.ensures.0 i.ensures.1
