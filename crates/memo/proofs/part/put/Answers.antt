-- `put` meets its contract.
use Rattle.memo.specs.Lent.{puts}
use Rattle.memo.proofs.part.put.Goals as goal

pub returns : goal.returns
returns c =
    let a = c.args in
    let p = c.requires in
    let i = c.insert in
    puts a.work.now a.from a.to a.memo a.k a.v p.0 p.1 p.3 i.new.table i.auto.table i.ensures.0 i.ensures.1
