-- `prepare` meets its contract.
use Rattle.class_conclude.specs.Top.{prepares}
use Rattle.class_conclude.proofs.top.prepare.Goals as goal

pub returns : goal.returns
returns c =
    let a = c.args in
    let p = c.requires in
    prepares a.work.now a.cells.now a.l a.before a.g p.0 p.1 p.2 p.3 c.fill.new.self (rw c.values_at.ensures at (c.fill.ensures.after (λ y e. e))) _ (rw c.values_at.ensures at c.clear.ensures)
