-- `put_marks` meets its contract.
use Rattle.class_cut.specs.Marks.{marked_filled}
use Rattle.class_cut.proofs.row.put_marks.Goals as goal

pub returns : goal.returns
returns c = let a = c.args in marked_filled a.class.now a.at a.n c.requires c.fill.new.self (c.fill.ensures.after (λ y e. e))
