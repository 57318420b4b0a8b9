-- `begin_row` meets its contract: four stores.
use Rattle.class_premises.specs.Row.{begun}
use Rattle.class_premises.proofs.row.begin_row.Goals as goal

pub returns : goal.returns
returns c = let a = c.args in begun a.work.now a.class.now a.l a.fill a.i a.conclusion.0 a.count a.n c.requires
