-- `fix_premises` meets its contract.
use Rattle.class_solve.specs.AllValues.{cleared-begun, gives_all}
use Rattle.class_solve.proofs.values.fix_premises.Goals as goal

pub clear-requires : goal.clear-requires
clear-requires c = (c.requires.placed, (c.requires.graph, c.requires.shows))

pub fix_each-requires : goal.fix_each-requires
fix_each-requires c = cleared-begun _ _ _ _ _ _ _ _ _ c.requires _ c.clear.ensures

pub returns : goal.returns
returns c = gives_all _ _ _ _ _ _ _ _ _ c.requires _ c.clear.ensures c.fix_each.new.work c.fix_each.result c.fix_each.ensures
