-- `fix_premise` meets its contract.
use Rattle.class_solve.specs.OneValue.{ref-asked, judgment-asked, node-asked, gives}
use Rattle.class_solve.proofs.values.fix_premise.Goals as goal

pub step_ref-r-requires : goal.step_ref-r-requires
step_ref-r-requires c = ref-asked _ _ _ _ _ _ _ _ _ c.requires

pub step_judgment-n-requires : goal.step_judgment-n-requires
step_judgment-n-requires c = judgment-asked _ _ _ _ _ _ _ _ _ c.requires _ c.step_ref-r.ensures

pub fix-requires : goal.fix-requires
fix-requires c = (c.requires.values, c.requires.node, node-asked _ _ _ _ _ _ _ _ _ c.requires _ c.step_ref-r.ensures _ c.step_judgment-n.ensures)

pub returns : goal.returns
returns c = gives _ _ _ _ _ _ _ _ _ c.requires _ c.step_ref-r.ensures _ c.step_judgment-n.ensures c.fix.new.work c.fix.result c.fix.ensures
