-- `step_is_cut` meets its contract.
use Rattle.class_keys.specs.Firsts.{predicate_inside, not-cut, is_cut}
use Rattle.class_keys.proofs.cut.step_is_cut.Goals as goal

pub cut_mark-requires : goal.cut_mark-requires
cut_mark-requires c = let p = c.requires in (p.0.cataloged, p.1, predicate_inside _ _ _ p.0 _ p.2 _ c.step_predicate-p.ensures)

pub returns-then-cut_mark-eq0 : goal.returns-then-cut_mark-eq0
returns-then-cut_mark-eq0 c = let p = c.requires in not-cut _ _ _ p.0 _ p.2 p.1 _ c.step_predicate-p.ensures _ c.cut_mark.ensures c.if-cut_mark-eq0.true

pub returns : goal.returns
returns c = let p = c.requires in is_cut _ _ _ p.0 _ p.2 p.1 _ c.step_predicate-p.ensures _ c.cut_mark.ensures c.if-cut_mark-eq0.false
