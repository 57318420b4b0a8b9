-- `make_class` meets its contract.
use Rattle.class_all.specs.Class.{making-first, making-held, making-marks, making-step, making-cut, makes_cut, making-rule, makes_rule}
use Rattle.class_all.proofs.class.make_class.Goals as goal

pub class_first-first-requires : goal.class_first-first-requires
class_first-first-requires c = making-first _ _ _ _ _ _ _ _ _ _ _ _ c.requires

pub step_is_cut-requires : goal.step_is_cut-requires
step_is_cut-requires c =
    let K = c.requires in
    (making-held _ _ _ _ _ _ _ _ _ _ _ _ K, making-marks _ _ _ _ _ _ _ _ _ _ _ _ K, making-step _ _ _ _ _ _ _ _ _ _ _ _ K _ c.class_first-first.ensures)

pub step_predicate-p-requires : goal.step_predicate-p-requires
step_predicate-p-requires c =
    let K = c.requires in
    (making-held _ _ _ _ _ _ _ _ _ _ _ _ K, making-step _ _ _ _ _ _ _ _ _ _ _ _ K _ c.class_first-first.ensures)

pub make_cut-requires : goal.make_cut-requires
make_cut-requires c = making-cut _ _ _ _ _ _ _ _ _ _ _ _ c.requires _ c.class_first-first.ensures _ c.step_is_cut.ensures c.if-step_is_cut.true _ c.step_predicate-p.ensures

pub returns-then-step_is_cut : goal.returns-then-step_is_cut
returns-then-step_is_cut c =
    let f = c.make_cut in
    makes_cut _ _ _ _ _ _ _ _ _ _ _ _ c.requires _ c.class_first-first.ensures _ c.step_is_cut.ensures c.if-step_is_cut.true _ c.step_predicate-p.ensures f.new.work f.new.class f.new.words f.result f.ensures

pub step_ruling-u-requires : goal.step_ruling-u-requires
step_ruling-u-requires c =
    let K = c.requires in
    (making-held _ _ _ _ _ _ _ _ _ _ _ _ K, making-step _ _ _ _ _ _ _ _ _ _ _ _ K _ c.class_first-first.ensures)

pub make_rule-requires : goal.make_rule-requires
make_rule-requires c = making-rule _ _ _ _ _ _ _ _ _ _ _ _ c.requires _ c.class_first-first.ensures _ c.step_is_cut.ensures c.if-step_is_cut.false _ c.step_ruling-u.ensures.0 c.step_ruling-u.ensures.1

pub returns : goal.returns
returns c =
    let f = c.make_rule in
    makes_rule _ _ _ _ _ _ _ _ _ _ _ _ c.requires _ c.class_first-first.ensures _ c.step_is_cut.ensures c.if-step_is_cut.false _ c.step_ruling-u.ensures.0 c.step_ruling-u.ensures.1 f.new.work f.new.class f.new.words f.new.cells f.result f.ensures
