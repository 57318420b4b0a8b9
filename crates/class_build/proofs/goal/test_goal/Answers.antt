-- `test_goal` meets its contract: the instance test of the goal's judgment against the conclusion of its class is the definition's.
use Rattle.pack_read.specs.Held.{readable}
use Rattle.class_build.specs.OneGoal.{one-unmet, answer_recorded, answer_asks, row_asks, instance_asks, one-met, one-other}
use Rattle.class_build.proofs.goal.test_goal.Goals as goal

pub goal_step-requires : goal.goal_step-requires
goal_step-requires c = let p = c.requires in (p.0.given.held, p.1)

pub first_of-f-requires : goal.first_of-f-requires
first_of-f-requires c =
    let p = c.requires in
    let a = c.args in
    (p.0.ready.noted, answer_recorded _ _ _ _ _ _ _ _ _ a.g _ c.in-Some.ensures _ _ p.0)

pub row_of-row-requires : goal.row_of-row-requires
row_of-row-requires c =
    let p = c.requires in
    let a = c.args in
    answer_asks _ _ _ _ _ _ _ _ _ a.g _ c.in-Some.ensures _ _ p.0 _ c.first_of-f.ensures

pub row_conclusion-p-requires : goal.row_conclusion-p-requires
row_conclusion-p-requires c =
    let p = c.requires in
    let a = c.args in
    row_asks _ _ _ _ _ _ _ _ _ a.g _ c.in-Some.ensures _ _ p.0 _ c.first_of-f.ensures _ c.row_of-row.ensures

pub goal_judgment-m-requires : goal.goal_judgment-m-requires
goal_judgment-m-requires c = let p = c.requires in (readable _ _ _ p.0.given.held, p.1)

pub instance-requires : goal.instance-requires
instance-requires c =
    let p = c.requires in
    let a = c.args in
    instance_asks _ _ _ _ _ _ _ _ _ a.g _ c.in-Some.ensures _ _ p.0 _ c.first_of-f.ensures p.1 _ c.row_of-row.ensures _ c.row_conclusion-p.ensures _ c.goal_judgment-m.ensures

pub returns : goal.returns
returns c =
    let a = c.args in
    one-met _ _ _ _ _ _ _ _ _ a.g _ c.in-Some.ensures _ _ _ _ c.first_of-f.ensures c.row_of-row.ensures c.row_conclusion-p.ensures c.goal_judgment-m.ensures c.requires.1 _ _ _ c.in-Some-instance.ensures

pub returns-in_default-instance : goal.returns-in_default-instance
returns-in_default-instance c =
    let a = c.args in
    one-other _ _ _ _ _ _ _ _ _ a.g _ c.in-Some.ensures _ _ _ _ c.first_of-f.ensures c.row_of-row.ensures c.row_conclusion-p.ensures c.goal_judgment-m.ensures _ c.in_default-instance.ensures

pub returns-in_default : goal.returns-in_default
returns-in_default c = let a = c.args in one-unmet _ _ _ _ _ _ _ _ _ a.g c.in_default.ensures
