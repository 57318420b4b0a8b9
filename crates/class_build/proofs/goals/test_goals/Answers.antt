-- `test_goals` meets its contract: with both memos begun the goals can be tested.
use Rattle.class_build.specs.Tests.{made-seen, made-values, begun_testable, begun_tests}
use Rattle.class_build.proofs.goals.test_goals.Goals as goal

pub begin-seen-requires : goal.begin-seen-requires
begin-seen-requires c = made-seen _ _ _ _ _ _ _ _ _ c.requires

pub begin-values-requires : goal.begin-values-requires
begin-values-requires c = made-values _ _ _ _ _ _ _ _ _ c.requires _ _ c.begin-seen.ensures

pub test_each-requires : goal.test_each-requires
test_each-requires c = begun_testable _ _ _ _ _ _ _ _ _ c.requires _ _ c.begin-seen.ensures _ _ c.begin-values.ensures

pub returns : goal.returns
returns c =
    let d = c.test_each in
    begun_tests _ _ _ _ _ _ _ _ _ c.requires _ _ c.begin-seen.ensures _ _ c.begin-values.ensures d.new.work d.result d.ensures
