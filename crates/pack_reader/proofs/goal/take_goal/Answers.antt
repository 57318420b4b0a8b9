-- `take_goal` meets its contract.
use native.Mathlib.Omega.{arith}
use Rattle.pack_reader.specs.Taking.{goals_keyed}
use Rattle.pack_reader.specs.Named.{rest_misnamed, rest_named}
use Rattle.pack_reader.specs.Goal.{node_sorted, short_goal, nodeless_goal, unjudged_goal, misnamed_goal, enter_goal, new-goal, old-goal}
use mathlib.Core.Bool.{not}
use Rattle.std.proofs.Common.{ap}
use Rattle.pack_reader.proofs.goal.take_goal.Goals as goal

pub returns-then-body-lt-GOAL_NAME : goal.returns-then-body-lt-GOAL_NAME
returns-then-body-lt-GOAL_NAME c = short_goal _ _ _ _ _ c.requires.0 c.requires.1 c.if-body-lt-GOAL_NAME.true

pub count-requires : goal.count-requires
count-requires c = (c.requires.0.cataloged.fits, omega arith)

pub returns-then-count-node : goal.returns-then-count-node
returns-then-count-node c = nodeless_goal _ _ _ _ _ c.requires.0 c.requires.1 (omega (arith, c.if-body-lt-GOAL_NAME.false)) (omega (arith, c.if-count-node.true, c.count.ensures, c.u32_at.ensures))

pub node_sort-requires : goal.node_sort-requires
node_sort-requires c = node_sorted _ _ _ _ c.requires.0.cataloged c.requires.2 (omega (arith, c.if-count-node.false, c.count.ensures))

pub returns-then-node_sort : goal.returns-then-node_sort
returns-then-node_sort c = unjudged_goal _ _ _ _ _ c.requires.0 c.requires.1 (omega (arith, c.if-body-lt-GOAL_NAME.false)) (omega (arith, c.if-count-node.false, c.count.ensures, c.u32_at.ensures)) c.node_sort.result (rw c.u32_at.ensures at c.node_sort.ensures) c.if-node_sort.true

pub returns-then-not-is_name : goal.returns-then-not-is_name
returns-then-not-is_name c = misnamed_goal _ _ _ _ _ c.requires.0 c.requires.1 (omega (arith, c.if-body-lt-GOAL_NAME.false)) (omega (arith, c.if-count-node.false, c.count.ensures, c.u32_at.ensures)) c.node_sort.result (rw c.u32_at.ensures at c.node_sort.ensures) c.if-node_sort.false (rest_misnamed c.args.body.now 4 c.is_name.result c.is_name.ensures (ap not c.if-not-is_name.true))

pub enter-requires : goal.enter-requires
enter-requires c = (enter_goal _ _ _ _ _ c.requires.0 c.requires.1 (omega (arith, c.if-body-lt-GOAL_NAME.false)) (omega (arith, c.if-count-node.false, c.count.ensures, c.u32_at.ensures)) c.node_sort.result (rw c.u32_at.ensures at c.node_sort.ensures) c.if-node_sort.false (rest_named c.args.body.now 4 c.is_name.result c.is_name.ensures (ap not c.if-not-is_name.false)), goals_keyed)

pub returns-in-New : goal.returns-in-New
returns-in-New c = new-goal _ _ _ _ _ c.requires.0 c.requires.1 (omega (arith, c.if-body-lt-GOAL_NAME.false)) (omega (arith, c.if-count-node.false, c.count.ensures, c.u32_at.ensures)) c.node_sort.result (rw c.u32_at.ensures at c.node_sort.ensures) c.if-node_sort.false (rest_named c.args.body.now 4 c.is_name.result c.is_name.ensures (ap not c.if-not-is_name.false)) _ c.in-New.ensures

pub returns-in-Old : goal.returns-in-Old
returns-in-Old c = old-goal _ _ _ _ _ c.requires.0 c.requires.1 (omega (arith, c.if-body-lt-GOAL_NAME.false)) (omega (arith, c.if-count-node.false, c.count.ensures, c.u32_at.ensures)) c.node_sort.result (rw c.u32_at.ensures at c.node_sort.ensures) c.if-node_sort.false (rest_named c.args.body.now 4 c.is_name.result c.is_name.ensures (ap not c.if-not-is_name.false)) _ c.in-Old.ensures
