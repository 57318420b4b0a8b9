-- `take_step` meets its contract.
use native.Mathlib.Omega.{arith}
use Rattle.pack_reader.specs.Taking.{steps_unkeyed}
use Rattle.pack_reader.specs.Sound.{readable}
use Rattle.pack_reader.specs.Step.{judgment-headed, rule_long, bad_short, bad_rule, bad_node, bad_judgment, bad_length, bad_ref, push_step, new-step}
use mathlib.Core.Bool.{not}
use Rattle.std.proofs.Common.{ap}
use Rattle.pack_reader.proofs.step.take_step.Goals as goal

pub returns-then-body-lt8 : goal.returns-then-body-lt8
returns-then-body-lt8 c = bad_short _ _ _ _ _ c.requires.0 c.requires.1 c.requires.2 (omega arith)

pub returns-then-count-rule : goal.returns-then-count-rule
returns-then-count-rule c = bad_rule _ _ _ _ _ c.requires.0 c.requires.1 c.requires.2 (omega arith) _ c.u32_at-rule.ensures (omega (arith, c.count.ensures))

pub returns-then-count-judgment : goal.returns-then-count-judgment
returns-then-count-judgment c = bad_node _ _ _ _ _ c.requires.0 c.requires.1 c.requires.2 (omega arith) _ c.u32_at-rule.ensures (omega (arith, c.count.ensures)) _ c.u32_at.ensures (omega (arith, c.count-2.ensures))

pub node_sort-requires : goal.node_sort-requires
node_sort-requires c = (
  readable _ _ _ c.requires.0.cataloged c.requires.2,
  omega (arith, c.count-2.ensures),
  judgment-headed _ _ _ _ _ c.requires.0 c.requires.1 c.requires.2 _ (omega (arith, c.count-2.ensures)),
)

pub returns-then-node_sort : goal.returns-then-node_sort
returns-then-node_sort c = bad_judgment _ _ _ _ _ c.requires.0 c.requires.1 c.requires.2 (omega arith) _ c.u32_at-rule.ensures (omega (arith, c.count.ensures)) _ c.u32_at.ensures (omega (arith, c.count-2.ensures)) _ c.node_sort.ensures c.if-node_sort.true

pub body_half-premises-requires : goal.body_half-premises-requires
body_half-premises-requires c = (
  c.requires.0.cataloged,
  omega arith,
  omega (arith, c.count.ensures),
  rule_long _ _ _ _ _ c.requires.0 c.requires.1 c.requires.2 _ (omega (arith, c.count.ensures)),
)

pub returns-then-body-premises : goal.returns-then-body-premises
returns-then-body-premises c = bad_length _ _ _ _ _ c.requires.0 c.requires.1 c.requires.2 (omega arith) _ c.u32_at-rule.ensures (omega (arith, c.count.ensures)) _ c.u32_at.ensures (omega (arith, c.count-2.ensures)) _ c.node_sort.ensures c.if-node_sort.false _ c.body_half-premises.ensures c.if-body-premises.true

pub returns-then-not-all_below : goal.returns-then-not-all_below
returns-then-not-all_below c = bad_ref _ _ _ _ _ c.requires.0 c.requires.1 c.requires.2 (omega arith) _ c.u32_at-rule.ensures (omega (arith, c.count.ensures)) _ c.u32_at.ensures (omega (arith, c.count-2.ensures)) _ c.node_sort.ensures c.if-node_sort.false _ c.body_half-premises.ensures c.if-body-premises.false _ c.count-steps.ensures c.all_below.result c.all_below.ensures (ap not c.if-not-all_below.true)

pub overflow_add-at : goal.overflow_add-at
overflow_add-at c = let p = c.requires.1 in omega (arith, p.inside)

pub push-requires : goal.push-requires
push-requires c = (push_step _ _ _ _ _ c.requires.0 c.requires.1 c.requires.2 (omega arith) _ c.u32_at-rule.ensures (omega (arith, c.count.ensures)) _ c.u32_at.ensures (omega (arith, c.count-2.ensures)) _ c.node_sort.ensures c.if-node_sort.false _ c.body_half-premises.ensures c.if-body-premises.false _ c.count-steps.ensures c.all_below.result c.all_below.ensures (ap not c.if-not-all_below.false), steps_unkeyed)

pub returns : goal.returns
returns c = new-step _ _ _ _ _ c.requires.0 c.requires.1 c.requires.2 (omega arith) _ c.u32_at-rule.ensures (omega (arith, c.count.ensures)) _ c.u32_at.ensures (omega (arith, c.count-2.ensures)) _ c.node_sort.ensures c.if-node_sort.false _ c.body_half-premises.ensures c.if-body-premises.false _ c.count-steps.ensures c.all_below.result c.all_below.ensures (ap not c.if-not-all_below.false) _ c.push.ensures
