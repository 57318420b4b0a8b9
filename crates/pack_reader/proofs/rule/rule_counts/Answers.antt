-- `rule_counts` meets its contract.
use native.Mathlib.Omega.{arith}
use Rattle.pack_reader.specs.Rule.{short_rule, variables_rule, premises-rule, cut-rule, unsorted_rule, counted-rule}
use mathlib.Core.Bool.{not}
use Rattle.std.proofs.Common.{ap}
use Rattle.pack_reader.proofs.rule.rule_counts.Goals as goal

pub returns-then-body-lt-RULE_SORTS : goal.returns-then-body-lt-RULE_SORTS
returns-then-body-lt-RULE_SORTS c = let a = c.args in short_rule a.body.now a.sorts c.if-body-lt-RULE_SORTS.true

pub returns-then-vars-gt-VARIABLES : goal.returns-then-vars-gt-VARIABLES
returns-then-vars-gt-VARIABLES c = let a = c.args in variables_rule a.body.now a.sorts (omega (arith, c.if-body-lt-RULE_SORTS.false)) c.u16_at-vars.result c.u16_at-vars.ensures.0 c.if-vars-gt-VARIABLES.true

pub returns-then-premises-gt-PREMISES : goal.returns-then-premises-gt-PREMISES
returns-then-premises-gt-PREMISES c =
    let a = c.args in
    premises-rule a.body.now a.sorts (omega (arith, c.if-body-lt-RULE_SORTS.false)) c.u16_at-vars.result c.u16_at-vars.ensures.0 (omega (arith, c.if-vars-gt-VARIABLES.false)) c.u16_at-premises.result c.u16_at-premises.ensures.0 c.if-premises-gt-PREMISES.true

pub returns-then-body-vars : goal.returns-then-body-vars
returns-then-body-vars c =
    let a = c.args in
    cut-rule a.body.now a.sorts (omega (arith, c.if-body-lt-RULE_SORTS.false)) c.u16_at-vars.result c.u16_at-vars.ensures.0 (omega (arith, c.if-vars-gt-VARIABLES.false)) c.u16_at-premises.result c.u16_at-premises.ensures.0 (omega (arith, c.if-premises-gt-PREMISES.false)) c.if-body-vars.true

pub returns-then-not-all_below : goal.returns-then-not-all_below
returns-then-not-all_below c =
    let a = c.args in
    unsorted_rule a.body.now a.sorts (omega (arith, c.if-body-lt-RULE_SORTS.false)) c.u16_at-vars.result c.u16_at-vars.ensures.0 (omega (arith, c.if-vars-gt-VARIABLES.false)) c.u16_at-premises.result c.u16_at-premises.ensures.0 (omega (arith, c.if-premises-gt-PREMISES.false)) (omega (arith, c.if-body-vars.false))
    c.all_below.result c.all_below.ensures (ap not c.if-not-all_below.true)

pub returns : goal.returns
returns c =
    let a = c.args in
    counted-rule a.body.now a.sorts (omega (arith, c.if-body-lt-RULE_SORTS.false)) c.u16_at-vars.result c.u16_at-vars.ensures.0 (omega (arith, c.if-vars-gt-VARIABLES.false)) c.u16_at-premises.result c.u16_at-premises.ensures.0 (omega (arith, c.if-premises-gt-PREMISES.false)) (omega (arith, c.if-body-vars.false))
    c.all_below.result c.all_below.ensures (ap not c.if-not-all_below.false)
