-- `match_and_build` meets its contract.
use borrow.Author.Tests.{not-true, not-false}
use native.Mathlib.Omega.{arith}
use Rattle.pack_read.specs.Held.{readable}
use Rattle.emit_premises.specs.Readied.{ready_small, ready_given, ready_pattern, ready_site}
use Rattle.emit_premises.specs.Answered.{matched_to, built_by, answered-none, answered-asked, answered_few, answered-all, answered_lacks, answered_short}
use mathlib.Core.Bool.{not}
use Rattle.std.proofs.Common.{ap, ◌∙◌, Some}
use Rattle.emit_premises.proofs.rule.match_and_build.Goals as goal

pub matching-at-requires : goal.matching-at-requires
matching-at-requires c = let A = c.requires.0 in ready_small _ _ _ A.proof _ _ A.world A.state A.ready

pub match_rule-requires : goal.match_rule-requires
match_rule-requires c =
    let A = c.requires.0 in
    let q = c.matching-at.ensures in
    rw q (ready_given _ _ _ A.proof _ _ A.world A.state A.ready, A.rule, ready_pattern _ _ _ A.proof _ _ A.world A.state A.ready _ A.has)

pub returns-then-not-match_rule : goal.returns-then-not-match_rule
returns-then-not-match_rule c =
    let A = c.requires.0 in
    let q = c.matching-at.ensures in
    let Y = rw q at c.match_rule.ensures.frame in
    let M = matched_to _ _ _ _ _ _ _ A _ Y _ q c.match_rule.result _ (not-true _ (ap not c.if-not-match_rule.true)) c.match_rule.ensures.matched in
    answered-none _ _ _ _ _ _ _ A _ Y M _

pub rule_premises-n-requires : goal.rule_premises-n-requires
rule_premises-n-requires c =
    let A = c.requires.0 in
    let q = c.matching-at.ensures in
    let Y = rw q at c.match_rule.ensures.frame in
    let S = ready_site _ _ _ A.proof _ _ A.world A.state A.ready _ Y in
    rw q (readable _ _ _ S.held, omega (arith, A.rule, S.held.reads.rules.many))

pub build_premises-requires : goal.build_premises-requires
build_premises-requires c =
    let A = c.requires.0 in
    let q = c.matching-at.ensures in
    let Y = rw q at c.match_rule.ensures.frame in
    let M = matched_to _ _ _ _ _ _ _ A _ Y _ q c.match_rule.result _ (not-false _ (ap not c.if-not-match_rule.false)) c.match_rule.ensures.matched in
    let N = rw q at c.rule_premises-n.ensures in
    rw q (answered-asked _ _ _ _ _ _ _ A _ Y M _ N, c.requires.1)

pub returns-in-All : goal.returns-in-All
returns-in-All c =
    let A = c.requires.0 in
    let q = c.matching-at.ensures in
    let Y = rw q at c.match_rule.ensures.frame in
    let M = matched_to _ _ _ _ _ _ _ A _ Y _ q c.match_rule.result _ (not-false _ (ap not c.if-not-match_rule.false)) c.match_rule.ensures.matched in
    let N = rw q at c.rule_premises-n.ensures in
    let K = built_by _ _ _ _ _ _ _ A _ Y M _ N c.build_premises.new.work c.build_premises.new.words c.build_premises.new.qs c.build_premises.auto.words _ q _ _ (c.in-Some.is ∙ ap Some c.in-All.is) (c.build_premises.ensures.built, c.build_premises.ensures.frame) in
    rw c.with_store.ensures (answered-all _ _ _ _ _ _ _ A _ Y M _ N c.build_premises.new.work c.build_premises.new.words c.build_premises.new.qs c.build_premises.auto.words c.in-All.grown K (omega (arith, answered_few _ _ _ _ _ _ _ A _ Y M _ N, c.build_premises.auto.qs, c.requires.1)))

pub returns-in-Lacks : goal.returns-in-Lacks
returns-in-Lacks c =
    let A = c.requires.0 in
    let q = c.matching-at.ensures in
    let Y = rw q at c.match_rule.ensures.frame in
    let M = matched_to _ _ _ _ _ _ _ A _ Y _ q c.match_rule.result _ (not-false _ (ap not c.if-not-match_rule.false)) c.match_rule.ensures.matched in
    let N = rw q at c.rule_premises-n.ensures in
    let K = built_by _ _ _ _ _ _ _ A _ Y M _ N c.build_premises.new.work c.build_premises.new.words c.build_premises.new.qs c.build_premises.auto.words _ q _ _ (c.in-Some.is ∙ ap Some c.in-Lacks.is) (c.build_premises.ensures.built, c.build_premises.ensures.frame) in
    rw c.with_store-in-Lacks.ensures (answered_lacks _ _ _ _ _ _ _ A _ Y M _ N c.build_premises.new.work c.build_premises.new.words c.build_premises.new.qs c.build_premises.auto.words c.in-Lacks.grown K)

pub returns-in_default : goal.returns-in_default
returns-in_default c =
    let A = c.requires.0 in
    let q = c.matching-at.ensures in
    let Y = rw q at c.match_rule.ensures.frame in
    let M = matched_to _ _ _ _ _ _ _ A _ Y _ q c.match_rule.result _ (not-false _ (ap not c.if-not-match_rule.false)) c.match_rule.ensures.matched in
    let N = rw q at c.rule_premises-n.ensures in
    let K = built_by _ _ _ _ _ _ _ A _ Y M _ N c.build_premises.new.work c.build_premises.new.words c.build_premises.new.qs c.build_premises.auto.words _ q _ _ c.in_default.is (c.build_premises.ensures.built, c.build_premises.ensures.frame) in
    answered_short _ _ _ _ _ _ _ A _ Y M _ N c.build_premises.new.work c.build_premises.new.words c.build_premises.new.qs c.build_premises.auto.words K
