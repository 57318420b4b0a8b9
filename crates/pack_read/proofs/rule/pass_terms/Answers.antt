-- `pass_terms` meets its contract: ahead of each word as many terms are to come as `left` says.
use native.Mathlib.Omega.{arith}
use Rattle.pack_read.specs.Held.{readable}
use Rattle.pack_read.specs.Clause.{passing_first, passing_few, passing_done, passing_there, passing_symbol, passing_next}
use Rattle.pack_read.proofs.rule.pass_terms.Goals as goal

pub loop-left-init : goal.loop-left-init
loop-left-init c = λ P R Q ts S e. passing_first P Q _ _ _ ts S _ e

pub rule_word-w-requires : goal.rule_word-w-requires
rule_word-w-requires c =
    let p = c.requires in
    let H = p.0 in
    let S = p.1.1 in
    let v = c.loop-left.invariant H.pack H.reads H.proper p.1.0 S p.1.2 in
    (readable _ _ _ H, omega (arith, S.rule, H.reads.rules.many), S.many, passing_there H.pack H.proper _ _ _ p.1.0 S _ _ v c.loop-left-test.true)

pub overflow_sub-left : goal.overflow_sub-left
overflow_sub-left c = omega (arith, c.loop-left-test.true)

pub terms_behind-requires : goal.terms_behind-requires
terms_behind-requires c =
    let p = c.requires in
    let H = p.0 in
    let v = c.loop-left.invariant H.pack H.reads H.proper p.1.0 p.1.1 p.1.2 in
    (H, passing_symbol H.pack H.proper _ _ _ p.1.0 p.1.1 _ _ v c.loop-left-test.true _ (c.rule_word-w.ensures H.pack H.reads (passing_there H.pack H.proper _ _ _ p.1.0 p.1.1 _ _ v c.loop-left-test.true)))

pub overflow_add-left : goal.overflow_add-left
overflow_add-left c =
    let p = c.requires in
    let H = p.0 in
    let v = c.loop-left.invariant H.pack H.reads H.proper p.1.0 p.1.1 p.1.2 in
    let m = passing_next H.pack H.proper _ _ _ p.1.0 p.1.1 _ _ v c.loop-left-test.true _ (c.rule_word-w.ensures H.pack H.reads (passing_there H.pack H.proper _ _ _ p.1.0 p.1.1 _ _ v c.loop-left-test.true)) _ (c.terms_behind.ensures H.pack H.reads H.proper) in
    omega (arith, (passing_few H.pack H.proper _ _ _ p.1.0 p.1.1 _ _ m).0)

pub overflow_add-i : goal.overflow_add-i
overflow_add-i c =
    let p = c.requires in
    let H = p.0 in
    let v = c.loop-left.invariant H.pack H.reads H.proper p.1.0 p.1.1 p.1.2 in
    omega (arith, (passing_few H.pack H.proper _ _ _ p.1.0 p.1.1 _ _ v).1)

pub loop-left-smaller : goal.loop-left-smaller
loop-left-smaller c =
    let p = c.requires in
    let H = p.0 in
    let v = c.loop-left.invariant H.pack H.reads H.proper p.1.0 p.1.1 p.1.2 in
    let m = passing_next H.pack H.proper _ _ _ p.1.0 p.1.1 _ _ v c.loop-left-test.true _ (c.rule_word-w.ensures H.pack H.reads (passing_there H.pack H.proper _ _ _ p.1.0 p.1.1 _ _ v c.loop-left-test.true)) _ (c.terms_behind.ensures H.pack H.reads H.proper) in
    omega (arith, (passing_few H.pack H.proper _ _ _ p.1.0 p.1.1 _ _ m).1)

pub loop-left-preserved : goal.loop-left-preserved
loop-left-preserved c = λ P R Q ts S e.
    let v = c.loop-left.invariant P R Q ts S e in
    passing_next P Q _ _ _ ts S _ _ v c.loop-left-test.true _ (c.rule_word-w.ensures P R (passing_there P Q _ _ _ ts S _ _ v c.loop-left-test.true)) _ (c.terms_behind.ensures P R Q)

pub returns : goal.returns
returns c = λ P R Q ts S e. passing_done P Q _ _ _ ts S _ _ (c.loop-left.invariant P R Q ts S e) (omega (arith, c.loop-left-test.false))
