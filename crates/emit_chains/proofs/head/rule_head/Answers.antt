-- `rule_head` meets its contract.
use mathlib.Core.Path.{sym}
use Prim.Native.Nat.{◌<◌}
use native.Mathlib.Omega.{arith}
use lib.ListN.{length}
use Rattle.definition.specs.Pack.{rule_of}
use Rattle.pack_read.specs.Held.{readable}
use Rattle.pack_read.specs.Clause.{premises_spelt}
use Rattle.emit_chains.specs.Head.{conclusion_there, conclusion-first}
use Rattle.emit_chains.proofs.head.rule_head.Goals as goal

pub rule_vars-vars-requires : goal.rule_vars-vars-requires
rule_vars-vars-requires c = let p = c.requires in (readable _ _ _ p.0, omega (arith, p.1, p.0.reads.rules.many))

pub rule_premises-premises-requires : goal.rule_premises-premises-requires
rule_premises-premises-requires c = let p = c.requires in (readable _ _ _ p.0, omega (arith, p.1, p.0.reads.rules.many))

pub pass_terms-i-requires : goal.pass_terms-i-requires
pass_terms-i-requires c =
    let p = c.requires in
    let H = p.0 in
    (H, ((rule_of H.pack _).premises, premises_spelt H.pack H.proper _ p.1 _ (c.rule_vars-vars.ensures H.pack H.reads), sym (c.rule_premises-premises.ensures H.pack H.reads)))

pub rule_word-requires : goal.rule_word-requires
rule_word-requires c =
    let p = c.requires in
    let H = p.0 in
    let v = c.rule_vars-vars.ensures H.pack H.reads in
    let i = c.pass_terms-i.ensures H.pack H.reads H.proper _ (premises_spelt H.pack H.proper _ p.1 _ v) (sym (c.rule_premises-premises.ensures H.pack H.reads)) in
    (readable _ _ _ H, omega (arith, p.1, H.reads.rules.many), v, conclusion_there H.pack H.proper _ p.1 _ i)

pub returns : goal.returns
returns c = λ P R Q.
    let p = c.requires in
    let l : c.args.r < length P.rules = omega (arith, p.1, p.0.reads.rules.many, R.rules.many) in
    let i = c.pass_terms-i.ensures P R Q _ (premises_spelt P Q _ l _ (c.rule_vars-vars.ensures P R)) (sym (c.rule_premises-premises.ensures P R)) in
    conclusion-first P Q _ l _ i _ (c.rule_word.ensures P R (conclusion_there P Q _ l _ i))
