-- `conclusion_from` meets its contract.
use mathlib.Core.Path.{sym}
use Prim.Native.Nat.{◌<◌}
use native.Mathlib.Omega.{arith}
use lib.ListN.{length}
use Rattle.definition.specs.Pack.{rule_of}
use Rattle.pack_read.specs.Held.{readable}
use Rattle.pack_read.specs.Clause.{premises_spelt}
use Rattle.emit_match.proofs.rule.conclusion_from.Goals as goal

pub rule_premises-premises-requires : goal.rule_premises-premises-requires
rule_premises-premises-requires c = let p = c.requires in (readable _ _ _ p.0, omega (arith, p.1, p.0.reads.rules.many))

pub pass_terms-requires : goal.pass_terms-requires
pass_terms-requires c =
    let p = c.requires in
    let H = p.0 in
    (H, ((rule_of H.pack _).premises, premises_spelt H.pack H.proper _ p.1 _ p.2, sym (c.rule_premises-premises.ensures H.pack H.reads)))

pub returns : goal.returns
returns c = λ P R Q v.
    let p = c.requires in
    let l : c.args.r < length P.rules = omega (arith, p.1, p.0.reads.rules.many, R.rules.many) in
    omega (arith, c.pass_terms.ensures P R Q _ (premises_spelt P Q _ l _ v) (sym (c.rule_premises-premises.ensures P R)))
