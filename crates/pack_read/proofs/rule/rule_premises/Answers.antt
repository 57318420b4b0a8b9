-- `rule_premises` meets its contract.
use mathlib.Core.Path.{◌∙◌}
use native.Mathlib.Omega.{arith}
use Rattle.pack_tables.specs.Catalog.{records_of}
use Rattle.pack_read.specs.Says.{rule_long, premises_read}
use Rattle.pack_read.proofs.rule.rule_premises.Goals as goal

pub body_half-requires : goal.body_half-requires
body_half-requires c =
    let a = c.args in
    let p = c.requires in
    (p.0.cataloged, omega arith, p.1, omega (arith, rule_long a.pack.now (records_of a.work.now a.c) p.0.pack p.0.reads a.r p.1))

pub returns : goal.returns
returns c =
    let a = c.args in
    λ P R. c.body_half.ensures ∙ premises_read a.pack.now (records_of a.work.now a.c) P R a.r c.requires.1
