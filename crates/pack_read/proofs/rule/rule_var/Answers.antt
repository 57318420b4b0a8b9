-- `rule_var` meets its contract.
use mathlib.Core.Path.{◌∙◌}
use native.Mathlib.Omega.{arith}
use Rattle.pack_tables.specs.Catalog.{records_of}
use Rattle.pack_read.specs.Laws.{record_inside}
use Rattle.pack_read.specs.Says.{var_below, var_read, var_room}
use Rattle.pack_read.proofs.rule.rule_var.Goals as goal

pub overflow_mul-k : goal.overflow_mul-k
overflow_mul-k c =
    let a = c.args in
    let p = c.requires in
    let l = var_below a.pack.now (records_of a.work.now a.c) p.0.pack p.0.reads a.r p.1 a.k p.2 in
    omega (arith, var_room a.pack.now (records_of a.work.now a.c) p.0.pack p.0.reads a.r p.1 a.k l, record_inside a.pack.now a.work.now a.c 2 a.r p.0.cataloged (omega arith) p.1)

pub overflow_add-k : goal.overflow_add-k
overflow_add-k c =
    let a = c.args in
    let p = c.requires in
    let l = var_below a.pack.now (records_of a.work.now a.c) p.0.pack p.0.reads a.r p.1 a.k p.2 in
    omega (arith, var_room a.pack.now (records_of a.work.now a.c) p.0.pack p.0.reads a.r p.1 a.k l, record_inside a.pack.now a.work.now a.c 2 a.r p.0.cataloged (omega arith) p.1)

pub body_word-requires : goal.body_word-requires
body_word-requires c =
    let a = c.args in
    let p = c.requires in
    let l = var_below a.pack.now (records_of a.work.now a.c) p.0.pack p.0.reads a.r p.1 a.k p.2 in
    (p.0.cataloged, omega arith, p.1, omega (arith, var_room a.pack.now (records_of a.work.now a.c) p.0.pack p.0.reads a.r p.1 a.k l))

pub returns : goal.returns
returns c =
    let a = c.args in
    let p = c.requires in
    let l = var_below a.pack.now (records_of a.work.now a.c) p.0.pack p.0.reads a.r p.1 a.k p.2 in
    λ P R. c.body_word.ensures ∙ var_read a.pack.now (records_of a.work.now a.c) P R a.r p.1 a.k l
