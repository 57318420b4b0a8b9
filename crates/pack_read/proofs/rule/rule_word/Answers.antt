-- `rule_word` meets its contract.
use mathlib.Core.Path.{sym, ◌∙◌}
use native.Mathlib.Omega.{arith}
use Rattle.pack_tables.specs.Catalog.{records_of}
use Rattle.pack_read.specs.Says.{vars_read, word_room, word_read, word_inside}
use Rattle.pack_read.proofs.rule.rule_word.Goals as goal

pub overflow_mul-vars : goal.overflow_mul-vars
overflow_mul-vars c =
    let a = c.args in
    let p = c.requires in
    let v = p.2 ∙ sym (vars_read a.pack.now (records_of a.work.now a.c) p.0.pack p.0.reads a.r p.1) in
    omega (arith, word_inside a.pack.now a.work.now a.c p.0 a.r a.vars a.i p.1 v p.3)

pub overflow_add-vars : goal.overflow_add-vars
overflow_add-vars c =
    let a = c.args in
    let p = c.requires in
    let v = p.2 ∙ sym (vars_read a.pack.now (records_of a.work.now a.c) p.0.pack p.0.reads a.r p.1) in
    omega (arith, word_inside a.pack.now a.work.now a.c p.0 a.r a.vars a.i p.1 v p.3)

pub overflow_mul-i : goal.overflow_mul-i
overflow_mul-i c =
    let a = c.args in
    let p = c.requires in
    let v = p.2 ∙ sym (vars_read a.pack.now (records_of a.work.now a.c) p.0.pack p.0.reads a.r p.1) in
    omega (arith, word_inside a.pack.now a.work.now a.c p.0 a.r a.vars a.i p.1 v p.3)

pub overflow_add-vars-2 : goal.overflow_add-vars-2
overflow_add-vars-2 c =
    let a = c.args in
    let p = c.requires in
    let v = p.2 ∙ sym (vars_read a.pack.now (records_of a.work.now a.c) p.0.pack p.0.reads a.r p.1) in
    omega (arith, word_inside a.pack.now a.work.now a.c p.0 a.r a.vars a.i p.1 v p.3)

pub body_word-requires : goal.body_word-requires
body_word-requires c =
    let a = c.args in
    let p = c.requires in
    let v = p.2 ∙ sym (vars_read a.pack.now (records_of a.work.now a.c) p.0.pack p.0.reads a.r p.1) in
    (p.0.cataloged, omega arith, p.1, omega (arith, word_room a.pack.now (records_of a.work.now a.c) p.0.pack p.0.reads a.r p.1 a.vars a.i v p.3))

pub returns : goal.returns
returns c =
    let a = c.args in
    let p = c.requires in
    let v = p.2 ∙ sym (vars_read a.pack.now (records_of a.work.now a.c) p.0.pack p.0.reads a.r p.1) in
    λ P R m. c.body_word.ensures ∙ word_read a.pack.now (records_of a.work.now a.c) P R a.r p.1 a.vars a.i v m
