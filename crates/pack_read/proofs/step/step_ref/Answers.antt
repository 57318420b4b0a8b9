-- `step_ref` meets its contract.
use mathlib.Core.Path.{◌∙◌}
use native.Mathlib.Omega.{arith}
use Rattle.pack_tables.specs.Catalog.{records_of}
use Rattle.pack_read.specs.Laws.{record_inside}
use Rattle.pack_read.specs.Says.{ref-below, ref_read, ref-room}
use Rattle.pack_read.proofs.step.step_ref.Goals as goal

pub overflow_mul-i : goal.overflow_mul-i
overflow_mul-i c =
    let a = c.args in
    let p = c.requires in
    let l = ref-below a.pack.now (records_of a.work.now a.c) p.0.pack p.0.reads a.s p.1 a.i p.2 in
    omega (arith, ref-room a.pack.now (records_of a.work.now a.c) p.0.pack p.0.reads a.s p.1 a.i l, record_inside a.pack.now a.work.now a.c 4 a.s p.0.cataloged (omega arith) p.1)

pub overflow_add-i : goal.overflow_add-i
overflow_add-i c =
    let a = c.args in
    let p = c.requires in
    let l = ref-below a.pack.now (records_of a.work.now a.c) p.0.pack p.0.reads a.s p.1 a.i p.2 in
    omega (arith, ref-room a.pack.now (records_of a.work.now a.c) p.0.pack p.0.reads a.s p.1 a.i l, record_inside a.pack.now a.work.now a.c 4 a.s p.0.cataloged (omega arith) p.1)

pub body_word-requires : goal.body_word-requires
body_word-requires c =
    let a = c.args in
    let p = c.requires in
    let l = ref-below a.pack.now (records_of a.work.now a.c) p.0.pack p.0.reads a.s p.1 a.i p.2 in
    (p.0.cataloged, omega arith, p.1, omega (arith, ref-room a.pack.now (records_of a.work.now a.c) p.0.pack p.0.reads a.s p.1 a.i l))

pub returns : goal.returns
returns c =
    let a = c.args in
    let p = c.requires in
    let l = ref-below a.pack.now (records_of a.work.now a.c) p.0.pack p.0.reads a.s p.1 a.i p.2 in
    λ P R. c.body_word.ensures ∙ ref_read a.pack.now (records_of a.work.now a.c) P R a.s p.1 a.i l
