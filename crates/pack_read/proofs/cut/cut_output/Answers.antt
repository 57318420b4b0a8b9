-- `cut_output` meets its contract.
use mathlib.Core.Path.{◌∙◌}
use native.Mathlib.Omega.{arith}
use Rattle.pack_tables.specs.Catalog.{records_of}
use Rattle.pack_read.specs.Laws.{record_inside}
use Rattle.pack_read.specs.Says.{cut_output_below, cut_output_read, cut_output_room}
use Rattle.pack_read.proofs.cut.cut_output.Goals as goal

pub overflow_mul-i : goal.overflow_mul-i
overflow_mul-i c =
    let a = c.args in
    let p = c.requires in
    let l = cut_output_below a.pack.now (records_of a.work.now a.c) p.0.pack p.0.reads a.j p.1 a.i p.2 in
    omega (arith, cut_output_room a.pack.now (records_of a.work.now a.c) p.0.pack p.0.reads a.j p.1 a.i l, record_inside a.pack.now a.work.now a.c 7 a.j p.0.cataloged (omega arith) p.1)

pub overflow_add-i : goal.overflow_add-i
overflow_add-i c =
    let a = c.args in
    let p = c.requires in
    let l = cut_output_below a.pack.now (records_of a.work.now a.c) p.0.pack p.0.reads a.j p.1 a.i p.2 in
    omega (arith, cut_output_room a.pack.now (records_of a.work.now a.c) p.0.pack p.0.reads a.j p.1 a.i l, record_inside a.pack.now a.work.now a.c 7 a.j p.0.cataloged (omega arith) p.1)

pub body_word-requires : goal.body_word-requires
body_word-requires c =
    let a = c.args in
    let p = c.requires in
    let l = cut_output_below a.pack.now (records_of a.work.now a.c) p.0.pack p.0.reads a.j p.1 a.i p.2 in
    (p.0.cataloged, omega arith, p.1, cut_output_room a.pack.now (records_of a.work.now a.c) p.0.pack p.0.reads a.j p.1 a.i l)

pub returns : goal.returns
returns c =
    let a = c.args in
    let p = c.requires in
    let l = cut_output_below a.pack.now (records_of a.work.now a.c) p.0.pack p.0.reads a.j p.1 a.i p.2 in
    λ P R. c.body_word.ensures ∙ cut_output_read a.pack.now (records_of a.work.now a.c) P R a.j p.1 a.i l
