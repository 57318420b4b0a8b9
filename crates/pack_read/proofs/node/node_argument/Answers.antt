-- `node_argument` meets its contract.
use mathlib.Core.Path.{◌∙◌}
use native.Mathlib.Omega.{arith}
use Rattle.pack_tables.specs.Catalog.{records_of}
use Rattle.pack_read.specs.Laws.{record_inside}
use Rattle.pack_read.specs.Says.{argument_below, argument_read, argument_room}
use Rattle.pack_read.proofs.node.node_argument.Goals as goal

pub overflow_mul-i : goal.overflow_mul-i
overflow_mul-i c =
    let a = c.args in
    let p = c.requires in
    let l = argument_below a.pack.now (records_of a.work.now a.c) p.0.pack p.0.reads a.n.0 p.1 a.i p.2 in
    omega (arith, argument_room a.pack.now (records_of a.work.now a.c) p.0.pack p.0.reads a.n.0 p.1 a.i l, record_inside a.pack.now a.work.now a.c 3 a.n.0 p.0.cataloged (omega arith) p.1)

pub overflow_add-i : goal.overflow_add-i
overflow_add-i c =
    let a = c.args in
    let p = c.requires in
    let l = argument_below a.pack.now (records_of a.work.now a.c) p.0.pack p.0.reads a.n.0 p.1 a.i p.2 in
    omega (arith, argument_room a.pack.now (records_of a.work.now a.c) p.0.pack p.0.reads a.n.0 p.1 a.i l, record_inside a.pack.now a.work.now a.c 3 a.n.0 p.0.cataloged (omega arith) p.1)

pub body_word-requires : goal.body_word-requires
body_word-requires c =
    let a = c.args in
    let p = c.requires in
    let l = argument_below a.pack.now (records_of a.work.now a.c) p.0.pack p.0.reads a.n.0 p.1 a.i p.2 in
    (p.0.cataloged, omega arith, p.1, omega (arith, argument_room a.pack.now (records_of a.work.now a.c) p.0.pack p.0.reads a.n.0 p.1 a.i l))

pub returns : goal.returns
returns c =
    let a = c.args in
    let p = c.requires in
    let l = argument_below a.pack.now (records_of a.work.now a.c) p.0.pack p.0.reads a.n.0 p.1 a.i p.2 in
    λ P R. c.body_word.ensures ∙ argument_read a.pack.now (records_of a.work.now a.c) P R a.n.0 p.1 a.i l
