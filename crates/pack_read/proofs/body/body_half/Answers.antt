-- `body_half` meets its contract.
use mathlib.Core.Path.{◌∙◌}
use native.Mathlib.Omega.{arith}
use Rattle.pack_read.specs.Laws.{record_inside, record_le}
use Rattle.pack_read.proofs.body.body_half.Goals as goal

pub overflow_add-at : goal.overflow_add-at
overflow_add-at c =
    let a = c.args in
    omega (arith, c.requires.3, c.place-at.ensures, record_inside a.pack.now a.work.now a.c a.kind a.i c.requires.0 c.requires.1 c.requires.2)

pub overflow_add-at-2 : goal.overflow_add-at-2
overflow_add-at-2 c =
    let a = c.args in
    omega (arith, c.requires.3, c.place-at.ensures, record_inside a.pack.now a.work.now a.c a.kind a.i c.requires.0 c.requires.1 c.requires.2)

pub u16_at-requires : goal.u16_at-requires
u16_at-requires c =
    let a = c.args in
    omega (arith, c.requires.3, c.place-at.ensures, record_inside a.pack.now a.work.now a.c a.kind a.i c.requires.0 c.requires.1 c.requires.2)

pub returns : goal.returns
returns c =
    let a = c.args in
    c.u16_at.ensures.0 ∙ record_le a.pack.now a.work.now a.c a.kind a.i c.requires.0 c.requires.1 c.requires.2 2 a.off c.place-at.result c.place-at.ensures c.requires.3
