-- `body_len` meets its contract.
use mathlib.Core.Path.{◌∙◌}
use native.Mathlib.Omega.{arith}
use Rattle.pack_read.specs.Laws.{record_inside, record_long}
use Rattle.pack_read.proofs.body.body_len.Goals as goal

pub u32_at-requires : goal.u32_at-requires
u32_at-requires c =
    let a = c.args in
    omega (arith, c.place-at.ensures, record_inside a.pack.now a.work.now a.c a.kind a.i c.requires.0 c.requires.1 c.requires.2)

pub returns : goal.returns
returns c =
    let a = c.args in
    c.u32_at.ensures ∙ record_long a.pack.now a.work.now a.c a.kind a.i c.requires.0 c.requires.1 c.requires.2 c.place-at.result c.place-at.ensures
