-- `Catalog::place` meets its contract.
use mathlib.Core.Path.{sym, ap, ◌∙◌}
use Prim.Native.Nat.{◌+◌, ◌*◌}
use native.Mathlib.Omega.{arith}
use Rattle.pack_tables.specs.Place.{Place}
use Rattle.pack_tables.specs.Catalog.{length-records, records-at, region_at}
use Rattle.pack_tables.proofs.catalog.Catalog.place.Goals as goal

pub word-requires : goal.word-requires
word-requires c = (c.requires.0, c.requires.1, c.requires.2, omega arith)

pub returns : goal.returns
returns c =
    let a = c.args in
    let l = length-records a.work.now a.self a.kind in
    c.word.ensures
    ∙ sym (ap (λ (p : Place). p.at) (records-at a.work.now a.self a.kind a.i c.requires.2)
    ∙ region_at a.work.now a.self a.kind (2 * a.i + 1) (omega (arith, c.requires.2, l, (c.requires.0.kept a.kind c.requires.1).few)))
