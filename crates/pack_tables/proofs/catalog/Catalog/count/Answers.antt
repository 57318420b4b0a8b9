-- `Catalog::count` meets its contract.
use mathlib.Core.Path.{◌≡◌, sym, ap, ◌∙◌}
use Prim.Native.Nat.{ℕ, ◌+◌}
use native.Mathlib.Omega.{arith}
use lib.ListN.{get_or}
use Rattle.pack_tables.specs.Catalog.{region_inside, start_of, length-records, region_at}
use Rattle.pack_tables.proofs.catalog.Catalog.count.Goals as goal

pub offset_bounds-work-a : goal.offset_bounds-work-a
offset_bounds-work-a c = omega (arith, region_inside c.args.self c.args.kind c.requires.1, c.requires.0.fits, c.start-a.ensures)

pub bounds-work-a : goal.bounds-work-a
bounds-work-a c = omega (arith, region_inside c.args.self c.args.kind c.requires.1, c.requires.0.fits, c.start-a.ensures)

pub overflow_cast-result : goal.overflow_cast-result
overflow_cast-result c = omega (arith, c.type_inv.work c.start-a.result)

pub returns : goal.returns
returns c =
    let a = c.args in
    let z : start_of a.self a.kind + 0 ≡ c.start-a.result = omega (arith, c.start-a.ensures) in
    sym (length-records a.work.now a.self a.kind ∙ region_at a.work.now a.self a.kind 0 (omega arith) ∙ ap (λ (i : ℕ). get_or a.work.now i 0) z)
