-- `Catalog::new` meets its contract: with each turn one region more is without records.
use mathlib.Core.Path.{◌≡◌, refl, subst}
use Prim.Native.Nat.{ℕ, ◌<◌}
use native.Mathlib.Omega.{arith}
use lib.ListN.{length}
use Rattle.pack_tables.specs.Region.{size_for}
use Rattle.pack_tables.specs.Catalog.{Clearing, clearing_none, clearing_lent, all-cleared, cap_most, lent, lent_inside, length_region}
use Rattle.pack_tables.specs.declared.catalog.Catalog.{Catalog}
use Rattle.pack_tables.proofs.catalog.Catalog.new.Goals as goal

abbrev made : ℕ → ℕ → Catalog
made at cap = record { at = at; cap = cap }

pub loop-k-init : goal.loop-k-init
loop-k-init c = (omega arith, clearing_none c.args.work.now (made c.args.at c.args.cap) c.requires)

pub start-a-requires : goal.start-a-requires
start-a-requires c = (c.loop-k.invariant.1.fits, omega arith)

pub overflow_mul-n : goal.overflow_mul-n
overflow_mul-n c =
    let g = c.loop-k in
    let m = made c.args.at c.args.cap in
    omega (arith, lent_inside g.work m g.k c.start-a.result c.cap_of-n.result c.start-a.ensures c.cap_of-n.ensures g.invariant.1.fits (omega arith))

pub overflow_add-n : goal.overflow_add-n
overflow_add-n c =
    let g = c.loop-k in
    let m = made c.args.at c.args.cap in
    omega (arith, lent_inside g.work m g.k c.start-a.result c.cap_of-n.result c.start-a.ensures c.cap_of-n.ensures g.invariant.1.fits (omega arith))

pub overflow_add-a : goal.overflow_add-a
overflow_add-a c =
    let g = c.loop-k in
    let m = made c.args.at c.args.cap in
    omega (arith, lent_inside g.work m g.k c.start-a.result c.cap_of-n.result c.start-a.ensures c.cap_of-n.ensures g.invariant.1.fits (omega arith))

pub offset_bounds-work-a : goal.offset_bounds-work-a
offset_bounds-work-a c =
    let g = c.loop-k in
    let m = made c.args.at c.args.cap in
    omega (arith, lent_inside g.work m g.k c.start-a.result c.cap_of-n.result c.start-a.ensures c.cap_of-n.ensures g.invariant.1.fits (omega arith))

pub slice_bounds-clear-end : goal.slice_bounds-clear-end
slice_bounds-clear-end c =
    let g = c.loop-k in
    let m = made c.args.at c.args.cap in
    omega (arith, lent_inside g.work m g.k c.start-a.result c.cap_of-n.result c.start-a.ensures c.cap_of-n.ensures g.invariant.1.fits (omega arith))

pub clear-requires : goal.clear-requires
clear-requires c =
    let g = c.loop-k in
    let m = made c.args.at c.args.cap in
    lent g.work m g.k c.start-a.result c.cap_of-n.result c.start-a.ensures c.cap_of-n.ensures (λ x n. (length x ≡ size_for n) × (n < 1073741824))
    (length_region g.work m g.k g.invariant.1.fits (omega arith), omega (arith, cap_most m g.k, g.invariant.1.fits.small))

pub loop-k-preserved : goal.loop-k-preserved
loop-k-preserved c =
    let g = c.loop-k in
    let a = c.args in
    let m = made a.at a.cap in
    (omega arith, clearing_lent g.work m g.k c.start-a.result c.cap_of-n.result c.start-a.ensures c.cap_of-n.ensures a.work.now c.clear.new.region c.has_keys-keys.result c.has_keys-keys.ensures (omega arith) g.invariant.1 c.clear.ensures)

pub shape_of-work : goal.shape_of-work
shape_of-work c = c.loop-k.invariant.1.outside.long

pub returns : goal.returns
returns c =
    let g = c.loop-k in
    let a = c.args in
    let e : g.k ≡ 9 = omega arith in
    (refl, all-cleared a.work.now g.work (made a.at a.cap) (subst (λ (k : ℕ). Clearing a.work.now g.work (made a.at a.cap) k) e g.invariant.1))
