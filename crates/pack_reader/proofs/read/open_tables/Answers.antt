-- `open_tables` meets its contract.
use mathlib.Core.Path.{◌≡◌, refl}
use mathlib.Core.List.{List}
use Prim.Native.Nat.{ℕ, ◌+◌, ◌-◌, ◌*◌, ◌/◌}
use native.Mathlib.Omega.{arith}
use lib.ListN.{length, take, drop, replicate}
use Rattle.pack_reader.specs.Parsed.{marks-zeroed}
use Rattle.pack_reader.proofs.read.open_tables.Goals as goal

pub overflow_add-cap : goal.overflow_add-cap
overflow_add-cap c = omega arith

pub overflow_mul-marks : goal.overflow_mul-marks
overflow_mul-marks c = omega (arith, c.requires.short)

pub overflow_add-marks : goal.overflow_add-marks
overflow_add-marks c = omega (arith, c.requires.short)

pub overflow_mul-marks-2 : goal.overflow_mul-marks-2
overflow_mul-marks-2 c = omega (arith, c.requires.short)

pub overflow_add-marks-2 : goal.overflow_add-marks-2
overflow_add-marks-2 c = omega (arith, c.requires.short, c.requires.fits)

pub offset_bounds-work-marks : goal.offset_bounds-work-marks
offset_bounds-work-marks c = omega (arith, c.requires.short, c.requires.fits)

pub slice_bounds-fill-count : goal.slice_bounds-fill-count
slice_bounds-fill-count c = omega (arith, c.requires.short, c.requires.fits)

pub slice_bounds-fill-start : goal.slice_bounds-fill-start
slice_bounds-fill-start c = omega (arith, c.requires.short, c.requires.fits)

pub slice_bounds-fill-end : goal.slice_bounds-fill-end
slice_bounds-fill-end c = omega (arith, c.requires.short, c.requires.fits)

pub returns : goal.returns
returns c =
    let a = c.args in
    let cap : ℕ = length a.pack.now / 7 + 1 in
    let m : ℕ = 9 * (5 * cap + 2) in
    let r : List ℕ = c.fill.new.self in
    let z : r ≡ replicate (length (take (m + cap - m) (drop m a.work.now))) 0 = (c.fill.ensures.after (λ y e. e)) in
    let s = marks-zeroed a.pack.now a.work.now _ c.requires (λ i. omega (arith, c.shared_slice_known-1.given i)) m (m + cap) r (omega arith) refl z (rw c.new.ensures.0 at c.new.ensures.1) in
    (c.new.ensures.0, s.0, s.1)
