-- `record_at` meets its contract: each of its tests is one of the definition's.
use borrow.Author.Tests.{lt-ltb, le-ltb}
use Prim.Native.Nat.{◌+◌, ◌-◌, ◌<◌, ◌≤◌}
use native.Mathlib.Omega.{arith}
use lib.ListN.{length}
use Rattle.definition.specs.Little.{le}
use Rattle.list_records.specs.Lines.{record_at}
use Rattle.list_records.proofs.record_at.Goals as goal

pub returns-then-pack-at-lt6 : goal.returns-then-pack-at-lt6
unfolding record_at
returns-then-pack-at-lt6 c = rw (lt-ltb _ 6 c.if-pack-at-lt6.true, record_at)

pub returns-then-pack-at : goal.returns-then-pack-at
unfolding record_at
returns-then-pack-at c =
    let a = c.args in
    let h : length a.pack.now - (a.at + 6) < le 4 a.pack.now a.at = omega arith in
    rw (le-ltb _ 6 c.if-pack-at-lt6.false, lt-ltb _ _ h, record_at)

pub returns : goal.returns
unfolding record_at
returns c =
    let a = c.args in
    let h : le 4 a.pack.now a.at ≤ length a.pack.now - (a.at + 6) = omega arith in
    rw (le-ltb _ 6 c.if-pack-at-lt6.false, le-ltb _ _ h, record_at, c.u16_at-kind.ensures.0, c.u32_at-n.ensures)
