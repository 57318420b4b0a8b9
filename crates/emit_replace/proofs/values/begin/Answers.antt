-- `begin` meets its contract.
use native.Mathlib.Omega.{arith}
use Rattle.emit_replace.specs.Reading.{values-many, stamped_laid, stamped_remembers, begun}
use Rattle.emit_replace.proofs.values.begin.Goals as goal

pub clear-memo-requires : goal.clear-memo-requires
clear-memo-requires c =
    let f = c.replaced-from.ensures in
    let t = c.stamp-to.ensures in
    (omega (arith, f, t), omega (arith, t, c.requires.0.within), rw (f, t) c.requires.1)

pub put-requires : goal.put-requires
put-requires c =
    let f = c.replaced-from.ensures in
    let t = c.stamp-to.ensures in
    let C = rw (f, t) at c.clear-memo.ensures in
    let L = stamped_laid _ _ _ _ c.requires.0 C in
    let M = stamped_remembers _ _ _ _ c.requires.0 C in
    let many = values-many _ _ c.clear-memo.result L in
    (omega (arith, f, t), rw t (omega (arith, L.within)), rw (f, t) M, rw (f, t) (omega (arith, many, c.requires.2)))

pub returns : goal.returns
returns c =
    let f = c.replaced-from.ensures in
    let t = c.stamp-to.ensures in
    begun _ _ _ _ c.requires.0 (rw (f, t) at c.clear-memo.ensures) _ _ _ (rw (f, t) at c.put.ensures)
