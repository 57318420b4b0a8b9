-- `write_row` meets its contract.
use Prim.Native.Nat.{◌+◌, ◌*◌}
use native.Mathlib.Omega.{arith}
use Rattle.class_rule.specs.Marks.{writing_begins, writing_marks, writes}
use Rattle.class_rule.proofs.row.write_row.Goals as goal

pub begin_row-requires : goal.begin_row-requires
begin_row-requires c =
    let a = c.args in
    let n = c.class_count-count in
    writing_begins _ _ _ _ _ _ _ _ _ c.requires _ (omega (arith, n.ensures, c.slice_known-1.given (a.s.keying.at + 2 * a.s.keying.cap + a.i)))

pub put_flexes-requires : goal.put_flexes-requires
put_flexes-requires c =
    let a = c.args in
    let n = c.class_count-count in
    writing_marks _ _ _ _ _ _ _ _ _ c.requires _ (omega (arith, n.ensures, c.slice_known-1.given (a.s.keying.at + 2 * a.s.keying.cap + a.i))) _ _ _ c.begin_row.ensures

pub returns : goal.returns
returns c =
    let a = c.args in
    let n = c.class_count-count in
    writes _ _ _ _ _ _ _ _ _ c.requires _ (omega (arith, n.ensures, c.slice_known-1.given (a.s.keying.at + 2 * a.s.keying.cap + a.i))) _ _ _ c.begin_row.ensures _ _ n.ensures c.put_flexes.ensures
