-- `write_cut` meets its contract: the row is begun, then marked.
use Prim.Native.Nat.{◌+◌, ◌*◌}
use native.Mathlib.Omega.{arith}
use Rattle.class_cut.specs.Marks.{writing_begins, writes}
use Rattle.class_cut.proofs.row.write_cut.Goals as goal

pub begin_row-requires : goal.begin_row-requires
begin_row-requires c =
    let a = c.args in
    let n = c.class_count-count in
    writing_begins _ _ _ _ _ _ _ _ c.requires (omega (arith, n.ensures, c.slice_known-1.given (a.s.keying.at + 2 * a.s.keying.cap + a.i)))

pub returns : goal.returns
returns c =
    let a = c.args in
    let n = c.class_count-count in
    writes _ _ _ _ _ _ _ _ _ _ _ _ c.requires n.ensures (omega (arith, n.ensures, c.slice_known-1.given (a.s.keying.at + 2 * a.s.keying.cap + a.i))) c.begin_row.ensures c.put_marks.ensures
