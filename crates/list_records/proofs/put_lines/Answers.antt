-- `put_lines` meets its contract: the bytes that count and the lines still to come make all lines.
use borrow.Author.Rules.{rules}
use mathlib.Core.Path.{refl, sym, ◌∙◌}
use mathlib.Core.List.{append-nil}
use native.Mathlib.Omega.{arith}
use Rattle.list_records.specs.Lines.{lines, whole-fits, rest-none, rest-cut, rest-whole}
use Rattle.list_records.specs.Added.{added_short, added_first, added_whole, added_left}
use Rattle.list_records.proofs.put_lines.Goals as goal

pub loop-offset-init : goal.loop-offset-init
unfolding lines
loop-offset-init c = (search rules, search rules, search rules, refl)

pub returns-in_default : goal.returns-in_default
returns-in_default c =
    let g = c.loop-offset in
    let e = rest-cut _ g.offset (omega arith) (sym c.record_at.ensures ∙ c.in_default.is) in
    added_whole _ _ _ _ _ _ _ (omega arith) g.invariant.2 (rw e at g.invariant.3) c.put_cut.ensures

pub returns-in_err-at : goal.returns-in_err-at
returns-in_err-at c =
    let g = c.loop-offset in
    let e = rest-whole _ g.offset c.in-Some.kind c.in-Some.n (omega arith) (sym c.record_at.ensures ∙ c.in-Some.is) in
    rw c.from_residual.ensures (added_whole _ _ _ _ _ _ _ (omega arith) g.invariant.2 (rw e at g.invariant.3) (added_short _ _ _ _ _ _ c.in_err-at.ensures))

pub loop-offset-preserved : goal.loop-offset-preserved
loop-offset-preserved c =
    let g = c.loop-offset in
    let p = c.put_line in
    let f = sym c.record_at.ensures ∙ c.in-Some.is in
    let e = rest-whole _ g.offset c.in-Some.kind c.in-Some.n (omega arith) f in
    let q = added_left _ _ _ _ _ _ _ (rw e at g.invariant.3) c.in_ok-at.ensures in
    (whole-fits _ g.offset c.in-Some.kind c.in-Some.n (omega arith) f, q.0, p.auto.text ∙ g.invariant.2, q.1)

pub overflow_add-offset : goal.overflow_add-offset
overflow_add-offset c = omega (arith, (loop-offset-preserved c).0)

pub overflow_add-offset-in-loop-offset : goal.overflow_add-offset-in-loop-offset
overflow_add-offset-in-loop-offset c = omega (arith, (loop-offset-preserved c).0)

pub loop-offset-smaller : goal.loop-offset-smaller
loop-offset-smaller c = omega (arith, (loop-offset-preserved c).0)

pub returns : goal.returns
returns c =
    let g = c.loop-offset in
    let e = rw (rest-none c.args.pack.now g.offset (omega arith), append-nil) at g.invariant.3 in
    rw (← e) (added_first _ g.text g.at (omega arith))
