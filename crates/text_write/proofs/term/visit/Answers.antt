-- `visit` meets its contract.
use mathlib.Core.Path.{◌≡◌}
use Prim.Native.Nat.{suc, ◌-◌}
use native.Mathlib.Omega.{arith}
use Rattle.text_write.specs.Walk.{visit-room, visit_spent, visit-whole, visit_open}
use Rattle.text_write.proofs.term.visit.Goals as goal

pub returns-then-left-eq0 : goal.returns-then-left-eq0
returns-then-left-eq0 c = let a = c.args in visit_spent _ _ _ _ _ _ _ _ a.p c.requires c.if-left-eq0.true _ c.put_ellipsis-end.ensures

pub write_node-requires : goal.write_node-requires
write_node-requires c = let p = c.requires in (p.placed.sourced, p.there)

pub open_frame-requires : goal.open_frame-requires
open_frame-requires c = let a = c.args in visit-room a.pack.now a.work.now a.words.now a.text.now a.text.now _ _ _ a.p c.requires

pub overflow_add-result : goal.overflow_add-result
overflow_add-result c = omega (arith, visit-room _ c.args.work.now _ c.args.text.now c.args.text.now _ _ _ c.args.p c.requires)

pub returns-in-Whole : goal.returns-in-Whole
returns-in-Whole c =
    let a = c.args in
    let e : a.p.left ≡ suc (a.p.left - 1) = omega (arith, c.if-left-eq0.false) in
    visit-whole _ _ _ _ _ _ _ _ a.p c.requires _ e _ c.in-Whole.ensures

pub returns-in-Open : goal.returns-in-Open
returns-in-Open c =
    let a = c.args in
    let e : a.p.left ≡ suc (a.p.left - 1) = omega (arith, c.if-left-eq0.false) in
    visit_open _ _ _ _ _ _ _ _ a.p c.requires _ e _ _ c.open_frame.ensures c.in-Open.ensures
