-- `copy_application` meets its contract.
use borrow.Author.Tests.{leb-true, leb-false}
use mathlib.Core.Path.{sym, ◌∙◌}
use mathlib.Core.List.{map}
use Prim.Native.Nat.{◌+◌, ◌-◌}
use native.Mathlib.Omega.{arith}
use lib.ListN.{length, get_or, drop, length-map, length-drop}
use Rattle.definition.specs.Graph.{applied}
use Rattle.base.specs.Part.{part}
use Rattle.base.specs.Outside.{outside_none}
use Rattle.graph.specs.Pushes.{no_room, filled_long, filled_laid}
use Rattle.term_copy.specs.Places.{rows_in, copy_in}
use Rattle.term_copy.specs.Nodes.{application_made}
use Rattle.term_copy.proofs.node.copy_application.Goals as goal

pub returns-then-lacks_room : goal.returns-then-lacks_room
returns-then-lacks_room c =
    let a = c.args in
    let ys = map (copy_in a.work.now a.l a.memo) (drop 1 a.key.now) in
    let rows = rows_in a.work.now a.cells.now a.l in
    let h = leb-true (length a.cells.now - a.g.used) (length a.key.now - 1) (sym c.lacks_room.ensures ∙ c.if-lacks_room.true) in
    (no_room a.cells.now a.cells.now rows rows a.g (applied (get_or a.key.now 0 0) ys) (omega (arith, h, c.requires.3.1.laid.fits, length-map (drop 1 a.key.now) (copy_in a.work.now a.l a.memo), length-drop 1 a.key.now)), outside_none _ _ a.work.now)

pub push_laid-requires : goal.push_laid-requires
unfolding part
push_laid-requires c =
    let a = c.args in
    let L = c.requires.3.1.laid in
    let h = leb-false (length a.cells.now - a.g.used) (length a.key.now - 1) (sym c.lacks_room.ensures ∙ c.if-lacks_room.false) in
    let v = c.gather in
    rw c.pairs_at.ensures (filled_laid a.cells.now _ v.new.args a.g _ L (omega arith) (omega (arith, h)) v.auto.args, omega arith, omega (arith, h, filled_long a.cells.now _ v.new.args a.g _ L (omega arith) (omega (arith, h)) v.auto.args))

pub returns : goal.returns
unfolding part
returns c =
    let a = c.args in
    let p = c.requires in
    let h = leb-false (length a.cells.now - a.g.used) (length a.key.now - 1) (sym c.lacks_room.ensures ∙ c.if-lacks_room.false) in
    let e = c.pairs_at.ensures in
    let v = c.gather in
    let u = c.push_laid in
    rw e (application_made a.work.now a.cells.now a.l a.g p.3 p.2 v.new.args (a.g.used + 1 + (length a.key.now - 1)) (omega arith) (omega (arith, h)) v.auto.args u.new.cells u.new.table (rw e at u.auto.table) (get_or a.key.now 0 0) (map (copy_in a.work.now a.l a.memo) (drop 1 a.key.now)) v.ensures u.result (rw e at u.ensures))
