-- `Graph::push` meets its contract.
use borrow.Author.Tests.{leb-true, leb-false}
use mathlib.Core.Path.{sym, ◌∙◌}
use Prim.Native.Nat.{◌-◌}
use native.Mathlib.Omega.{arith}
use lib.ListN.{length}
use Rattle.base.specs.Part.{part}
use Rattle.definition.specs.Graph.{applied}
use Rattle.graph.specs.Pushes.{no_room, filled-pushed}
use Rattle.graph.proofs.graph.Graph.push.Goals as goal

pub returns-then-lacks_room : goal.returns-then-lacks_room
returns-then-lacks_room c =
    let a = c.args in
    let h = leb-true (length a.cells.now - a.self.used) (length a.args.now) (sym c.lacks_room.ensures ∙ c.if-lacks_room.true) in
    no_room a.cells.now a.cells.now a.table.now a.table.now a.self (applied a.head a.args.now) (omega (arith, h, c.requires.fits))

pub returns : goal.returns
unfolding part
returns c =
    let a = c.args in
    let h = leb-false (length a.cells.now - a.self.used) (length a.args.now) (sym c.lacks_room.ensures ∙ c.if-lacks_room.false) in
    let v = c.copy_cells in
    let u = c.push_laid in
    filled-pushed a.cells.now a.table.now v.new.to a.self _ c.requires (omega arith) (omega (arith, h)) v.auto.to u.new.cells u.new.table a.args.now a.head v.ensures u.result u.ensures
