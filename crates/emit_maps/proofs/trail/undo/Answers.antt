-- `undo` meets its contract: with each turn one entry more is taken back.
use Prim.Native.Nat.{◌-◌}
use native.Mathlib.Omega.{arith}
use Rattle.emit_maps.specs.Undoing.{undoing_none, undoing_next, undoing_more, undoing_all}
use Rattle.emit_maps.proofs.trail.undo.Goals as goal

pub loop-i-init : goal.loop-i-init
loop-i-init c = undoing_none _ _ _ _ c.requires.1

pub clear_entry-requires : goal.clear_entry-requires
clear_entry-requires c =
    let g = c.loop-i in
    let l = c.loop-i-test.true in
    undoing_next _ _ c.requires.0 _ _ c.requires.3 _ _ g.invariant (g.i - 1) (omega (arith, l)) l c.requires.2

pub loop-i-preserved : goal.loop-i-preserved
loop-i-preserved c =
    let g = c.loop-i in
    let l = c.loop-i-test.true in
    let u = c.clear_entry in
    undoing_more _ _ c.requires.0 _ _ c.requires.3 _ _ g.invariant (g.i - 1) (omega (arith, l)) l u.new.work u.ensures

pub returns : goal.returns
returns c =
    let g = c.loop-i in
    undoing_all _ _ c.requires.0 _ _ c.requires.3 _ _ g.invariant (omega (arith, c.loop-i-test.false))
