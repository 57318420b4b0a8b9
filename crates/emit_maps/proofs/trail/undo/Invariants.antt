-- `undo` meets its contract: with each turn one entry more is taken back.
use Rattle.emit_maps.specs.Undoing.{Undoing}
use Rattle.emit_maps.proofs.trail.undo.Given as goal

abbrev pub invariant-loop-i : goal.invariant-loop-i
invariant-loop-i l = Undoing l.initial.work l.m l.from l.to l.i l.work
