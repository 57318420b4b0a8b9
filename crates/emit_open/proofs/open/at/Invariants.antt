-- `at` meets its contract: with each turn a node that waits is taken, and less is left.
use Prim.Native.Nat.{ℕ, ◌+◌}
use mathlib.Core.List.{List}
use Rattle.emit_open.specs.Held.{unmet}
use Rattle.emit_open.specs.Opens.{Going}
use Rattle.emit_open.proofs.open.at.Given as goal

abbrev pub invariant-loop-q : goal.invariant-loop-q
invariant-loop-q l = (before : List ℕ) (p : ℕ) → Going before l.initial.work l.words l.l l.st l.fresh p l.c l.i l.initial.todo → Going before l.work l.words l.l l.st l.fresh p l.c l.i l.todo

abbrev pub decreases-loop-q : goal.decreases-loop-q
decreases-loop-q l = l.todo.len + unmet l.work l.words l.l l.st l.fresh
