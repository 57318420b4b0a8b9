-- `push_arguments` meets its contract: with each turn one argument more stands on the stack.
use Prim.Native.Nat.{◌≤◌, ◌-◌}
use Rattle.emit_match.specs.Pushed.{ArgumentsFrom}
use Rattle.emit_match.proofs.pending.push_arguments.Given as goal

abbrev pub invariant-loop-i : goal.invariant-loop-i
invariant-loop-i l = (1 ≤ l.i) × ArgumentsFrom l.initial.work l.work l.key l.initial.on l.on (l.i - 1)
