-- `push_arguments` meets its contract: with each turn one argument more stands on the stack.
use Rattle.check_steps.specs.Pushed.{ArgumentsFrom}
use Rattle.check_steps.proofs.pending.push_arguments.Given as goal

abbrev pub invariant-loop-i : goal.invariant-loop-i
invariant-loop-i l = ArgumentsFrom l.pack l.work l.c l.n.0 l.i l.initial.stack l.initial.on l.stack l.on
