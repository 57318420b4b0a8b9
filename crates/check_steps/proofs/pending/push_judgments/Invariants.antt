-- `push_judgments` meets its contract: with each turn the judgment of one ref more stands on the stack.
use Rattle.check_steps.specs.Pushed.{JudgmentsFrom}
use Rattle.check_steps.proofs.pending.push_judgments.Given as goal

abbrev pub invariant-loop-k : goal.invariant-loop-k
invariant-loop-k l = JudgmentsFrom l.pack l.work l.c l.i l.k l.initial.stack l.stack l.on
