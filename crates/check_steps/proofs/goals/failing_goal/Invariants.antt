-- `failing_goal` meets its contract: with each turn the goals left give the same answer.
use Prim.Native.Nat.{◌≤◌}
use Rattle.definition.specs.Verdict.{no_goal, met}
use Rattle.pack_read.specs.Reads.{length_goals}
use Rattle.check_steps.specs.First.{LeftFrom}
use Rattle.check_steps.proofs.goals.failing_goal.Given as goal

abbrev pub invariant-loop-g : goal.invariant-loop-g
invariant-loop-g l = (l.g ≤ l.goals) × LeftFrom l.pack l.work l.c (λ P. P.goals) met no_goal 5 (length_goals l.pack _) l.g
