-- `test_each` meets its contract: with each turn the goals left give the same answer.
use Prim.Native.Nat.{◌≤◌}
use Rattle.class_build.specs.EachGoal.{Going}
use Rattle.class_build.proofs.goals_each.test_each.Given as goal

abbrev pub invariant-loop-g : goal.invariant-loop-g
invariant-loop-g l = (l.g ≤ l.goals) × Going l.pack l.initial.work l.work l.class l.words l.c l.k l.l l.tables l.st l.seen l.values l.g
