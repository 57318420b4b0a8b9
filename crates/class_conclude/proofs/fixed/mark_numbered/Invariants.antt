-- `mark_numbered` meets its contract.
use Prim.Native.Nat.{◌≤◌}
use Rattle.class_conclude.specs.FixedMarks.{Marks}
use Rattle.class_conclude.proofs.fixed.mark_numbered.Given as goal

abbrev pub invariant-loop-i : goal.invariant-loop-i
invariant-loop-i l = (l.i ≤ l.numbered) × Marks l.initial.work l.work l.cells l.t l.i
