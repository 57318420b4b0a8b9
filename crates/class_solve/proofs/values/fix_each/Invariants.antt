-- `fix_each` meets its contract.
use Rattle.class_solve.specs.AllValues.{Going}
use Rattle.class_solve.proofs.values.fix_each.Given as goal

abbrev pub invariant-loop-i : goal.invariant-loop-i
invariant-loop-i l = Going l.pack l.initial.work l.work l.cells l.c l.v l.g l.step l.n l.instances l.i
