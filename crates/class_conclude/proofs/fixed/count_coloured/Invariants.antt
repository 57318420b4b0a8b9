-- `count_coloured` meets its contract.
use Rattle.class_conclude.specs.Fixed.{Looked}
use Rattle.class_conclude.proofs.fixed.count_coloured.Given as goal

abbrev pub invariant-loop-x : goal.invariant-loop-x
invariant-loop-x l = Looked l.work l.cells l.t l.g l.x l.k
