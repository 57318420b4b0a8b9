-- `put_flexes` meets its contract.
use Rattle.class_rule.specs.Marks.{Marked}
use Rattle.class_rule.proofs.row.put_flexes.Given as goal

abbrev pub invariant-loop-j : goal.invariant-loop-j
invariant-loop-j l = Marked l.work l.initial.class l.class l.cells l.l l.g l.at l.n l.j l.flex
