-- `recursive` meets its contract.
use Rattle.emit_case.specs.Filtering.{FilterGo}
use Rattle.emit_case.proofs.variables.recursive.Given as goal

abbrev pub invariant-loop-i : goal.invariant-loop-i
invariant-loop-i l = FilterGo l.pack l.work l.catalog l.sort l.c l.vs l.rs l.many l.i
