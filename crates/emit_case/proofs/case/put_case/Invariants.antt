-- `put_case` meets its contract.
use Rattle.emit_case.specs.Laying.{CaseGo}
use Rattle.emit_case.proofs.case.put_case.Given as goal

abbrev pub invariant-loop-i : goal.invariant-loop-i
invariant-loop-i l = CaseGo l.initial.cases l.cases l.at l.first l.n l.i
