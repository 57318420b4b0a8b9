-- `case_variables` meets its contract.
use Rattle.emit_state.specs.Holding.{lends}
use Rattle.emit_case.specs.Inputs.{InputsGo}
use Rattle.emit_case.proofs.variables.case_variables.Given as goal

abbrev pub invariant-loop-i : goal.invariant-loop-i
invariant-loop-i l =
    InputsGo (lends l.pack l.initial.work l.initial.words l.initial.proof) (lends l.pack l.work l.words l.proof) l.l l.initial.t l.t l.c l.n l.vs l.i
