-- `induct_cases` meets its contract.
use Prim.Native.Nat.{◌-◌}
use Rattle.emit_state.specs.Holding.{lends}
use Rattle.emit_induct.specs.CasesGo.{CasesGo}
use Rattle.emit_induct.proofs.cases.induct_cases.Given as goal

abbrev pub invariant-loop-c : goal.invariant-loop-c
invariant-loop-c l =
    CasesGo (lends l.pack l.initial.work l.initial.words l.initial.proof) (lends l.pack l.work l.words l.proof) l.l l.initial.t l.t l.g l.c l.at l.cases

abbrev pub decreases-loop-c : goal.decreases-loop-c
decreases-loop-c l = 4096 - l.c
