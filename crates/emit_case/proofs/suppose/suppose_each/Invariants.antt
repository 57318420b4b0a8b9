-- `suppose_each` meets its contract.
use Rattle.emit_state.specs.Holding.{lends}
use Rattle.emit_case.specs.EachGoes.{EachGoes}
use Rattle.emit_case.proofs.suppose.suppose_each.Given as goal

abbrev pub invariant-loop-i : goal.invariant-loop-i
invariant-loop-i l =
    EachGoes (lends l.pack l.initial.work l.initial.words l.initial.proof) (lends l.pack l.work l.words l.proof) l.l l.initial.t l.t l.g l.rs l.hs l.i
