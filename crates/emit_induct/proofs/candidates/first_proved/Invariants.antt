-- `first_proved` meets its contract.
use Prim.Native.Nat.{◌-◌}
use lib.ListN.{length}
use Rattle.emit_state.specs.Holding.{lends}
use Rattle.emit_induct.specs.Choosing.{CandidatesGo}
use Rattle.emit_induct.proofs.candidates.first_proved.Given as goal

abbrev pub invariant-loop-i : goal.invariant-loop-i
invariant-loop-i l =
    CandidatesGo (lends l.pack l.initial.work l.initial.words l.initial.proof) (lends l.pack l.work l.words l.proof) l.l l.initial.t l.t l.x l.args l.candidates l.i

abbrev pub decreases-loop-i : goal.decreases-loop-i
decreases-loop-i l = length l.candidates - l.i
