-- `name_words` meets its contract: with each turn there is as much to do as at first.
use Rattle.emit_state.specs.Holding.{lends}
use Rattle.emit_words.specs.Walking.{left}
use Rattle.emit_words.specs.Readying.{Reached}
use Rattle.emit_words.proofs.walk.name_words.Given as goal

abbrev pub invariant-loop-next : goal.invariant-loop-next
invariant-loop-next l =
    Reached (lends l.pack l.initial.work l.words l.initial.proof) (lends l.pack l.work l.words l.proof) l.l l.initial.t l.t l.j l.s

abbrev pub decreases-loop-next : goal.decreases-loop-next
decreases-loop-next l =
    left (lends l.pack l.work l.words l.proof) l.l l.t l.j l.s
