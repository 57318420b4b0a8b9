-- `key_of` meets its contract: with each turn one word more of the key stands there.
use Rattle.term_lift.specs.Keys.{Keying}
use Rattle.term_lift.proofs.lift.key_of.Given as goal

abbrev pub invariant-loop-i : goal.invariant-loop-i
invariant-loop-i l = Keying l.pack l.work l.c l.at l.n.0 l.k l.i l.key
