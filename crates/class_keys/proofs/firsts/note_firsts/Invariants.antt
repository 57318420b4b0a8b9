-- `note_firsts` meets its contract: with each turn one step more is noted.
use Rattle.class_keys.specs.Firsts.{Noting}
use Rattle.class_keys.proofs.firsts.note_firsts.Given as goal

abbrev pub invariant-loop-s : goal.invariant-loop-s
invariant-loop-s l = Noting l.pack l.initial.work l.c l.at l.s l.work
