-- `key_steps` meets its contract: with each turn one step more has its class.
use Rattle.class_keys.specs.Keyed.{Walked}
use Rattle.class_keys.proofs.steps.key_steps.Given as goal

abbrev pub invariant-loop-s : goal.invariant-loop-s
invariant-loop-s l = Walked l.pack l.initial.work l.initial.class l.work l.class l.c l.k l.s l.done
