-- `fresh_variables` meets its contract: with each turn what is left gives the same variables.
use Rattle.class_cut.specs.Fresh.{Goes}
use Rattle.class_cut.proofs.conclusion.fresh_variables.Given as goal

abbrev pub invariant-loop-k : goal.invariant-loop-k
invariant-loop-k l = Goes l.pack l.initial.work l.initial.words l.work l.words l.c l.l l.initial.grown l.grown l.p l.n l.k l.key
