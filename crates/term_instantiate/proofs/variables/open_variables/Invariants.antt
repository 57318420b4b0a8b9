-- `open_variables` meets its contract: with each turn one variable more is there.
use Rattle.term_instantiate.specs.Variables.{First}
use Rattle.term_instantiate.proofs.variables.open_variables.Given as goal

abbrev pub invariant-loop-k : goal.invariant-loop-k
invariant-loop-k l = First l.pack l.initial.work l.initial.cells l.c l.l l.work l.cells l.g l.k
