-- `instantiate` meets its contract: with each word the terms from there on stand in the graph.
use Rattle.term_instantiate.specs.Going.{Going}
use Rattle.term_instantiate.proofs.terms.instantiate.Given as goal

abbrev pub invariant-loop-i : goal.invariant-loop-i
invariant-loop-i l = Going l.pack l.initial.work l.initial.cells l.c l.l l.initial.h l.env l.from l.to l.work l.cells l.stack l.top l.i l.h
