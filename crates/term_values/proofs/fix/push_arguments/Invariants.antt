-- `push_arguments` meets its contract: with each turn one pair more stands on the worklist, and those left give the whole.
use Rattle.term_values.specs.Pushes.{Pushing}
use Rattle.term_values.proofs.fix.push_arguments.Given as goal

abbrev pub invariant-loop-i : goal.invariant-loop-i
invariant-loop-i l = Pushing l.pack l.initial.work l.work l.cells l.c l.l l.g l.top l.r.0 l.n.0 l.k l.on l.i
