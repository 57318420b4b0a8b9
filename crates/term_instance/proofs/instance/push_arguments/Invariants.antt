-- `push_arguments` meets its contract: with each turn one pair more stands on the worklist, and those left give the whole.
use Rattle.term_instance.specs.Pushes.{Pushing}
use Rattle.term_instance.proofs.instance.push_arguments.Given as goal

abbrev pub invariant-loop-i : goal.invariant-loop-i
invariant-loop-i l = Pushing l.pack l.initial.work l.work l.words l.c l.l l.st l.top l.p.0 l.n.0 l.k l.on l.i
