-- `arguments_fit` meets its contract: with each turn the arguments left give the same answer.
use Rattle.pack_reader.specs.Node.{Left}
use Rattle.pack_reader.proofs.node.arguments_fit.Given as goal

abbrev pub invariant-loop-i : goal.invariant-loop-i
invariant-loop-i l = Left l.pack l.work l.body l.c l.head l.arity l.i
