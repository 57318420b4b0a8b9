-- `histogram` meets its contract.
use Rattle.class_build.specs.Slots.{Counting}
use Rattle.class_build.proofs.histogram.histogram.Given as goal

abbrev pub invariant-loop-i : goal.invariant-loop-i
invariant-loop-i l = Counting l.work l.k l.n l.i l.s
