-- `read_entries` meets its contract.
use Rattle.class_conclude.specs.Entries.{Going}
use Rattle.class_conclude.proofs.entries.read_entries.Given as goal

abbrev pub invariant-loop-i : goal.invariant-loop-i
invariant-loop-i l = Going l.pack l.initial.work l.initial.words l.work l.words l.cells l.c l.l l.initial.grown l.grown l.g l.initial.n l.n l.copies l.i l.renamings
