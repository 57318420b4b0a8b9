-- `mark_steps` meets its contract: what is left to be marked gives the whole.
use mathlib.Core.Path.{◌≡◌}
use Prim.Native.Nat.{◌≤◌}
use lib.ListN.{length}
use Rattle.pack_tables.specs.Catalog.{records_of}
use Rattle.pack_read.specs.Held.{OfHeld}
use Rattle.class_keys.specs.Marks.{mark_below}
use Rattle.class_keys.proofs.marks.mark_steps.Given as goal

abbrev pub invariant-loop-s : goal.invariant-loop-s
invariant-loop-s l = (l.s ≤ length (records_of l.work l.c 4)) × (length l.marks ≡ length l.initial.marks) × OfHeld l.pack l.work l.c (λ P. mark_below l.s P l.marks ≡ mark_below (length P.steps) P l.initial.marks)
