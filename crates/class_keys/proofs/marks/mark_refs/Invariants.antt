-- `mark_refs` meets its contract: what is left to be marked gives the whole.
use mathlib.Core.Path.{◌≡◌}
use mathlib.Core.List.{map}
use lib.ListN.{length, drop}
use Rattle.definition.specs.Pack.{step_of}
use Rattle.definition.specs.Keys.{first_of}
use Rattle.pack_read.specs.Held.{OfHeld}
use Rattle.class_keys.specs.Marks.{mark_all}
use Rattle.class_keys.proofs.marks.mark_refs.Given as goal

abbrev pub invariant-loop-i : goal.invariant-loop-i
invariant-loop-i l = (length l.marks ≡ length l.initial.marks) × OfHeld l.pack l.work l.c (λ P. mark_all l.marks (map (first_of P) (drop l.i (step_of P l.s).refs)) ≡ mark_all l.initial.marks (map (first_of P) (step_of P l.s).refs))
