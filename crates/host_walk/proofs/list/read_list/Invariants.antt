-- `read_list` meets its contract.
use mathlib.Core.Path.{◌≡◌}
use lib.ListN.{length}
use Prim.Native.Nat.{◌-◌}
use Rattle.pack_tables.specs.SameTables.{Same}
use Rattle.term_lift.specs.Lifts.{Lifts}
use Rattle.host_walk.specs.Lists.{Reading}
use Rattle.host_walk.proofs.list.read_list.Given as goal

abbrev pub invariant-loop-at : goal.invariant-loop-at
invariant-loop-at l = (length l.work ≡ length l.initial.work) × (length l.words ≡ length l.initial.words) × Lifts l.pack l.work l.words l.c l.l l.st × Reading l.from l.words l.st l.at × Same l.initial.work l.work l.c

abbrev pub decreases-loop-at : goal.decreases-loop-at
decreases-loop-at l = length l.from - l.at
