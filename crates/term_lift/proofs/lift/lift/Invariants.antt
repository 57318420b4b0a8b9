-- `lift` meets its contract: with each turn what is left of the stack gives the same walk.
use mathlib.Core.Path.{◌≡◌}
use lib.ListN.{length}
use Rattle.term_lift.specs.Runs.{Walks, turns_in}
use Rattle.term_lift.proofs.lift.lift.Given as goal

abbrev pub invariant-loop-top : goal.invariant-loop-top
invariant-loop-top l = (length l.work ≡ length l.initial.work) × (length l.words ≡ length l.initial.words) × Walks l.pack l.initial.work l.initial.words l.work l.words l.c l.l l.initial.grown l.grown l.n.0 l.top

abbrev pub decreases-loop-top : goal.decreases-loop-top
decreases-loop-top l = turns_in l.pack l.work l.words l.c l.l l.grown l.top
