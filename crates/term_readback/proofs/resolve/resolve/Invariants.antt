-- `resolve` meets its contract: with each turn what is left of the stack gives the same walk.
use mathlib.Core.Path.{◌≡◌}
use lib.ListN.{length}
use Rattle.term_readback.specs.Words.{table_in}
use Rattle.term_readback.specs.Measure.{turns_in}
use Rattle.term_readback.specs.Runs.{Walks}
use Rattle.term_readback.proofs.resolve.resolve.Given as goal

abbrev pub invariant-loop-top : goal.invariant-loop-top
invariant-loop-top l = (length l.work ≡ length l.initial.work) × (length l.words ≡ length l.initial.words) × Walks l.pack l.initial.work l.initial.words l.work l.words l.cells l.s.catalog l.s.lifted l.s.table l.initial.grown l.grown l.s.graph l.initial.n l.n l.s.everyone l.r.0 l.top

abbrev pub decreases-loop-top : goal.decreases-loop-top
decreases-loop-top l = turns_in l.cells (table_in l.s.table l.work) l.s.graph l.top
