-- `failing_step` meets its contract: with each turn the steps left give the same answer.
use mathlib.Core.Path.{◌≡◌}
use Prim.Native.Nat.{◌≤◌}
use lib.ListN.{length}
use Rattle.definition.specs.Pack.{no_step}
use Rattle.definition.specs.Verdict.{passes}
use Rattle.pack_read.specs.Reads.{length_steps}
use Rattle.check_steps.specs.First.{LeftFrom}
use Rattle.check_steps.proofs.steps.failing_step.Given as goal

abbrev pub invariant-loop-i : goal.invariant-loop-i
invariant-loop-i l = (l.i ≤ l.steps) × LeftFrom l.pack l.work l.c (λ P. P.steps) passes no_step 4 (length_steps l.pack _) l.i × (length l.stack ≡ 256) × (length l.values ≡ 64)
