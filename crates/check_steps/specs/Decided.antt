-- The verdict as the definition has it.
use Rattle.std.specs.Prelude.{◌≡◌, ℕ, Result, Ok, Err}
use Rattle.std.proofs.Math.Option.{Option, none, some}
use Rattle.definition.specs.Pack.{Pack}
use Rattle.definition.specs.Verdict.{passes, met, first_failing, verdict}
use Rattle.definition.specs.declared.Refusal.{Refusal}
use Rattle.definition.specs.declared.Refusal.TheVariants as refusal

-- the refusal, if it is one
abbrev pub verdict_of : Result (Unit {0}) Refusal → Option Refusal
verdict_of (Ok tt) = none
verdict_of (Err r) = some r

module _ (P : Pack) where
  pub step_fails : (i : ℕ) → some i ≡ first_failing (passes P) P.steps 0 → some (refusal.Step i) ≡ verdict P
  unfolding verdict
  step_fails i e = rw (← e, verdict)

  pub goal_fails : (g : ℕ) → none ≡ first_failing (passes P) P.steps 0 → some g ≡ first_failing (met P) P.goals 0 → some (refusal.Goal g) ≡ verdict P
  unfolding verdict
  goal_fails g e f = rw (← e, ← f, verdict)

  pub all_accepted : none ≡ first_failing (passes P) P.steps 0 → none ≡ first_failing (met P) P.goals 0 → none ≡ verdict P
  unfolding verdict
  all_accepted e f = rw (← e, ← f, verdict)
