-- A goal is met just if a step is found that meets it.
use Rattle.std.specs.Prelude.{Option, Some, None}
use Rattle.std.specs.Option.{is_some}
use Rattle.std.specs.Prelude.{◌≡◌, true, false, List, ℕ, ◌<◌, length}
use Rattle.std.proofs.Common.{sym, arith}
use Rattle.definition.specs.Test.{is, see}
use Rattle.definition.specs.Verdict.{met}
use Rattle.definition.proofs.Laws.Agreement.{met_sound, met_complete}
use Rattle.pack_tables.specs.Catalog.{records_of}
use Rattle.pack_tables.specs.declared.catalog.Catalog.{Catalog}
use Rattle.pack_read.specs.Reads.{length_goals}
use Rattle.pack_read.specs.Held.{Held, OfHeld}
use Rattle.pack_read.specs.Goals.{goal_of, StepOf}

module _ (bytes work : List ℕ) (c : Catalog) where
  -- each goal is recorded
  pub goal_recorded : (H : Held bytes work c) (g : ℕ) → g < length H.pack.goals → g < length (records_of work c 5)
  goal_recorded H g l = omega (arith, length_goals bytes (records_of work c) H.pack H.reads)

  pub goal-given : (H : Held bytes work c) (g : ℕ) → g < length (records_of work c 5) → g < length H.pack.goals
  goal-given H g l = omega (arith, length_goals bytes (records_of work c) H.pack H.reads)

  -- a step was found
  pub goal_found : (g s : ℕ) → StepOf bytes work c g (Some s) → OfHeld bytes work c (λ P. true ≡ met P (goal_of P g))
  goal_found g s f P R Q = sym (met_complete P (goal_of P g) (f P R Q).met)

  -- none was found
  pub goal_missed : (g : ℕ) → StepOf bytes work c g None → OfHeld bytes work c (λ P. false ≡ met P (goal_of P g))
  goal_missed g f P R Q = elim (see (met P (goal_of P g))) [
    | is true p ↦ absurd (f P R Q (met_sound P (goal_of P g) p))
    | is false p ↦ sym p
  ]

  -- so it is met if one was
  pub goal_tested : (g : ℕ) (r : Option ℕ) → StepOf bytes work c g r → OfHeld bytes work c (λ P. is_some r ≡ met P (goal_of P g))
  goal_tested g (Some s) = goal_found g s
  goal_tested g None = goal_missed g
