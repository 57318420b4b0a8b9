-- The step that meets a goal: that of the result of its name, if it has its judgment.
use Rattle.std.specs.Prelude.{Option, Some, None}
use Rattle.std.specs.Prelude.{◌≡◌, List, ℕ, ◌<◌, length, get_or}
use Rattle.std.proofs.Common.{sym, ap, ◌∙◌, arith}
use Rattle.definition.specs.Pack.{Goal, Pack, step_of}
use Rattle.definition.specs.Verdict.{no_goal, no_result, Met}
use Rattle.pack_tables.specs.Catalog.{records_of}
use Rattle.pack_tables.specs.declared.catalog.Catalog.{Catalog}
use Rattle.pack_read.specs.Reads.{Reads, length_steps, length_results}
use Rattle.pack_read.specs.Says.{OfPack, ResultOf}
use Rattle.pack_read.specs.Held.{Held, OfHeld}

-- a goal of the pack
abbrev pub goal_of : Pack → ℕ → Goal
goal_of P g = get_or P.goals g no_goal

-- step s is that of a result that meets the goal
pub record MetBy (P : Pack) (g : Goal) (s : ℕ) : Type 0 where
  pub met : Met P g
  pub step : s ≡ (get_or P.results met.result no_result).step

-- it does; or the goal is not met
abbrev pub StepOf : List ℕ → List ℕ → Catalog → ℕ → Option ℕ → Type 0
StepOf bytes work c g (Some s) = OfHeld bytes work c (λ P. MetBy P (goal_of P g) s)
StepOf bytes work c g None = OfHeld bytes work c (λ P. Met P (goal_of P g) → ⊥)

module _ (bytes work : List ℕ) (c : Catalog) where
  -- no result has the goal's name
  pub step-none : (g : ℕ) → ResultOf bytes work c g None → StepOf bytes work c g None
  step-none g f P R Q m = f P R m.result m.given (sym m.name)

  module _ (H : Held bytes work c) (g i : ℕ) (f : ResultOf bytes work c g (Some i)) where
    -- the result that was found is recorded
    pub result_recorded : i < length (records_of work c 6)
    result_recorded = omega (arith, length_results bytes (records_of work c) H.pack H.reads, (f H.pack H.reads).0)

    module _ (s : ℕ) (e : OfPack bytes work c (λ P. (get_or P.results i no_result).step) s) where
      -- and so is its step
      pub step_recorded : s < length (records_of work c 4)
      step_recorded = omega (arith, length_steps bytes (records_of work c) H.pack H.reads, (H.proper.good.results i (f H.pack H.reads).0).step, e H.pack H.reads)

      module _ (j m : ℕ) (u : OfPack bytes work c (λ P. (step_of P s).judgment) j) (v : OfPack bytes work c (λ P. (goal_of P g).judgment) m) where
        -- the result's step has its judgment
        judged : (P : Pack) → Reads bytes (records_of work c) P → j ≡ (step_of P (get_or P.results i no_result).step).judgment
        judged P R = u P R ∙ ap (λ (x : ℕ). (step_of P x).judgment) (e P R)

        -- the judgments are the same
        pub step_same : j ≡ m → StepOf bytes work c g (Some s)
        step_same q P R Q = record { met = record { result = i; given = (f P R).0; name = sym (f P R).1; judgment = sym (judged P R) ∙ q ∙ v P R }; step = e P R }

        -- they differ: names are given once, so no other result has this one
        pub step_other : (j ≡ m → ⊥) → StepOf bytes work c g None
        step_other d P R Q t =
            let n : t.result ≡ i = Q.once.results t.result i t.given (f P R).0 (sym t.name ∙ sym (f P R).1) in
            d (judged P R ∙ ap (λ (k : ℕ). (step_of P (get_or P.results k no_result).step).judgment) (sym n) ∙ t.judgment ∙ sym (v P R))
