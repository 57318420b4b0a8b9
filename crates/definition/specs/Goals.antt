-- Document 01, "The answer of a call": the goals' tests behind class building, "then goals, ascending".
use Rattle.std.specs.Prelude.{true, false, List, [], ◌∷◌, ℕ, suc, eqb, get_or}
use Rattle.std.proofs.Math.Option.{Option, none, some}
use Rattle.definition.specs.Test.{same}
use Rattle.definition.specs.Pack.{Goal, Result, Pack, step_of}
use Rattle.definition.specs.Verdict.{Bound, matches}
use Rattle.definition.specs.Store.{term_of}
use Rattle.definition.specs.Keys.{first_of, keyed}
use Rattle.definition.specs.Classes.{no_class, Built}
use Rattle.definition.specs.Run.{Run, ◌>>=◌, return, or_else, need}
use Rattle.definition.specs.declared.Refusal.TheVariants.{Goal as Unmet, Instance}

-- a goal with the first step of its result's judgment, that step's class, and the values of the conclusion's variables
pub record Root : Type 0 where
  pub goal : Goal
  pub step : ℕ
  pub class : ℕ
  pub values : List Bound

-- the result of a name
unfoldable pub result_of : List ℕ → List Result → Option Result
unfolding same
result_of name [] = none
result_of name (r ∷ rs) = elim (same name r.name) [ true ↦ some r | false ↦ result_of name rs ]

-- a node against a class's conclusion, variables by their numbers
unfoldable pub instance_of : Pack → Built → ℕ → ℕ → Option (List Bound)
unfolding matches term_of
instance_of P b class n = matches P (term_of b.store (get_or b.classes class no_class).conclusion) n []

-- 4: "no result, or one with another judgment"; 7: a goal's judgment is no instance of "its class's conclusion (then the result's step)"
unfoldable pub test_goal : Pack → Built → ℕ → Goal → Run Root
unfolding result_of step_of first_of keyed instance_of or_else need
test_goal P b i g = do
  r ← or_else (result_of g.name P.results) (Unmet i)
  _ ← need (eqb (step_of P r.step).judgment g.judgment) (Unmet i)
  let first = first_of P r.step
  let class = get_or (keyed P).words first 0
  values ← or_else (instance_of P b class g.judgment) (Instance r.step)
  return (record { goal = g; step = first; class = class; values = values })

-- goals from the i-th on
unfoldable pub test_goals : Pack → Built → ℕ → List Goal → Run (List Root)
unfolding test_goal
test_goals P b i [] = return []
test_goals P b i (g ∷ gs) = test_goal P b i g >>= λ r. test_goals P b (suc i) gs >>= λ rs. return (r ∷ rs)
