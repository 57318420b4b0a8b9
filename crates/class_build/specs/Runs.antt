-- What one goal's test comes to in lent buffers, and that the tests of the goals left give those of all.
use Rattle.std.specs.Prelude.{◌≡◌, true, false, ℕ, suc, ◌+◌, ◌≤◌, ◌<◌, eqb, length, get_or, drop}
use Rattle.std.proofs.Common.{sym, ◌∙◌, add-one, drop_of_length-le, drop-cons}
use Rattle.std.proofs.Math.Path.{ap}
use mathlib.Core.List.{List, [], ◌∷◌, ◌++◌, append_assoc, append-nil}
use Rattle.std.proofs.Math.Option.{none, some}
use Rattle.definition.specs.Pack.{Goal, Result, Pack, step_of}
use Rattle.definition.specs.Verdict.{Bound, no_goal}
use Rattle.definition.specs.Frame.{fine, refuse}
use Rattle.definition.specs.Answer.{Lent}
use Rattle.definition.specs.Keys.{first_of, keyed}
use Rattle.definition.specs.Classes.{Built}
use Rattle.definition.specs.Run.{◌>>=◌, return, outcome}
use Rattle.definition.specs.Goals.{Root, result_of, instance_of, test_goal, test_goals}
use Rattle.definition.specs.declared.Refusal.{Refusal}
use Rattle.definition.specs.declared.Refusal.TheVariants.{Goal as Unmet, Instance}
use Rattle.theory.specs.Making.Runs.{outcome_fine, outcome_refuse, outcome-return-end, outcome_some, outcome-none, outcome_holds, outcome_fails}

-- ---- one goal
module _ (P : Pack) (b : Built) (i : ℕ) (g : Goal) (L : Lent) where
  -- it has no result
  pub goal_missed : result_of g.name P.results ≡ none → outcome L (test_goal P b i g) ≡ refuse (Unmet i)
  unfolding test_goal
  goal_missed e = outcome-none L (result_of g.name P.results) (Unmet i) _ e

  module _ (r : Result) (e : result_of g.name P.results ≡ some r) where
    -- the class of its result's judgment
    abbrev class_of : ℕ
    class_of = get_or (keyed P).words (first_of P r.step) 0

    -- the result has another judgment
    pub goal-other : eqb (step_of P r.step).judgment g.judgment ≡ false → outcome L (test_goal P b i g) ≡ refuse (Unmet i)
    unfolding test_goal
    goal-other t = outcome_some L (result_of g.name P.results) r (Unmet i) _ e ∙ outcome_fails L (eqb (step_of P r.step).judgment g.judgment) (Unmet i) _ t

    module _ (t : eqb (step_of P r.step).judgment g.judgment ≡ true) where
      -- the judgment is no instance of the class's conclusion
      pub goal-unlike : instance_of P b (get_or (keyed P).words (first_of P r.step) 0) g.judgment ≡ none → outcome L (test_goal P b i g) ≡ refuse (Instance r.step)
      unfolding test_goal
      goal-unlike n =
          outcome_some L (result_of g.name P.results) r (Unmet i) _ e
          ∙ outcome_holds L (eqb (step_of P r.step).judgment g.judgment) (Unmet i) _ t
          ∙ outcome-none L (instance_of P b class_of g.judgment) (Instance r.step) _ n

      -- it is one
      pub goal_alike : (vs : List Bound) → instance_of P b (get_or (keyed P).words (first_of P r.step) 0) g.judgment ≡ some vs
          → outcome L (test_goal P b i g) ≡ fine (record { goal = g; step = first_of P r.step; class = get_or (keyed P).words (first_of P r.step) 0; values = vs })
      unfolding test_goal
      goal_alike vs n =
          outcome_some L (result_of g.name P.results) r (Unmet i) _ e
          ∙ outcome_holds L (eqb (step_of P r.step).judgment g.judgment) (Unmet i) _ t
          ∙ outcome_some L (instance_of P b class_of g.judgment) vs (Instance r.step) _ n
          ∙ outcome-return-end L (record { goal = g; step = first_of P r.step; class = class_of; values = vs })

-- ---- all goals
-- what the goals from i on come to is what all come to: a refusal is theirs, and if they pass all pass, with the roots of those done ahead
pub record Left (P : Pack) (b : Built) (i : ℕ) (done : List Root) : Type 0 where
  pub refused : (L : Lent) (x : Refusal) → outcome L (test_goals P b i (drop i P.goals)) ≡ refuse x → outcome L (test_goals P b 0 P.goals) ≡ refuse x
  pub passed : (rs : List Root) → ((L : Lent) → outcome L (test_goals P b i (drop i P.goals)) ≡ fine rs) → (L : Lent) → outcome L (test_goals P b 0 P.goals) ≡ fine (done ++ rs)

-- before the first one
pub left-all : (P : Pack) (b : Built) → Left P b 0 []
left-all P b = record { refused = λ L x e. e; passed = λ rs e. e }

module _ (P : Pack) (b : Built) (i : ℕ) (roots : List Root) (L : Left P b i roots) where
  -- none is left
  pub left_end : length P.goals ≤ i → (l : Lent) → outcome l (test_goals P b 0 P.goals) ≡ fine roots
  unfolding test_goals
  left_end h l = L.passed [] (λ m. rw (drop_of_length-le P.goals h) (outcome-return-end m [])) l ∙ ap fine (append-nil roots)

  module _ (h : i < length P.goals) where
    -- the next one
    abbrev next : Goal
    next = get_or P.goals i no_goal

    -- those behind it
    abbrev others : List Goal
    others = drop (suc i) P.goals

    -- its test comes first
    first : (l : Lent) → outcome l (test_goals P b i (drop i P.goals)) ≡ outcome l (test_goal P b i next >>= λ r. test_goals P b (suc i) others >>= λ rs. return (r ∷ rs))
    unfolding test_goals
    first l = ap (λ (gs : List Goal). outcome l (test_goals P b i gs)) (drop-cons P.goals i no_goal h)

    -- it is refused: so are all
    pub left-refused : (l : Lent) (x : Refusal) → outcome l (test_goal P b i (get_or P.goals i no_goal)) ≡ refuse x → outcome l (test_goals P b 0 P.goals) ≡ refuse x
    left-refused l x e = L.refused l x (first l ∙ outcome_refuse l (test_goal P b i next) _ x e)

    -- it passes: the others are left
    module _ (r : Root) (e : (l : Lent) → outcome l (test_goal P b i (get_or P.goals i no_goal)) ≡ fine r) where
      -- what they come to
      then : (l : Lent) → outcome l (test_goals P b i (drop i P.goals)) ≡ outcome l (test_goals P b (suc i) others >>= λ rs. return (r ∷ rs))
      then l = first l ∙ outcome_fine l (test_goal P b i next) (λ q. test_goals P b (suc i) others >>= λ rs. return (q ∷ rs)) r (e l)

      -- one goal more
      pub left_on : Left P b (i + 1) (roots ++ (r ∷ []))
      left_on = rw (add-one i) (record {
        refused = λ l x q. L.refused l x (then l ∙ outcome_refuse l (test_goals P b (suc i) others) (λ rs. return (r ∷ rs)) x q);
        passed = λ rs q m.
            L.passed (r ∷ rs) (λ l. then l ∙ outcome_fine l (test_goals P b (suc i) others) (λ ss. return (r ∷ ss)) rs (q l) ∙ outcome-return-end l (r ∷ rs)) m
            ∙ ap fine (sym (append_assoc roots (r ∷ []) rs));
      })
