-- One goal, tested and shown.
use Rattle.std.specs.Prelude.{Result, Ok, Err}
use Rattle.std.specs.Prelude.{◌≡◌, List, ℕ, get_or}
use Rattle.definition.specs.Pack.{Pack}
use Rattle.definition.specs.Verdict.{no_goal}
use Rattle.definition.specs.Frame.{fine, refuse}
use Rattle.definition.specs.Answer.{Lent}
use Rattle.definition.specs.Classes.{Built}
use Rattle.definition.specs.Run.{outcome}
use Rattle.definition.specs.Goals.{Root, test_goal}
use Rattle.definition.specs.Shown.{goal_lines}
use Rattle.definition.specs.declared.Refusal.{Refusal}
use Rattle.base.specs.Upto.{Upto}
use Rattle.memo.specs.declared.memo.Memo.{Memo}
use Rattle.class_premises.specs.declared.building.Building.{Building}
use Rattle.term_instance.specs.declared.tables.Instance.{Instance}
use Rattle.class_build.specs.OneGoal.{told_of}
use Rattle.text_write.specs.Written.{Adds}
use Rattle.text_goals.specs.Goals.{WritesGoal}
use Rattle.text_goals.specs.Showable.{form_of, ReadyIn, GivenIn, TestsIn, Showable, met-lines, met_upto, met-kept}
use Rattle.text_goals.specs.declared.goal.Budgets.{Budgets}

-- it passes with a root, whose lines are written; or it is refused
abbrev pub ShowsOne : (bytes work work' class words text text' : List ℕ) (s : Building) (t : Instance) (b : Budgets) (at g : ℕ) → Result (Memo × Memo × ℕ) Refusal → Type 0
ShowsOne bytes work work' class words text text' s t b at g (Ok (seen, values, end)) =
    Upto t.pairs work work' × GivenIn bytes work' words s t seen values
    × ((P : Pack) (x : Built) → ReadyIn bytes work class words s t P x
    → (r : Root) × ((i : ℕ) (L : Lent) → outcome L (test_goal P x i (get_or P.goals g no_goal)) ≡ fine r) × Adds text text' at (goal_lines P x b.form b.value r) end)
ShowsOne bytes work work' class words text text' s t b at g (Err z) =
    (told_of g z ≡ z) × ((P : Pack) (x : Built) → ReadyIn bytes work class words s t P x → (i : ℕ) (L : Lent) → outcome L (test_goal P x i (get_or P.goals g no_goal)) ≡ refuse (told_of i z))

module _ (bytes work class words : List ℕ) (s : Building) (t : Instance) (seen values : Memo) (S : Showable bytes work class words s t seen values) (b : Budgets) (at g : ℕ) where
  -- it is met
  pub one_shown : (work' : List ℕ) (seen' values' : Memo) (row : ℕ) (N : TestsIn bytes work work' class words s t g (Ok (seen', values', row))) (work'' text text' : List ℕ) (end : ℕ)
      → WritesGoal bytes work' work'' class words text text' (form_of s t values' row b.value) b.form at g end → ShowsOne bytes work work'' class words text text' s t b at g (Ok (seen', values', end))
  one_shown work' seen' values' row N work'' text text' end W = (
    met_upto bytes work class words s t seen values S g work' seen' values' row N work'' W.upto,
    met-kept bytes work class words s t seen values S g work' seen' values' row N work'' W.upto,
    λ P x R. let D = N.1 P x R in (D.0, D.1, met-lines bytes work class words s t seen values S g work' seen' values' row N b.form b.value work'' text text' at end W P x R),
  )
