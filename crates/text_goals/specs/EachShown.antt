-- One goal after the other: with each that is met the goals left give what all give, and their lines stand behind each other.
use Rattle.std.specs.Prelude.{Result, Ok, Err}
use Rattle.std.specs.Prelude.{◌≡◌, refl, ℕ, ◌+◌, ◌≤◌, ◌<◌, length}
use Rattle.std.proofs.Math.Path.{sym, ap}
use Rattle.std.proofs.Common.{◌∙◌, arith}
use mathlib.Core.List.{List, [], ◌∷◌, ◌++◌, append_assoc, append-nil}
use Rattle.definition.specs.Pack.{Pack}
use Rattle.definition.specs.Frame.{fine, refuse}
use Rattle.definition.specs.Answer.{Lent}
use Rattle.definition.specs.Classes.{Built}
use Rattle.definition.specs.Run.{outcome}
use Rattle.definition.specs.Goals.{Root, test_goals}
use Rattle.definition.specs.Shown.{goal_lines, shown_text}
use Rattle.definition.specs.declared.Refusal.{Refusal}
use Rattle.base.specs.Upto.{Upto, upto_none, upto_then}
use Rattle.memo.specs.declared.memo.Memo.{Memo}
use Rattle.pack_tables.specs.Catalog.{records_of}
use Rattle.pack_read.specs.Reads.{length_goals}
use Rattle.class_premises.specs.declared.building.Building.{Building}
use Rattle.term_instance.specs.declared.tables.Instance.{Instance}
use Rattle.class_build.specs.Testable.{ready_upto}
use Rattle.class_build.specs.Runs.{Left, left-all, left_end, left-refused, left_on}
use Rattle.text_write.specs.Written.{Adds, adds_none, adds_then, adds_as}
use Rattle.text_goals.specs.Showable.{ReadyIn, GivenIn, Showable, showable_on}
use Rattle.text_goals.specs.OneShown.{ShowsOne}
use Rattle.text_goals.specs.declared.goal.Budgets.{Budgets}

-- all pass, and their lines are written; or one is refused
abbrev pub ShowsEach : (bytes work work' class words text text' : List ℕ) (s : Building) (t : Instance) (b : Budgets) → Result ℕ Refusal → Type 0
ShowsEach bytes work work' class words text text' s t b (Ok end) =
    Upto t.pairs work work'
    × ((P : Pack) (x : Built) → ReadyIn bytes work class words s t P x → (rs : List Root) × ((L : Lent) → outcome L (test_goals P x 0 P.goals) ≡ fine rs) × Adds text text' 0 (shown_text P x b.form b.value rs) end)
ShowsEach bytes work work' class words text text' s t b (Err z) =
    (P : Pack) (x : Built) → ReadyIn bytes work class words s t P x → (L : Lent) → outcome L (test_goals P x 0 P.goals) ≡ refuse z

-- texts behind each other
text_append : (P : Pack) (x : Built) (budget valueBudget : ℕ) (rs ss : List Root) → shown_text P x budget valueBudget (rs ++ ss) ≡ shown_text P x budget valueBudget rs ++ shown_text P x budget valueBudget ss
unfolding shown_text
text_append P x budget valueBudget [] ss = refl
text_append P x budget valueBudget (r ∷ rs) ss =
    ap (λ (zs : List ℕ). goal_lines P x budget valueBudget r ++ zs) (text_append P x budget valueBudget rs ss)
    ∙ sym (append_assoc (goal_lines P x budget valueBudget r) (shown_text P x budget valueBudget rs) (shown_text P x budget valueBudget ss))

-- the goals ahead of g are shown
pub record Going (bytes work work' class words text₀ text : List ℕ) (s : Building) (t : Instance) (b : Budgets) (seen values : Memo) (g at : ℕ) : Type 0 where
  pub upto : Upto t.pairs work work'
  pub given : GivenIn bytes work' words s t seen values
  pub left : (P : Pack) (x : Built) → ReadyIn bytes work class words s t P x → (done : List Root) × Left P x g done × Adds text₀ text 0 (shown_text P x b.form b.value done) at

module _ (bytes work class words text₀ : List ℕ) (s : Building) (t : Instance) (b : Budgets) (seen₀ values₀ : Memo) (S : Showable bytes work class words s t seen₀ values₀) where
  -- a goal that is recorded is the pack's
  goal-given : (g : ℕ) → g < length (records_of work s.catalog 5) → (P : Pack) (x : Built) → ReadyIn bytes work class words s t P x → g < length P.goals
  goal-given g h P x R = omega (arith, h, length_goals bytes (records_of work s.catalog) P R.reads)

  -- before the first one
  pub going_none : Going bytes work work class words text₀ text₀ s t b seen₀ values₀ 0 0
  unfolding shown_text
  going_none = record { upto = upto_none t.pairs work; given = S.given; left = λ P x R. ([], left-all P x, adds_none text₀ 0) }

  module _ (work' text : List ℕ) (seen values : Memo) (g at : ℕ) (G : Going bytes work work' class words text₀ text s t b seen values g at) where
    -- what could be read can be read now
    still : (P : Pack) (x : Built) → ReadyIn bytes work class words s t P x → ReadyIn bytes work' class words s t P x
    still P x R = ready_upto bytes work work' class words s.catalog s.keying s.layout t s.store P x G.upto R

    -- the next one can be shown
    pub going_showable : Showable bytes work' class words s t seen values
    going_showable = showable_on bytes work work' class words s t seen₀ values₀ seen values S G.upto G.given

    pub going_recorded : g < length (records_of work s.catalog 5) → g < length (records_of work' s.catalog 5)
    going_recorded h = omega (arith, goal-given g h S.pack S.built S.ready, length_goals bytes (records_of work' s.catalog) S.pack (still S.pack S.built S.ready).reads)

    -- none is left
    pub going_all : length (records_of work s.catalog 5) ≤ g → ShowsEach bytes work work' class words text₀ text s t b (Ok at)
    going_all h = (G.upto, λ P x R. let K = G.left P x R in (K.0, left_end P x g K.0 K.1 (omega (arith, h, length_goals bytes (records_of work s.catalog) P R.reads)), K.2))

    module _ (h : g < length (records_of work s.catalog 5)) (work'' text' : List ℕ) where
      -- it is met
      pub going_on : (seen' values' : Memo) (end : ℕ) → ShowsOne bytes work' work'' class words text text' s t b at g (Ok (seen', values', end)) → Going bytes work work'' class words text₀ text' s t b seen' values' (g + 1) end
      unfolding shown_text
      going_on seen' values' end N = record {
        upto = upto_then t.pairs work work' work'' G.upto N.0;
        given = N.1;
        left = λ P x R.
            let K = G.left P x R in
            let D = N.2 P x (still P x R) in
            let r = D.0 in
            let lines = goal_lines P x b.form b.value r in
            let before = shown_text P x b.form b.value K.0 in
            let e : before ++ lines ≡ shown_text P x b.form b.value (K.0 ++ (r ∷ [])) =
            sym (text_append P x b.form b.value K.0 (r ∷ []) ∙ ap (λ (zs : List ℕ). before ++ zs) (append-nil lines)) in
            (K.0 ++ (r ∷ []), left_on P x g K.0 K.1 (goal-given g h P x R) r (λ L. D.1 g L), adds_as text₀ text' 0 end (before ++ lines) _ e (adds_then text₀ text text' 0 at end before lines K.2 D.2));
      }

      -- it is refused
      pub going_refused : (z : Refusal) → ShowsOne bytes work' work'' class words text text' s t b at g (Err z) → ShowsEach bytes work work'' class words text₀ text' s t b (Err z)
      going_refused z N = λ P x R L. left-refused P x g (G.left P x R).0 (G.left P x R).1 (goal-given g h P x R) L z (N.1 P x (still P x R) g L ∙ ap (λ (y : Refusal). refuse y) N.0)
