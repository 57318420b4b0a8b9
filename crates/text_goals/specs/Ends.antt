-- The end of the call's run: the goals shown and the figures, when all classes are made.
use Rattle.std.specs.Prelude.{Result, Ok, Err}
use Rattle.std.specs.Prelude.{◌≡◌, refl, List, [], ℕ, ◌≤◌, ◌<◌, length, take}
use Rattle.std.proofs.Common.{sym, subst, arith}
use Rattle.definition.specs.Pack.{Pack}
use Rattle.definition.specs.Frame.{fine, refuse}
use Rattle.definition.specs.Answer.{Lent}
use Rattle.definition.specs.Classes.{Built}
use Rattle.definition.specs.Figures.{figures}
use Rattle.definition.specs.Run.{outcome}
use Rattle.definition.specs.Goals.{Root, test_goals}
use Rattle.definition.specs.Shown.{shown_text}
use Rattle.definition.specs.declared.Figures.{Figures}
use Rattle.definition.specs.declared.Refusal.{Refusal}
use Rattle.definition.specs.declared.Refusal.TheVariants as refusals
use Rattle.class_keys.specs.declared.classes.Counts.{Counts}
use Rattle.class_premises.specs.declared.building.Building.{Building}
use Rattle.class_premises.specs.declared.building.Counted.{Counted}
use Rattle.class_premises.specs.Buffers.{Buffers}
use Rattle.term_instance.specs.declared.tables.Instance.{Instance}
use Rattle.class_build.specs.GoalTables.{test_tables}
use Rattle.class_build.specs.Figures.{Figured}
use Rattle.class_build.specs.Build.{Ended, TestingIn}
use Rattle.class_build.specs.Finish.{tables_made, stack_fits, figures_are}
use Rattle.text_write.specs.Written.{written_none, ends-whole, ends_short}
use Rattle.text_goals.specs.AllShown.{Starting, ShowsAll}
use Rattle.text_goals.specs.declared.goal.Budgets.{Budgets}

-- all classes of pack P are made, in these buffers
abbrev pub EndedIn : Buffers → Building → Counts → Counted → Pack → Built → Type 0
EndedIn B s r sums P x = Ended B.pack B.work B.class B.pattern B.graph s.catalog s.keying s.layout r s.store s.fill sums P x

-- a goal is refused; or the text of all has no room
pub data Refusing (P : Pack) (x : Built) (b : Budgets) (text : List ℕ) (y : Refusal) : Type 0 where
  unmet : ((L : Lent) → outcome L (test_goals P x 0 P.goals) ≡ refuse y) → Refusing P x b text y
  short : (rs : List Root) → ((L : Lent) → outcome L (test_goals P x 0 P.goals) ≡ fine rs) → length text < length (shown_text P x b.form b.value rs) → y ≡ refusals.Short 5 → Refusing P x b text y

-- the goals are met and shown, and figures counted
pub record Showed (P : Pack) (x : Built) (b : Budgets) (text' : List ℕ) (k : ℕ) (f : Figures) : Type 0 where
  pub roots : List Root
  pub are : (L : Lent) → outcome L (test_goals P x 0 P.goals) ≡ fine roots
  pub long : k ≡ length (shown_text P x b.form b.value roots)
  pub bytes : take k text' ≡ shown_text P x b.form b.value roots
  pub counted : f ≡ figures P x

-- what `finish` answers
abbrev pub EndsShown : Buffers → (text text' : List ℕ) → Building → Counts → Counted → Budgets → Result (ℕ × ℕ × ℕ × Figures) Refusal → Type 0
EndsShown B text text' s r sums b (Ok (n, m, k, f)) = (n ≡ s.fill) × (m ≡ s.store.used) × (k ≤ length text') × ((P : Pack) (x : Built) → EndedIn B s r sums P x → Showed P x b text' k f)
EndsShown B text text' s r sums b (Err y) = (P : Pack) (x : Built) → EndedIn B s r sums P x → Refusing P x b text y

module _ (B : Buffers) (s : Building) (r : Counts) (sums : Counted) (T : TestingIn B s r sums) (small : length B.class < 4294967296) (i : Instance) (e : i ≡ test_tables (length B.graph) s.layout s.store) where
  -- goals can be shown
  pub ends_starting : Starting B.pack B.work B.class B.pattern s i
  ends_starting =
      let S = T.ended.standing in
      let tables : Instance = test_tables (length B.graph) s.layout s.store in
      let stack = stack_fits B.pack B.work B.class B.pattern B.graph s.catalog s.keying s.layout r s.store s.fill sums T tables refl in
      subst (λ (j : Instance). Starting B.pack B.work B.class B.pattern s j) (sym e) (record {
        made = tables_made B.pack B.work B.class B.pattern B.graph s.catalog s.keying s.layout r s.store s.fill sums T;
        few = λ j h. omega (arith, (S.sound j h).few);
        small = small;
        forms = omega (arith, stack.0, S.lifts.laid.index.placed.len);
        grounds = omega (arith, stack.1, S.lifts.laid.many);
      })

  module _ (text text' work' : List ℕ) (b : Budgets) (same : length text' ≡ length text) (room : length text < 18446744073709551615) where
    -- the text has room
    pub ends-done : (k : ℕ) → ShowsAll B.pack B.work work' B.class B.pattern text text' s i b (Ok k) → k ≤ length text' → (f : Figures) → Figured work' s.keying r s.layout.nodes s.store sums f
        → EndsShown B text text' s r sums b (Ok (s.fill, s.store.used, k, f))
    ends-done k N h f F = (
      refl,
      refl,
      h,
      λ P x E.
          let D = N.1 B.graph r E.memo s.fill P x E.standing E.all in
          let w = ends-whole text' k (shown_text P x b.form b.value D.0) (omega (arith, same, room)) (D.2.written [] (written_none text)) h in
          record {
            roots = D.0;
            are = D.1;
            long = w.0;
            bytes = w.1;
            counted = figures_are B.pack B.work B.class B.pattern B.graph s.catalog s.keying s.layout r s.store s.fill sums P x E i e work' N.0 f F;
          },
    )

    -- it has none
    pub ends-full : (k : ℕ) → ShowsAll B.pack B.work work' B.class B.pattern text text' s i b (Ok k) → length text' < k → EndsShown B text text' s r sums b (Err (refusals.Short 5))
    ends-full k N h P x E =
        let D = N.1 B.graph r E.memo s.fill P x E.standing E.all in
        short D.0 D.1 (omega (arith, same, ends_short text' k (shown_text P x b.form b.value D.0) (D.2.written [] (written_none text)) h)) refl

    -- a goal is refused
    pub ends-refused : (z : Refusal) → ShowsAll B.pack B.work work' B.class B.pattern text text' s i b (Err z) → EndsShown B text text' s r sums b (Err z)
    ends-refused z N P x E = unmet (N B.graph r E.memo s.fill P x E.standing E.all)
