-- One goal after the other: with each that is met the goals left give what all give.
use Rattle.std.specs.Prelude.{Result, Ok, Err}
use Rattle.std.specs.Prelude.{◌≡◌, List, [], ◌∷◌, ◌++◌, ℕ, ◌+◌, ◌≤◌, ◌<◌, length}
use Rattle.std.proofs.Common.{ap, ◌∙◌, arith}
use Rattle.definition.specs.Pack.{Pack}
use Rattle.definition.specs.Frame.{fine, refuse}
use Rattle.definition.specs.Answer.{Lent}
use Rattle.definition.specs.Classes.{Built}
use Rattle.definition.specs.Run.{outcome}
use Rattle.definition.specs.Goals.{Root, test_goals}
use Rattle.definition.specs.declared.Refusal.{Refusal}
use Rattle.base.specs.Outside.{Outside, outside_none, outside_then}
use Rattle.pack_tables.specs.Catalog.{records_of}
use Rattle.pack_tables.specs.declared.catalog.Catalog.{Catalog}
use Rattle.pack_read.specs.Reads.{length_goals}
use Rattle.memo.specs.declared.memo.Memo.{Memo}
use Rattle.store.specs.declared.nodes.Store.{Store}
use Rattle.class_keys.specs.declared.classes.Keying.{Keying}
use Rattle.class_premises.specs.declared.layout.Layout.{Layout}
use Rattle.term_instance.specs.Held.{Kept, given_on}
use Rattle.term_instance.specs.declared.tables.Instance.{Instance}
use Rattle.class_build.specs.Runs.{Left, left-all, left_end, left-refused, left_on}
use Rattle.class_build.specs.Testable.{Ready, Testable, ready_on}
use Rattle.class_build.specs.OneGoal.{OfReady, TestsOne}

-- the tests come to something; or to a refusal
abbrev pub TestsEach : (bytes work work' class words : List ℕ) (c : Catalog) (k : Keying) (l : Layout) (t : Instance) (st : Store) → Result (Memo × Memo) Refusal → Type 0
TestsEach bytes work work' class words c k l t st (Ok (seen, values)) =
    Kept t seen values work work'
    × OfReady bytes work class words c k l t st (λ P b. (rs : List Root) × ((L : Lent) → outcome L (test_goals P b 0 P.goals) ≡ fine rs))
TestsEach bytes work work' class words c k l t st (Err z) =
    Outside t.pairs t.end work work' × OfReady bytes work class words c k l t st (λ P b. (L : Lent) → outcome L (test_goals P b 0 P.goals) ≡ refuse z)

-- the words ahead of the tables are as they were, and the goals from g on give all
pub record Going (bytes work work' class words : List ℕ) (c : Catalog) (k : Keying) (l : Layout) (t : Instance) (st : Store) (seen values : Memo) (g : ℕ) : Type 0 where
  pub kept : Kept t seen values work work'
  pub left : OfReady bytes work class words c k l t st (λ P b. (done : List Root) × Left P b g done)

module _ (bytes work class words : List ℕ) (c : Catalog) (k : Keying) (l : Layout) (t : Instance) (st : Store) (seen₀ values₀ : Memo) (T : Testable bytes work class words c k l t st seen₀ values₀) where
  -- a goal that is recorded is the pack's
  goal-given : (g : ℕ) → g < length (records_of work c 5) → (P : Pack) (b : Built) → Ready bytes work class words c k l t st P b → g < length P.goals
  goal-given g h P b R = omega (arith, h, length_goals bytes (records_of work c) P R.reads)

  -- before the first one
  pub going_none : Going bytes work work class words c k l t st seen₀ values₀ 0
  going_none = record {
    kept = record { outside = outside_none t.pairs t.end work; seen-kept = T.given.seen-kept; values-kept = T.given.values-kept };
    left = λ P b R. ([], left-all P b);
  }

  module _ (work' : List ℕ) (seen values : Memo) (g : ℕ) (G : Going bytes work work' class words c k l t st seen values g) where
    -- what could be read can be read now
    going_read : (P : Pack) (b : Built) → Ready bytes work class words c k l t st P b → Ready bytes work' class words c k l t st P b
    going_read P b R = ready_on bytes work work' class words c k l t st P b G.kept.outside R

    -- a goal can be tested
    pub going_testable : Testable bytes work' class words c k l t st seen values
    going_testable = record {
      pack = T.pack;
      built = T.built;
      ready = going_read T.pack T.built T.ready;
      given = given_on bytes work words c t st seen₀ values₀ T.given work' seen values G.kept;
    }

    -- it is recorded still
    pub going_recorded : g < length (records_of work c 5) → g < length (records_of work' c 5)
    going_recorded h =
        let R = going_read T.pack T.built T.ready in
        omega (arith, goal-given g h T.pack T.built T.ready, length_goals bytes (records_of work' c) T.pack R.reads)

    -- none is left
    pub going_met : length (records_of work c 5) ≤ g → TestsEach bytes work work' class words c k l t st (Ok (seen, values))
    going_met h = (
      G.kept,
      λ P b R. ((G.left P b R).0, left_end P b g (G.left P b R).0 (G.left P b R).1 (omega (arith, h, length_goals bytes (records_of work c) P R.reads))),
    )

    module _ (h : g < length (records_of work c 5)) (work'' : List ℕ) where
      -- it is met
      pub going_on : (seen' values' : Memo) (row : ℕ) → TestsOne bytes work' work'' class words c k l t st g (Ok (seen', values', row)) → Going bytes work work'' class words c k l t st seen' values' (g + 1)
      going_on seen' values' row N = record {
        kept = record { outside = outside_then t.pairs t.end work work' work'' G.kept.outside N.0.outside; seen-kept = N.0.seen-kept; values-kept = N.0.values-kept };
        left = λ P b R.
            let D = N.1 P b (going_read P b R) in
            let K = G.left P b R in
            (K.0 ++ (D.0 ∷ []), left_on P b g K.0 K.1 (goal-given g h P b R) D.0 (λ L. D.1 g L));
      }

      -- it is refused
      pub going_refused : (z : Refusal) → TestsOne bytes work' work'' class words c k l t st g (Err z) → TestsEach bytes work work'' class words c k l t st (Err z)
      going_refused z N = (
        outside_then t.pairs t.end work work' work'' G.kept.outside N.0,
        λ P b R L. left-refused P b g (G.left P b R).0 (G.left P b R).1 (goal-given g h P b R) L z (N.2 P b (going_read P b R) g L ∙ ap (λ (x : Refusal). refuse x) N.1),
      )
