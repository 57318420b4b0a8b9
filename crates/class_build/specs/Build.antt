-- What class building comes to: the classes, the goals' tests and the figures, as the definition has them.
use Rattle.std.specs.Prelude.{Result, Ok, Err}
use Rattle.std.specs.Prelude.{◌≡◌, List, ℕ, ◌+◌, ◌*◌, ◌≤◌, ◌<◌, length, take}
use Rattle.std.proofs.Common.{◌∙◌}
use Rattle.definition.specs.Pack.{Pack}
use Rattle.definition.specs.Frame.{fine, refuse}
use Rattle.definition.specs.Answer.{Lent}
use Rattle.definition.specs.Run.{Run, outcome}
use Rattle.definition.specs.Store.{pattern_words, nothing}
use Rattle.definition.specs.Keys.{keyed as keys_of}
use Rattle.definition.specs.Classes.{Built, make_classes, build_classes, class_words}
use Rattle.definition.specs.Figures.{figures}
use Rattle.definition.specs.Goals.{Root, test_goals}
use Rattle.definition.specs.Calls.{class_run}
use Rattle.definition.specs.declared.Figures.{Figures}
use Rattle.definition.specs.declared.Refusal.{Refusal}
use Rattle.memo.specs.declared.memo.Memo.{Memo}
use Rattle.store.specs.declared.nodes.Store.{Store}
use Rattle.pack_tables.specs.declared.catalog.Catalog.{Catalog}
use Rattle.pack_read.specs.Held.{OfHeld}
use Rattle.theory.specs.Making.Runs.{outcome_fine, outcome_refuse, outcome-return-end}
use Rattle.class_keys.specs.declared.classes.Keying.{Keying}
use Rattle.class_keys.specs.declared.classes.Counts.{Counts}
use Rattle.class_premises.specs.declared.layout.Layout.{Layout}
use Rattle.class_premises.specs.Standing.{Standing}
use Rattle.class_rule.specs.Done.{Lends}
use Rattle.class_all.specs.Totals.{Sums}
use Rattle.class_premises.specs.declared.building.Counted.{Counted}
use Rattle.class_premises.specs.declared.building.Building.{Building}
use Rattle.class_premises.specs.Buffers.{Buffers, lent}
use Rattle.class_build.specs.Ready.{unbuilt}

-- ---- the goals
-- all classes of pack P are made, and these are the sums
pub record Ended (bytes work class words cells : List ℕ) (c : Catalog) (k : Keying) (l : Layout) (r : Counts) (st : Store) (fill : ℕ) (sums : Counted) (P : Pack) (b : Built) : Type 0 where
  pub memo : Memo
  pub standing : Standing bytes work class words cells c k l r st memo fill P b
  pub all : length b.classes ≡ length (keys_of P).classes
  pub summed : Sums sums b.classes

-- it is so of some pack, and there is room for the goals' tests and for a stack behind their tables
pub record Testing (bytes work class words cells : List ℕ) (c : Catalog) (k : Keying) (l : Layout) (r : Counts) (st : Store) (fill : ℕ) (sums : Counted) : Type 0 where
  pub pack : Pack
  pub built : Built
  pub ended : Ended bytes work class words cells c k l r st fill sums pack built
  pub room : l.copied + (4 * length words + 2 * (length cells + 16) + 2 * l.nodes) ≤ length work

-- what `finish` answers
abbrev pub Ends : List ℕ → List ℕ → List ℕ → List ℕ → List ℕ → Catalog → Keying → Layout → Counts → Store → ℕ → Counted → Result (ℕ × ℕ × Figures) Refusal → Type 0
Ends bytes work class words cells c k l r st fill sums (Ok (n, m, f)) =
    (n ≡ fill) × (m ≡ st.used)
    × ((P : Pack) (b : Built) → Ended bytes work class words cells c k l r st fill sums P b → (rs : List Root) × ((L : Lent) → outcome L (test_goals P b 0 P.goals) ≡ fine rs) × (f ≡ figures P b))
Ends bytes work class words cells c k l r st fill sums (Err x) =
    (P : Pack) (b : Built) → Ended bytes work class words cells c k l r st fill sums P b → (L : Lent) → outcome L (test_goals P b 0 P.goals) ≡ refuse x

-- both of buffers that are lent and what is at hand
abbrev pub TestingIn : Buffers → Building → Counts → Counted → Type 0
TestingIn B s r sums = Testing B.pack B.work B.class B.pattern B.graph s.catalog s.keying s.layout r s.store s.fill sums

abbrev pub EndsIn : Buffers → Building → Counts → Counted → Result (ℕ × ℕ × Figures) Refusal → Type 0
EndsIn B s r sums a = Ends B.pack B.work B.class B.pattern B.graph s.catalog s.keying s.layout r s.store s.fill sums a

-- ---- the classes
-- all is ready for the first class of pack P
pub record Begun (bytes work class words cells : List ℕ) (c : Catalog) (k : Keying) (l : Layout) (r : Counts) (st : Store) (memo : Memo) (fill : ℕ) (P : Pack) : Type 0 where
  pub standing : Standing bytes work class words cells c k l r st memo fill P (unbuilt P)

-- it is so of some pack, there is room for the goals' tests and a stack, and the places of class buffer and cells are words
pub record Beginning (bytes work class words cells : List ℕ) (c : Catalog) (k : Keying) (l : Layout) (r : Counts) (st : Store) (memo : Memo) (fill : ℕ) : Type 0 where
  pub pack : Pack
  pub begun : Begun bytes work class words cells c k l r st memo fill pack
  pub room : l.copied + (4 * length words + 2 * (length cells + 16) + 2 * l.nodes) ≤ length work
  pub small_class : length class < 4294967296
  pub small_cells : length cells < nothing

-- the definition's run behind the steps' words
abbrev pub rest_run : Pack → Run Built
rest_run P = make_classes P (keys_of P).words (keys_of P).classes (unbuilt P)

-- all classes of pack P are made from what was lent: the definition's run comes to them, and these are at hand
pub record MadeAll (bytes class words cells work' class' words' cells' : List ℕ) (s : Building) (r : Counts) (sums : Counted) (P : Pack) : Type 0 where
  pub built : Built
  pub is : (L : Lent) → Lends L class words cells → outcome L (build_classes P) ≡ fine built
  pub ended : Ended bytes work' class' words' cells' s.catalog s.keying s.layout r s.store s.fill sums P built

-- the definition's run is refused
abbrev pub Unbuilt : List ℕ → List ℕ → List ℕ → Refusal → Pack → Type 0
Unbuilt class words cells x P = (L : Lent) → Lends L class words cells → outcome L (build_classes P) ≡ refuse x

-- what is said of each pack that all is ready for, of whose run the steps' words are done
abbrev pub OfBegun : List ℕ → List ℕ → List ℕ → List ℕ → List ℕ → Catalog → Keying → Layout → Counts → Store → Memo → ℕ → (Pack → Type 0) → Type 0
OfBegun bytes work class words cells c k l r st memo fill F =
    (P : Pack) → Begun bytes work class words cells c k l r st memo fill P → ((L : Lent) → L.class ≡ length class → outcome L (build_classes P) ≡ outcome L (rest_run P)) → F P

-- what `make_from` answers
abbrev pub Goes : List ℕ → List ℕ → List ℕ → List ℕ → List ℕ → List ℕ → List ℕ → List ℕ → List ℕ → Catalog → Keying → Layout → Counts → Store → Memo → ℕ → Result (Building × Counts × Counted) Refusal → Type 0
Goes bytes work class words cells work' class' words' cells' c k l r st memo fill (Ok (s, n, sums)) =
    (s.catalog ≡ c) × OfBegun bytes work class words cells c k l r st memo fill (MadeAll bytes class words cells work' class' words' cells' s n sums)
    × TestingIn (lent bytes class' words' cells' work') s n sums
Goes bytes work class words cells work' class' words' cells' c k l r st memo fill (Err x) = OfBegun bytes work class words cells c k l r st memo fill (Unbuilt class words cells x)

-- both of buffers that are lent and what is at hand
abbrev pub BeginningIn : Buffers → Building → Counts → Type 0
BeginningIn B s r = Beginning B.pack B.work B.class B.pattern B.graph s.catalog s.keying s.layout r s.store s.memo s.fill

abbrev pub GoesIn : Buffers → Buffers → Building → Counts → Result (Building × Counts × Counted) Refusal → Type 0
GoesIn B B' s r a = Goes B.pack B.work B.class B.pattern B.graph B'.work B'.class B'.pattern B'.graph s.catalog s.keying s.layout r s.store s.memo s.fill a

-- what `build_classes` answers of the pack that is held
abbrev pub BuildsClasses : List ℕ → List ℕ → List ℕ → List ℕ → List ℕ → List ℕ → List ℕ → List ℕ → List ℕ → Catalog → Result (Building × Counts × Counted) Refusal → Type 0
BuildsClasses bytes work class words cells work' class' words' cells' c (Ok (s, r, sums)) =
    (s.catalog ≡ c) × OfHeld bytes work c (MadeAll bytes class words cells work' class' words' cells' s r sums) × TestingIn (lent bytes class' words' cells' work') s r sums
BuildsClasses bytes work class words cells work' class' words' cells' c (Err x) = OfHeld bytes work c (Unbuilt class words cells x)

-- ---- the whole
-- the definition's run is done, and these are its words and figures
pub record Answered (class words cells class' words' : List ℕ) (n m : ℕ) (f : Figures) (P : Pack) : Type 0 where
  pub built : Built
  pub roots : List Root
  pub is : (L : Lent) → Lends L class words cells → outcome L (class_run P) ≡ fine (record { pack = P; built = built; roots = roots })
  pub classes : take n class' ≡ class_words P built
  pub classes_fit : n ≤ length class'
  pub patterns : take m words' ≡ pattern_words built.store
  pub patterns_fit : m ≤ length words'
  pub counted : f ≡ figures P built

-- what `build` answers of the pack that is held
abbrev pub Builds : List ℕ → List ℕ → List ℕ → List ℕ → List ℕ → List ℕ → List ℕ → Catalog → Result (ℕ × ℕ × Figures) Refusal → Type 0
Builds bytes work class words cells class' words' c (Ok (n, m, f)) = OfHeld bytes work c (Answered class words cells class' words' n m f)
Builds bytes work class words cells class' words' c (Err x) = OfHeld bytes work c (λ P. (L : Lent) → Lends L class words cells → outcome L (class_run P) ≡ refuse x)

-- ---- the definition's run, part by part
module _ (L : Lent) (P : Pack) where
  -- classes refused
  pub run-unbuilt : (x : Refusal) → outcome L (build_classes P) ≡ refuse x → outcome L (class_run P) ≡ refuse x
  unfolding class_run
  run-unbuilt x e = outcome_refuse L (build_classes P) _ x e

  module _ (b : Built) (e : outcome L (build_classes P) ≡ fine b) where
    -- a goal refused
    pub run_untested : (x : Refusal) → outcome L (test_goals P b 0 P.goals) ≡ refuse x → outcome L (class_run P) ≡ refuse x
    unfolding class_run
    run_untested x f = outcome_fine L (build_classes P) _ b e ∙ outcome_refuse L (test_goals P b 0 P.goals) _ x f

    -- all done
    pub run-done : (rs : List Root) → outcome L (test_goals P b 0 P.goals) ≡ fine rs → outcome L (class_run P) ≡ fine (record { pack = P; built = b; roots = rs })
    unfolding class_run
    run-done rs f = outcome_fine L (build_classes P) _ b e ∙ outcome_fine L (test_goals P b 0 P.goals) _ rs f ∙ outcome-return-end L (record { pack = P; built = b; roots = rs })
