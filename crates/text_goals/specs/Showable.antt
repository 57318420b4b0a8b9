-- When all classes are made: what showing a goal reads, and what it leaves.
use Rattle.std.specs.Prelude.{Result, Ok}
use Rattle.std.specs.Prelude.{◌≡◌, refl, Bool, true, false, List, ℕ, ◌+◌, ◌*◌, ◌≤◌, ◌<◌, length, get_or}
use Rattle.std.proofs.Common.{sym, ap, subst, ◌∙◌, arith}
use Rattle.definition.specs.Pack.{Node, Pack}
use Rattle.definition.specs.Classes.{Built, no_class}
use Rattle.definition.specs.Shown.{goal_lines}
use Rattle.base.specs.Upto.{Upto}
use Rattle.memo.specs.Recall.{Remembers}
use Rattle.memo.specs.declared.memo.Memo.{Memo}
use Rattle.store.specs.Stored.{Stored, nodes}
use Rattle.pack_tables.specs.Catalog.{records_of}
use Rattle.pack_tables.specs.SameTables.{Same, same-records}
use Rattle.pack_read.specs.Reads.{length-nodes}
use Rattle.pack_read.specs.Held.{held_on, reads_on}
use Rattle.theory.specs.Copies.Terms.{Patterns}
use Rattle.class_premises.specs.Takes.{conclusion_in}
use Rattle.class_premises.specs.declared.building.Building.{Building}
use Rattle.term_instance.specs.Held.{Given, given_on}
use Rattle.term_instance.specs.declared.tables.Instance.{Instance}
use Rattle.class_build.specs.Testable.{Marked, Ready, Testable, ready_upto}
use Rattle.class_build.specs.OneGoal.{TestsOne}
use Rattle.definition.specs.declared.Refusal.{Refusal}
use Rattle.text_write.specs.Written.{Adds, adds_as}
use Rattle.text_write.specs.Source.{Sourced, lent_upto, many_ground, many_pattern}
use Rattle.text_write.specs.declared.source.Source.{Source}
use Rattle.text_goals.specs.Form.{ground_of, Lined, Says}
use Rattle.text_goals.specs.Goals.{WritesGoal, goal_text, goal-lines}
use Rattle.text_goals.specs.declared.form.Form.{Form}

-- the store's patterns, as the instance test reads them
abbrev pub patterns_of : Building → Instance → Source
patterns_of s t = record { catalog = s.catalog; index = t.index; end = t.pairs; store = s.store; is_ground = false }

-- where a goal's lines are read
abbrev pub form_of : Building → Instance → Memo → ℕ → ℕ → Form
form_of s t values row budget = record { patterns = patterns_of s t; values = t.values; stack = t.end; memo = values; row = row; budget = budget }

-- what is read of all classes of some pack
abbrev pub ReadyIn : (bytes work class words : List ℕ) (s : Building) (t : Instance) → Pack → Built → Type 0
ReadyIn bytes work class words s t P b = Ready bytes work class words s.catalog s.keying s.layout t s.store P b

abbrev pub GivenIn : (bytes work words : List ℕ) (s : Building) (t : Instance) (seen values : Memo) → Type 0
GivenIn bytes work words s t seen values = Given bytes work words s.catalog t s.store seen values

abbrev pub TestsIn : (bytes work work' class words : List ℕ) (s : Building) (t : Instance) (g : ℕ) → Result (Memo × Memo × ℕ) Refusal → Type 0
TestsIn bytes work work' class words s t g r = TestsOne bytes work work' class words s.catalog s.keying s.layout t s.store g r

-- goals can be tested, and behind the tests' tables there is room for the stack of a shown term
pub record Showable (bytes work class words : List ℕ) (s : Building) (t : Instance) (seen values : Memo) : Type 0 where
  pub pack : Pack
  pub built : Built
  pub ready : ReadyIn bytes work class words s t pack built
  pub given : GivenIn bytes work words s t seen values
  pub patterns : Patterns (nodes words s.store)
  -- a class has no more variables than the memo of values
  pub few : (i : ℕ) → i < length built.classes → t.values + 2 * length (get_or built.classes i no_class).flex ≤ t.end
  pub small : length class < 4294967296
  pub forms : t.end + 2 * length (nodes words s.store) ≤ length work
  pub grounds : t.end + 2 * length (records_of work s.catalog 3) ≤ length work

-- words behind the instance test's tables may change
module _ (bytes work work' words : List ℕ) (s : Building) (t : Instance) (seen values : Memo) (U : Upto t.end work work') (G : GivenIn bytes work words s t seen values) where
  ahead : t.pairs ≤ t.end
  ahead = omega (arith, G.pairs, G.table, G.order)

  given_upto : GivenIn bytes work' words s t seen values
  given_upto = record {
    held = held_on bytes work work' s.catalog (record { long = U.long; words = λ i h. U.words i (omega (arith, G.apart, ahead)) }) G.held;
    apart = G.apart;
    index = G.index;
    pairs = G.pairs;
    table = G.table;
    order = G.order;
    fits = omega (arith, G.fits, U.long);
    stored = subst (λ (zs : List ℕ). Stored zs words s.store) (sym (lent_upto t.end work work' U t.index t.pairs G.index ahead (omega (arith, ahead, G.fits)))) G.stored;
    patterns = G.patterns;
    numbers = G.numbers;
    seen-kept = subst (λ (zs : List ℕ). Remembers zs seen) (sym (lent_upto t.end work work' U t.seen t.values (omega (arith, G.table)) G.order (omega (arith, G.order, G.fits)))) G.seen-kept;
    values-kept = subst (λ (zs : List ℕ). Remembers zs values) (sym (lent_upto t.end work work' U t.values t.end G.order (omega arith) G.fits)) G.values-kept;
  }

-- when goals were shown, others can be
pub showable_on : (bytes work work' class words : List ℕ) (s : Building) (t : Instance) (seen values seen' values' : Memo) → Showable bytes work class words s t seen values → Upto t.pairs work work' → GivenIn bytes work' words s t seen' values'
    → Showable bytes work' class words s t seen' values'
showable_on bytes work work' class words s t seen values seen' values' S U G = record {
  pack = S.pack;
  built = S.built;
  ready = ready_upto bytes work work' class words s.catalog s.keying s.layout t s.store S.pack S.built U S.ready;
  given = G;
  patterns = S.patterns;
  few = S.few;
  small = S.small;
  forms = omega (arith, S.forms, U.long);
  grounds = omega (arith, S.grounds, U.long, ap length (same-records work work' s.catalog (record { long = U.long; words = λ i h. U.words i (omega (arith, G.apart)) }) S.given.held.cataloged.fits 3 (omega arith)));
}

module _ (bytes work class words : List ℕ) (s : Building) (t : Instance) (seen values : Memo) (S : Showable bytes work class words s t seen values) where
  -- a goal can be tested
  pub shows_testable : Testable bytes work class words s.catalog s.keying s.layout t s.store seen values
  shows_testable = record { pack = S.pack; built = S.built; ready = S.ready; given = S.given }

  -- it is met
  module _ (g : ℕ) (work' : List ℕ) (seen' values' : Memo) (row : ℕ) (N : TestsIn bytes work work' class words s t g (Ok (seen', values', row))) where
    -- the memos as they are then
    met-given : GivenIn bytes work' words s t seen' values'
    met-given = given_on bytes work words s.catalog t s.store seen values S.given work' seen' values' N.0

    same : Same work work' s.catalog
    same = record { long = N.0.outside.long; words = λ i h. N.0.outside.ahead i (omega (arith, S.given.apart)) }

    nodes-many : length (records_of work' s.catalog 3) ≡ length (records_of work s.catalog 3)
    nodes-many = ap length (same-records work work' s.catalog same S.given.held.cataloged.fits 3 (omega arith))

    behind : t.pairs ≤ t.end
    behind = let G = S.given in omega (arith, G.pairs, G.table, G.order)

    sourced : (is_ground : Bool) → Sourced bytes work' words (record { catalog = s.catalog; index = t.index; end = t.pairs; store = s.store; is_ground = is_ground })
    sourced is_ground =
        let H = met-given in
        record {
          held = H.held;
          order = H.index;
          fits = omega (arith, behind, H.fits);
          stored = H.stored;
          earlier = S.patterns.earlier;
          twos = S.patterns.twos;
          few = S.patterns.few;
        }

    -- the row says the class
    row-marks : (P : Pack) (b : Built) (R : ReadyIn bytes work class words s t P b) → Marked class row (get_or b.classes (N.1 P b R).0.class no_class).flex
    row-marks P b R = let Q = (N.1 P b R).3 in subst (λ (j : ℕ). Marked class j (get_or b.classes (N.1 P b R).0.class no_class).flex) (sym Q.place) (R.marks (N.1 P b R).0.class Q.class)

    row_concludes : (P : Pack) (b : Built) (R : ReadyIn bytes work class words s t P b) → conclusion_in class row ≡ (get_or b.classes (N.1 P b R).0.class no_class).conclusion
    row_concludes P b R = let Q = (N.1 P b R).3 in ap (conclusion_in class) Q.place ∙ R.conclusions (N.1 P b R).0.class Q.class

    -- its lines can be written
    pub met_lined : (budget : ℕ) → Lined bytes work' class words (form_of s t values' row budget)
    met_lined budget =
        let P = S.pack in
        let b = S.built in
        let R = S.ready in
        let D = N.1 P b R in
        let r = D.0 in
        let Q = D.3 in
        let M = row-marks P b R in
        let long = N.0.outside.long in
        record {
          pattern = refl;
          patterns = record {
            sourced = sourced false;
            tables = omega (arith, S.given.apart, behind);
            index = behind;
            room = omega (arith, S.forms, long, many_pattern P work' words (patterns_of s t) refl);
          };
          grounds = record {
            sourced = sourced true;
            tables = omega (arith, S.given.apart, behind);
            index = behind;
            room = omega (arith, S.grounds, long, nodes-many, many_ground P work' words (ground_of (patterns_of s t)) refl);
          };
          many = length (get_or b.classes r.class no_class).flex;
          count = M.count;
          within = M.within;
          small = S.small;
          stored = omega (arith, row_concludes P b R, R.stored r.class Q.class, ap length R.store);
          room = S.few r.class Q.class;
          kept = met-given.values-kept;
          given = λ k n e. omega (arith, Q.given k n (sym (D.2 k) ∙ e), length-nodes bytes (records_of work s.catalog) P R.reads, nodes-many);
        }

    -- the goal is recorded still
    pub met_goals : g < length (records_of work s.catalog 5) → g < length (records_of work' s.catalog 5)
    met_goals h = omega (arith, h, ap length (same-records work work' s.catalog same S.given.held.cataloged.fits 5 (omega arith)))

    -- and are the definition's
    pub met-lines : (budget valueBudget : ℕ) (work'' text text' : List ℕ) (at end : ℕ) → WritesGoal bytes work' work'' class words text text' (form_of s t values' row valueBudget) budget at g end
        → (P : Pack) (b : Built) (R : ReadyIn bytes work class words s t P b) → Adds text text' at (goal_lines P b budget valueBudget (N.1 P b R).0) end
    met-lines budget valueBudget work'' text text' at end W P b R =
        let D = N.1 P b R in
        let r = D.0 in
        let x = get_or b.classes r.class no_class in
        let M = row-marks P b R in
        let says : Says work' class (form_of s t values' row valueBudget) x r.values = record { many = M.count; conclusion = row_concludes P b R; marks = M.marks; values = D.2 } in
        adds_as text text' at end _ (goal_lines P b budget valueBudget r)
        (ap (λ (ns : List Node). goal_text P ns x r.values budget valueBudget g) R.store ∙ goal-lines P b budget valueBudget r g D.3.goal)
        (W.adds P x r.values (reads_on bytes work work' s.catalog same S.given.held.cataloged P R.reads) R.proper says)

    -- the words ahead of the tests' tables are as they were, and the memos are memos still
    pub met_upto : (work'' : List ℕ) → Upto t.end work' work'' → Upto t.pairs work work''
    met_upto work'' E = record { long = E.long ∙ N.0.outside.long; words = λ i h. E.words i (omega (arith, behind)) ∙ N.0.outside.ahead i h }

    pub met-kept : (work'' : List ℕ) → Upto t.end work' work'' → GivenIn bytes work'' words s t seen' values'
    met-kept work'' E = given_upto bytes work' work'' words s t seen' values' E met-given
