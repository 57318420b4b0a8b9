-- What showing the goals comes to ahead of clearing: the definition's run in the lengths lent.
use Rattle.std.specs.Prelude.{Result, Ok, Err}
use Rattle.std.specs.Prelude.{◌≡◌, refl, List, ℕ, ◌≤◌, ◌<◌, length, take}
use Rattle.std.proofs.Common.{sym, ◌∙◌, arith}
use Rattle.std.proofs.Math.Option.{none, some}
use Rattle.definition.specs.Pack.{Pack}
use Rattle.definition.specs.Frame.{Read, fine, refuse}
use Rattle.definition.specs.Parse.{parse}
use Rattle.definition.specs.Answer.{Lent, lengths}
use Rattle.definition.specs.Store.{pattern_words}
use Rattle.definition.specs.Run.{outcome}
use Rattle.definition.specs.Classes.{class_words}
use Rattle.definition.specs.Figures.{figures}
use Rattle.definition.specs.Calls.{Shown, show_run, called, show_lent}
use Rattle.definition.specs.declared.Figures.{Figures}
use Rattle.definition.specs.declared.Refusal.{Refusal}
use Rattle.pack_tables.specs.declared.catalog.Catalog.{Catalog}
use Rattle.pack_reader.specs.Parsed.{Represents, tables_of}
use Rattle.pack_reader.specs.Said.{represents_said}
use Rattle.dock_call.specs.Lengths.{lengths_fit}
use Rattle.dock_call.specs.Opening.{room}
use Rattle.text_goals.specs.Shows.{LendsText, Answered, Shows}
use Rattle.text_goals.specs.declared.goal.Budgets.{Budgets}
use Rattle.dock.specs.Comes.{Spacious as Building}

-- work has room for what the run spends, and no buffer is too long
pub record Spacious (bytes class pattern graph work text : List ℕ) : Type 0 where
  pub building : Building bytes class pattern graph work
  pub texts : length text < 18446744073709551615

-- words, text and figures of what the run came to
pub record Holds (class' pattern' text' : List ℕ) (n m k : ℕ) (f : Figures) (x : Shown) : Type 0 where
  pub classes : take n class' ≡ class_words x.classed.pack x.classed.built
  pub classes_fit : n ≤ length class'
  pub patterns : take m pattern' ≡ pattern_words x.classed.built.store
  pub patterns_fit : m ≤ length pattern'
  pub bytes : take k text' ≡ x.text
  pub bytes_fit : k ≤ length text'
  pub long : k ≡ length x.text
  pub counted : f ≡ figures x.classed.pack x.classed.built

-- what the call comes to ahead of clearing
abbrev pub Comes : (bytes class pattern graph work text class' pattern' text' : List ℕ) → Budgets → Result (ℕ × ℕ × ℕ × Figures) Refusal → Type 0
Comes bytes class pattern graph work text class' pattern' text' b (Ok (n, m, k, f)) =
    (x : Shown) × (called (show_run b.form b.value) bytes (show_lent (length bytes) (length class) (length pattern) (length graph) (length work) (length text)) ≡ fine x) × Holds class' pattern' text' n m k f x
Comes bytes class pattern graph work text class' pattern' text' b (Err r) =
    called (show_run b.form b.value) bytes (show_lent (length bytes) (length class) (length pattern) (length graph) (length work) (length text)) ≡ refuse r

-- what reading, building and showing come to in lengths that pass
unfoldable pub ran : List ℕ → Budgets → Lent → Read Shown
unfolding parse outcome show_run
ran bytes b l = elim (parse bytes) [ refuse r ↦ refuse r | fine P ↦ outcome l (show_run b.form b.value P) ]

-- what the run answers, whatever else is lent
abbrev pub Runs : (bytes class pattern graph text class' pattern' text' : List ℕ) → Budgets → Result (ℕ × ℕ × ℕ × Figures) Refusal → Type 0
Runs bytes class pattern graph text class' pattern' text' b (Ok (n, m, k, f)) = (x : Shown) × ((L : Lent) → LendsText L class pattern graph text → ran bytes b L ≡ fine x) × Holds class' pattern' text' n m k f x
Runs bytes class pattern graph text class' pattern' text' b (Err r) = (L : Lent) → LendsText L class pattern graph text → ran bytes b L ≡ refuse r

module _ (bytes class pattern graph text : List ℕ) (b : Budgets) where
  -- a bad record is refused
  pub runs_refused : (class' pattern' text' : List ℕ) (r : Refusal) → parse bytes ≡ refuse r → Runs bytes class pattern graph text class' pattern' text' b (Err r)
  unfolding ran
  runs_refused class' pattern' text' r e L l = rw (e, ran)

  -- what is read is built and shown
  module _ (work₁ : List ℕ) (P : Pack) (f : parse bytes ≡ fine P) (R : Represents bytes work₁ P) (c : Catalog) (e : c ≡ tables_of (length bytes)) where
    run : (L : Lent) → ran bytes b L ≡ outcome L (show_run b.form b.value P)
    unfolding ran
    run L = rw (f, ran)

    pub runs_shown : (class' pattern' text' : List ℕ) (a : Result (ℕ × ℕ × ℕ × Figures) Refusal) → Shows bytes work₁ class pattern graph text class' pattern' text' c b a → Runs bytes class pattern graph text class' pattern' text' b a
    runs_shown class' pattern' text' (Ok (n, m, k, g)) B =
        let A = represents_said bytes work₁ c e (Answered class pattern graph text class' pattern' text' b n m k g) B P f R in
        (_, (λ L l. run L ∙ A.is L l), record { classes = A.classes; classes_fit = A.classes_fit; patterns = A.patterns; patterns_fit = A.patterns_fit; bytes = A.bytes; bytes_fit = A.bytes_fit; long = A.long; counted = A.counted })
    runs_shown class' pattern' text' (Err x) B =
        λ L l. run L ∙ represents_said bytes work₁ c e (λ Q. (K : Lent) → LendsText K class pattern graph text → outcome K (show_run b.form b.value Q) ≡ refuse x) B P f R L l

module _ (bytes class pattern graph work text : List ℕ) (b : Budgets) where
  abbrev lent : Lent
  lent = show_lent (length bytes) (length class) (length pattern) (length graph) (length work) (length text)

  lends : LendsText (show_lent (length bytes) (length class) (length pattern) (length graph) (length work) (length text)) class pattern graph text
  lends = record { lends = record { class_long = refl; words_long = refl; cells_long = refl }; text_long = refl }

  -- what the lengths refuse is refused
  pub comes_refused : (class' pattern' text' : List ℕ) (r : Refusal) → lengths (show_lent (length bytes) (length class) (length pattern) (length graph) (length work) (length text)) ≡ some r
      → Comes bytes class pattern graph work text class' pattern' text' b (Err r)
  unfolding called
  comes_refused class' pattern' text' r e = rw (e, called)

  -- lengths that pass leave room for the run, and what it comes to is the answer
  module _ (l : lengths (show_lent (length bytes) (length class) (length pattern) (length graph) (length work) (length text)) ≡ none) where
    pub comes_spacious : Spacious bytes class pattern graph work text
    comes_spacious =
        let F = lengths_fit lent l in
        record {
          building = record { tables = room lent bytes (sym l) work refl refl; room = omega (arith, F.least); patterns = F.pattern; classes = omega (arith, F.class); cells = omega (arith, F.graph) };
          texts = omega (arith, F.text);
        }

    pub comes_run : (class' pattern' text' : List ℕ) (a : Result (ℕ × ℕ × ℕ × Figures) Refusal) → Runs bytes class pattern graph text class' pattern' text' b a → Comes bytes class pattern graph work text class' pattern' text' b a
    unfolding called ran
    comes_run class' pattern' text' (Ok (n, m, k, g)) X = (X.0, rw (l, called) (X.1 lent lends), X.2)
    comes_run class' pattern' text' (Err r) X = rw (l, called) (X lent lends)
