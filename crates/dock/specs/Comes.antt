-- What class building comes to ahead of clearing: the definition's run in the lengths lent.
use Rattle.std.specs.Prelude.{Result, Ok, Err}
use Rattle.std.specs.Prelude.{◌≡◌, refl, List, ℕ, ◌≤◌, ◌<◌, length, take}
use Rattle.std.proofs.Common.{sym, ◌∙◌, arith}
use Rattle.std.proofs.Math.Option.{none, some}
use Rattle.definition.specs.Pack.{Pack}
use Rattle.definition.specs.Frame.{Read, fine, refuse}
use Rattle.definition.specs.Parse.{parse}
use Rattle.definition.specs.Answer.{Lent, lengths, most_cells}
use Rattle.definition.specs.Run.{outcome}
use Rattle.definition.specs.Store.{pattern_words, nothing}
use Rattle.definition.specs.Classes.{class_words}
use Rattle.definition.specs.Figures.{figures}
use Rattle.definition.specs.Calls.{Classed, class_run, called, classes_lent}
use Rattle.definition.specs.declared.Refusal.{Refusal}
use Rattle.pack_tables.specs.declared.catalog.Catalog.{Catalog}
use Rattle.pack_reader.specs.Parsed.{tables_of, Room, Represents}
use Rattle.pack_reader.specs.Said.{represents_said}
use Rattle.dock_call.specs.Lengths.{lengths_fit}
use Rattle.dock_call.specs.Opening.{room}
use Rattle.class_rule.specs.Done.{Lends}
use Rattle.class_build.specs.Ready.{least_room, Opened, opened}
use Rattle.class_build.specs.Build.{Answered, Builds}
use Rattle.definition.specs.declared.Figures.{Figures}

-- what the call comes to ahead of clearing
abbrev pub Comes : List ℕ → List ℕ → List ℕ → List ℕ → List ℕ → List ℕ → List ℕ → Result (ℕ × ℕ × Figures) Refusal → Type 0
Comes bytes class pattern graph work class' pattern' (Ok (n, m, f)) =
    (x : Classed) × (called class_run bytes (classes_lent (length bytes) (length class) (length pattern) (length graph) (length work)) ≡ fine x)
    × (take n class' ≡ class_words x.pack x.built) × (n ≤ length class')
    × (take m pattern' ≡ pattern_words x.built.store) × (m ≤ length pattern')
    × (f ≡ figures x.pack x.built)
Comes bytes class pattern graph work class' pattern' (Err r) = called class_run bytes (classes_lent (length bytes) (length class) (length pattern) (length graph) (length work)) ≡ refuse r

-- what reading and building come to in lengths that pass
unfoldable pub ran : List ℕ → Lent → Read Classed
unfolding parse outcome class_run
ran bytes l = elim (parse bytes) [ refuse r ↦ refuse r | fine P ↦ outcome l (class_run P) ]

-- work has room for what reading and building spend, and the buffers are not too long
pub record Spacious (bytes class pattern graph work : List ℕ) : Type 0 where
  pub tables : Room bytes work
  pub room : least_room pattern graph bytes ≤ length work
  pub patterns : length pattern ≤ most_cells
  pub classes : length class < 4294967296
  pub cells : length graph < nothing

-- what the run answers, whatever else is lent
abbrev pub Runs : List ℕ → List ℕ → List ℕ → List ℕ → List ℕ → List ℕ → Result (ℕ × ℕ × Figures) Refusal → Type 0
Runs bytes class pattern graph class' pattern' (Ok (n, m, f)) =
    (x : Classed) × ((L : Lent) → Lends L class pattern graph → ran bytes L ≡ fine x)
    × (take n class' ≡ class_words x.pack x.built) × (n ≤ length class')
    × (take m pattern' ≡ pattern_words x.built.store) × (m ≤ length pattern')
    × (f ≡ figures x.pack x.built)
Runs bytes class pattern graph class' pattern' (Err r) = (L : Lent) → Lends L class pattern graph → ran bytes L ≡ refuse r

module _ (bytes class pattern graph : List ℕ) where
  -- a bad record is refused
  pub runs_refused : (class' pattern' : List ℕ) (r : Refusal) → parse bytes ≡ refuse r → Runs bytes class pattern graph class' pattern' (Err r)
  unfolding ran
  runs_refused class' pattern' r e L l = rw (e, ran)

  -- what is read is built
  module _ (work work₁ : List ℕ) (S : Spacious bytes class pattern graph work) (P : Pack) (f : parse bytes ≡ fine P) (R : Represents bytes work₁ P) (long : length work₁ ≡ length work) (c : Catalog) (e : c ≡ tables_of (length bytes)) where
    pub runs_opened : Opened bytes work₁ pattern graph c × (length class < 4294967296) × (length graph < nothing)
    runs_opened = (opened bytes work₁ pattern graph c e P f R S.patterns (omega (arith, S.room, long)), S.classes, S.cells)

    run : (L : Lent) → ran bytes L ≡ outcome L (class_run P)
    unfolding ran
    run L = rw (f, ran)

    pub runs_built : (class' pattern' : List ℕ) (a : Result (ℕ × ℕ × Figures) Refusal) → Builds bytes work₁ class pattern graph class' pattern' c a → Runs bytes class pattern graph class' pattern' a
    runs_built class' pattern' (Ok (n, m, g)) B =
        let A = represents_said bytes work₁ c e (Answered class pattern graph class' pattern' n m g) B P f R in
        (record { pack = P; built = A.built; roots = A.roots }, (λ L l. run L ∙ A.is L l), A.classes, A.classes_fit, A.patterns, A.patterns_fit, A.counted)
    runs_built class' pattern' (Err x) B = λ L l. run L ∙ represents_said bytes work₁ c e (λ Q. (K : Lent) → Lends K class pattern graph → outcome K (class_run Q) ≡ refuse x) B P f R L l

module _ (bytes class pattern graph work : List ℕ) where
  abbrev lent : Lent
  lent = classes_lent (length bytes) (length class) (length pattern) (length graph) (length work)

  lends : Lends (classes_lent (length bytes) (length class) (length pattern) (length graph) (length work)) class pattern graph
  lends = record { class_long = refl; words_long = refl; cells_long = refl }

  -- what the lengths refuse is refused
  pub comes_refused : (class' pattern' : List ℕ) (r : Refusal) → lengths (classes_lent (length bytes) (length class) (length pattern) (length graph) (length work)) ≡ some r → Comes bytes class pattern graph work class' pattern' (Err r)
  unfolding called
  comes_refused class' pattern' r e = rw (e, called)

  -- lengths that pass leave room for the run, and what it comes to is the answer
  module _ (l : lengths (classes_lent (length bytes) (length class) (length pattern) (length graph) (length work)) ≡ none) where
    pub comes_spacious : Spacious bytes class pattern graph work
    comes_spacious =
        let F = lengths_fit lent l in
        record { tables = room lent bytes (sym l) work refl refl; room = omega (arith, F.least); patterns = F.pattern; classes = omega (arith, F.class); cells = omega (arith, F.graph) }

    pub comes_run : (class' pattern' : List ℕ) (a : Result (ℕ × ℕ × Figures) Refusal) → Runs bytes class pattern graph class' pattern' a → Comes bytes class pattern graph work class' pattern' a
    unfolding called ran
    comes_run class' pattern' (Ok (n, m, g)) X = (X.0, rw (l, called) (X.1 lent lends), X.2, X.3, X.4, X.5, X.6)
    comes_run class' pattern' (Err r) X = rw (l, called) (X lent lends)
