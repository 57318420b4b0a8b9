-- Document 01, "Proof lines and goal lines": a line as data. Its own number, and the names of definitions and variables, follow from
-- the lines before it and stand in no line.
use Rattle.std.specs.Prelude.{List, [], ◌∷◌, ℕ, suc}
use Rattle.definition.specs.Pack.{Term}

-- a term in a line: a constant by its symbol, a definition by its number, a variable by its number: L is 0, L0 is 1, and so on
pub data Word : Type 0 where
  constant : ℕ → Word
  defined : ℕ → Word
  variable : ℕ → Word

-- a judgment in a line: a predicate over words
pub record Judgment : Type 0 where
  pub predicate : ℕ
  pub words : List Word

-- of an induct line, "per constructor the last step with its variables"
pub record Case : Type 0 where
  pub last : ℕ
  pub variables : List ℕ

pub data Line : Type 0 where
  -- var: a case variable of a sort
  var_line : ℕ → Line
  -- def: a head over words
  def_line : ℕ → List Word → Line
  -- hyp: a judgment supposed
  hyp_line : Judgment → Line
  -- step: rule, refs, judgment
  step_line_of : ℕ → List ℕ → Judgment → Line
  -- induct: judgment and cases; "the variable" is always L
  induct_line : Judgment → List Case → Line
  -- result: a goal and its step
  result_line : ℕ → ℕ → Line

-- a line of the goal text: a goal, and its judgment in full with 0 for L
pub record GoalLine : Type 0 where
  pub goal : ℕ
  pub judgment : Term

-- what the lines before give to the next one: the number of a step, hyp or induct line, of a def line, of a case variable; and how many
-- induct lines there are
pub record Tally : Type 0 where
  pub steps : ℕ
  pub definitions : ℕ
  pub variables : ℕ
  pub inductions : ℕ

abbrev pub no_line : Tally
no_line = record { steps = 0; definitions = 0; variables = 0; inductions = 0 }

-- one line more
unfoldable pub counting : Tally → Line → Tally
counting t (var_line sort) = record { steps = t.steps; definitions = t.definitions; variables = suc t.variables; inductions = t.inductions }
counting t (def_line head words) = record { steps = t.steps; definitions = suc t.definitions; variables = t.variables; inductions = t.inductions }
counting t (hyp_line j) = record { steps = suc t.steps; definitions = t.definitions; variables = t.variables; inductions = t.inductions }
counting t (step_line_of rule refs j) = record { steps = suc t.steps; definitions = t.definitions; variables = t.variables; inductions = t.inductions }
counting t (induct_line j cases) = record { steps = suc t.steps; definitions = t.definitions; variables = t.variables; inductions = suc t.inductions }
counting t (result_line goal step) = t

-- lines behind others
unfoldable pub tally_from : Tally → List Line → Tally
unfolding counting
tally_from t [] = t
tally_from t (l ∷ ls) = tally_from (counting t l) ls

unfoldable pub tally : List Line → Tally
unfolding tally_from
tally ls = tally_from no_line ls
