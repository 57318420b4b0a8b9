-- Document 01, "Proof lines and goal lines": lines as text, each by the tally of those before it.
use Rattle.std.specs.Prelude.{List, [], ◌∷◌, ◌++◌, map, ℕ, zero, suc, get_or}
use Rattle.definition.specs.Decimal.{decimal}
use Rattle.definition.specs.Pack.{Pack, symbol_of, rule_of}
use Rattle.definition.specs.Verdict.{no_goal}
use Rattle.definition.specs.Ascii.{bytes}
use Rattle.emission.specs.Text.{blanked, joined}
use Rattle.emission.specs.Line.{Word, constant, defined, variable, Judgment, Case, Line, var_line, def_line, hyp_line, step_line_of, induct_line, result_line, GoalLine, Tally, no_line, counting}
use Rattle.emission.specs.Written.{written}

-- a pack without sorts has sort 0 all the same: its name is empty
unfoldable pub sort_name : Pack → ℕ → List ℕ
sort_name P s = get_or P.sorts s []

unfoldable pub goal_name : Pack → ℕ → List ℕ
goal_name P g = (get_or P.goals g no_goal).name

-- L itself, then L0, L1, …
unfoldable pub variable_text : List ℕ → ℕ → List ℕ
unfolding decimal
variable_text L zero = L
variable_text L (suc k) = L ++ decimal k

-- ?d0, ?d1, …
unfoldable pub definition_text : ℕ → List ℕ
unfolding bytes decimal
definition_text n = bytes "?d" ++ decimal n

unfoldable pub word_text : Pack → List ℕ → Word → List ℕ
unfolding symbol_of definition_text variable_text
word_text P L (constant h) = (symbol_of P h).name
word_text P L (defined n) = definition_text n
word_text P L (variable k) = variable_text L k

-- a symbol over words, always in brackets
unfoldable pub over_words : Pack → List ℕ → ℕ → List Word → List ℕ
unfolding bytes blanked symbol_of word_text
over_words P L h ws = bytes "(" ++ ((symbol_of P h).name ++ (blanked (map (word_text P L) ws) ++ bytes ")"))

unfoldable pub judgment_text : Pack → List ℕ → Judgment → List ℕ
unfolding over_words
judgment_text P L j = over_words P L j.predicate j.words

unfoldable pub case_text : List ℕ → Case → List ℕ
unfolding bytes blanked decimal variable_text
case_text L c = bytes "(" ++ (decimal c.last ++ (blanked (map (variable_text L) c.variables) ++ bytes ")"))

-- a variable with its sort: of case variables in the proof text, of L in the goal text
unfoldable pub var_text : Pack → List ℕ → ℕ → ℕ → List ℕ
unfolding bytes variable_text sort_name
var_text P L k sort = bytes "(var " ++ (variable_text L k ++ (bytes " " ++ (sort_name P sort ++ bytes ")\n")))

-- "Fields: step number, rule, refs, judgment; for induct the variable, judgment, and per constructor the last step with its variables"
unfoldable pub line_text : Pack → List ℕ → Tally → Line → List ℕ
unfolding bytes joined decimal rule_of var_text definition_text over_words judgment_text case_text goal_name
line_text P L t (var_line sort) = var_text P L (suc t.variables) sort
line_text P L t (def_line head words) = bytes "(def " ++ (definition_text t.definitions ++ (bytes " " ++ (over_words P L head words ++ bytes ")\n")))
line_text P L t (hyp_line j) = bytes "(hyp " ++ (decimal t.steps ++ (bytes " " ++ (judgment_text P L j ++ bytes ")\n")))
line_text P L t (step_line_of rule refs j) =
    bytes "(step " ++ (decimal t.steps ++ (bytes " " ++ ((rule_of P rule).name ++ (bytes " (" ++ (joined (map decimal refs) ++ (bytes ") " ++ (judgment_text P L j ++ bytes ")\n")))))))
line_text P L t (induct_line j cases) =
    bytes "(induct " ++ (decimal t.steps ++ (bytes " " ++ (L ++ (bytes " " ++ (judgment_text P L j ++ (bytes " (" ++ (joined (map (case_text L) cases) ++ bytes "))\n")))))))
line_text P L t (result_line goal step) = bytes "(result " ++ (goal_name P goal ++ (bytes " " ++ (decimal step ++ bytes ")\n")))

-- lines behind others
unfoldable pub text_from : Pack → List ℕ → Tally → List Line → List ℕ
unfolding line_text counting
text_from P L t [] = []
text_from P L t (l ∷ ls) = line_text P L t l ++ text_from P L (counting t l) ls

-- the proof text
unfoldable pub proof_text : Pack → List ℕ → List Line → List ℕ
unfolding text_from
proof_text P L ls = text_from P L no_line ls

unfoldable pub goal_line_text : Pack → List ℕ → GoalLine → List ℕ
unfolding bytes goal_name written variable_text
goal_line_text P L g = bytes "(goal " ++ (goal_name P g.goal ++ (bytes " " ++ (written P (variable_text L) g.judgment ++ bytes ")\n")))

unfoldable pub goal_lines_text : Pack → List ℕ → List GoalLine → List ℕ
unfolding goal_line_text
goal_lines_text P L [] = []
goal_lines_text P L (g ∷ gs) = goal_line_text P L g ++ goal_lines_text P L gs

-- the goal text: L with its sort, then the goals
unfoldable pub goal_text : Pack → List ℕ → ℕ → List GoalLine → List ℕ
unfolding var_text goal_lines_text
goal_text P L sort gs = var_text P L 0 sort ++ goal_lines_text P L gs
