-- Rows on the verdict.
use Rattle.std.specs.Prelude.{refl, List, [], ◌∷◌, ◌++◌, ℕ}
use Rattle.definition.specs.Pack.{prop}
use Rattle.definition.specs.Rows.Say.{sort, symbol, rule, node, step, goal, result, X}
use Rattle.definition.specs.Rows.Packs.{nat_nodes, example, circling, clashing, unmet}
use Rattle.definition.specs.Rows.Row.{Row, check, Claim, seen, Holds}

-- the rule e(X, X), nodes e(z, z) and e(z, s z)
abbrev equals : List ℕ
equals = sort "N" ++ symbol 0 [] "z" ++ symbol 0 (0 ∷ []) "s" ++ symbol prop (0 ∷ 0 ∷ []) "e" ++ rule (0 ∷ []) 0 (2 ∷ X ∷ X ∷ []) "r" ++ node (0 ∷ []) ++ node (1 ∷ 0 ∷ []) ++ node (2 ∷ 0 ∷ 0 ∷ []) ++ node (2 ∷ 0 ∷ 1 ∷ [])

-- a rule with a variable of a sort that has no term
abbrev hollow : List ℕ
hollow = sort "N" ++ symbol prop [] "q" ++ rule (0 ∷ []) 0 (0 ∷ []) "r" ++ node (0 ∷ [])

-- ★ the worked example, with just enough work
abbrev example-passes : Row
example-passes = check example 6336 0 0

example-passes_holds : Claim example-passes
unfolding seen
example-passes_holds = refl

-- and with a word too few
abbrev example_short : Row
example_short = check example 6335 8 4

example_short_holds : Claim example_short
unfolding seen
example_short_holds = refl

-- ★ premise p(X, s X) over a step from the rule p(X, X)
abbrev circle_fails : Row
circle_fails = check circling 50000 3 1

circle_fails_holds : Claim circle_fails
unfolding seen
circle_fails_holds = refl

-- ★ premise p(z) over the step p(s z) from the rule p(s X)
abbrev clash_fails : Row
clash_fails = check clashing 50000 3 1

clash_fails_holds : Claim clash_fails
unfolding seen
clash_fails_holds = refl

-- ★ a goal without a result
abbrev no_result : Row
no_result = check unmet 50000 4 0

no_result_holds : Claim no_result
unfolding seen
no_result_holds = refl

-- a result with another judgment
abbrev other-judgment : Row
other-judgment = check (nat_nodes ++ step (0 ∷ 3 ∷ []) ++ goal 4 "g" ++ result 0 "g") 50000 4 0

other-judgment_holds : Claim other-judgment
unfolding seen
other-judgment_holds = refl

-- goals ascend
abbrev second-goal : Row
second-goal = check (nat_nodes ++ step (0 ∷ 3 ∷ []) ++ goal 3 "g" ++ goal 4 "h" ++ result 0 "g" ++ result 0 "h") 50000 4 1

second-goal_holds : Claim second-goal
unfolding seen
second-goal_holds = refl

-- the conclusion is tested
abbrev conclusion_fails : Row
conclusion_fails = check (nat_nodes ++ step (0 ∷ 4 ∷ [])) 50000 3 0

conclusion_fails_holds : Claim conclusion_fails
unfolding seen
conclusion_fails_holds = refl

-- with the premises' assignment
abbrev conclusion_differs : Row
conclusion_differs = check (nat_nodes ++ step (0 ∷ 3 ∷ []) ++ step (2 ∷ 5 ∷ 0 ∷ [])) 50000 3 1

conclusion_differs_holds : Claim conclusion_differs
unfolding seen
conclusion_differs_holds = refl

-- a premise of another predicate
abbrev premise_fails : Row
premise_fails = check (nat_nodes ++ step (0 ∷ 3 ∷ []) ++ step (1 ∷ 4 ∷ 0 ∷ []) ++ step (2 ∷ 5 ∷ 1 ∷ []) ++ step (1 ∷ 4 ∷ 2 ∷ [])) 50000 3 3

premise_fails_holds : Claim premise_fails
unfolding seen
premise_fails_holds = refl

-- steps come ahead of goals
abbrev steps_first : Row
steps_first = check (nat_nodes ++ step (0 ∷ 4 ∷ []) ++ goal 3 "g") 50000 3 0

steps_first_holds : Claim steps_first
unfolding seen
steps_first_holds = refl

-- one value for a variable, wherever it stands
abbrev repeated_variable : Row
repeated_variable = check (equals ++ step (0 ∷ 2 ∷ [])) 50000 0 0

repeated_variable_holds : Claim repeated_variable
unfolding seen
repeated_variable_holds = refl

-- and never two
abbrev repeated_fails : Row
repeated_fails = check (equals ++ step (0 ∷ 3 ∷ [])) 50000 3 0

repeated_fails_holds : Claim repeated_fails
unfolding seen
repeated_fails_holds = refl

-- a variable that does not occur needs no value
abbrev sort_without_terms : Row
sort_without_terms = check (hollow ++ step (0 ∷ 0 ∷ [])) 50000 0 0

sort_without_terms_holds : Claim sort_without_terms
unfolding seen
sort_without_terms_holds = refl

abbrev pub rows : List Row
rows = example-passes ∷ example_short ∷ circle_fails ∷ clash_fails ∷ no_result ∷ other-judgment ∷ second-goal ∷ conclusion_fails ∷ conclusion_differs ∷ premise_fails ∷ steps_first ∷ repeated_variable ∷ repeated_fails ∷ sort_without_terms ∷ []

pub hold : Holds rows
hold = (example-passes_holds, (example_short_holds, (circle_fails_holds, (clash_fails_holds, (no_result_holds, (other-judgment_holds, (second-goal_holds, (conclusion_fails_holds, (conclusion_differs_holds, (premise_fails_holds, (steps_first_holds, (repeated_variable_holds, (repeated_fails_holds, (sort_without_terms_holds, tt))))))))))))))
