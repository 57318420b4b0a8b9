-- Rows on the order of refusals and writes in class building, and on shown goals.
use Rattle.std.specs.Prelude.{refl, List, [], ◌∷◌, ◌++◌}
use Rattle.definition.specs.Pack.{prop}
use Rattle.definition.specs.Ascii.{bytes}
use Rattle.definition.specs.Rows.Say.{sort, symbol, rule, node, step, goal, result, cut, X}
use Rattle.definition.specs.Rows.Packs.{nat_nodes, example, circling, clashing}
use Rattle.definition.specs.Rows.Row.{Row, classes, shown, Claim, seen, Holds}

-- the refs' judgments together are no instance
abbrev together : Row
together = classes (sort "N" ++ symbol 0 [] "z" ++ symbol 0 (0 ∷ []) "s" ++ symbol prop (0 ∷ []) "p" ++ symbol prop [] "q" ++ rule (0 ∷ []) 0 (2 ∷ X ∷ []) "p" ++ rule (0 ∷ []) 2 (2 ∷ X ∷ 2 ∷ X ∷ 3 ∷ []) "q" ++ node (0 ∷ []) ++ node (1 ∷ 0 ∷ []) ++ node (2 ∷ 0 ∷ []) ++ node (2 ∷ 1 ∷ []) ++ node (3 ∷ []) ++ step (0 ∷ 2 ∷ []) ++ step (0 ∷ 3 ∷ []) ++ step (1 ∷ 4 ∷ 0 ∷ 1 ∷ []) ++ result 2 "r") 1000 1000 1000 100000 7 2

together_holds : Claim together
unfolding seen
together_holds = refl

-- only the first step of a key is tested
abbrev later_steps : Row
later_steps = classes (sort "N" ++ symbol 0 [] "z" ++ symbol 0 (0 ∷ []) "s" ++ symbol prop (0 ∷ []) "p" ++ symbol prop (0 ∷ []) "q" ++ rule (0 ∷ []) 0 (2 ∷ X ∷ []) "p" ++ rule (0 ∷ []) 2 (2 ∷ X ∷ 2 ∷ X ∷ 3 ∷ X ∷ []) "q" ++ node (0 ∷ []) ++ node (1 ∷ 0 ∷ []) ++ node (2 ∷ 0 ∷ []) ++ node (2 ∷ 1 ∷ []) ++ node (3 ∷ 0 ∷ []) ++ node (3 ∷ 1 ∷ []) ++ step (0 ∷ 2 ∷ []) ++ step (0 ∷ 3 ∷ []) ++ step (1 ∷ 4 ∷ 0 ∷ 0 ∷ []) ++ step (1 ∷ 5 ∷ 0 ∷ 1 ∷ []) ++ result 2 "a" ++ result 3 "b") 1000 1000 1000 100000 0 0

later_steps_holds : Claim later_steps
unfolding seen
later_steps_holds = refl

-- a clash comes ahead of a circle
abbrev clash_first : Row
clash_first = classes (sort "N" ++ symbol 0 [] "z" ++ symbol 0 (0 ∷ []) "s" ++ symbol prop (0 ∷ 0 ∷ []) "p" ++ symbol prop (0 ∷ []) "u" ++ symbol prop [] "q" ++ rule (0 ∷ []) 0 (2 ∷ X ∷ X ∷ []) "e" ++ rule (0 ∷ []) 0 (3 ∷ 1 ∷ X ∷ []) "u" ++ rule (0 ∷ []) 2 (2 ∷ X ∷ 1 ∷ X ∷ 3 ∷ 0 ∷ 4 ∷ []) "c" ++ node (0 ∷ []) ++ node (1 ∷ 0 ∷ []) ++ node (2 ∷ 0 ∷ 0 ∷ []) ++ node (3 ∷ 1 ∷ []) ++ node (4 ∷ []) ++ step (0 ∷ 2 ∷ []) ++ step (1 ∷ 3 ∷ []) ++ step (2 ∷ 4 ∷ 0 ∷ 1 ∷ []) ++ result 2 "r") 1000 1000 1000 100000 5 2

clash_first_holds : Claim clash_first
unfolding seen
clash_first_holds = refl

-- a goal's judgment that is no instance: the place is the result's step
abbrev goal_instance : Row
goal_instance = classes (nat_nodes ++ step (0 ∷ 3 ∷ []) ++ step (0 ∷ 4 ∷ []) ++ step (1 ∷ 4 ∷ 0 ∷ []) ++ goal 4 "g" ++ result 2 "g") 1000 1000 1000 100000 7 2

goal_instance_holds : Claim goal_instance
unfolding seen
goal_instance_holds = refl

-- a result with another judgment
abbrev goal-judgment : Row
goal-judgment = classes (nat_nodes ++ step (0 ∷ 3 ∷ []) ++ goal 4 "g" ++ result 0 "g") 1000 1000 1000 100000 4 0

goal-judgment_holds : Claim goal-judgment
unfolding seen
goal-judgment_holds = refl

-- an unused variable of a sort without terms costs one cell, its conclusion another
abbrev unused_3 : Row
unused_3 = classes (sort "N" ++ symbol prop [] "q" ++ rule (0 ∷ []) 0 (0 ∷ []) "r" ++ node (0 ∷ []) ++ step (0 ∷ 0 ∷ []) ++ result 0 "r") 100 100 2 100000 0 0

unused_3_holds : Claim unused_3
unfolding seen
unused_3_holds = refl

-- one cell less is short
abbrev unused_short : Row
unused_short = classes (sort "N" ++ symbol prop [] "q" ++ rule (0 ∷ []) 0 (0 ∷ []) "r" ++ node (0 ∷ []) ++ step (0 ∷ 0 ∷ []) ++ result 0 "r") 100 100 1 100000 8 3

unused_short_holds : Claim unused_short
unfolding seen
unused_short_holds = refl

-- without results nothing is needed
abbrev no_results : Row
no_results = classes (nat_nodes ++ step (0 ∷ 3 ∷ [])) 1 0 0 100000 0 0

no_results_holds : Claim no_results
unfolding seen
no_results_holds = refl

-- step words are written first
abbrev step_words : Row
step_words = classes (nat_nodes ++ step (0 ∷ 4 ∷ []) ++ result 0 "r") 0 0 0 100000 8 1

step-words_holds : Claim step_words
unfolding seen
step-words_holds = refl

-- the graph comes ahead of patterns
abbrev graph_first : Row
graph_first = classes (nat_nodes ++ step (0 ∷ 3 ∷ []) ++ result 0 "r") 1 0 0 100000 8 3

graph_first_holds : Claim graph_first
unfolding seen
graph_first_holds = refl

-- patterns come ahead of the row
abbrev patterns_first : Row
patterns_first = classes (nat_nodes ++ step (0 ∷ 3 ∷ []) ++ result 0 "r") 1 0 100 100000 8 2

patterns_first_holds : Claim patterns_first
unfolding seen
patterns_first_holds = refl

-- the row comes last
abbrev row_last : Row
row_last = classes (nat_nodes ++ step (0 ∷ 3 ∷ []) ++ result 0 "r") 1 100 100 100000 8 1

row-last_holds : Claim row_last
unfolding seen
row-last_holds = refl

-- a cut class has no graph
abbrev cut_patterns : Row
cut_patterns = classes (nat_nodes ++ step (0 ∷ 3 ∷ []) ++ result 0 "r" ++ cut (2 ∷ [])) 1 0 0 100000 8 2

cut_patterns_holds : Claim cut_patterns
unfolding seen
cut_patterns_holds = refl

-- a clash comes ahead of the next premise's cells, and behind its own
abbrev clash_cells : Row
clash_cells = classes (clashing) 100 100 5 100000 8 3

clash_cells_holds : Claim clash_cells
unfolding seen
clash_cells_holds = refl

-- and with them it is the clash
abbrev clash_enough : Row
clash_enough = classes (clashing) 100 100 8 100000 5 1

clash_enough_holds : Claim clash_enough
unfolding seen
clash_enough_holds = refl

-- a circle comes ahead of the conclusion's cells
abbrev circle_cells : Row
circle_cells = classes (circling) 100 100 10 100000 6 1

circle_cells_holds : Claim circle_cells
unfolding seen
circle_cells_holds = refl

-- and behind the premises'
abbrev circle_short : Row
circle_short = classes (circling) 100 100 8 100000 8 3

circle_short_holds : Claim circle_short
unfolding seen
circle_short_holds = refl

-- a step that is not needed is not tested
abbrev unneeded_wrong : Row
unneeded_wrong = classes (nat_nodes ++ step (0 ∷ 4 ∷ []) ++ step (0 ∷ 3 ∷ []) ++ result 1 "r") 1000 1000 1000 100000 0 0

unneeded_wrong_holds : Claim unneeded_wrong
unfolding seen
unneeded_wrong_holds = refl

-- the worked example's goal as shown
abbrev example_shown : Row
example_shown = shown (example) 60 12 (bytes "g (pos (s ?v0))\n?v0 : Nat 1 (s z)\n")

example_shown_holds : Claim example_shown
unfolding seen
example_shown_holds = refl

-- ★ `(pos (s ?v0))` with budget 1
abbrev budget_1 : Row
budget_1 = shown (example) 1 12 (bytes "g (pos " ++ 226 ∷ 128 ∷ 166 ∷ [] ++ bytes ")\n?v0 : Nat 1 (s z)\n")

budget_1_holds : Claim budget_1
unfolding seen
budget_1_holds = refl

-- a spent budget
abbrev budget_0 : Row
budget_0 = shown (example) 0 12 (bytes "g " ++ 226 ∷ 128 ∷ 166 ∷ [] ++ bytes "\n?v0 : Nat 1 (s z)\n")

budget_0_holds : Claim budget_0
unfolding seen
budget_0_holds = refl

-- the second budget is for values
abbrev value_1 : Row
value_1 = shown (example) 60 1 (bytes "g (pos (s ?v0))\n?v0 : Nat 1 (s " ++ 226 ∷ 128 ∷ 166 ∷ [] ++ bytes ")\n")

value_1_holds : Claim value_1
unfolding seen
value_1_holds = refl

abbrev pub rows : List Row
rows = together ∷ later_steps ∷ clash_first ∷ goal_instance ∷ goal-judgment ∷ unused_3 ∷ unused_short ∷ no_results ∷ step_words ∷ graph_first ∷ patterns_first ∷ row_last ∷ cut_patterns ∷ clash_cells ∷ clash_enough ∷ circle_cells ∷ circle_short ∷ unneeded_wrong ∷ example_shown ∷ budget_1 ∷ budget_0 ∷ value_1 ∷ []

pub hold : Holds rows
hold = (together_holds, (later_steps_holds, (clash_first_holds, (goal_instance_holds, (goal-judgment_holds, (unused_3_holds, (unused_short_holds, (no_results_holds, (step-words_holds, (graph_first_holds, (patterns_first_holds, (row-last_holds, (cut_patterns_holds, (clash_cells_holds, (clash_enough_holds, (circle_cells_holds, (circle_short_holds, (unneeded_wrong_holds, (example_shown_holds, (budget_1_holds, (budget_0_holds, (value_1_holds, tt))))))))))))))))))))))
