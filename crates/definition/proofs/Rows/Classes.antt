-- Rows on classes, patterns and figures.
use Rattle.std.specs.Prelude.{refl, List, [], ◌∷◌, ◌++◌, ◌+◌}
use Rattle.definition.specs.Pack.{prop}
use Rattle.definition.specs.Store.{nothing, variable_head}
use Rattle.definition.specs.Rows.Say.{sort, symbol, rule, node, step, goal, result, cut, abstract, X}
use Rattle.definition.specs.Rows.Packs.{nat_rules, example, circling, clashing, unmet}
use Rattle.definition.specs.Rows.Row.{Row, classes, built, slotted, Claim, seen, Holds}

-- ★ the empty pack: no class, no word, no figure
abbrev empty-built : Row
empty-built = built [] 0 [] [] (0 ∷ 0 ∷ 0 ∷ 0 ∷ 0 ∷ 0 ∷ 0 ∷ 0 ∷ 0 ∷ 0 ∷ 0 ∷ 0 ∷ 0 ∷ [])

empty-built_holds : Claim empty-built
unfolding seen
empty-built_holds = refl

-- ★ the worked example: its words and figures
abbrev example-built : Row
example-built = built (example) 10 (nothing ∷ 0 ∷ 1 ∷ 1 ∷ 1 ∷ 1 ∷ 1 ∷ 3 ∷ 1 ∷ 1 ∷ 1 ∷ []) (2 ∷ variable_head ∷ 0 ∷ 0 ∷ 1 ∷ 2 ∷ 0 ∷ 1 ∷ 1 ∷ 0 ∷ 1 ∷ 3 ∷ 2 ∷ []) (2 ∷ 2 ∷ 6 ∷ 4 ∷ 1 ∷ 1 ∷ 0 ∷ 1 ∷ 1 ∷ 2 ∷ 0 ∷ 0 ∷ 0 ∷ [])

example-built_holds : Claim example-built
unfolding seen
example-built_holds = refl

-- ★ premise p(X, s X) over a step from the rule p(X, X)
abbrev circle_classes : Row
circle_classes = classes (circling) 1000 1000 1000 100000 6 1

circle_classes_holds : Claim circle_classes
unfolding seen
circle_classes_holds = refl

-- ★ premise p(z) over the step p(s z) from the rule p(s X)
abbrev clash_classes : Row
clash_classes = classes (clashing) 1000 1000 1000 100000 5 1

clash_classes_holds : Claim clash_classes
unfolding seen
clash_classes_holds = refl

-- ★ nat(z) twice, the second used: the first gets the class
abbrev twice_built : Row
twice_built = built (nat_rules ++ node (0 ∷ []) ++ node (1 ∷ 0 ∷ []) ++ node (3 ∷ 1 ∷ []) ++ node (2 ∷ 0 ∷ []) ++ step (0 ∷ 3 ∷ []) ++ step (0 ∷ 3 ∷ []) ++ step (2 ∷ 2 ∷ 1 ∷ []) ++ goal 2 "g" ++ result 2 "g") 10 (0 ∷ nothing ∷ 1 ∷ 1 ∷ 1 ∷ 0 ∷ 3 ∷ 1 ∷ 0 ∷ []) (0 ∷ 0 ∷ 1 ∷ 2 ∷ 0 ∷ 1 ∷ 1 ∷ 0 ∷ 1 ∷ 3 ∷ 2 ∷ []) (2 ∷ 2 ∷ 4 ∷ 4 ∷ 0 ∷ 0 ∷ 0 ∷ 0 ∷ 0 ∷ 2 ∷ 0 ∷ 0 ∷ 0 ∷ [])

twice_built_holds : Claim twice_built
unfolding seen
twice_built_holds = refl

-- the first step counts, whatever its rule
abbrev first-rule-built : Row
first-rule-built = built (nat_rules ++ rule (0 ∷ []) 1 (2 ∷ X ∷ 2 ∷ X ∷ []) "nn" ++ node (0 ∷ []) ++ node (1 ∷ 0 ∷ []) ++ node (3 ∷ 1 ∷ []) ++ node (2 ∷ 0 ∷ []) ++ step (0 ∷ 3 ∷ []) ++ step (3 ∷ 3 ∷ 0 ∷ []) ++ step (2 ∷ 2 ∷ 1 ∷ []) ++ goal 2 "g" ++ result 2 "g" ++ result 1 "h") 10 (0 ∷ nothing ∷ 1 ∷ 1 ∷ 1 ∷ 0 ∷ 3 ∷ 1 ∷ 0 ∷ []) (0 ∷ 0 ∷ 1 ∷ 2 ∷ 0 ∷ 1 ∷ 1 ∷ 0 ∷ 1 ∷ 3 ∷ 2 ∷ []) (2 ∷ 2 ∷ 4 ∷ 4 ∷ 0 ∷ 0 ∷ 0 ∷ 0 ∷ 0 ∷ 2 ∷ 0 ∷ 0 ∷ 0 ∷ [])

first-rule-built_holds : Claim first-rule-built
unfolding seen
first-rule-built_holds = refl

-- ★ two needed cut steps of one predicate: one class of two; two premises have two copies
abbrev two-cut-built : Row
two-cut-built = built (sort "Nat" ++ symbol 0 [] "z" ++ symbol 0 (0 ∷ []) "s" ++ symbol prop (0 ∷ []) "nat" ++ symbol prop (0 ∷ []) "pos" ++ symbol prop (0 ∷ 0 ∷ []) "both" ++ rule [] 0 (2 ∷ 0 ∷ []) "nz" ++ rule (0 ∷ []) 1 (2 ∷ X ∷ 2 ∷ 1 ∷ X ∷ []) "ns" ++ rule (0 ∷ []) 1 (2 ∷ X ∷ 3 ∷ 1 ∷ X ∷ []) "pos" ++ rule (0 ∷ 0 ∷ []) 2 (2 ∷ X ∷ 2 ∷ (X + 1) ∷ 4 ∷ X ∷ (X + 1) ∷ []) "both" ++ node (0 ∷ []) ++ node (1 ∷ 0 ∷ []) ++ node (4 ∷ 0 ∷ 1 ∷ []) ++ node (2 ∷ 0 ∷ []) ++ node (2 ∷ 1 ∷ []) ++ step (0 ∷ 3 ∷ []) ++ step (1 ∷ 4 ∷ 0 ∷ []) ++ step (3 ∷ 2 ∷ 0 ∷ 1 ∷ []) ++ goal 2 "g" ++ result 2 "g" ++ cut (2 ∷ [])) 15 (0 ∷ 0 ∷ 1 ∷ 1 ∷ 2 ∷ 1 ∷ 1 ∷ 3 ∷ 1 ∷ 2 ∷ 1 ∷ 1 ∷ []) (2 ∷ variable_head ∷ 0 ∷ 0 ∷ 1 ∷ 2 ∷ 0 ∷ 2 ∷ variable_head ∷ 1 ∷ 0 ∷ 2 ∷ 4 ∷ 0 ∷ 2 ∷ []) (3 ∷ 2 ∷ 5 ∷ 4 ∷ 2 ∷ 2 ∷ 0 ∷ 2 ∷ 2 ∷ 1 ∷ 1 ∷ 0 ∷ 0 ∷ [])

two-cut-built_holds : Claim two-cut-built
unfolding seen
two-cut-built_holds = refl

-- ★ a goal without a result
abbrev goal-unmet : Row
goal-unmet = classes (unmet) 1000 1000 1000 100000 4 0

goal-unmet_holds : Claim goal-unmet
unfolding seen
goal-unmet_holds = refl

-- a cut step is needed and hands nothing on
abbrev stop_built : Row
stop_built = built (sort "Nat" ++ symbol 0 [] "z" ++ symbol 0 (0 ∷ []) "s" ++ symbol prop (0 ∷ []) "nat" ++ symbol prop (0 ∷ []) "pos" ++ symbol prop (0 ∷ []) "odd" ++ rule [] 0 (2 ∷ 0 ∷ []) "nz" ++ rule (0 ∷ []) 1 (2 ∷ X ∷ 2 ∷ 1 ∷ X ∷ []) "ns" ++ rule (0 ∷ []) 1 (2 ∷ X ∷ 3 ∷ 1 ∷ X ∷ []) "pos" ++ rule (0 ∷ []) 1 (3 ∷ X ∷ 4 ∷ 1 ∷ X ∷ []) "odd" ++ node (0 ∷ []) ++ node (1 ∷ 0 ∷ []) ++ node (1 ∷ 1 ∷ []) ++ node (1 ∷ 2 ∷ []) ++ node (4 ∷ 3 ∷ []) ++ node (2 ∷ 0 ∷ []) ++ node (2 ∷ 1 ∷ []) ++ node (3 ∷ 2 ∷ []) ++ step (0 ∷ 5 ∷ []) ++ step (1 ∷ 6 ∷ 0 ∷ []) ++ step (2 ∷ 7 ∷ 1 ∷ []) ++ step (3 ∷ 4 ∷ 2 ∷ []) ++ goal 4 "g" ++ result 3 "g" ++ cut (3 ∷ [])) 10 (nothing ∷ nothing ∷ 0 ∷ 1 ∷ 1 ∷ 1 ∷ 1 ∷ 1 ∷ 3 ∷ 1 ∷ 1 ∷ 1 ∷ []) (2 ∷ variable_head ∷ 0 ∷ 0 ∷ 1 ∷ 3 ∷ 0 ∷ 1 ∷ 1 ∷ 0 ∷ 1 ∷ 4 ∷ 2 ∷ []) (2 ∷ 2 ∷ 8 ∷ 4 ∷ 1 ∷ 1 ∷ 0 ∷ 1 ∷ 1 ∷ 2 ∷ 0 ∷ 0 ∷ 0 ∷ [])

stop_built_holds : Claim stop_built
unfolding seen
stop_built_holds = refl

-- variables that only premises have
abbrev premise_built : Row
premise_built = built (sort "Nat" ++ symbol 0 [] "z" ++ symbol 0 (0 ∷ []) "s" ++ symbol prop (0 ∷ []) "nat" ++ symbol prop (0 ∷ []) "pos" ++ symbol prop (0 ∷ 0 ∷ []) "e" ++ symbol prop (0 ∷ []) "q" ++ rule [] 0 (2 ∷ 0 ∷ []) "nz" ++ rule (0 ∷ []) 1 (2 ∷ X ∷ 2 ∷ 1 ∷ X ∷ []) "ns" ++ rule (0 ∷ []) 1 (2 ∷ X ∷ 3 ∷ 1 ∷ X ∷ []) "pos" ++ rule (0 ∷ 0 ∷ []) 0 (4 ∷ X ∷ (X + 1) ∷ []) "e" ++ rule (0 ∷ 0 ∷ 0 ∷ []) 4 (2 ∷ X ∷ 2 ∷ (X + 1) ∷ 4 ∷ X ∷ (X + 2) ∷ 4 ∷ (X + 2) ∷ (X + 1) ∷ 5 ∷ 1 ∷ X ∷ []) "q" ++ node (0 ∷ []) ++ node (1 ∷ 0 ∷ []) ++ node (5 ∷ 1 ∷ []) ++ node (2 ∷ 0 ∷ []) ++ node (2 ∷ 1 ∷ []) ++ node (1 ∷ 1 ∷ []) ++ node (4 ∷ 0 ∷ 5 ∷ []) ++ node (4 ∷ 5 ∷ 1 ∷ []) ++ step (0 ∷ 3 ∷ []) ++ step (1 ∷ 4 ∷ 0 ∷ []) ++ step (3 ∷ 6 ∷ []) ++ step (3 ∷ 7 ∷ []) ++ step (4 ∷ 2 ∷ 0 ∷ 1 ∷ 2 ∷ 3 ∷ []) ++ goal 2 "g" ++ result 4 "g" ++ cut (2 ∷ [])) 33 (0 ∷ 0 ∷ 1 ∷ 1 ∷ 2 ∷ 1 ∷ 2 ∷ 1 ∷ 1 ∷ 3 ∷ 2 ∷ 2 ∷ 0 ∷ 0 ∷ 5 ∷ 1 ∷ 2 ∷ 1 ∷ 1 ∷ []) (2 ∷ variable_head ∷ 0 ∷ 0 ∷ 1 ∷ 2 ∷ 0 ∷ 2 ∷ variable_head ∷ 1 ∷ 0 ∷ 2 ∷ 4 ∷ 0 ∷ 2 ∷ 1 ∷ 1 ∷ 0 ∷ 1 ∷ 5 ∷ 4 ∷ 0 ∷ 0 ∷ 1 ∷ 1 ∷ 6 ∷ 1 ∷ 1 ∷ 7 ∷ []) (5 ∷ 3 ∷ 8 ∷ 9 ∷ 4 ∷ 2 ∷ 1 ∷ 6 ∷ 4 ∷ 1 ∷ 2 ∷ 0 ∷ 0 ∷ [])

premise_built_holds : Claim premise_built
unfolding seen
premise_built_holds = refl

-- a variable that is fixed to its ground value, which is lifted
abbrev fixed-built : Row
fixed-built = built (sort "Nat" ++ symbol 0 [] "z" ++ symbol 0 (0 ∷ []) "s" ++ symbol prop (0 ∷ 0 ∷ []) "e" ++ symbol prop (0 ∷ []) "q" ++ rule (0 ∷ 0 ∷ []) 0 (2 ∷ X ∷ (X + 1) ∷ []) "e" ++ rule (0 ∷ 0 ∷ []) 1 (2 ∷ X ∷ 1 ∷ (X + 1) ∷ 3 ∷ X ∷ []) "q" ++ node (0 ∷ []) ++ node (1 ∷ 0 ∷ []) ++ node (3 ∷ 1 ∷ []) ++ node (1 ∷ 1 ∷ []) ++ node (2 ∷ 1 ∷ 3 ∷ []) ++ step (0 ∷ 4 ∷ []) ++ step (1 ∷ 2 ∷ 0 ∷ []) ++ goal 2 "g" ++ result 1 "g") 14 (0 ∷ 1 ∷ 2 ∷ 1 ∷ 2 ∷ 0 ∷ 0 ∷ 3 ∷ 1 ∷ 1 ∷ 0 ∷ []) (2 ∷ variable_head ∷ 0 ∷ 0 ∷ 2 ∷ variable_head ∷ 1 ∷ 0 ∷ 2 ∷ 2 ∷ 0 ∷ 1 ∷ 1 ∷ 3 ∷ 0 ∷ 0 ∷ 0 ∷ 1 ∷ 1 ∷ 4 ∷ 1 ∷ 1 ∷ 5 ∷ []) (2 ∷ 2 ∷ 5 ∷ 7 ∷ 3 ∷ 0 ∷ 1 ∷ 2 ∷ 1 ∷ 2 ∷ 0 ∷ 0 ∷ 0 ∷ [])

fixed-built_holds : Claim fixed-built
unfolding seen
fixed-built_holds = refl

-- the same variable wherever it stands
abbrev trees-built : Row
trees-built = built (sort "E" ++ sort "T" ++ symbol 0 [] "e" ++ symbol 1 [] "leaf" ++ symbol 1 (1 ∷ 0 ∷ 1 ∷ []) "node" ++ symbol prop (1 ∷ []) "t" ++ symbol prop (1 ∷ []) "q" ++ rule [] 0 (3 ∷ 1 ∷ []) "tl" ++ rule (1 ∷ 1 ∷ 0 ∷ []) 2 (3 ∷ X ∷ 3 ∷ (X + 1) ∷ 3 ∷ 2 ∷ X ∷ (X + 2) ∷ (X + 1) ∷ []) "tn" ++ rule (1 ∷ []) 1 (3 ∷ X ∷ 4 ∷ 2 ∷ X ∷ 0 ∷ X ∷ []) "q" ++ node (1 ∷ []) ++ node (0 ∷ []) ++ node (2 ∷ 0 ∷ 1 ∷ 0 ∷ []) ++ node (2 ∷ 2 ∷ 1 ∷ 2 ∷ []) ++ node (4 ∷ 3 ∷ []) ++ node (3 ∷ 0 ∷ []) ++ node (3 ∷ 2 ∷ []) ++ step (0 ∷ 5 ∷ []) ++ step (1 ∷ 6 ∷ 0 ∷ 0 ∷ []) ++ step (2 ∷ 4 ∷ 1 ∷ []) ++ goal 4 "g" ++ result 2 "g" ++ cut (3 ∷ [])) 13 (nothing ∷ 0 ∷ 1 ∷ 1 ∷ 1 ∷ 1 ∷ 1 ∷ 4 ∷ 1 ∷ 1 ∷ 1 ∷ []) (2 ∷ variable_head ∷ 0 ∷ 1 ∷ 1 ∷ 3 ∷ 0 ∷ 0 ∷ 0 ∷ 3 ∷ 2 ∷ 0 ∷ 2 ∷ 0 ∷ 1 ∷ 4 ∷ 3 ∷ []) (2 ∷ 2 ∷ 7 ∷ 5 ∷ 1 ∷ 1 ∷ 0 ∷ 1 ∷ 1 ∷ 2 ∷ 0 ∷ 0 ∷ 0 ∷ [])

trees-built_holds : Claim trees-built
unfolding seen
trees-built_holds = refl

-- an abstract record changes no class
abbrev abstract-built : Row
abstract-built = built (sort "Nat" ++ symbol 0 [] "z" ++ symbol 0 (0 ∷ []) "s" ++ symbol prop (0 ∷ []) "nat" ++ symbol prop (0 ∷ []) "pos" ++ symbol prop (0 ∷ []) "ok" ++ rule [] 0 (2 ∷ 0 ∷ []) "nz" ++ rule (0 ∷ []) 1 (2 ∷ X ∷ 2 ∷ 1 ∷ X ∷ []) "ns" ++ rule (0 ∷ []) 1 (2 ∷ X ∷ 3 ∷ 1 ∷ X ∷ []) "pos" ++ rule (0 ∷ []) 0 (4 ∷ 1 ∷ X ∷ []) "ok" ++ node (0 ∷ []) ++ node (1 ∷ 0 ∷ []) ++ node (1 ∷ 1 ∷ []) ++ node (4 ∷ 2 ∷ []) ++ step (3 ∷ 3 ∷ []) ++ goal 3 "g" ++ result 0 "g" ++ abstract (1 ∷ 0 ∷ [])) 5 (0 ∷ 2 ∷ 1 ∷ 1 ∷ 0 ∷ []) (2 ∷ variable_head ∷ 0 ∷ 0 ∷ 1 ∷ 1 ∷ 0 ∷ 1 ∷ 4 ∷ 1 ∷ []) (1 ∷ 1 ∷ 4 ∷ 3 ∷ 1 ∷ 0 ∷ 0 ∷ 0 ∷ 0 ∷ 1 ∷ 0 ∷ 0 ∷ 0 ∷ [])

abstract-built_holds : Claim abstract-built
unfolding seen
abstract-built_holds = refl

-- ★ counts 1, 2, 9, 10, 99, 100: "slots 0, 1, 1, 2, 2, 3", and how many classes each slot counts
abbrev counts_slotted : Row
counts_slotted = slotted (1 ∷ 2 ∷ 9 ∷ 10 ∷ 99 ∷ 100 ∷ []) (0 ∷ 1 ∷ 1 ∷ 2 ∷ 2 ∷ 3 ∷ []) (1 ∷ 2 ∷ 2 ∷ 1 ∷ [])

counts_slotted_holds : Claim counts_slotted
unfolding seen
counts_slotted_holds = refl

abbrev pub rows : List Row
rows = empty-built ∷ example-built ∷ circle_classes ∷ clash_classes ∷ twice_built ∷ first-rule-built ∷ two-cut-built ∷ goal-unmet ∷ stop_built ∷ premise_built ∷ fixed-built ∷ trees-built ∷ abstract-built ∷ counts_slotted ∷ []

pub hold : Holds rows
hold = (empty-built_holds, (example-built_holds, (circle_classes_holds, (clash_classes_holds, (twice_built_holds, (first-rule-built_holds, (two-cut-built_holds, (goal-unmet_holds, (stop_built_holds, (premise_built_holds, (fixed-built_holds, (trees-built_holds, (abstract-built_holds, (counts_slotted_holds, tt))))))))))))))
