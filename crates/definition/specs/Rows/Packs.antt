-- Packs that are given to more than one call.
use Rattle.std.specs.Prelude.{List, [], ◌∷◌, ◌++◌, ℕ}
use Rattle.definition.specs.Pack.{prop}
use Rattle.definition.specs.Rows.Say.{sort, symbol, rule, node, step, goal, result, cut, X}

-- the worked example's theory
abbrev pub nat_rules : List ℕ
nat_rules = sort "Nat" ++ symbol 0 [] "z" ++ symbol 0 (0 ∷ []) "s" ++ symbol prop (0 ∷ []) "nat" ++ symbol prop (0 ∷ []) "pos" ++ rule [] 0 (2 ∷ 0 ∷ []) "nz" ++ rule (0 ∷ []) 1 (2 ∷ X ∷ 2 ∷ 1 ∷ X ∷ []) "ns" ++ rule (0 ∷ []) 1 (2 ∷ X ∷ 3 ∷ 1 ∷ X ∷ []) "pos"

-- with nodes: 3 is nat(z), 4 nat(s z), 5 pos(s (s z))
abbrev pub nat_nodes : List ℕ
nat_nodes = nat_rules ++ node (0 ∷ []) ++ node (1 ∷ 0 ∷ []) ++ node (1 ∷ 1 ∷ []) ++ node (2 ∷ 0 ∷ []) ++ node (2 ∷ 1 ∷ []) ++ node (3 ∷ 2 ∷ [])

-- the worked example
abbrev pub example : List ℕ
example = nat_rules ++ node (0 ∷ []) ++ node (1 ∷ 0 ∷ []) ++ node (1 ∷ 1 ∷ []) ++ node (3 ∷ 2 ∷ []) ++ node (2 ∷ 0 ∷ []) ++ node (2 ∷ 1 ∷ []) ++ step (0 ∷ 4 ∷ []) ++ step (1 ∷ 5 ∷ 0 ∷ []) ++ step (2 ∷ 3 ∷ 1 ∷ []) ++ goal 3 "g" ++ result 2 "g" ++ cut (2 ∷ [])

-- "Premise p(X, s X) over a step from the rule p(X, X)"
abbrev pub circling : List ℕ
circling = sort "N" ++ symbol 0 [] "z" ++ symbol 0 (0 ∷ []) "s" ++ symbol prop (0 ∷ 0 ∷ []) "p" ++ symbol prop [] "q" ++ rule (0 ∷ []) 0 (2 ∷ X ∷ X ∷ []) "e" ++ rule (0 ∷ []) 1 (2 ∷ X ∷ 1 ∷ X ∷ 3 ∷ []) "c" ++ node (0 ∷ []) ++ node (2 ∷ 0 ∷ 0 ∷ []) ++ node (3 ∷ []) ++ step (0 ∷ 1 ∷ []) ++ step (1 ∷ 2 ∷ 0 ∷ []) ++ result 1 "r"

-- "Premise p(z) over the step p(s z) from the rule p(s X)"
abbrev pub clashing : List ℕ
clashing = sort "N" ++ symbol 0 [] "z" ++ symbol 0 (0 ∷ []) "s" ++ symbol prop (0 ∷ []) "p" ++ symbol prop [] "q" ++ rule (0 ∷ []) 0 (2 ∷ 1 ∷ X ∷ []) "e" ++ rule [] 1 (2 ∷ 0 ∷ 3 ∷ []) "c" ++ node (0 ∷ []) ++ node (1 ∷ 0 ∷ []) ++ node (2 ∷ 1 ∷ []) ++ node (3 ∷ []) ++ step (0 ∷ 2 ∷ []) ++ step (1 ∷ 3 ∷ 0 ∷ []) ++ result 1 "r"

-- "Goal without result"
abbrev pub unmet : List ℕ
unmet = nat_nodes ++ step (0 ∷ 3 ∷ []) ++ goal 3 "g" ++ result 0 "h"
