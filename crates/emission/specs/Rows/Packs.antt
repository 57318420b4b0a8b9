-- Packs for emission; document 01's own stand in the definition's Rows/Packs.
use Rattle.std.specs.Prelude.{List, [], ◌∷◌, ◌++◌, ℕ, ◌+◌}
use Rattle.definition.specs.Pack.{prop}
use Rattle.definition.specs.Rows.Say.{sort, symbol, rule, node, step, goal, result, cut, X}
use Rattle.definition.specs.Rows.Packs.{nat_rules, nat_nodes}

-- "Goal on nat in the example": the goal is nat(s z)
abbrev pub goal_on_cut : List ℕ
goal_on_cut = nat_nodes ++ step (0 ∷ 3 ∷ []) ++ step (1 ∷ 4 ∷ 0 ∷ []) ++ goal 4 "g" ++ result 1 "g" ++ cut (2 ∷ [])

-- the chosen output is s of something, where the ground judgment has z
abbrev pub two_heads : List ℕ
two_heads = sort "Nat" ++ symbol 0 [] "z" ++ symbol 0 (0 ∷ []) "s" ++ symbol prop (0 ∷ 0 ∷ []) "a" ++ symbol prop (0 ∷ []) "c" ++ rule (0 ∷ 0 ∷ []) 0 (2 ∷ X ∷ (X + 1) ∷ []) "free" ++ rule (0 ∷ 0 ∷ []) 1 (2 ∷ 1 ∷ X ∷ (X + 1) ∷ 3 ∷ X ∷ []) "step" ++ node (0 ∷ []) ++ node (3 ∷ 0 ∷ []) ++ node (1 ∷ 0 ∷ []) ++ node (2 ∷ 2 ∷ 0 ∷ []) ++ step (0 ∷ 3 ∷ []) ++ step (1 ∷ 1 ∷ 0 ∷ []) ++ goal 1 "g" ++ result 1 "g" ++ cut (2 ∷ 1 ∷ [])

-- step 1 should conclude p(s z): X is t of V by step 2, beside s z at step 0 and beside t z at step 1
abbrev pub heads_above : List ℕ
heads_above = sort "Nat" ++ symbol 0 [] "z" ++ symbol 0 (0 ∷ []) "s" ++ symbol 0 (0 ∷ []) "t" ++ symbol prop (0 ∷ []) "m" ++ symbol prop (0 ∷ []) "p" ++ symbol prop [] "q" ++ rule (0 ∷ []) 0 (3 ∷ X ∷ []) "m" ++ rule (0 ∷ []) 1 (3 ∷ X ∷ 4 ∷ X ∷ []) "p" ++ rule (0 ∷ []) 1 (4 ∷ 2 ∷ X ∷ 5 ∷ []) "q" ++ node (0 ∷ []) ++ node (1 ∷ 0 ∷ []) ++ node (2 ∷ 0 ∷ []) ++ node (3 ∷ 1 ∷ []) ++ node (4 ∷ 2 ∷ []) ++ node (5 ∷ []) ++ step (0 ∷ 3 ∷ []) ++ step (1 ∷ 4 ∷ 0 ∷ []) ++ step (2 ∷ 5 ∷ 1 ∷ []) ++ goal 5 "g" ++ result 2 "g"

-- the first candidate, L, fails in its second case; z then proves
abbrev pub failed_candidate : List ℕ
failed_candidate = sort "Nat" ++ symbol 0 [] "z" ++ symbol 0 (0 ∷ []) "s" ++ symbol prop (0 ∷ []) "nat" ++ symbol prop (0 ∷ 0 ∷ 0 ∷ []) "snd" ++ symbol prop (0 ∷ []) "q" ++ rule [] 0 (2 ∷ 0 ∷ []) "nz" ++ rule (0 ∷ []) 1 (2 ∷ X ∷ 2 ∷ 1 ∷ X ∷ []) "ns" ++ rule (0 ∷ 0 ∷ []) 0 (3 ∷ X ∷ (X + 1) ∷ (X + 1) ∷ []) "snd" ++ rule (0 ∷ 0 ∷ []) 2 (2 ∷ X ∷ 3 ∷ X ∷ 0 ∷ (X + 1) ∷ 4 ∷ X ∷ []) "q" ++ node (0 ∷ []) ++ node (1 ∷ 0 ∷ []) ++ node (4 ∷ 1 ∷ []) ++ node (2 ∷ 0 ∷ []) ++ node (2 ∷ 1 ∷ []) ++ node (3 ∷ 1 ∷ 0 ∷ 0 ∷ []) ++ step (0 ∷ 3 ∷ []) ++ step (1 ∷ 4 ∷ 0 ∷ []) ++ step (2 ∷ 5 ∷ []) ++ step (3 ∷ 2 ∷ 1 ∷ 2 ∷ []) ++ goal 2 "g" ++ result 3 "g" ++ cut (2 ∷ []) ++ cut (3 ∷ 2 ∷ [])

-- pos(L) has no proof, so the goal is written ground; the open attempt's lines are longer than the ground one's
abbrev pub pinned : List ℕ
pinned = sort "Nat" ++ symbol 0 [] "z" ++ symbol 0 (0 ∷ []) "s" ++ symbol prop (0 ∷ []) "nat" ++ symbol prop (0 ∷ []) "pos" ++ symbol prop (0 ∷ []) "q" ++ rule [] 0 (2 ∷ 0 ∷ []) "nz" ++ rule (0 ∷ []) 1 (2 ∷ X ∷ 2 ∷ 1 ∷ X ∷ []) "ns" ++ rule (0 ∷ []) 1 (2 ∷ X ∷ 3 ∷ 1 ∷ X ∷ []) "p" ++ rule (0 ∷ []) 2 (2 ∷ X ∷ 3 ∷ X ∷ 4 ∷ X ∷ []) "q" ++ node (0 ∷ []) ++ node (1 ∷ 0 ∷ []) ++ node (4 ∷ 1 ∷ []) ++ node (2 ∷ 0 ∷ []) ++ node (2 ∷ 1 ∷ []) ++ node (3 ∷ 1 ∷ []) ++ step (0 ∷ 3 ∷ []) ++ step (1 ∷ 4 ∷ 0 ∷ []) ++ step (2 ∷ 5 ∷ 0 ∷ []) ++ step (3 ∷ 2 ∷ 1 ∷ 2 ∷ []) ++ goal 2 "g" ++ result 3 "g" ++ cut (2 ∷ []) ++ cut (3 ∷ [])

-- the output of max(L, z, M) takes L, the first argument of its sort
abbrev pub outputs : List ℕ
outputs = sort "Nat" ++ symbol 0 [] "z" ++ symbol 0 (0 ∷ []) "s" ++ symbol prop (0 ∷ 0 ∷ 0 ∷ []) "max" ++ symbol prop (0 ∷ []) "nat" ++ symbol prop (0 ∷ []) "q" ++ rule [] 0 (3 ∷ 0 ∷ []) "nz" ++ rule (0 ∷ []) 1 (3 ∷ X ∷ 3 ∷ 1 ∷ X ∷ []) "ns" ++ rule (0 ∷ []) 0 (2 ∷ 0 ∷ X ∷ X ∷ []) "mz" ++ rule (0 ∷ []) 0 (2 ∷ 1 ∷ X ∷ 0 ∷ 1 ∷ X ∷ []) "mx" ++ rule (0 ∷ 0 ∷ []) 2 (3 ∷ X ∷ 2 ∷ X ∷ 0 ∷ (X + 1) ∷ 4 ∷ X ∷ []) "q" ++ node (0 ∷ []) ++ node (1 ∷ 0 ∷ []) ++ node (4 ∷ 1 ∷ []) ++ node (3 ∷ 0 ∷ []) ++ node (3 ∷ 1 ∷ []) ++ node (2 ∷ 1 ∷ 0 ∷ 1 ∷ []) ++ step (0 ∷ 3 ∷ []) ++ step (1 ∷ 4 ∷ 0 ∷ []) ++ step (3 ∷ 5 ∷ []) ++ step (4 ∷ 2 ∷ 1 ∷ 2 ∷ []) ++ goal 2 "g" ++ result 3 "g" ++ cut (2 ∷ 2 ∷ []) ++ cut (3 ∷ [])

-- a sort of three constructors: leaf, tip over an element, node over two trees and an element
abbrev pub trees : List ℕ
trees = sort "E" ++ sort "T" ++ symbol 0 [] "e" ++ symbol 1 [] "leaf" ++ symbol 1 (0 ∷ []) "tip" ++ symbol 1 (1 ∷ 0 ∷ 1 ∷ []) "node" ++ symbol prop (1 ∷ []) "t" ++ symbol prop (1 ∷ []) "q" ++ rule [] 0 (4 ∷ 1 ∷ []) "tl" ++ rule (0 ∷ []) 0 (4 ∷ 2 ∷ X ∷ []) "tt" ++ rule (1 ∷ 1 ∷ 0 ∷ []) 2 (4 ∷ X ∷ 4 ∷ (X + 1) ∷ 4 ∷ 3 ∷ X ∷ (X + 2) ∷ (X + 1) ∷ []) "tn" ++ rule (1 ∷ []) 1 (4 ∷ X ∷ 5 ∷ X ∷ []) "q" ++ node (1 ∷ []) ++ node (4 ∷ 0 ∷ []) ++ node (5 ∷ 0 ∷ []) ++ step (0 ∷ 1 ∷ []) ++ step (3 ∷ 2 ∷ 0 ∷ []) ++ goal 2 "g" ++ result 1 "g" ++ cut (4 ∷ [])

-- a goal with open variables of two sorts, behind one on a cut predicate
abbrev pub two_sorts : List ℕ
two_sorts = sort "A" ++ sort "B" ++ symbol 0 [] "a" ++ symbol 1 [] "b" ++ symbol prop (0 ∷ []) "pa" ++ symbol prop (1 ∷ []) "pb" ++ symbol prop (0 ∷ 1 ∷ []) "q" ++ rule [] 0 (2 ∷ 0 ∷ []) "ra" ++ rule [] 0 (3 ∷ 1 ∷ []) "rb" ++ rule (0 ∷ 1 ∷ []) 2 (2 ∷ X ∷ 3 ∷ (X + 1) ∷ 4 ∷ X ∷ (X + 1) ∷ []) "q" ++ node (0 ∷ []) ++ node (1 ∷ []) ++ node (4 ∷ 0 ∷ 1 ∷ []) ++ node (2 ∷ 0 ∷ []) ++ node (3 ∷ 1 ∷ []) ++ step (0 ∷ 3 ∷ []) ++ step (1 ∷ 4 ∷ []) ++ step (2 ∷ 2 ∷ 0 ∷ 1 ∷ []) ++ goal 3 "h" ++ goal 2 "g" ++ result 0 "h" ++ result 2 "g" ++ cut (2 ∷ []) ++ cut (3 ∷ [])

-- ns wants nat(z) too, twice: under the hypothesis of its case it is proved each time
abbrev pub twice_under : List ℕ
twice_under = sort "Nat" ++ symbol 0 [] "z" ++ symbol 0 (0 ∷ []) "s" ++ symbol prop (0 ∷ []) "nat" ++ symbol prop (0 ∷ []) "q" ++ rule [] 0 (2 ∷ 0 ∷ []) "nz" ++ rule (0 ∷ []) 3 (2 ∷ X ∷ 2 ∷ 0 ∷ 2 ∷ 0 ∷ 2 ∷ 1 ∷ X ∷ []) "ns" ++ rule (0 ∷ []) 1 (2 ∷ X ∷ 3 ∷ X ∷ []) "q" ++ node (0 ∷ []) ++ node (2 ∷ 0 ∷ []) ++ node (3 ∷ 0 ∷ []) ++ step (0 ∷ 1 ∷ []) ++ step (2 ∷ 2 ∷ 0 ∷ []) ++ goal 2 "g" ++ result 1 "g" ++ cut (2 ∷ [])

-- two goals of one predicate, whose general forms differ: the second rests on a step of its own
abbrev pub two_goals : List ℕ
two_goals = nat_rules ++ node (0 ∷ []) ++ node (1 ∷ 0 ∷ []) ++ node (2 ∷ 0 ∷ []) ++ node (3 ∷ 1 ∷ []) ++ node (2 ∷ 1 ∷ []) ++ node (1 ∷ 1 ∷ []) ++ node (3 ∷ 5 ∷ []) ++ step (0 ∷ 2 ∷ []) ++ step (2 ∷ 3 ∷ 0 ∷ []) ++ step (1 ∷ 4 ∷ 0 ∷ []) ++ step (2 ∷ 6 ∷ 2 ∷ []) ++ goal 3 "a" ++ goal 6 "b" ++ result 1 "a" ++ result 3 "b"
