-- The beginning of small packs: a sort, its symbols, two rules over them, nodes.
use Rattle.std.specs.Prelude.{List, [], ◌∷◌, ◌++◌, ℕ}
use Rattle.definition.specs.Pack.{prop}
use Rattle.definition.specs.Rows.Say.{sort, symbol, rule, node, X}

-- a sort
abbrev pub sorts : List ℕ
sorts = sort "N"

-- with symbols
abbrev pub symbols : List ℕ
symbols = sorts ++ symbol 0 [] "z" ++ symbol 0 (0 ∷ []) "s" ++ symbol prop (0 ∷ []) "n"

-- with rules
abbrev pub rules : List ℕ
rules = symbols ++ rule [] 0 (2 ∷ 0 ∷ []) "nz" ++ rule (0 ∷ []) 1 (2 ∷ X ∷ 2 ∷ 1 ∷ X ∷ []) "ns"

-- with nodes
abbrev pub nodes : List ℕ
nodes = rules ++ node (0 ∷ []) ++ node (2 ∷ 0 ∷ []) ++ node (1 ∷ 0 ∷ [])
