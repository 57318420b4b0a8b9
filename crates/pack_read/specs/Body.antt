-- Document 01, "The pack": what a record's body says, by kind.
use Rattle.std.specs.Prelude.{◌≡◌, refl, List, [], ◌∷◌, ℕ, ◌+◌, ◌*◌, ◌-◌, ◌/◌, length, get_or, drop}
use Rattle.definition.specs.Little.{le}
use Rattle.definition.specs.Theory.{words}
use Rattle.definition.specs.Pack.{Symbol, Node, Step, Goal, Result, Cut, Abstract, prop}
use Rattle.pack_tables.specs.Place.{Place, no_place, body_at}

-- the body of record i of these
abbrev pub body_of : List ℕ → List Place → ℕ → List ℕ
body_of bytes ps i = body_at bytes (get_or ps i no_place)

-- 2 symbol: output sort, u16 arity, input sorts, name
unfoldable pub symbol_in : List ℕ → Symbol
unfolding le words
symbol_in body = record { output = le 4 body 0; inputs = words (le 2 body 4) (drop 6 body); name = drop (6 + 4 * le 2 body 4) body }

-- 4 ground node: head, arguments
unfoldable pub node_in : List ℕ → Node
unfolding le words
node_in body = record { head = le 4 body 0; args = words ((length body - 4) / 4) (drop 4 body) }

-- 5 step: rule, judgment node, refs
unfoldable pub step_in : List ℕ → Step
unfolding le words
step_in body = record { rule = le 4 body 0; judgment = le 4 body 4; refs = words ((length body - 8) / 4) (drop 8 body) }

-- 6 goal: judgment node, name
unfoldable pub goal_in : List ℕ → Goal
unfolding le
goal_in body = record { judgment = le 4 body 0; name = drop 4 body }

-- 7 result: step, name
unfoldable pub result_in : List ℕ → Result
unfolding le
result_in body = record { step = le 4 body 0; name = drop 4 body }

-- 8 cut: predicate, output positions
unfoldable pub cut_in : List ℕ → Cut
unfolding le words
cut_in body = record { predicate = le 4 body 0; outputs = words ((length body - 4) / 4) (drop 4 body) }

-- 9 abstract: constructor, position
unfoldable pub abstract_in : List ℕ → Abstract
unfolding le
abstract_in body = record { constructor = le 4 body 0; position = le 4 body 4 }

-- a predicate `P` of one input of sort 1; node 5 over the nodes 1 and 258; a step by rule 3 to node 4 from step 2
symbol : symbol_in (255 ∷ 255 ∷ 255 ∷ 255 ∷ 1 ∷ 0 ∷ 1 ∷ 0 ∷ 0 ∷ 0 ∷ 80 ∷ []) ≡ record { output = prop; inputs = 1 ∷ []; name = 80 ∷ [] }
unfolding symbol_in
symbol = refl

node : node_in (5 ∷ 0 ∷ 0 ∷ 0 ∷ 1 ∷ 0 ∷ 0 ∷ 0 ∷ 2 ∷ 1 ∷ 0 ∷ 0 ∷ []) ≡ record { head = 5; args = 1 ∷ 258 ∷ [] }
unfolding node_in
node = refl

step : step_in (3 ∷ 0 ∷ 0 ∷ 0 ∷ 4 ∷ 0 ∷ 0 ∷ 0 ∷ 2 ∷ 0 ∷ 0 ∷ 0 ∷ []) ≡ record { rule = 3; judgment = 4; refs = 2 ∷ [] }
unfolding step_in
step = refl
