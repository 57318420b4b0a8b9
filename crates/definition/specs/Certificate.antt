-- Document 01, "The pack": ground nodes, steps, goals, results, cuts and abstract.
use Rattle.std.specs.Prelude.{Bool, true, false, not, List, [], ◌∷◌, map, ℕ, suc, ◌+◌, ◌*◌, ◌-◌, ◌/◌, eqb, ltb, leb, length, drop}
use Rattle.definition.specs.Test.{◌and◌, all, any, same}
use Rattle.definition.specs.Little.{le}
use Rattle.definition.specs.Pack.{prop, Terms, nil, cons, Node, Goal, Result, Cut, Pack, symbol_of, rule_of, sort_of, with_node, with_step, with_goal, with_result, with_cut, with_abstract}
use Rattle.definition.specs.Frame.{Checked, good, ◌>>=◌, right}
use Rattle.definition.specs.Theory.{new_name, words}

-- a symbol that was given
unfoldable pub is_symbol : Pack → ℕ → Bool
is_symbol P h = ltb h (length P.symbols)

-- "arguments, each an earlier node", of the sorts that the head asks for
unfoldable pub is_arguments : Pack → List ℕ → List ℕ → Bool
unfolding ◌and◌ sort_of
is_arguments P [] [] = true
is_arguments P [] (a ∷ args) = false
is_arguments P (s ∷ ss) [] = false
is_arguments P (s ∷ ss) (a ∷ args) = ltb a (length P.nodes) and eqb (sort_of P a) s and is_arguments P ss args

-- the same head over the same arguments
unfoldable pub same_node : Node → Node → Bool
unfolding ◌and◌ same
same_node n m = eqb n.head m.head and same n.args m.args

-- 4 ground node: head, arguments. "No node is given twice"
unfoldable pub take_node : Pack → List ℕ → Checked Pack
unfolding le words is_symbol symbol_of is_arguments same_node any with_node
take_node P body = do
  _ ← right (leb 4 (length body))
  let head = le 4 body 0
  _ ← right (is_symbol P head)
  let inputs = (symbol_of P head).inputs
  _ ← right (eqb (length body) (4 + 4 * length inputs))
  let node : Node = record { head = head; args = words (length inputs) (drop 4 body) }
  _ ← right (is_arguments P inputs node.args)
  _ ← right (not (any (same_node node) P.nodes))
  good (with_node P node)

-- a node that was given, with a predicate on top
unfoldable pub is_judgment : Pack → ℕ → Bool
unfolding ◌and◌ sort_of
is_judgment P n = ltb n (length P.nodes) and eqb (sort_of P n) prop

-- a step that was given
unfoldable pub is_step : Pack → ℕ → Bool
is_step P s = ltb s (length P.steps)

unfoldable pub count : Terms → ℕ
count nil = 0
count (cons t ts) = suc (count ts)

-- 5 step: rule, judgment node, refs, "each an earlier step, as many as the rule's premises"
unfoldable pub take_step : Pack → List ℕ → Checked Pack
unfolding le words ◌and◌ is_judgment rule_of count all is_step with_step
take_step P body = do
  _ ← right (leb 8 (length body))
  let rule = le 4 body 0
  let judgment = le 4 body 4
  _ ← right (ltb rule (length P.rules) and is_judgment P judgment)
  let premises = count (rule_of P rule).premises
  _ ← right (eqb (length body) (8 + 4 * premises))
  let refs = words premises (drop 8 body)
  _ ← right (all (is_step P) refs)
  good (with_step P (record { rule = rule; judgment = judgment; refs = refs }))

-- 6 goal: judgment node, name, "no name twice"
unfoldable pub take_goal : Pack → List ℕ → Checked Pack
unfolding le is_judgment new_name with_goal
take_goal P body = do
  _ ← right (leb 4 (length body))
  _ ← right (is_judgment P (le 4 body 0))
  _ ← right (new_name (drop 4 body) (map (λ (y : Goal). y.name) P.goals))
  good (with_goal P (record { judgment = le 4 body 0; name = drop 4 body }))

-- 7 result: step, name, "no name twice"
unfoldable pub take_result : Pack → List ℕ → Checked Pack
unfolding le is_step new_name with_result
take_result P body = do
  _ ← right (leb 4 (length body))
  _ ← right (is_step P (le 4 body 0))
  _ ← right (new_name (drop 4 body) (map (λ (y : Result). y.name) P.results))
  good (with_result P (record { step = le 4 body 0; name = drop 4 body }))

-- 8 cut: predicate, "output positions below its arity; a predicate once"
unfoldable pub take_cut : Pack → List ℕ → Checked Pack
unfolding le words ◌and◌ is_symbol symbol_of all any with_cut
take_cut P body = do
  _ ← right (leb 4 (length body))
  let predicate = le 4 body 0
  let symbol = symbol_of P predicate
  let positions = (length body - 4) / 4
  let outputs = words positions (drop 4 body)
  _ ← right (is_symbol P predicate and eqb symbol.output prop)
  _ ← right (eqb (length body) (4 + 4 * positions))
  _ ← right (all (λ o. ltb o (length symbol.inputs)) outputs)
  _ ← right (not (any (λ (c : Cut). eqb c.predicate predicate) P.cuts))
  good (with_cut P (record { predicate = predicate; outputs = outputs }))

-- 9 abstract, "at most one": constructor, "a position below its arity"
unfoldable pub take_abstract : Pack → List ℕ → Checked Pack
unfolding le ◌and◌ is_symbol symbol_of with_abstract
take_abstract P body = do
  _ ← right (eqb (length P.abstracts) 0 and eqb (length body) 8)
  let constructor = le 4 body 0
  let symbol = symbol_of P constructor
  _ ← right (is_symbol P constructor and not (eqb symbol.output prop))
  _ ← right (ltb (le 4 body 4) (length symbol.inputs))
  good (with_abstract P (record { constructor = constructor; position = le 4 body 4 }))
