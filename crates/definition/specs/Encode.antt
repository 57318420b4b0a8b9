-- The bytes of a pack: the other way round.
use Rattle.std.specs.Prelude.{List, [], ◌∷◌, ◌++◌, ℕ, zero, suc, ◌+◌, ◌/◌, ◌%◌, length}
use Rattle.definition.specs.Pack.{Symbol, Term, Terms, var, app, nil, cons, Rule, Node, Step, Goal, Result, Cut, Abstract, Pack}
use Rattle.definition.specs.Theory.{variable}
use Rattle.definition.specs.Certificate.{count}

-- a number as n bytes, lowest first
unfoldable pub put : ℕ → ℕ → List ℕ
put zero v = []
put (suc n) v = v % 256 ∷ put n (v / 256)

-- numbers as words
unfoldable pub put_words : List ℕ → List ℕ
unfolding put
put_words [] = []
put_words (w ∷ ws) = put 4 w ++ put_words ws

-- a record: length of the body, kind, body
unfoldable pub put_record_of : ℕ → List ℕ → List ℕ
unfolding put
put_record_of kind body = put 4 (length body) ++ (put 2 kind ++ body)

-- the records of one kind
unfoldable pub put_all : {A : Type 0} → ℕ → (A → List ℕ) → List A → List ℕ
unfolding put_record_of
put_all kind body [] = []
put_all kind body (x ∷ xs) = put_record_of kind (body x) ++ put_all kind body xs

-- terms in prefix order
unfoldable mutual
  unfolding put

  pub put_term : Term → List ℕ
  put_term (var k) = put 4 (variable + k)
  put_term (app h ts) = put 4 h ++ put_terms ts

  pub put_terms : Terms → List ℕ
  put_terms nil = []
  put_terms (cons t ts) = put_term t ++ put_terms ts

abbrev pub sort_body : List ℕ → List ℕ
sort_body name = name

unfoldable pub symbol_body : Symbol → List ℕ
unfolding put put_words
symbol_body y = put 4 y.output ++ (put 2 (length y.inputs) ++ (put_words y.inputs ++ y.name))

unfoldable pub rule_body : Rule → List ℕ
unfolding put put_words put_term count
rule_body r = put 2 (length r.vars) ++ (put 2 (count r.premises) ++ (put_words r.vars ++ (put_terms r.premises ++ (put_term r.conclusion ++ r.name))))

unfoldable pub node_body : Node → List ℕ
unfolding put_words
node_body n = put_words (n.head ∷ n.args)

unfoldable pub step_body : Step → List ℕ
unfolding put_words
step_body s = put_words (s.rule ∷ s.judgment ∷ s.refs)

unfoldable pub goal_body : Goal → List ℕ
unfolding put
goal_body g = put 4 g.judgment ++ g.name

unfoldable pub result_body : Result → List ℕ
unfolding put
result_body r = put 4 r.step ++ r.name

unfoldable pub cut_body : Cut → List ℕ
unfolding put_words
cut_body c = put_words (c.predicate ∷ c.outputs)

unfoldable pub abstract_body : Abstract → List ℕ
unfolding put_words
abstract_body a = put_words (a.constructor ∷ a.position ∷ [])

-- all records, in the order of their kinds
unfoldable pub encode : Pack → List ℕ
unfolding put_all symbol_body rule_body node_body step_body goal_body result_body cut_body abstract_body
encode P = put_all 1 sort_body P.sorts ++ (put_all 2 symbol_body P.symbols ++ (put_all 3 rule_body P.rules ++ (put_all 4 node_body P.nodes
    ++ (put_all 5 step_body P.steps ++ (put_all 6 goal_body P.goals ++ (put_all 7 result_body P.results ++ (put_all 8 cut_body P.cuts ++ put_all 9 abstract_body P.abstracts)))))))
