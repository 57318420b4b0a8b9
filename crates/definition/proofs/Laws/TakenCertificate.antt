-- What a node, a step, a goal, a result, a cut and an abstract that were taken are like.
use Rattle.std.specs.Prelude.{◌≡◌, true, not, List, [], ◌∷◌, ℕ, ◌-◌, ◌/◌, eqb, ltb, length, drop}
use Rattle.std.proofs.Common.{subst, arith, ltb-true, eqb-true, eq-eqb}
use Rattle.std.proofs.lemmas.Bool.{eqb-false, not-true}
use Rattle.definition.specs.Test.{never, ◌and◌, and_parts}
use Rattle.definition.specs.Little.{le}
use Rattle.definition.specs.Pack.{prop, Node, Step, Goal, Result, Cut, Abstract, Pack, no_node, symbol_of, rule_of, sort_of}
use Rattle.definition.specs.Frame.{good}
use Rattle.definition.proofs.Laws.Frame.{good_eq, right_then}
use Rattle.definition.specs.Theory.{words}
use Rattle.definition.specs.Certificate.{is_symbol, is_arguments, same_node, take_node, is_judgment, count, take_step, take_goal, take_result, take_cut, take_abstract}
use Rattle.definition.specs.Verdict.{no_goal, no_result}
use Rattle.definition.specs.Good.{no_cut, Arguments, GoodNode, GoodJudgment, GoodStep, GoodGoal, GoodResult, GoodCut, GoodAbstract}
use Rattle.definition.proofs.Laws.Grow.{still, more, none-fresh}
use Rattle.definition.proofs.Laws.Taken.{Taken}
use Rattle.definition.proofs.Laws.TakenTheory.{all-below, named_new}
use Rattle.definition.proofs.Laws.Put.{length-words}
use Rattle.definition.proofs.Laws.Store.{node-same}

-- arguments that pass are earlier nodes of the sorts
arguments_earlier : (P : Pack) (ss args : List ℕ) → is_arguments P ss args ≡ true → Arguments P (length P.nodes) ss args
unfolding is_arguments
arguments_earlier P [] [] e = tt
arguments_earlier P [] (a ∷ args) e = never (cc)
arguments_earlier P (s ∷ ss) [] e = never (cc)
arguments_earlier P (s ∷ ss) (a ∷ args) e =
    let p = and_parts (ltb a (length P.nodes) and eqb (sort_of P a) s) (is_arguments P ss args) e in
    let q = and_parts (ltb a (length P.nodes)) (eqb (sort_of P a) s) p.0 in
    (ltb-true _ _ q.0, eqb-true _ _ q.1, arguments_earlier P ss args p.1)

-- a ground node that was taken
pub taken-node : (P : Pack) (body : List ℕ) (Q : Pack) → take_node P body ≡ good Q → Taken P Q
unfolding take_node
taken-node P body Q e =
    let head = le 4 body 0 in
    let inputs = (symbol_of P head).inputs in
    let n : Node = record { head = head; args = words (length inputs) (drop 4 body) } in
    let t1 = right_then _ _ _ e in
    let t2 = right_then _ _ _ t1.1 in
    let t3 = right_then _ _ _ t2.1 in
    let t4 = right_then _ _ _ t3.1 in
    let t5 = right_then _ _ _ t4.1 in
    let g : GoodNode P (length P.nodes) n = record { head = ltb-true _ _ t2.0; args = arguments_earlier P inputs n.args t4.0 } in
    let new = none-fresh (same_node n) (λ (z : Node). z) no_node P.nodes n (λ y q. rw q (node-same n)) t5.0 in
    subst (Taken P) (good_eq t5.1) (record { sorts = still; symbols = still; rules = still; nodes = more n (g, new); steps = still; goals = still; results = still; cuts = still; abstracts = still })

-- a judgment that passes is a node with a predicate on top
judgment-given : (P : Pack) (n : ℕ) → is_judgment P n ≡ true → GoodJudgment P n
unfolding is_judgment
judgment-given P n e =
    let p = and_parts (ltb n (length P.nodes)) (eqb (sort_of P n) prop) e in
    record { given = ltb-true _ _ p.0; predicate = eqb-true _ _ p.1 }

-- a step that was taken
pub taken_step : (P : Pack) (body : List ℕ) (Q : Pack) → take_step P body ≡ good Q → Taken P Q
unfolding take_step
taken_step P body Q e =
    let rule = le 4 body 0 in
    let judgment = le 4 body 4 in
    let premises = count (rule_of P rule).premises in
    let refs = words premises (drop 8 body) in
    let s : Step = record { rule = rule; judgment = judgment; refs = refs } in
    let t1 = right_then _ _ _ e in
    let t2 = right_then _ _ _ t1.1 in
    let t3 = right_then _ _ _ t2.1 in
    let t4 = right_then _ _ _ t3.1 in
    let given = and_parts (ltb rule (length P.rules)) (is_judgment P judgment) t2.0 in
    let g : GoodStep P (length P.steps) s = record {
      rule = ltb-true _ _ given.0;
      judgment = judgment-given P judgment given.1;
      refs = length-words premises (drop 8 body);
      earlier = all-below (length P.steps) refs t4.0;
    } in
    subst (Taken P) (good_eq t4.1) (record { sorts = still; symbols = still; rules = still; nodes = still; steps = more s g; goals = still; results = still; cuts = still; abstracts = still })

-- a goal that was taken
pub taken-goal : (P : Pack) (body : List ℕ) (Q : Pack) → take_goal P body ≡ good Q → Taken P Q
unfolding take_goal
taken-goal P body Q e =
    let y : Goal = record { judgment = le 4 body 0; name = drop 4 body } in
    let t1 = right_then _ _ _ e in
    let t2 = right_then _ _ _ t1.1 in
    let t3 = right_then _ _ _ t2.1 in
    let new = named_new (λ (z : Goal). z.name) no_goal P.goals y t3.0 in
    let g : GoodGoal P y = record { judgment = judgment-given P (le 4 body 0) t2.0; name = new.0 } in
    subst (Taken P) (good_eq t3.1) (record { sorts = still; symbols = still; rules = still; nodes = still; steps = still; goals = more y (g, new.1); results = still; cuts = still; abstracts = still })

-- a result that was taken
pub taken-result : (P : Pack) (body : List ℕ) (Q : Pack) → take_result P body ≡ good Q → Taken P Q
unfolding take_result
taken-result P body Q e =
    let r : Result = record { step = le 4 body 0; name = drop 4 body } in
    let t1 = right_then _ _ _ e in
    let t2 = right_then _ _ _ t1.1 in
    let t3 = right_then _ _ _ t2.1 in
    let new = named_new (λ (z : Result). z.name) no_result P.results r t3.0 in
    let g : GoodResult P r = record { step = ltb-true _ _ t2.0; name = new.0 } in
    subst (Taken P) (good_eq t3.1) (record { sorts = still; symbols = still; rules = still; nodes = still; steps = still; goals = still; results = more r (g, new.1); cuts = still; abstracts = still })

-- a cut that was taken
pub taken-cut : (P : Pack) (body : List ℕ) (Q : Pack) → take_cut P body ≡ good Q → Taken P Q
unfolding take_cut
taken-cut P body Q e =
    let predicate = le 4 body 0 in
    let symbol = symbol_of P predicate in
    let outputs = words ((length body - 4) / 4) (drop 4 body) in
    let c : Cut = record { predicate = predicate; outputs = outputs } in
    let t1 = right_then _ _ _ e in
    let t2 = right_then _ _ _ t1.1 in
    let t3 = right_then _ _ _ t2.1 in
    let t4 = right_then _ _ _ t3.1 in
    let t5 = right_then _ _ _ t4.1 in
    let given = and_parts (is_symbol P predicate) (eqb symbol.output prop) t2.0 in
    let g : GoodCut P c = record {
      given = ltb-true _ _ given.0;
      predicate = eqb-true _ _ given.1;
      outputs = all-below (length symbol.inputs) outputs t4.0;
    } in
    let new = none-fresh (λ (z : Cut). eqb z.predicate predicate) (λ (z : Cut). z.predicate) no_cut P.cuts c (λ y q. eq-eqb _ _ q) t5.0 in
    subst (Taken P) (good_eq t5.1) (record { sorts = still; symbols = still; rules = still; nodes = still; steps = still; goals = still; results = still; cuts = more c (g, new); abstracts = still })

-- an abstract that was taken
pub taken-abstract : (P : Pack) (body : List ℕ) (Q : Pack) → take_abstract P body ≡ good Q → Taken P Q
unfolding take_abstract
taken-abstract P body Q e =
    let constructor = le 4 body 0 in
    let symbol = symbol_of P constructor in
    let a : Abstract = record { constructor = constructor; position = le 4 body 4 } in
    let t1 = right_then _ _ _ e in
    let t2 = right_then _ _ _ t1.1 in
    let t3 = right_then _ _ _ t2.1 in
    let first = and_parts (eqb (length P.abstracts) 0) (eqb (length body) 8) t1.0 in
    let given = and_parts (is_symbol P constructor) (not (eqb symbol.output prop)) t2.0 in
    let g : GoodAbstract P a = record {
      given = ltb-true _ _ given.0;
      constructor = eqb-false _ _ (not-true _ given.1);
      position = ltb-true _ _ t3.0;
    } in
    let few : length P.abstracts ≡ 0 = eqb-true _ _ first.0 in
    subst (Taken P) (good_eq t3.1) (record { sorts = still; symbols = still; rules = still; nodes = still; steps = still; goals = still; results = still; cuts = still; abstracts = more a (g, omega arith) })
