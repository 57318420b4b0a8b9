-- One record more: what must hold of the new thing, and that a good pack that takes it up is good again.
use Rattle.std.specs.Prelude.{◌≡◌, true, ℕ, ◌≤◌, ◌<◌, length}
use Rattle.std.proofs.Math.Path.{ap}
use Rattle.std.proofs.Common.{◌∙◌, arith}
use mathlib.Core.List.{List, [], ◌∷◌}
use Rattle.definition.specs.Pack.{prop, Symbol, Term, Terms, var, app, nil, cons, Rule, Node, Step, Goal, Result, Cut, Abstract, Pack, no_such_symbol, no_rule, no_node, no_step, symbol_of, rule_of, node_of, step_of, sort_of}
use Rattle.definition.specs.Theory.{is_name}
use Rattle.definition.specs.Verdict.{no_goal, no_result}
use Rattle.definition.specs.Good.{no_cut, no_abstract, Sorted, SortedAll, Judgments, Arguments, GoodSymbol, GoodRule, GoodNode, GoodJudgment, GoodStep, GoodGoal, GoodResult, GoodCut, GoodAbstract, Good, Once, Few}
use Rattle.definition.proofs.Laws.Grow.{below_more, Fresh, Grown, Begins, grown_begins, each_grown, distinct_grown, few_grown}

-- what a record makes of a pack: lists that are as they were, or one thing more that is good, new and not too many
pub record Taken (P Q : Pack) : Type 0 where
  pub sorts : Grown (λ n. (is_name n ≡ true) × Fresh (λ (m : List ℕ). m) [] P.sorts n × (length P.sorts < 256)) P.sorts Q.sorts
  pub symbols : Grown (λ y. GoodSymbol P y × Fresh (λ (z : Symbol). z.name) no_such_symbol P.symbols y × (length P.symbols < 4096)) P.symbols Q.symbols
  pub rules : Grown (λ r. GoodRule P r × Fresh (λ (z : Rule). z.name) no_rule P.rules r × (length P.rules < 4096)) P.rules Q.rules
  pub nodes : Grown (λ n. GoodNode P (length P.nodes) n × Fresh (λ (z : Node). z) no_node P.nodes n) P.nodes Q.nodes
  pub steps : Grown (λ s. GoodStep P (length P.steps) s) P.steps Q.steps
  pub goals : Grown (λ (g : Goal). GoodGoal P g × Fresh (λ (z : Goal). z.name) no_goal P.goals g) P.goals Q.goals
  pub results : Grown (λ (r : Result). GoodResult P r × Fresh (λ (z : Result). z.name) no_result P.results r) P.results Q.results
  pub cuts : Grown (λ c. GoodCut P c × Fresh (λ (z : Cut). z.predicate) no_cut P.cuts c) P.cuts Q.cuts
  pub abstracts : Grown (λ a. GoodAbstract P a × (length P.abstracts < 1)) P.abstracts Q.abstracts

module _ (P Q : Pack) (T : Taken P Q) (G : Good P) where
  -- earlier sorts, symbols, rules, nodes and steps stand
  sorts : Begins P.sorts Q.sorts
  sorts = grown_begins _ _ _ T.sorts

  symbols : Begins P.symbols Q.symbols
  symbols = grown_begins _ _ _ T.symbols

  rules : Begins P.rules Q.rules
  rules = grown_begins _ _ _ T.rules

  nodes : Begins P.nodes Q.nodes
  nodes = grown_begins _ _ _ T.nodes

  steps : Begins P.steps Q.steps
  steps = grown_begins _ _ _ T.steps

  -- an earlier symbol is what it was
  symbol-kept : (h : ℕ) → h < length P.symbols → symbol_of Q h ≡ symbol_of P h
  unfolding symbol_of
  symbol-kept h l = symbols.kept h no_such_symbol l

  -- so is an earlier rule
  rule-kept : (r : ℕ) → r < length P.rules → rule_of Q r ≡ rule_of P r
  unfolding rule_of
  rule-kept r l = rules.kept r no_rule l

  -- so is an earlier node
  node_kept : (n : ℕ) → n < length P.nodes → node_of Q n ≡ node_of P n
  unfolding node_of
  node_kept n l = nodes.kept n no_node l

  -- so is an earlier node's sort, its head being given
  sort-kept : (n : ℕ) → n < length P.nodes → sort_of Q n ≡ sort_of P n
  unfolding sort_of
  sort-kept n l =
      let e = symbol-kept (node_of P n).head (G.nodes n l).head in
      ap (λ (m : Node). (symbol_of Q m.head).output) (node_kept n l) ∙ ap (λ (y : Symbol). y.output) e

  -- a term keeps its sort, terms keep theirs
  mutual
    sorted_kept : (vars : List ℕ) (t : Term) (s : ℕ) → Sorted P vars t s → Sorted Q vars t s
    sorted_kept vars (var k) s h = h
    sorted_kept vars (app f ts) s h =
        let e = symbol-kept f h.0 in
        (omega (arith, h.0, symbols.longer), rw e h.1, rw e (sorted_all-kept vars ts (symbol_of P f).inputs h.2))

    sorted_all-kept : (vars : List ℕ) (ts : Terms) (ss : List ℕ) → SortedAll P vars ts ss → SortedAll Q vars ts ss
    sorted_all-kept vars nil [] h = tt
    sorted_all-kept vars nil (s ∷ ss) h = h
    sorted_all-kept vars (cons t ts) [] h = h
    sorted_all-kept vars (cons t ts) (s ∷ ss) h = (sorted_kept vars t s h.0, sorted_all-kept vars ts ss h.1)

  -- a rule's judgments are judgments still
  judgments-kept : (vars : List ℕ) (ts : Terms) → Judgments P vars ts → Judgments Q vars ts
  judgments-kept vars nil h = tt
  judgments-kept vars (cons t ts) h = (sorted_kept vars t prop h.0, judgments-kept vars ts h.1)

  -- arguments are earlier nodes of these sorts still
  arguments_kept : (i : ℕ) → i ≤ length P.nodes → (ss args : List ℕ) → Arguments P i ss args → Arguments Q i ss args
  arguments_kept i l [] [] h = tt
  arguments_kept i l [] (a ∷ args) h = h
  arguments_kept i l (s ∷ ss) [] h = h
  arguments_kept i l (s ∷ ss) (a ∷ args) h =
      (h.0, sort-kept a (omega (arith, h.0)) ∙ h.1, arguments_kept i l ss args h.2)

  -- a good symbol stays good
  symbol_good : (y : Symbol) → GoodSymbol P y → GoodSymbol Q y
  symbol_good y g = record {
    output = λ h. omega (arith, g.output h, sorts.longer);
    inputs = below_more _ _ y.inputs sorts.longer g.inputs;
    arity = g.arity;
    name = g.name;
  }

  -- a good rule stays good
  rule_good : (r : Rule) → GoodRule P r → GoodRule Q r
  rule_good r g = record {
    vars = below_more _ _ r.vars sorts.longer g.vars;
    variables = g.variables;
    premises = judgments-kept r.vars r.premises g.premises;
    arity = g.arity;
    conclusion = sorted_kept r.vars r.conclusion prop g.conclusion;
    words = g.words;
    name = g.name;
  }

  -- a good node, up to the next one, stays good
  node_good : (i : ℕ) (n : Node) → i ≤ length P.nodes → GoodNode P i n → GoodNode Q i n
  node_good i n l g =
      let kept = arguments_kept i l (symbol_of P n.head).inputs n.args g.args in
      record { head = omega (arith, g.head, symbols.longer); args = rw (symbol-kept n.head g.head) kept }

  -- a good judgment stays good
  judgment_good : (n : ℕ) → GoodJudgment P n → GoodJudgment Q n
  judgment_good n g = record { given = omega (arith, g.given, nodes.longer); predicate = sort-kept n g.given ∙ g.predicate }

  -- a good step stays good
  step_good : (i : ℕ) (s : Step) → GoodStep P i s → GoodStep Q i s
  step_good i s g = record {
    rule = omega (arith, g.rule, rules.longer);
    judgment = judgment_good s.judgment g.judgment;
    refs = rw (rule-kept s.rule g.rule) g.refs;
    earlier = g.earlier;
  }

  -- a good goal stays good
  goal_good : (g : Goal) → GoodGoal P g → GoodGoal Q g
  goal_good g h = record { judgment = judgment_good g.judgment h.judgment; name = h.name }

  -- a good result stays good
  result_good : (r : Result) → GoodResult P r → GoodResult Q r
  result_good r h = record { step = omega (arith, h.step, steps.longer); name = h.name }

  -- a good cut stays good
  cut_good : (c : Cut) → GoodCut P c → GoodCut Q c
  cut_good c g =
      let e = symbol-kept c.predicate g.given in
      record { given = omega (arith, g.given, symbols.longer); predicate = rw e g.predicate; outputs = rw e g.outputs }

  -- a good abstract stays good
  abstract_good : (a : Abstract) → GoodAbstract P a → GoodAbstract Q a
  abstract_good a g =
      let e = symbol-kept a.constructor g.given in
      record { given = omega (arith, g.given, symbols.longer); constructor = rw e g.constructor; position = rw e g.position }

  -- a good pack that takes up a good record is good
  pub taken_good : Good Q
  unfolding symbol_of rule_of node_of step_of
  taken_good = record {
    sorts = each_grown (λ i n. is_name n ≡ true) (λ i n. is_name n ≡ true) _ [] _ _ (λ i n l h. h) (λ x n. n.0) T.sorts G.sorts;
    symbols = each_grown (λ i y. GoodSymbol P y) (λ i y. GoodSymbol Q y) _ no_such_symbol _ _ (λ i y l. symbol_good y) (λ y n. n.0) T.symbols G.symbols;
    rules = each_grown (λ i r. GoodRule P r) (λ i r. GoodRule Q r) _ no_rule _ _ (λ i r l. rule_good r) (λ r n. n.0) T.rules G.rules;
    nodes = each_grown (GoodNode P) (GoodNode Q) _ no_node _ _ node_good (λ n m. m.0) T.nodes G.nodes;
    steps = each_grown (GoodStep P) (GoodStep Q) _ no_step _ _ (λ i s l. step_good i s) (λ s n. n) T.steps G.steps;
    goals = each_grown (λ i g. GoodGoal P g) (λ i g. GoodGoal Q g) _ no_goal _ _ (λ i g l. goal_good g) (λ g n. n.0) T.goals G.goals;
    results = each_grown (λ i r. GoodResult P r) (λ i r. GoodResult Q r) _ no_result _ _ (λ i r l. result_good r) (λ r n. n.0) T.results G.results;
    cuts = each_grown (λ i c. GoodCut P c) (λ i c. GoodCut Q c) _ no_cut _ _ (λ i c l. cut_good c) (λ c n. n.0) T.cuts G.cuts;
    abstracts = each_grown (λ i a. GoodAbstract P a) (λ i a. GoodAbstract Q a) _ no_abstract _ _ (λ i a l. abstract_good a) (λ a n. n.0) T.abstracts G.abstracts;
  }

-- what was given once is given once
pub taken_once : (P Q : Pack) → Taken P Q → Once P → Once Q
unfolding node_of
taken_once P Q T o = record {
  sorts = distinct_grown _ _ _ _ _ (λ x n. n.1) T.sorts o.sorts;
  symbols = distinct_grown _ _ _ _ _ (λ x n. n.1) T.symbols o.symbols;
  rules = distinct_grown _ _ _ _ _ (λ x n. n.1) T.rules o.rules;
  nodes = distinct_grown (λ (z : Node). z) _ no_node _ _ (λ x n. n.1) T.nodes o.nodes;
  goals = distinct_grown _ _ _ _ _ (λ x n. n.1) T.goals o.goals;
  results = distinct_grown _ _ _ _ _ (λ x n. n.1) T.results o.results;
  cuts = distinct_grown _ _ _ _ _ (λ x n. n.1) T.cuts o.cuts;
}

-- there are no more than may be
pub taken_few : (P Q : Pack) → Taken P Q → Few P → Few Q
taken_few P Q T f = record {
  sorts = few_grown _ _ _ _ (λ x n. n.2) T.sorts f.sorts;
  symbols = few_grown _ _ _ _ (λ x n. n.2) T.symbols f.symbols;
  rules = few_grown _ _ _ _ (λ x n. n.2) T.rules f.rules;
  abstracts = few_grown _ _ _ _ (λ x n. n.1) T.abstracts f.abstracts;
}
