-- The pack that the records at some places are.
use Rattle.std.specs.Prelude.{◌≡◌, refl, List, [], ◌∷◌, ◌++◌, map, ℕ, zero, suc, ◌+◌, ◌*◌, ◌-◌, ◌/◌, ◌≤◌, ◌<◌, length, get_or, drop}
use Rattle.std.proofs.Common.{sym, ap, ◌∙◌, subst, arith, length-append}
use Rattle.std.proofs.Math.Decide.{ℕ_discrete}
use Rattle.std.proofs.lemmas.List.{length-map, get_or_at}
use Rattle.std.proofs.Math.ListN.{get_or-append}
use Rattle.definition.specs.Little.{le}
use Rattle.definition.specs.Pack.{Rule, Pack, empty, no_such_symbol, no_rule, no_node, no_step, symbol_of, rule_of, node_of, step_of, with_sort, with_symbol, with_rule, with_node, with_step, with_goal, with_result, with_cut, with_abstract}
use Rattle.definition.specs.Certificate.{count}
use Rattle.definition.specs.Theory.{words}
use Rattle.definition.proofs.Laws.Prefix.{term_words, terms_words}
use Rattle.definition.specs.Verdict.{no_goal, no_result}
use Rattle.definition.specs.Good.{no_cut, no_abstract}
use Rattle.pack_tables.specs.Place.{Place, no_place, key_at, body_at}
use Rattle.pack_read.specs.Body.{body_of, symbol_in, node_in, step_in, goal_in, result_in, cut_in, abstract_in}

-- ---- things read from places, one by one
pub record Listed {A : Type 0} (f : Place → A) (Form : Place → Type 0) (xs : List A) (ps : List Place) : Type 0 where
  pub are : xs ≡ map f ps
  pub form : (i : ℕ) → i < length ps → Form (get_or ps i no_place)

map_at : {A : Type 0} (f : Place → A) (ps : List Place) (i : ℕ) (d : A) → i < length ps → get_or (map f ps) i d ≡ f (get_or ps i no_place)
map_at f [] i d h = absurd (omega arith)
map_at f (p ∷ ps) zero d h = refl
map_at f (p ∷ ps) (suc i) d h = map_at f ps i d (omega arith)

map_more : {A : Type 0} (f : Place → A) (ps : List Place) (p : Place) → map f (ps ++ (p ∷ [])) ≡ map f ps ++ (f p ∷ [])
map_more f [] p = refl
map_more f (q ∷ ps) p = ap (λ (l : List _). f q ∷ l) (map_more f ps p)

-- what holds of each of these places and of one more
each_more : (Q : Place → Type 0) (ps : List Place) (p : Place) → ((i : ℕ) → i < length ps → Q (get_or ps i no_place)) → Q p → (i : ℕ) → i < length (ps ++ (p ∷ [])) → Q (get_or (ps ++ (p ∷ [])) i no_place)
each_more Q ps p all one i h = elim (ℕ_discrete i (length ps)) [
  | yes e ↦ subst Q (sym (ap (λ (k : ℕ). get_or (ps ++ (p ∷ [])) k no_place) e ∙ get_or_at ps p [] no_place (length ps) refl)) one
  | no d ↦
      let l : i < length ps = omega (arith, length-append ps (p ∷ [])) in
      subst Q (sym (get_or-append ps (p ∷ []) no_place i l)) (all i l)
]

pub listed_at : {A : Type 0} (f : Place → A) (Form : Place → Type 0) (xs : List A) (ps : List Place) (d : A) (i : ℕ) → Listed f Form xs ps → i < length ps → get_or xs i d ≡ f (get_or ps i no_place)
listed_at f Form xs ps d i L h = ap (λ (ys : List _). get_or ys i d) L.are ∙ map_at f ps i d h

pub listed-length : {A : Type 0} (f : Place → A) (Form : Place → Type 0) (xs : List A) (ps : List Place) → Listed f Form xs ps → length xs ≡ length ps
listed-length f Form xs ps L = ap length L.are ∙ length-map ps f

-- one thing more, at one place more
pub listed_more : {A : Type 0} (f : Place → A) (Form : Place → Type 0) (xs : List A) (ps qs : List Place) (p : Place) → Listed f Form xs ps → qs ≡ ps ++ (p ∷ []) → Form p → Listed f Form (xs ++ (f p ∷ [])) qs
listed_more f Form xs ps qs p L e F =
    subst (Listed f Form (xs ++ (f p ∷ []))) (sym e)
    (record { are = ap (λ (ys : List _). ys ++ (f p ∷ [])) L.are ∙ sym (map_more f ps p); form = each_more Form ps p L.form F })

-- nothing, at no place
listed-none : {A : Type 0} (f : Place → A) (Form : Place → Type 0) (ps : List Place) → ps ≡ [] → Listed f Form [] ps
listed-none f Form ps e = subst (Listed f Form []) (sym e) (record { are = refl; form = λ i h. absurd (omega arith) })

-- ---- each kind's form: its fields fit its body, and its key is what must be given once
abbrev pub SymbolForm : List ℕ → Place → Type 0
SymbolForm bytes p = (6 + 4 * le 2 (body_at bytes p) 4 ≤ length (body_at bytes p)) × (key_at bytes p ≡ (symbol_in (body_at bytes p)).name) × (le 2 (body_at bytes p) 4 ≤ 16)

abbrev pub NodeForm : List ℕ → Place → Type 0
NodeForm bytes p = (4 ≤ length (body_at bytes p)) × (key_at bytes p ≡ body_at bytes p) × (length (body_at bytes p) ≡ 4 + 4 * ((length (body_at bytes p) - 4) / 4))

abbrev pub StepForm : List ℕ → Place → Type 0
StepForm bytes p = 8 ≤ length (body_at bytes p)

abbrev pub GoalForm : List ℕ → Place → Type 0
GoalForm bytes p = (4 ≤ length (body_at bytes p)) × (key_at bytes p ≡ drop 4 (body_at bytes p))

abbrev pub CutForm : List ℕ → Place → Type 0
CutForm bytes p = 4 ≤ length (body_at bytes p)

abbrev pub AbstractForm : List ℕ → Place → Type 0
AbstractForm bytes p = 8 ≤ length (body_at bytes p)

-- a rule's prefix words: those of its premises, and of its conclusion
abbrev pub rule_words : Rule → List ℕ
rule_words r = terms_words r.premises ++ term_words r.conclusion

-- a rule's body: its counts, the variables' sorts, its terms' words, its name
pub record RuleIn (bytes : List ℕ) (p : Place) (r : Rule) : Type 0 where
  pub vars : r.vars ≡ words (le 2 (body_at bytes p) 0) (drop 4 (body_at bytes p))
  pub premises : count r.premises ≡ le 2 (body_at bytes p) 2
  pub terms : words (length (rule_words r)) (drop (4 + 4 * le 2 (body_at bytes p) 0) (body_at bytes p)) ≡ rule_words r
  pub room : 4 + 4 * le 2 (body_at bytes p) 0 + 4 * length (rule_words r) ≤ length (body_at bytes p)
  pub key : key_at bytes p ≡ r.name

pub record RulesIn (bytes : List ℕ) (rules : List Rule) (ps : List Place) : Type 0 where
  pub many : length rules ≡ length ps
  pub each : (i : ℕ) → i < length ps → RuleIn bytes (get_or ps i no_place) (get_or rules i no_rule)

pub rules-more : (bytes : List ℕ) (rules : List Rule) (ps qs : List Place) (r : Rule) (p : Place) → RulesIn bytes rules ps → qs ≡ ps ++ (p ∷ []) → RuleIn bytes p r → RulesIn bytes (rules ++ (r ∷ [])) qs
rules-more bytes rules ps qs r p R e I =
    subst (RulesIn bytes (rules ++ (r ∷ []))) (sym e)
    (record { many = omega (arith, length-append rules (r ∷ []), length-append ps (p ∷ []), R.many); each = λ i h. each_at i h (ℕ_discrete i (length ps)) })
  where
    each_at : (i : ℕ) → i < length (ps ++ (p ∷ [])) → Dec (i ≡ length ps) → RuleIn bytes (get_or (ps ++ (p ∷ [])) i no_place) (get_or (rules ++ (r ∷ [])) i no_rule)
    each_at i h (yes q) =
        let a : get_or (ps ++ (p ∷ [])) i no_place ≡ p = ap (λ (k : ℕ). get_or (ps ++ (p ∷ [])) k no_place) q ∙ get_or_at ps p [] no_place (length ps) refl in
        let b : get_or (rules ++ (r ∷ [])) i no_rule ≡ r = get_or_at rules r [] no_rule i (R.many ∙ sym q) in
        rw (a, b) I
    each_at i h (no d) =
        let l : i < length ps = omega (arith, length-append ps (p ∷ [])) in
        let a = get_or-append ps (p ∷ []) no_place i l in
        let b = get_or-append rules (r ∷ []) no_rule i (omega (arith, R.many)) in
        rw (a, b) (R.each i l)

-- ---- the pack's lists are what the records at these places say, kind by kind
pub record Reads (bytes : List ℕ) (rs : ℕ → List Place) (P : Pack) : Type 0 where
  pub sorts : Listed (key_at bytes) (λ p. Unit {0}) P.sorts (rs 0)
  pub symbols : Listed (λ p. symbol_in (body_at bytes p)) (SymbolForm bytes) P.symbols (rs 1)
  pub rules : RulesIn bytes P.rules (rs 2)
  pub nodes : Listed (λ p. node_in (body_at bytes p)) (NodeForm bytes) P.nodes (rs 3)
  pub steps : Listed (λ p. step_in (body_at bytes p)) (StepForm bytes) P.steps (rs 4)
  pub goals : Listed (λ p. goal_in (body_at bytes p)) (GoalForm bytes) P.goals (rs 5)
  pub results : Listed (λ p. result_in (body_at bytes p)) (GoalForm bytes) P.results (rs 6)
  pub cuts : Listed (λ p. cut_in (body_at bytes p)) (CutForm bytes) P.cuts (rs 7)
  pub abstracts : Listed (λ p. abstract_in (body_at bytes p)) (AbstractForm bytes) P.abstracts (rs 8)

module _ (bytes : List ℕ) (rs : ℕ → List Place) (P : Pack) (R : Reads bytes rs P) where
  -- ---- as many of each kind as there are places
  pub length-sorts : length P.sorts ≡ length (rs 0)
  length-sorts = listed-length _ _ P.sorts (rs 0) R.sorts

  pub length_symbols : length P.symbols ≡ length (rs 1)
  length_symbols = listed-length _ _ P.symbols (rs 1) R.symbols

  pub length-rules : length P.rules ≡ length (rs 2)
  length-rules = R.rules.many

  pub length-nodes : length P.nodes ≡ length (rs 3)
  length-nodes = listed-length _ _ P.nodes (rs 3) R.nodes

  pub length_steps : length P.steps ≡ length (rs 4)
  length_steps = listed-length _ _ P.steps (rs 4) R.steps

  pub length_goals : length P.goals ≡ length (rs 5)
  length_goals = listed-length _ _ P.goals (rs 5) R.goals

  pub length_results : length P.results ≡ length (rs 6)
  length_results = listed-length _ _ P.results (rs 6) R.results

  pub length_cuts : length P.cuts ≡ length (rs 7)
  length_cuts = listed-length _ _ P.cuts (rs 7) R.cuts

  pub length_abstracts : length P.abstracts ≡ length (rs 8)
  length_abstracts = listed-length _ _ P.abstracts (rs 8) R.abstracts

  -- ---- each is what its record says
  pub sort_of : (i : ℕ) → i < length (rs 0) → get_or P.sorts i [] ≡ key_at bytes (get_or (rs 0) i no_place)
  sort_of i h = listed_at _ _ P.sorts (rs 0) [] i R.sorts h

  pub symbol_of_law : (i : ℕ) → i < length (rs 1) → symbol_of P i ≡ symbol_in (body_of bytes (rs 1) i)
  unfolding symbol_of
  symbol_of_law i h = listed_at _ _ P.symbols (rs 1) no_such_symbol i R.symbols h

  pub rule_of_law : (i : ℕ) → i < length (rs 2) → RuleIn bytes (get_or (rs 2) i no_place) (rule_of P i)
  unfolding rule_of
  rule_of_law i h = R.rules.each i h

  pub node_of_law : (i : ℕ) → i < length (rs 3) → node_of P i ≡ node_in (body_of bytes (rs 3) i)
  unfolding node_of
  node_of_law i h = listed_at _ _ P.nodes (rs 3) no_node i R.nodes h

  pub step_of_law : (i : ℕ) → i < length (rs 4) → step_of P i ≡ step_in (body_of bytes (rs 4) i)
  unfolding step_of
  step_of_law i h = listed_at _ _ P.steps (rs 4) no_step i R.steps h

  pub goal_of : (i : ℕ) → i < length (rs 5) → get_or P.goals i no_goal ≡ goal_in (body_of bytes (rs 5) i)
  goal_of i h = listed_at _ _ P.goals (rs 5) no_goal i R.goals h

  pub result_of : (i : ℕ) → i < length (rs 6) → get_or P.results i no_result ≡ result_in (body_of bytes (rs 6) i)
  result_of i h = listed_at _ _ P.results (rs 6) no_result i R.results h

  pub cut_of : (i : ℕ) → i < length (rs 7) → get_or P.cuts i no_cut ≡ cut_in (body_of bytes (rs 7) i)
  cut_of i h = listed_at _ _ P.cuts (rs 7) no_cut i R.cuts h

  pub abstract_of : (i : ℕ) → i < length (rs 8) → get_or P.abstracts i no_abstract ≡ abstract_in (body_of bytes (rs 8) i)
  abstract_of i h = listed_at _ _ P.abstracts (rs 8) no_abstract i R.abstracts h

-- no record makes the empty pack
pub read_none : (bytes : List ℕ) (rs : ℕ → List Place) → ((k : ℕ) → k < 9 → rs k ≡ []) → Reads bytes rs empty
read_none bytes rs none = record {
  sorts = listed-none _ _ (rs 0) (none 0 (omega arith));
  symbols = listed-none _ _ (rs 1) (none 1 (omega arith));
  rules = record { many = sym (ap length (none 2 (omega arith))); each = λ i h. absurd (omega (arith, ap length (none 2 (omega arith)))) };
  nodes = listed-none _ _ (rs 3) (none 3 (omega arith));
  steps = listed-none _ _ (rs 4) (none 4 (omega arith));
  goals = listed-none _ _ (rs 5) (none 5 (omega arith));
  results = listed-none _ _ (rs 6) (none 6 (omega arith));
  cuts = listed-none _ _ (rs 7) (none 7 (omega arith));
  abstracts = listed-none _ _ (rs 8) (none 8 (omega arith));
}

-- ---- one record more
-- the places of kind k have p behind them, the others are as they were
pub record OneMore (rs rs' : ℕ → List Place) (k : ℕ) (p : Place) : Type 0 where
  pub more : rs' k ≡ rs k ++ (p ∷ [])
  pub same : (j : ℕ) → j < 9 → (j ≡ k → ⊥) → rs' j ≡ rs j

module _ (bytes : List ℕ) (rs rs' : ℕ → List Place) (P : Pack) (R : Reads bytes rs P) (p : Place) where
  -- a kind whose places are as they were
  kept : {A : Type 0} (f : Place → A) (Form : Place → Type 0) (xs : List A) (j : ℕ) → rs' j ≡ rs j → Listed f Form xs (rs j) → Listed f Form xs (rs' j)
  kept f Form xs j e L = subst (Listed f Form xs) (sym e) L

  kept-rules : (rules : List Rule) → rs' 2 ≡ rs 2 → RulesIn bytes rules (rs 2) → RulesIn bytes rules (rs' 2)
  kept-rules rules e L = subst (RulesIn bytes rules) (sym e) L

  pub read_sort : OneMore rs rs' 0 p → Reads bytes rs' (with_sort P (key_at bytes p))
  unfolding with_sort
  read_sort M = record {
    sorts = listed_more _ _ _ _ _ p R.sorts M.more tt;
    symbols = kept _ _ _ 1 (M.same 1 (omega arith) (omega arith)) R.symbols;
    rules = kept-rules _ (M.same 2 (omega arith) (omega arith)) R.rules;
    nodes = kept _ _ _ 3 (M.same 3 (omega arith) (omega arith)) R.nodes;
    steps = kept _ _ _ 4 (M.same 4 (omega arith) (omega arith)) R.steps;
    goals = kept _ _ _ 5 (M.same 5 (omega arith) (omega arith)) R.goals;
    results = kept _ _ _ 6 (M.same 6 (omega arith) (omega arith)) R.results;
    cuts = kept _ _ _ 7 (M.same 7 (omega arith) (omega arith)) R.cuts;
    abstracts = kept _ _ _ 8 (M.same 8 (omega arith) (omega arith)) R.abstracts;
  }

  pub read_symbol : OneMore rs rs' 1 p → SymbolForm bytes p → Reads bytes rs' (with_symbol P (symbol_in (body_at bytes p)))
  unfolding with_symbol
  read_symbol M F = record {
    sorts = kept _ _ _ 0 (M.same 0 (omega arith) (omega arith)) R.sorts;
    symbols = listed_more _ _ _ _ _ p R.symbols M.more F;
    rules = kept-rules _ (M.same 2 (omega arith) (omega arith)) R.rules;
    nodes = kept _ _ _ 3 (M.same 3 (omega arith) (omega arith)) R.nodes;
    steps = kept _ _ _ 4 (M.same 4 (omega arith) (omega arith)) R.steps;
    goals = kept _ _ _ 5 (M.same 5 (omega arith) (omega arith)) R.goals;
    results = kept _ _ _ 6 (M.same 6 (omega arith) (omega arith)) R.results;
    cuts = kept _ _ _ 7 (M.same 7 (omega arith) (omega arith)) R.cuts;
    abstracts = kept _ _ _ 8 (M.same 8 (omega arith) (omega arith)) R.abstracts;
  }

  pub read_node : OneMore rs rs' 3 p → NodeForm bytes p → Reads bytes rs' (with_node P (node_in (body_at bytes p)))
  unfolding with_node
  read_node M F = record {
    sorts = kept _ _ _ 0 (M.same 0 (omega arith) (omega arith)) R.sorts;
    symbols = kept _ _ _ 1 (M.same 1 (omega arith) (omega arith)) R.symbols;
    rules = kept-rules _ (M.same 2 (omega arith) (omega arith)) R.rules;
    nodes = listed_more _ _ _ _ _ p R.nodes M.more F;
    steps = kept _ _ _ 4 (M.same 4 (omega arith) (omega arith)) R.steps;
    goals = kept _ _ _ 5 (M.same 5 (omega arith) (omega arith)) R.goals;
    results = kept _ _ _ 6 (M.same 6 (omega arith) (omega arith)) R.results;
    cuts = kept _ _ _ 7 (M.same 7 (omega arith) (omega arith)) R.cuts;
    abstracts = kept _ _ _ 8 (M.same 8 (omega arith) (omega arith)) R.abstracts;
  }

  pub read_step : OneMore rs rs' 4 p → StepForm bytes p → Reads bytes rs' (with_step P (step_in (body_at bytes p)))
  unfolding with_step
  read_step M F = record {
    sorts = kept _ _ _ 0 (M.same 0 (omega arith) (omega arith)) R.sorts;
    symbols = kept _ _ _ 1 (M.same 1 (omega arith) (omega arith)) R.symbols;
    rules = kept-rules _ (M.same 2 (omega arith) (omega arith)) R.rules;
    nodes = kept _ _ _ 3 (M.same 3 (omega arith) (omega arith)) R.nodes;
    steps = listed_more _ _ _ _ _ p R.steps M.more F;
    goals = kept _ _ _ 5 (M.same 5 (omega arith) (omega arith)) R.goals;
    results = kept _ _ _ 6 (M.same 6 (omega arith) (omega arith)) R.results;
    cuts = kept _ _ _ 7 (M.same 7 (omega arith) (omega arith)) R.cuts;
    abstracts = kept _ _ _ 8 (M.same 8 (omega arith) (omega arith)) R.abstracts;
  }

  pub read_goal : OneMore rs rs' 5 p → GoalForm bytes p → Reads bytes rs' (with_goal P (goal_in (body_at bytes p)))
  unfolding with_goal
  read_goal M F = record {
    sorts = kept _ _ _ 0 (M.same 0 (omega arith) (omega arith)) R.sorts;
    symbols = kept _ _ _ 1 (M.same 1 (omega arith) (omega arith)) R.symbols;
    rules = kept-rules _ (M.same 2 (omega arith) (omega arith)) R.rules;
    nodes = kept _ _ _ 3 (M.same 3 (omega arith) (omega arith)) R.nodes;
    steps = kept _ _ _ 4 (M.same 4 (omega arith) (omega arith)) R.steps;
    goals = listed_more _ _ _ _ _ p R.goals M.more F;
    results = kept _ _ _ 6 (M.same 6 (omega arith) (omega arith)) R.results;
    cuts = kept _ _ _ 7 (M.same 7 (omega arith) (omega arith)) R.cuts;
    abstracts = kept _ _ _ 8 (M.same 8 (omega arith) (omega arith)) R.abstracts;
  }

  pub read_result : OneMore rs rs' 6 p → GoalForm bytes p → Reads bytes rs' (with_result P (result_in (body_at bytes p)))
  unfolding with_result
  read_result M F = record {
    sorts = kept _ _ _ 0 (M.same 0 (omega arith) (omega arith)) R.sorts;
    symbols = kept _ _ _ 1 (M.same 1 (omega arith) (omega arith)) R.symbols;
    rules = kept-rules _ (M.same 2 (omega arith) (omega arith)) R.rules;
    nodes = kept _ _ _ 3 (M.same 3 (omega arith) (omega arith)) R.nodes;
    steps = kept _ _ _ 4 (M.same 4 (omega arith) (omega arith)) R.steps;
    goals = kept _ _ _ 5 (M.same 5 (omega arith) (omega arith)) R.goals;
    results = listed_more _ _ _ _ _ p R.results M.more F;
    cuts = kept _ _ _ 7 (M.same 7 (omega arith) (omega arith)) R.cuts;
    abstracts = kept _ _ _ 8 (M.same 8 (omega arith) (omega arith)) R.abstracts;
  }

  pub read_cut : OneMore rs rs' 7 p → CutForm bytes p → Reads bytes rs' (with_cut P (cut_in (body_at bytes p)))
  unfolding with_cut
  read_cut M F = record {
    sorts = kept _ _ _ 0 (M.same 0 (omega arith) (omega arith)) R.sorts;
    symbols = kept _ _ _ 1 (M.same 1 (omega arith) (omega arith)) R.symbols;
    rules = kept-rules _ (M.same 2 (omega arith) (omega arith)) R.rules;
    nodes = kept _ _ _ 3 (M.same 3 (omega arith) (omega arith)) R.nodes;
    steps = kept _ _ _ 4 (M.same 4 (omega arith) (omega arith)) R.steps;
    goals = kept _ _ _ 5 (M.same 5 (omega arith) (omega arith)) R.goals;
    results = kept _ _ _ 6 (M.same 6 (omega arith) (omega arith)) R.results;
    cuts = listed_more _ _ _ _ _ p R.cuts M.more F;
    abstracts = kept _ _ _ 8 (M.same 8 (omega arith) (omega arith)) R.abstracts;
  }

  pub read_abstract : OneMore rs rs' 8 p → AbstractForm bytes p → Reads bytes rs' (with_abstract P (abstract_in (body_at bytes p)))
  unfolding with_abstract
  read_abstract M F = record {
    sorts = kept _ _ _ 0 (M.same 0 (omega arith) (omega arith)) R.sorts;
    symbols = kept _ _ _ 1 (M.same 1 (omega arith) (omega arith)) R.symbols;
    rules = kept-rules _ (M.same 2 (omega arith) (omega arith)) R.rules;
    nodes = kept _ _ _ 3 (M.same 3 (omega arith) (omega arith)) R.nodes;
    steps = kept _ _ _ 4 (M.same 4 (omega arith) (omega arith)) R.steps;
    goals = kept _ _ _ 5 (M.same 5 (omega arith) (omega arith)) R.goals;
    results = kept _ _ _ 6 (M.same 6 (omega arith) (omega arith)) R.results;
    cuts = kept _ _ _ 7 (M.same 7 (omega arith) (omega arith)) R.cuts;
    abstracts = listed_more _ _ _ _ _ p R.abstracts M.more F;
  }

  pub read_rule : (r : Rule) → OneMore rs rs' 2 p → RuleIn bytes p r → Reads bytes rs' (with_rule P r)
  unfolding with_rule
  read_rule r M F = record {
    sorts = kept _ _ _ 0 (M.same 0 (omega arith) (omega arith)) R.sorts;
    symbols = kept _ _ _ 1 (M.same 1 (omega arith) (omega arith)) R.symbols;
    rules = rules-more bytes _ _ _ r p R.rules M.more F;
    nodes = kept _ _ _ 3 (M.same 3 (omega arith) (omega arith)) R.nodes;
    steps = kept _ _ _ 4 (M.same 4 (omega arith) (omega arith)) R.steps;
    goals = kept _ _ _ 5 (M.same 5 (omega arith) (omega arith)) R.goals;
    results = kept _ _ _ 6 (M.same 6 (omega arith) (omega arith)) R.results;
    cuts = kept _ _ _ 7 (M.same 7 (omega arith) (omega arith)) R.cuts;
    abstracts = kept _ _ _ 8 (M.same 8 (omega arith) (omega arith)) R.abstracts;
  }
