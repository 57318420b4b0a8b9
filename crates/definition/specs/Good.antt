-- What a pack that parses is like: each sentence of "The pack" as a statement. Laws/Good has that every parsed pack is good.
use Rattle.std.specs.Prelude.{◌≡◌, true, List, [], ◌∷◌, ℕ, suc, ◌+◌, ◌<◌, ◌≤◌, length, get_or}
use Rattle.definition.specs.Pack.{prop, most_sorts, most_symbols, most_arity, most_rules, most_variables, most_premises, most_words, Symbol, Term, Terms, var, app, nil, cons, Rule, Node, Step, Goal, Result, Cut, Abstract, Pack, no_such_symbol, no_rule, symbol_of, rule_of, node_of, step_of, sort_of}
use Rattle.definition.specs.Theory.{is_name}
use Rattle.definition.specs.Certificate.{count}
use Rattle.definition.specs.Verdict.{no_goal, no_result}

abbrev pub no_cut : Cut
no_cut = record { predicate = 0; outputs = [] }

abbrev pub no_abstract : Abstract
no_abstract = record { constructor = 0; position = 0 }

-- each number is below n
abbrev pub Below : ℕ → List ℕ → Type 0
Below n [] = Unit {0}
Below n (x ∷ xs) = (x < n) × Below n xs

-- no two elements have the same key
abbrev pub Distinct : {A B : Type 0} → (A → B) → A → List A → Type 0
Distinct key d xs = (i j : ℕ) → i < length xs → j < length xs → key (get_or xs i d) ≡ key (get_or xs j d) → i ≡ j

-- "Terms are well sorted": a term of a sort, terms of these sorts
abbrev mutual
  pub Sorted : Pack → List ℕ → Term → ℕ → Type 0
  Sorted P vars (var k) s = (k < length vars) × (get_or vars k 0 ≡ s)
  Sorted P vars (app h ts) s = (h < length P.symbols) × ((symbol_of P h).output ≡ s) × SortedAll P vars ts (symbol_of P h).inputs

  pub SortedAll : Pack → List ℕ → Terms → List ℕ → Type 0
  SortedAll P vars nil [] = Unit {0}
  SortedAll P vars nil (s ∷ ss) = ⊥
  SortedAll P vars (cons t ts) [] = ⊥
  SortedAll P vars (cons t ts) (s ∷ ss) = Sorted P vars t s × SortedAll P vars ts ss

-- judgments: a predicate on top
abbrev pub Judgments : Pack → List ℕ → Terms → Type 0
Judgments P vars nil = Unit {0}
Judgments P vars (cons t ts) = Sorted P vars t prop × Judgments P vars ts

-- arguments: earlier nodes than i, of these sorts
abbrev pub Arguments : Pack → ℕ → List ℕ → List ℕ → Type 0
Arguments P i [] [] = Unit {0}
Arguments P i [] (a ∷ args) = ⊥
Arguments P i (s ∷ ss) [] = ⊥
Arguments P i (s ∷ ss) (a ∷ args) = (a < i) × (sort_of P a ≡ s) × Arguments P i ss args

-- how many prefix words a term has, and terms
unfoldable mutual
  pub words_of : Term → ℕ
  words_of (var k) = 1
  words_of (app h ts) = suc (words_of_all ts)

  pub words_of_all : Terms → ℕ
  words_of_all nil = 0
  words_of_all (cons t ts) = words_of t + words_of_all ts

pub record GoodSymbol (P : Pack) (y : Symbol) : Type 0 where
  pub output : (y.output ≡ prop → ⊥) → y.output < length P.sorts
  pub inputs : Below (length P.sorts) y.inputs
  pub arity : length y.inputs ≤ most_arity
  pub name : is_name y.name ≡ true

pub record GoodRule (P : Pack) (r : Rule) : Type 0 where
  pub vars : Below (length P.sorts) r.vars
  pub variables : length r.vars ≤ most_variables
  pub premises : Judgments P r.vars r.premises
  pub arity : count r.premises ≤ most_premises
  pub conclusion : Sorted P r.vars r.conclusion prop
  pub words : words_of_all r.premises + words_of r.conclusion ≤ most_words
  pub name : is_name r.name ≡ true

-- the i-th node
pub record GoodNode (P : Pack) (i : ℕ) (n : Node) : Type 0 where
  pub head : n.head < length P.symbols
  pub args : Arguments P i (symbol_of P n.head).inputs n.args

-- a node with a predicate on top
pub record GoodJudgment (P : Pack) (n : ℕ) : Type 0 where
  pub given : n < length P.nodes
  pub predicate : sort_of P n ≡ prop

-- the i-th step
pub record GoodStep (P : Pack) (i : ℕ) (s : Step) : Type 0 where
  pub rule : s.rule < length P.rules
  pub judgment : GoodJudgment P s.judgment
  pub refs : length s.refs ≡ count (rule_of P s.rule).premises
  pub earlier : Below i s.refs

pub record GoodGoal (P : Pack) (g : Goal) : Type 0 where
  pub judgment : GoodJudgment P g.judgment
  pub name : is_name g.name ≡ true

pub record GoodResult (P : Pack) (r : Result) : Type 0 where
  pub step : r.step < length P.steps
  pub name : is_name r.name ≡ true

pub record GoodCut (P : Pack) (c : Cut) : Type 0 where
  pub given : c.predicate < length P.symbols
  pub predicate : (symbol_of P c.predicate).output ≡ prop
  pub outputs : Below (length (symbol_of P c.predicate).inputs) c.outputs

pub record GoodAbstract (P : Pack) (a : Abstract) : Type 0 where
  pub given : a.constructor < length P.symbols
  pub constructor : (symbol_of P a.constructor).output ≡ prop → ⊥
  pub position : a.position < length (symbol_of P a.constructor).inputs

pub record Good (P : Pack) : Type 0 where
  pub sorts : (s : ℕ) → s < length P.sorts → is_name (get_or P.sorts s []) ≡ true
  pub symbols : (h : ℕ) → h < length P.symbols → GoodSymbol P (symbol_of P h)
  pub rules : (r : ℕ) → r < length P.rules → GoodRule P (rule_of P r)
  pub nodes : (n : ℕ) → n < length P.nodes → GoodNode P n (node_of P n)
  pub steps : (s : ℕ) → s < length P.steps → GoodStep P s (step_of P s)
  pub goals : (g : ℕ) → g < length P.goals → GoodGoal P (get_or P.goals g no_goal)
  pub results : (r : ℕ) → r < length P.results → GoodResult P (get_or P.results r no_result)
  pub cuts : (c : ℕ) → c < length P.cuts → GoodCut P (get_or P.cuts c no_cut)
  pub abstracts : (a : ℕ) → a < length P.abstracts → GoodAbstract P (get_or P.abstracts a no_abstract)

-- what is given once
pub record Once (P : Pack) : Type 0 where
  pub sorts : Distinct (λ (n : List ℕ). n) [] P.sorts
  pub symbols : Distinct (λ (y : Symbol). y.name) no_such_symbol P.symbols
  pub rules : Distinct (λ (r : Rule). r.name) no_rule P.rules
  pub nodes : (n m : ℕ) → n < length P.nodes → m < length P.nodes → node_of P n ≡ node_of P m → n ≡ m
  pub goals : Distinct (λ (g : Goal). g.name) no_goal P.goals
  pub results : Distinct (λ (r : Result). r.name) no_result P.results
  pub cuts : Distinct (λ (c : Cut). c.predicate) no_cut P.cuts

-- "Most": how many there are
pub record Few (P : Pack) : Type 0 where
  pub sorts : length P.sorts ≤ most_sorts
  pub symbols : length P.symbols ≤ most_symbols
  pub rules : length P.rules ≤ most_rules
  pub abstracts : length P.abstracts ≤ 1
