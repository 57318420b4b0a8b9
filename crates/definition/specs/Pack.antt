-- Document 01, "The pack": what its records say, as plain data.
use Rattle.std.specs.Prelude.{List, [], ◌∷◌, ◌++◌, ℕ, get_or}

-- 2^32−1, where an output sort would stand, marks a predicate
abbrev pub prop : ℕ
prop = 4294967295

-- "Most: 256 sorts, 4,096 symbols, arity 16, 4,096 rules, 64 variables, 16 premises and 256 prefix words a rule"
abbrev pub most_sorts : ℕ
most_sorts = 256

abbrev pub most_symbols : ℕ
most_symbols = 4096

abbrev pub most_arity : ℕ
most_arity = 16

abbrev pub most_rules : ℕ
most_rules = 4096

abbrev pub most_variables : ℕ
most_variables = 64

abbrev pub most_premises : ℕ
most_premises = 16

abbrev pub most_words : ℕ
most_words = 256

-- a name has "1 to 64 bytes"
abbrev pub most_name : ℕ
most_name = 64

-- 2 symbol: output sort, input sorts, name
pub record Symbol : Type 0 where
  pub output : ℕ
  pub inputs : List ℕ
  pub name : List ℕ

-- a rule's term: a variable by its number, or a symbol by its number over terms
mutual
  pub data Term : Type 0 where
    var : ℕ → Term
    app : ℕ → Terms → Term

  pub data Terms : Type 0 where
    nil : Terms
    cons : Term → Terms → Terms

-- 3 rule: the variables' sorts, premises and conclusion, name
pub record Rule : Type 0 where
  pub vars : List ℕ
  pub premises : Terms
  pub conclusion : Term
  pub name : List ℕ

-- 4 ground node: head, arguments
pub record Node : Type 0 where
  pub head : ℕ
  pub args : List ℕ

-- 5 step: rule, judgment node, refs
pub record Step : Type 0 where
  pub rule : ℕ
  pub judgment : ℕ
  pub refs : List ℕ

-- 6 goal: judgment node, name
pub record Goal : Type 0 where
  pub judgment : ℕ
  pub name : List ℕ

-- 7 result: step, name
pub record Result : Type 0 where
  pub step : ℕ
  pub name : List ℕ

-- 8 cut: predicate, output positions
pub record Cut : Type 0 where
  pub predicate : ℕ
  pub outputs : List ℕ

-- 9 abstract: constructor, position
pub record Abstract : Type 0 where
  pub constructor : ℕ
  pub position : ℕ

-- "Things of a kind are numbered from 0": a list for each kind, a sort being its name
pub record Pack : Type 0 where
  pub sorts : List (List ℕ)
  pub symbols : List Symbol
  pub rules : List Rule
  pub nodes : List Node
  pub steps : List Step
  pub goals : List Goal
  pub results : List Result
  pub cuts : List Cut
  pub abstracts : List Abstract

abbrev pub empty : Pack
empty = record { sorts = []; symbols = []; rules = []; nodes = []; steps = []; goals = []; results = []; cuts = []; abstracts = [] }

-- what a number of each kind stands for; past the end, something without parts
abbrev pub no_such_symbol : Symbol
no_such_symbol = record { output = 0; inputs = []; name = [] }

abbrev pub no_rule : Rule
no_rule = record { vars = []; premises = nil; conclusion = var 0; name = [] }

abbrev pub no_node : Node
no_node = record { head = 0; args = [] }

abbrev pub no_step : Step
no_step = record { rule = 0; judgment = 0; refs = [] }

unfoldable pub symbol_of : Pack → ℕ → Symbol
symbol_of P h = get_or P.symbols h no_such_symbol

unfoldable pub rule_of : Pack → ℕ → Rule
rule_of P r = get_or P.rules r no_rule

unfoldable pub node_of : Pack → ℕ → Node
node_of P n = get_or P.nodes n no_node

unfoldable pub step_of : Pack → ℕ → Step
step_of P s = get_or P.steps s no_step

-- the sort of a ground node, prop for a judgment
unfoldable pub sort_of : Pack → ℕ → ℕ
unfolding symbol_of node_of
sort_of P n = (symbol_of P (node_of P n).head).output

-- a pack with one thing more of a kind
unfoldable pub with_sort : Pack → List ℕ → Pack
with_sort P x = record { sorts = P.sorts ++ (x ∷ []); symbols = P.symbols; rules = P.rules; nodes = P.nodes; steps = P.steps; goals = P.goals; results = P.results; cuts = P.cuts; abstracts = P.abstracts }

unfoldable pub with_symbol : Pack → Symbol → Pack
with_symbol P x = record { sorts = P.sorts; symbols = P.symbols ++ (x ∷ []); rules = P.rules; nodes = P.nodes; steps = P.steps; goals = P.goals; results = P.results; cuts = P.cuts; abstracts = P.abstracts }

unfoldable pub with_rule : Pack → Rule → Pack
with_rule P x = record { sorts = P.sorts; symbols = P.symbols; rules = P.rules ++ (x ∷ []); nodes = P.nodes; steps = P.steps; goals = P.goals; results = P.results; cuts = P.cuts; abstracts = P.abstracts }

unfoldable pub with_node : Pack → Node → Pack
with_node P x = record { sorts = P.sorts; symbols = P.symbols; rules = P.rules; nodes = P.nodes ++ (x ∷ []); steps = P.steps; goals = P.goals; results = P.results; cuts = P.cuts; abstracts = P.abstracts }

unfoldable pub with_step : Pack → Step → Pack
with_step P x = record { sorts = P.sorts; symbols = P.symbols; rules = P.rules; nodes = P.nodes; steps = P.steps ++ (x ∷ []); goals = P.goals; results = P.results; cuts = P.cuts; abstracts = P.abstracts }

unfoldable pub with_goal : Pack → Goal → Pack
with_goal P x = record { sorts = P.sorts; symbols = P.symbols; rules = P.rules; nodes = P.nodes; steps = P.steps; goals = P.goals ++ (x ∷ []); results = P.results; cuts = P.cuts; abstracts = P.abstracts }

unfoldable pub with_result : Pack → Result → Pack
with_result P x = record { sorts = P.sorts; symbols = P.symbols; rules = P.rules; nodes = P.nodes; steps = P.steps; goals = P.goals; results = P.results ++ (x ∷ []); cuts = P.cuts; abstracts = P.abstracts }

unfoldable pub with_cut : Pack → Cut → Pack
with_cut P x = record { sorts = P.sorts; symbols = P.symbols; rules = P.rules; nodes = P.nodes; steps = P.steps; goals = P.goals; results = P.results; cuts = P.cuts ++ (x ∷ []); abstracts = P.abstracts }

unfoldable pub with_abstract : Pack → Abstract → Pack
with_abstract P x = record { sorts = P.sorts; symbols = P.symbols; rules = P.rules; nodes = P.nodes; steps = P.steps; goals = P.goals; results = P.results; cuts = P.cuts; abstracts = P.abstracts ++ (x ∷ []) }
