-- From `match_pat`, `build_pat`, `replace`, `mentions`, `by_pred`, `by_sort`: patterns and rules.
use Rattle.std.specs.Prelude.{Bool, true, false, List, [], ◌∷◌, ℕ, zero, suc, eqb, get_or}
use Rattle.std.proofs.Math.Option.{Option, none, some}
use Rattle.definition.specs.Pack.{Term, Terms, var, app, nil, cons, Node, no_node, Symbol, Rule, Pack}
use Rattle.definition.specs.Verdict.{Bound, value_of}
use Rattle.definition.specs.Store.{Stored, below, intern}
use Rattle.definition.specs.Analysis.{StoredAll}

-- a pack whose nodes are patterns: over it `matches` is `match_pat`
abbrev pub over : Pack → List Node → Pack
over P s = record { sorts = P.sorts; symbols = P.symbols; rules = P.rules; nodes = s; steps = P.steps; goals = P.goals; results = P.results; cuts = P.cuts; abstracts = P.abstracts }

unfoldable pub has_head : ℕ → Term → Bool
has_head p (var k) = false
has_head p (app h ts) = eqb h p

-- the rules that conclude a predicate, in the pack's order, numbered on from i
unfoldable pub rules_for : ℕ → List Rule → ℕ → List ℕ
unfolding has_head
rules_for p [] i = []
rules_for p (r ∷ rs) i = elim (has_head p r.conclusion) [ true ↦ i ∷ rules_for p rs (suc i) | false ↦ rules_for p rs (suc i) ]

-- the constructors of a sort, in the pack's order, numbered on from i
unfoldable pub constructors_of : ℕ → List Symbol → ℕ → List ℕ
constructors_of s [] i = []
constructors_of s (y ∷ ys) i = elim (eqb y.output s) [ true ↦ i ∷ constructors_of s ys (suc i) | false ↦ constructors_of s ys (suc i) ]

-- a rule's term as a pattern, none if a variable in it has no value; the store has all that was made until then
pub record Built : Type 0 where
  pub number : Option ℕ
  pub store : List Node

pub record BuiltAll : Type 0 where
  pub numbers : Option (List ℕ)
  pub store : List Node

unfoldable mutual
  unfolding value_of intern

  pub build : Term → List Bound → List Node → Built
  build (var k) env s = record { number = value_of k env; store = s }
  build (app h ts) env s =
      let args = build_all ts env s in
      elim args.numbers [
        | none ↦ record { number = none; store = args.store }
        | some ps ↦ let made = intern args.store (record { head = h; args = ps }) in record { number = some made.number; store = made.store }
      ]

  pub build_all : Terms → List Bound → List Node → BuiltAll
  build_all nil env s = record { numbers = some []; store = s }
  build_all (cons t ts) env s =
      let first = build t env s in
      elim first.number [
        | none ↦ record { numbers = none; store = first.store }
        | some p ↦
            let rest = build_all ts env first.store in
            elim rest.numbers [ none ↦ record { numbers = none; store = rest.store } | some ps ↦ record { numbers = some (p ∷ ps); store = rest.store } ]
      ]

-- whether x is one of these patterns or stands in one, at most d deep
unfoldable pub mentions : ℕ → List Node → ℕ → List ℕ → Bool
unfolding below
mentions zero s x [] = false
mentions zero s x (p ∷ ps) = false
mentions (suc d) s x [] = false
mentions (suc d) s x (p ∷ ps) = elim (eqb p x) [ true ↦ true | false ↦ elim (mentions d s x (below (get_or s p no_node))) [ true ↦ true | false ↦ mentions (suc d) s x ps ] ]

-- y for x in one pattern: constants and other variables stay, all else is made anew over its arguments
unfoldable pub replace_in : ℕ → ℕ → (List ℕ → List Node → StoredAll) → ℕ → List Node → Stored
unfolding below intern
replace_in x y deeper p s =
    elim (eqb p x) [
      | true ↦ record { number = y; store = s }
      | false ↦
          elim (below (get_or s p no_node)) [
            | [] ↦ record { number = p; store = s }
            | a ∷ more ↦ let args = deeper (a ∷ more) s in intern args.store (record { head = (get_or s p no_node).head; args = args.numbers })
          ]
    ]

-- y for x in patterns from left to right, at most d deep
unfoldable pub replace : ℕ → ℕ → ℕ → List ℕ → List Node → StoredAll
unfolding replace_in
replace zero x y [] s = record { numbers = []; store = s }
replace zero x y (p ∷ ps) s = record { numbers = []; store = s }
replace (suc d) x y [] s = record { numbers = []; store = s }
replace (suc d) x y (p ∷ ps) s =
    let first = replace_in x y (λ qs t. replace d x y qs t) p s in
    let rest = replace (suc d) x y ps first.store in
    record { numbers = first.number ∷ rest.numbers; store = rest.store }
