-- Document 01, "Verdict on the steps": the statement, and the function that computes it. Laws/Agreement has that they agree.
use Rattle.std.specs.Prelude.{◌≡◌, Bool, true, false, List, [], ◌∷◌, map, ℕ, suc, ◌<◌, eqb, length, get_or}
use Rattle.std.proofs.Math.Option.{Option, none, some}
use Rattle.definition.specs.Test.{◌and◌, any, same}
use Rattle.definition.specs.Pack.{Term, Terms, var, app, nil, cons, Step, Goal, Result, Pack, rule_of, node_of, step_of}
use Rattle.definition.specs.Tree.{Tree, Trees, no_trees, tree_then, tree_of, turn, turns}
use Rattle.definition.specs.declared.Refusal.{Refusal}
use Rattle.definition.specs.declared.Refusal.TheVariants.{Step as StepFails, Goal as GoalFails}

-- the judgments of the steps of these numbers
unfoldable pub judgments : Pack → List ℕ → Trees
unfolding step_of tree_of
judgments P [] = no_trees
judgments P (r ∷ refs) = tree_then (tree_of P (step_of P r).judgment) (judgments P refs)

-- "A step passes if one assignment of the variables that occur in its rule turns the premises into its refs' judgments and the
-- conclusion into its own"; what the assignment gives to variables that do not occur changes nothing
pub record Passes (P : Pack) (s : Step) : Type 0 where
  pub assignment : ℕ → Tree
  pub premises : turns assignment (rule_of P s.rule).premises ≡ judgments P s.refs
  pub conclusion : turn assignment (rule_of P s.rule).conclusion ≡ tree_of P s.judgment

abbrev pub no_goal : Goal
no_goal = record { judgment = 0; name = [] }

abbrev pub no_result : Result
no_result = record { step = 0; name = [] }

-- "each goal needs a result of its name whose step has the goal's judgment"
pub record Met (P : Pack) (g : Goal) : Type 0 where
  pub result : ℕ
  pub given : result < length P.results
  pub name : g.name ≡ (get_or P.results result no_result).name
  pub judgment : (step_of P (get_or P.results result no_result).step).judgment ≡ g.judgment

-- "A yes holds just in that case": every step passes, then every goal is met
pub record Accepted (P : Pack) : Type 0 where
  pub steps : (i : ℕ) → i < length P.steps → Passes P (step_of P i)
  pub goals : (i : ℕ) → i < length P.goals → Met P (get_or P.goals i no_goal)

-- a variable and the node that it stands for
pub record Bound : Type 0 where
  pub variable : ℕ
  pub value : ℕ

unfoldable pub value_of : ℕ → List Bound → Option ℕ
value_of k [] = none
value_of k (b ∷ bs) = elim (eqb b.variable k) [ true ↦ some b.value | false ↦ value_of k bs ]

-- a variable's first value is kept, every later one must be the same node
unfoldable pub bound : ℕ → ℕ → List Bound → Option ℕ → Option (List Bound)
bound k n bs none = some (record { variable = k; value = n } ∷ bs)
bound k n bs (some m) = elim (eqb m n) [ true ↦ some bs | false ↦ none ]

-- values that a test lets through, and values that are matched on
unfoldable pub provided : Bool → Option (List Bound) → Option (List Bound)
provided true r = r
provided false r = none

unfoldable pub onwards : Option (List Bound) → (List Bound → Option (List Bound)) → Option (List Bound)
onwards none f = none
onwards (some bs) f = f bs

-- `Store::matches`: a term against a ground node, with the values so far
unfoldable mutual
  unfolding node_of value_of bound provided onwards

  pub matches : Pack → Term → ℕ → List Bound → Option (List Bound)
  matches P (var k) n bs = bound k n bs (value_of k bs)
  matches P (app h ts) n bs = provided (eqb (node_of P n).head h) (match_all P ts (node_of P n).args bs)

  pub match_all : Pack → Terms → List ℕ → List Bound → Option (List Bound)
  match_all P nil [] bs = some bs
  match_all P nil (n ∷ ns) bs = none
  match_all P (cons t ts) [] bs = none
  match_all P (cons t ts) (n ∷ ns) bs = onwards (matches P t n bs) (λ cs. match_all P ts ns cs)

-- whether there are values
unfoldable pub matched : Option (List Bound) → Bool
matched none = false
matched (some bs) = true

-- the premises against the refs' judgments, then the conclusion against the step's own
unfoldable pub passes : Pack → Step → Bool
unfolding matches onwards matched rule_of step_of
passes P s =
    let rule = rule_of P s.rule in
    let premises = match_all P rule.premises (map (λ r. (step_of P r).judgment) s.refs) [] in
    matched (onwards premises (λ bs. matches P rule.conclusion s.judgment bs))

unfoldable pub met : Pack → Goal → Bool
unfolding any same step_of ◌and◌
met P g = any (λ (r : Result). same g.name r.name and eqb (step_of P r.step).judgment g.judgment) P.results

-- the number of the first that fails, counted on from n
unfoldable pub first_failing : {A : Type 0} → (A → Bool) → List A → ℕ → Option ℕ
first_failing f [] n = none
first_failing f (x ∷ xs) n = elim (f x) [ true ↦ first_failing f xs (suc n) | false ↦ some n ]

-- 3 with the first step that fails, "then" 4 with the first goal that does
unfoldable pub verdict : Pack → Option Refusal
unfolding passes met first_failing
verdict P =
    elim (first_failing (passes P) P.steps 0) [
      | some s ↦ some (StepFails s)
      | none ↦ elim (first_failing (met P) P.goals 0) [ some g ↦ some (GoalFails g) | none ↦ none ]
    ]
