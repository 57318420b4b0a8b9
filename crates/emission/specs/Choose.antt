-- From `derive_goal`: outputs of cut judgments that the graph leaves open are chosen among candidates.
use Rattle.std.specs.Prelude.{true, false, List, [], ◌∷◌, ◌++◌, ℕ, zero, suc, eqb, length, get_or}
use Rattle.std.proofs.Math.Option.{Option, none, some}
use Rattle.definition.specs.Test.{any}
use Rattle.definition.specs.Pack.{Cut, symbol_of, node_of}
use Rattle.definition.specs.Tree.{tree_of}
use Rattle.definition.specs.Store.{term_of}
use Rattle.definition.specs.Graph.{Graph, vertex, root}
use Rattle.definition.specs.Analysis.{lift}
use Rattle.definition.specs.Run.{Run}
use Rattle.emission.specs.State.{Emitter, Setting, Tried, ◌>>=◌, attempt, give, now, grown_to, interned, celled, unified}
use Rattle.emission.specs.Induct.{prove_cut}
use Rattle.emission.specs.Global.{node_of_l, lower_term, Reading, raise, raise_levels}
use Rattle.emission.specs.Lay.{Use}

-- arguments as they are raised one by one, over one memo: a pattern, or none for an open one
pub record Arguments : Type 0 where
  pub raised : List (Option ℕ)
  pub reading : Reading

unfoldable pub raise_each : ℕ → Graph → List ℕ → Arguments → Arguments
unfolding raise
raise_each eigen g [] w = w
raise_each eigen g (x ∷ xs) w =
    let one = raise raise_levels eigen g (x ∷ []) w.reading in
    raise_each eigen g xs (record { raised = w.raised ++ (elim one.patterns [ none ↦ none | some ps ↦ some (get_or ps 0 0) ] ∷ []); reading = one.reading })

-- the places of open arguments, counted on from i
unfoldable pub open_places : List (Option ℕ) → ℕ → List ℕ
open_places [] i = []
open_places (none ∷ others) i = i ∷ open_places others (suc i)
open_places (some p ∷ others) i = open_places others (suc i)

-- the arguments of the output's sort, in their order; the output itself is open and so none of them
unfoldable pub of_sort : ℕ → List ℕ → List (Option ℕ) → List ℕ
of_sort sort [] args = []
of_sort sort (s ∷ ss) [] = []
of_sort sort (s ∷ ss) (none ∷ args) = of_sort sort ss args
of_sort sort (s ∷ ss) (some p ∷ args) = elim (eqb s sort) [ true ↦ p ∷ of_sort sort ss args | false ↦ of_sort sort ss args ]

-- the arguments with c for the open one
unfoldable pub filled : ℕ → List (Option ℕ) → List ℕ
filled c [] = []
filled c (none ∷ args) = c ∷ filled c args
filled c (some p ∷ args) = p ∷ filled c args

-- "A candidate loop is left at the first that proves; lines of failed candidates stay"
unfoldable pub first_proved : Setting → ℕ → List (Option ℕ) → List ℕ → Emitter → Run (Tried (Option ℕ))
unfolding attempt interned prove_cut filled
first_proved S pred args [] = give none
first_proved S pred args (c ∷ cs) = do
  j ← interned (record { head = pred; args = filled c args })
  proof ← attempt (prove_cut S j)
  elim proof [ some n ↦ give (some c) | none ↦ first_proved S pred args cs ]

unfoldable pub outputs_of : ℕ → List Cut → List ℕ
outputs_of p [] = []
outputs_of p (c ∷ cs) = elim (eqb c.predicate p) [ true ↦ c.outputs | false ↦ outputs_of p cs ]

-- a graph, and the uses that are left for another round
pub record Chosen : Type 0 where
  pub graph : Graph
  pub pending : List Use

-- a use of `pred` whose one open argument is the output at place o: the others of its sort are tried, then its ground value; what is chosen
-- must unify with what the argument has become
unfoldable pub choose_output : Setting → Graph → Use → List ℕ → List (Option ℕ) → ℕ → ℕ → Emitter → Run (Tried Chosen)
unfolding grown_to celled unified lift tree_of node_of symbol_of of_sort first_proved lower_term term_of
choose_output S g u args raised pred o = do
  e ← now
  let P = S.pack
  let sorts = (symbol_of P pred).inputs
  let value = lift (tree_of P (get_or (node_of P u.judgment).args o 0)) e.kept.store
  _ ← grown_to value.store
  choice ← first_proved S pred raised (of_sort (get_or sorts o 0) sorts raised ++ (value.number ∷ []))
  elim choice [
    | none ↦ give (record { graph = g; pending = u ∷ [] })
    | some c ↦ do
      later ← now
      let made = lower_term (λ k h. record { at = node_of_l; graph = h }) (term_of later.kept.store c) g
      _ ← celled made.graph
      h ← unified made.graph (get_or args o 0) made.at
      give (record { graph = h; pending = [] })
  ]

-- one use: done if nothing is open; chosen for if one output is; left otherwise
unfoldable pub choose_one : Setting → Graph → Use → Emitter → Run (Tried Chosen)
unfolding grown_to root vertex raise_each open_places outputs_of any choose_output
choose_one S g u = do
  e ← now
  let v = vertex g (root g u.node)
  let args = raise_each S.eigen g v.args (record { raised = []; reading = record { memo = []; store = e.kept.store } })
  _ ← grown_to args.reading.store
  elim (open_places args.raised 0) [
    | [] ↦ give (record { graph = g; pending = [] })
    | o ∷ [] ↦ elim (any (eqb o) (outputs_of v.head S.pack.cuts)) [ true ↦ choose_output S g u v.args args.raised v.head o | false ↦ give (record { graph = g; pending = u ∷ [] }) ]
    | o ∷ q ∷ more ↦ give (record { graph = g; pending = u ∷ [] })
  ]

unfoldable pub choose_all : Setting → List Use → Chosen → Emitter → Run (Tried Chosen)
unfolding choose_one
choose_all S [] w = give w
choose_all S (u ∷ us) w = do
  one ← choose_one S w.graph u
  choose_all S us (record { graph = one.graph; pending = w.pending ++ one.pending })

-- rounds, as long as a round leaves fewer uses: more than there are uses are never wanted
unfoldable pub choose : ℕ → Setting → List Use → Graph → Emitter → Run (Tried Graph)
unfolding choose_all
choose zero S us g = give g
choose (suc rounds) S us g = do
  w ← choose_all S us (record { graph = g; pending = [] })
  elim (eqb (length w.pending) (length us)) [ true ↦ give w.graph | false ↦ choose rounds S w.pending w.graph ]
