-- From `derive_goal`, its first half: a goal's own steps as one unification problem, and what is to be derived.
use Rattle.std.specs.Prelude.{Bool, true, false, List, [], ◌∷◌, ◌++◌, map, ℕ, suc, ◌+◌, eqb, length}
use Rattle.std.proofs.Math.Option.{Option, none, some}
use Rattle.definition.specs.Test.{any}
use Rattle.definition.specs.Pack.{Terms, nil, cons, Pack, rule_of, step_of, sort_of}
use Rattle.definition.specs.Verdict.{Bound}
use Rattle.definition.specs.Store.{term_of}
use Rattle.definition.specs.Graph.{Graph, variable_vertex, Grown, push, up_to}
use Rattle.definition.specs.Analysis.{instantiate, pairing, copied}
use Rattle.definition.specs.Keys.{first_of, predicate_of, is_a_cut}
use Rattle.definition.specs.Run.{Run}
use Rattle.emission.specs.State.{Emitter, Setting, Tried, ◌>>=◌, give, fail, now, celled, unified}
use Rattle.emission.specs.Global.{node_of_l, Lowered, lower, lower_term}

-- a premise that a cut judgment meets: its own instance in the graph, and that judgment
pub record Use : Type 0 where
  pub node : ℕ
  pub judgment : ℕ

-- a step that isn't cut: its conclusion in the graph, and of each premise its use, none where the ref isn't cut
pub record Placed : Type 0 where
  pub step : ℕ
  pub conclusion : ℕ
  pub uses : List (Option Use)

pub record Laid : Type 0 where
  pub graph : Graph
  pub steps : List Placed

unfoldable pub conclusion_of : ℕ → List Placed → ℕ
conclusion_of s [] = 0
conclusion_of s (p ∷ ps) = elim (eqb p.step s) [ true ↦ p.conclusion | false ↦ conclusion_of s ps ]

pub record Premised : Type 0 where
  pub graph : Graph
  pub uses : List (Option Use)

-- premises beside their refs: each an instance of its own; one whose ref isn't cut is unified with that step's conclusion, one conclusion for
-- all who rest on it
unfoldable pub lay_premises : Pack → List Placed → List ℕ → Terms → List ℕ → Premised → Emitter → Run (Tried Premised)
unfolding celled unified instantiate conclusion_of is_a_cut predicate_of first_of step_of
lay_premises P placed env nil refs w = give w
lay_premises P placed env (cons t ts) [] w = give w
lay_premises P placed env (cons t ts) (r ∷ refs) w = do
  let first = first_of P r
  let inst = instantiate t env w.graph
  _ ← celled inst.graph
  elim (is_a_cut P (predicate_of P first)) [
    | true ↦ lay_premises P placed env ts refs (record { graph = inst.graph; uses = w.uses ++ (some (record { node = inst.at; judgment = (step_of P first).judgment }) ∷ []) })
    | false ↦ unified inst.graph inst.at (conclusion_of first placed) >>= λ g. lay_premises P placed env ts refs (record { graph = g; uses = w.uses ++ (none ∷ []) })
  ]

-- steps in their order: the rule's variables, its premises, its conclusion; cut steps are not laid
unfoldable pub lay_steps : Pack → List ℕ → Laid → Emitter → Run (Tried Laid)
unfolding celled lay_premises instantiate is_a_cut predicate_of rule_of step_of up_to
lay_steps P [] w = give w
lay_steps P (s ∷ ss) w =
    elim (is_a_cut P (predicate_of P s)) [
      | true ↦ lay_steps P ss w
      | false ↦ do
        let rule = rule_of P (step_of P s).rule
        let env = map (λ k. length w.graph + k) (up_to (length rule.vars))
        let opened = w.graph ++ map (λ so. variable_vertex so false false) rule.vars
        _ ← celled opened
        ps ← lay_premises P w.steps env rule.premises (step_of P s).refs (record { graph = opened; uses = [] })
        let concluded = instantiate rule.conclusion env ps.graph
        _ ← celled concluded.graph
        lay_steps P ss (record { graph = concluded.graph; steps = w.steps ++ (record { step = s; conclusion = concluded.at; uses = ps.uses } ∷ []) })
    ]

-- "Each goal is tried open, then … ground": its class's conclusion with these variables as L, or its own judgment
pub data Target : Type 0 where
  as_open : ℕ → (ℕ → Bool) → List Bound → Target
  as_ground : Target

-- a variable of the conclusion: L if it is chosen, else a new one at each place
unfoldable pub open_variable : Pack → (ℕ → Bool) → List Bound → ℕ → Graph → Grown
unfolding push sort_of copied
open_variable P chosen values k g = elim (chosen k) [ true ↦ record { at = node_of_l; graph = g } | false ↦ push g (variable_vertex (sort_of P (copied values k)) false false) ]

-- the target in the graph, as the goal's node; a conclusion without a chosen variable is none, but only when it is laid
unfoldable pub lay_target : Setting → Target → ℕ → Graph → Emitter → Run (Tried Lowered)
unfolding celled lower_term term_of open_variable any lower
lay_target S (as_open conclusion chosen values) goal g = do
  e ← now
  let made = lower_term (open_variable S.pack chosen values) (term_of e.kept.store conclusion) g
  _ ← celled made.graph
  elim (any (λ (b : Bound). chosen b.variable) values) [ true ↦ give (record { graph = made.graph; nodes = pairing goal made.at ∷ [] }) | false ↦ fail ]
lay_target S as_ground goal g = do
  let made = lower (suc goal) S.pack (goal ∷ []) (record { graph = g; nodes = [] })
  _ ← celled made.graph
  give made
