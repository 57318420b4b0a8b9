-- From `derive_goal`: one attempt at a goal, from its graph to its lines.
use Rattle.std.specs.Prelude.{true, false, List, [], ◌∷◌, ◌++◌, map, ℕ, suc, ◌+◌, length, get_or}
use Rattle.std.proofs.Math.Option.{Option, none, some}
use Rattle.definition.specs.Pack.{Pack, step_of}
use Rattle.definition.specs.Verdict.{Bound, value_of}
use Rattle.definition.specs.Graph.{Graph, variable_vertex}
use Rattle.definition.specs.Analysis.{pairing, copied}
use Rattle.definition.specs.Keys.{first_of, needed_below}
use Rattle.definition.specs.Run.{Run}
use Rattle.emission.specs.State.{Emitter, Setting, Tried, ◌>>=◌, from, give, now, change, grown_to, celled, unified, having_derived}
use Rattle.emission.specs.Words.{step}
use Rattle.emission.specs.Induct.{prove_cut}
use Rattle.emission.specs.Global.{Lowered, raise, raise_levels, settle}
use Rattle.emission.specs.Lay.{Use, Placed, conclusion_of, lay_steps, Target, as_open, as_ground, lay_target}
use Rattle.emission.specs.Choose.{choose}

unfoldable pub uses_among : List (Option Use) → List Use
uses_among [] = []
uses_among (none ∷ us) = uses_among us
uses_among (some u ∷ us) = u ∷ uses_among us

-- all uses, as they arose
unfoldable pub uses_of : List Placed → List Use
unfolding uses_among
uses_of [] = []
uses_of (p ∷ ps) = uses_among p.uses ++ uses_of ps

-- the steps' conclusions, then the uses, each beside its ground judgment
unfoldable pub settled : Pack → List Placed → Lowered → Graph
unfolding settle uses_of step_of
settled P ps w =
    let us = uses_of ps in
    let nodes = map (λ (p : Placed). p.conclusion) ps ++ map (λ (u : Use). u.node) us in
    let grounds = map (λ (p : Placed). (step_of P p.step).judgment) ps ++ map (λ (u : Use). u.judgment) us in
    (settle (suc (length w.graph + length P.nodes)) P nodes grounds (record { lowered = w; met = [] })).lowered.graph

-- a judgment raised, and the memo behind it
pub record Stated : Type 0 where
  pub judgment : ℕ
  pub memo : List Bound

unfoldable pub raise_judgment : Setting → Graph → ℕ → List Bound → Emitter → Run (Tried Stated)
unfolding from grown_to raise
raise_judgment S g x memo = do
  e ← now
  let r = raise raise_levels S.eigen g (x ∷ []) (record { memo = memo; store = e.kept.store })
  _ ← grown_to r.reading.store
  ps ← from r.patterns
  give (record { judgment = get_or ps 0 0; memo = r.reading.memo })

-- lines, by whatever order: a step's refs, or the steps so far with their lines; and the memo behind them
pub record Lines (A : Type 0) : Type 0 where
  pub lines : List A
  pub memo : List Bound

-- a step's refs: another step's line, or that of a cut judgment, proved here
unfoldable pub ref_lines : Setting → Graph → List Bound → List ℕ → List (Option Use) → List Bound → Emitter → Run (Tried (Lines ℕ))
unfolding raise_judgment prove_cut copied first_of
ref_lines S g lines [] us memo = give (record { lines = []; memo = memo })
ref_lines S g lines (r ∷ rs) [] memo = give (record { lines = []; memo = memo })
ref_lines S g lines (r ∷ rs) (none ∷ us) memo = do
  rest ← ref_lines S g lines rs us memo
  give (record { lines = copied lines (first_of S.pack r) ∷ rest.lines; memo = rest.memo })
ref_lines S g lines (r ∷ rs) (some u ∷ us) memo = do
  c ← raise_judgment S g u.node memo
  n ← prove_cut S c.judgment
  rest ← ref_lines S g lines rs us c.memo
  give (record { lines = n ∷ rest.lines; memo = rest.memo })

-- the steps in their order, each with its line; a judgment derived before keeps its line
unfoldable pub step_lines : Setting → Graph → List Placed → Lines Bound → Emitter → Run (Tried (Lines Bound))
unfolding raise_judgment ref_lines step value_of step_of
step_lines S g [] w = give w
step_lines S g (p ∷ ps) w = do
  j ← raise_judgment S g p.conclusion w.memo
  e ← now
  elim (value_of j.judgment e.undone.derived) [
    | some n ↦ step_lines S g ps (record { lines = pairing p.step n ∷ w.lines; memo = j.memo })
    | none ↦ do
      refs ← ref_lines S g w.lines (step_of S.pack p.step).refs p.uses j.memo
      n ← step S (step_of S.pack p.step).rule refs.lines j.judgment
      _ ← change (having_derived j.judgment n)
      step_lines S g ps (record { lines = pairing p.step n ∷ w.lines; memo = refs.memo })
  ]

-- what a target has of ground nodes in the graph: settling shares them
unfoldable pub ground_nodes : Target → List Bound → List Bound
ground_nodes (as_open conclusion chosen values) nodes = []
ground_nodes as_ground nodes = nodes

-- a goal's line, and the judgment that it states
pub record Derived : Type 0 where
  pub line : ℕ
  pub judgment : ℕ

-- L; the goal's own steps, down to cut ones; the target, unified with the last conclusion; outputs chosen; the rest settled; the lines
unfoldable pub derive_goal : Setting → Target → ℕ → Emitter → Run (Tried Derived)
unfolding ground_nodes celled unified needed_below lay_steps lay_target conclusion_of copied choose uses_of settled step_lines raise_judgment step_of
derive_goal S t top = do
  let P = S.pack
  let only_l = variable_vertex S.sort false true ∷ []
  _ ← celled only_l
  laid ← lay_steps P (needed_below (length P.steps) P (top ∷ [])) (record { graph = only_l; steps = [] })
  let goal = (step_of P top).judgment
  aim ← lay_target S t goal laid.graph
  g ← unified aim.graph (conclusion_of top laid.steps) (copied aim.nodes goal)
  let uses = uses_of laid.steps
  h ← choose (suc (length uses)) S uses g
  let done = settled P laid.steps (record { graph = h; nodes = ground_nodes t aim.nodes })
  _ ← celled done
  w ← step_lines S done laid.steps (record { lines = []; memo = [] })
  j ← raise_judgment S done (conclusion_of top laid.steps) w.memo
  give (record { line = copied w.lines top; judgment = j.judgment })
