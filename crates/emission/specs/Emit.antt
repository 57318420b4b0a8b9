-- From `emit`: the goals one at a time, then the result lines.
use Rattle.std.specs.Prelude.{List, [], ◌∷◌, ◌++◌, ℕ, suc, length, get_or}
use Rattle.std.proofs.Math.Option.{none, some}
use Rattle.definition.specs.Pack.{Pack}
use Rattle.definition.specs.Verdict.{no_goal}
use Rattle.definition.specs.Store.{term_of}
use Rattle.definition.specs.Graph.{up_to}
use Rattle.definition.specs.Goals.{Root}
use Rattle.definition.specs.Calls.{class_run}
use Rattle.definition.specs.Run.{Run, ◌>>=◌, note, return, or_else}
use Rattle.definition.specs.declared.Refusal.TheVariants.{Ground}
use Rattle.emission.specs.Line.{result_line, tally}
use Rattle.emission.specs.Written.{only_l}
use Rattle.emission.specs.Render.{proof_text, goal_text}
use Rattle.emission.specs.State.{Emitter, Setting, Tried, having_lines, restored}
use Rattle.emission.specs.Lay.{Target, as_open, as_ground}
use Rattle.emission.specs.Derive.{Derived, derive_goal}
use Rattle.emission.specs.Begin.{class_of, is_open, Emission, begin}
use Rattle.emission.specs.declared.Emitted.{Emitted}

abbrev pub no_root : Root
no_root = record { goal = no_goal; step = 0; class = 0; values = [] }

-- how a goal is proved
unfoldable pub try_goal : Setting → Target → Root → Emitter → Run (Tried Derived)
unfolding derive_goal
try_goal S t r = derive_goal S t r.step

-- a goal that was proved: its goal line is written, its result line waits
unfoldable pub goal_done : ℕ → Emission → ℕ → ℕ → Derived → Emitter → Run Emission
unfolding goal_text only_l term_of
goal_done i w opened rigid d e = do
  let S = w.setting
  let goals = w.goals ++ (record { goal = i; judgment = only_l (term_of e.kept.store d.judgment) } ∷ [])
  _ ← note 6 (length (goal_text S.pack S.name S.sort goals))
  return (record { classed = w.classed; setting = S; state = e; goals = goals; results = w.results ++ (result_line i d.line ∷ []); opened = opened; rigid = rigid })

-- "Each goal is tried open, then, after any error but a short buffer, ground with text, counts and the four maps restored"; "11, goal …
-- ground attempt fails"
unfoldable pub emit_goal : ℕ → Emission → Run Emission
unfolding try_goal class_of is_open goal_done or_else
emit_goal i w = do
  let c = w.classed
  let r = get_or c.roots i no_root
  first ← try_goal w.setting (as_open (class_of c r).conclusion (is_open c r) r.values) r w.state
  elim first.result [
    | some d ↦ goal_done i w (suc w.opened) w.rigid d first.state
    | none ↦ do
      second ← try_goal w.setting as_ground r (restored w.state first.state)
      d ← or_else second.result (Ground i)
      goal_done i w w.opened (suc w.rigid) d second.state
  ]

-- goals by their numbers
unfoldable pub emit_goals : List ℕ → Emission → Run Emission
unfolding emit_goal
emit_goals [] w = return w
emit_goals (i ∷ is) w = emit_goal i w >>= λ v. emit_goals is v

-- the result lines that waited, in the goals' order
unfoldable pub finish : Emission → Run Emission
unfolding proof_text
finish w = do
  let lines = w.state.undone.lines ++ w.results
  _ ← note 5 (length (proof_text w.setting.pack w.setting.name lines))
  return (record { classed = w.classed; setting = w.setting; state = having_lines lines w.state; goals = w.goals; results = []; opened = w.opened; rigid = w.rigid })

-- classes and the goals' tests, then all goals
unfoldable pub emit_run : Pack → Run Emission
unfolding class_run begin up_to emit_goals finish
emit_run P = do
  c ← class_run P
  w ← begin c
  v ← emit_goals (up_to (length P.goals)) w
  finish v

-- ---- what emission comes to
unfoldable pub proof_of : Emission → List ℕ
unfolding proof_text
proof_of w = proof_text w.setting.pack w.setting.name w.state.undone.lines

unfoldable pub goals_of : Emission → List ℕ
unfolding goal_text
goals_of w = goal_text w.setting.pack w.setting.name w.setting.sort w.goals

-- `Emitted`: of what the final lines hold
unfoldable pub emitted_of : Emission → Emitted
unfolding tally
emitted_of w =
    let t = tally w.state.undone.lines in
    record { open_goals = w.opened; rigid_goals = w.rigid; steps = t.steps; inductions = t.inductions; definitions = t.definitions }
