-- Emission as a whole: from its beginning to its end every state is sound, and each result line names a line that states its goal line's
-- judgment.
use Rattle.std.specs.Prelude.{◌≡◌, false, ℕ, zero, suc, ◌<◌, ◌≤◌}
use Rattle.std.proofs.Math.Path.{refl, ap, subst}
use Rattle.std.proofs.Common.{sym, ap₂, ◌∙◌, arith}
use mathlib.Core.List.{List, [], ◌∷◌, ◌++◌}
use Rattle.std.proofs.Math.Option.{Option, none, some}
use Rattle.std.proofs.Math.ListN.{length, get_or}
use Rattle.definition.specs.Pack.{prop, Pack, node_of, step_of}
use Rattle.definition.specs.Frame.{fine}
use Rattle.definition.specs.Parse.{parse}
use Rattle.definition.proofs.Laws.Good.{parsed_good, parsed_few}
use Rattle.definition.specs.Good.{Below, Good, Few}
use Rattle.definition.specs.Store.{term_of}
use Rattle.definition.specs.Graph.{up_to}
use Rattle.definition.specs.Run.{Note, Run, done, behind, ◌>>=◌, or_else}
use Rattle.definition.specs.declared.Refusal.TheVariants.{Ground}
use Rattle.definition.specs.Keys.{needed_below, predicate_of, is_a_cut}
use Rattle.definition.specs.Calls.{Classed, class_run}
use Rattle.definition.proofs.Laws.Grow.{below_both}
use Rattle.emission.specs.Line.{Line, result_line, GoalLine}
use Rattle.emission.specs.Written.{only_l}
use Rattle.emission.specs.State.{Emitter, Setting, Tried, having_lines, restored}
use Rattle.emission.specs.Lay.{Target, as_open, as_ground}
use Rattle.emission.specs.Derive.{Derived}
use Rattle.emission.specs.Begin.{class_of, is_open, Emission}
use Rattle.emission.specs.Emit.{no_root, try_goal, goal_done, emit_goal, emit_goals, finish, emit_run}
use Rattle.theory.specs.Keys.Needed.{Among}
use Rattle.theory.specs.Patterns.Interned.{Grows, with, grows_none, grows_then, grows_long}
use Rattle.emit_theory.specs.Graph.Terms.{TermOf, open_sort}
use Rattle.emit_theory.specs.Built.Runs.{run_then, there_is}
use Rattle.emit_theory.specs.Built.Meets.{goal-meets}
use Rattle.emit_theory.specs.Built.Roots.{Classes, classes_left}
use Rattle.emit_theory.specs.Sound.{Told, Sound, term_grows}
use Rattle.emit_theory.specs.Comes.{Comes}
use Rattle.emit_theory.specs.Writes.{sound_lines, sound_restored}
use Rattle.emit_theory.specs.Search.Inducting.{prove-cut_comes}
use Rattle.emit_theory.specs.Goal.Needed.{StepMeets}
use Rattle.emit_theory.specs.Goal.Target.{Sensible}
use Rattle.emit_theory.specs.Goal.Derive.{Attemptable, derive_comes}
use Rattle.emit_theory.specs.Whole.Beginning.{begin-left}
use Rattle.emit_theory.specs.Whole.Shown.{AllShown, shown_grow, shown_more}

-- the result of a run that is done
ended : {A : Type 0} (ns ms : List Note) (a b : A) → done ns a ≡ done ms b → a ≡ b
ended ns ms a b e = cc

module _ (P : Pack) (good : Good P) (few : Few P) (c : Classed) (C : Classes P c) (S : Setting) (same-pack : S.pack ≡ P)
    (attempts : (i : ℕ) → i < length c.roots → Attemptable P (get_or c.roots i no_root).step)
    (target : (i : ℕ) → i < length c.roots → let r = get_or c.roots i no_root in TermOf P (open_sort P S.sort (is_open c r) r.values) (term_of c.built.store (class_of c r).conclusion) prop)
    (conclusion : (i : ℕ) → i < length c.roots → (class_of c (get_or c.roots i no_root)).conclusion < length c.built.store) where
  -- between two goals
  record Going (w : Emission) : Type 0 where
    classed : w.classed ≡ c
    setting : w.setting ≡ S
    sound : Sound S w.state
    grows : Grows c.built.store w.state.kept.store
    shown : AllShown w.state.undone.lines w.state.kept.store w.goals w.results

  -- an attempt at a goal
  try_comes : (t : Target) (i : ℕ) (e : Emitter) → i < length c.roots → Sound S e → Sensible S e t → Comes S (λ d e₁. Told e₁.undone.lines e₁.kept.store d.judgment d.line) (try_goal S t (get_or c.roots i no_root)) e
  unfolding try_goal
  try_comes t i e l s k =
      let G = subst Good (sym same-pack) good in
      let F = subst Few (sym same-pack) few in
      let r = get_or c.roots i no_root in
      derive_comes S G F (prove-cut_comes S G F) t r.step e s (subst (λ x. Attemptable x r.step) (sym same-pack) (attempts i l)) k

  -- its goal line and its result line
  goal-done : (i : ℕ) (w : Emission) (opened rigid : ℕ) (d : Derived) (e : Emitter) → Going w → Grows w.state.undone.lines e.undone.lines → Grows w.state.kept.store e.kept.store → Sound S e
      → Told e.undone.lines e.kept.store d.judgment d.line → (ns : List Note) (v : Emission) → goal_done i w opened rigid d e ≡ done ns v → Going v
  unfolding goal_done
  goal-done i w opened rigid d e W G H s T ns v q = run_then _ _ ns v q (λ _ u ks one end.
      let g : GoalLine = record { goal = i; judgment = only_l (term_of e.kept.store d.judgment) } in
      let made = ended [] ks (record { classed = w.classed; setting = w.setting; state = e; goals = w.goals ++ (g ∷ []); results = w.results ++ (result_line i d.line ∷ []); opened = opened; rigid = rigid }) v end in
      subst Going made (record {
        classed = W.classed;
        setting = W.setting;
        sound = s;
        grows = grows_then c.built.store w.state.kept.store e.kept.store W.grows H;
        shown = shown_more e.undone.lines e.kept.store w.goals w.results g (result_line i d.line) (shown_grow w.state.undone.lines e.undone.lines w.state.kept.store e.kept.store G H w.goals w.results W.shown) (
            record { pattern = d.judgment; number = d.line; result = refl; told = T; judgment = refl });
      }))

  -- what was open is sensible in every later state
  open_sensible : (i : ℕ) → i < length c.roots → (e : Emitter) → Grows c.built.store e.kept.store → let r = get_or c.roots i no_root in Sensible S e (as_open (class_of c r).conclusion (is_open c r) r.values)
  open_sensible i l e G =
      let r = get_or c.roots i no_root in
      let k = conclusion i l in
      let g = grows_long c.built.store e.kept.store G in
      let t = target i l in
      (omega arith, subst (λ x. TermOf x (open_sort x S.sort (is_open c r) r.values) (term_of e.kept.store (class_of c r).conclusion) prop) (sym same-pack) (rw (term_grows c.built.store e.kept.store G (class_of c r).conclusion k) t))

  -- the two attempts, in a state that is given, as emit_goal has them
  goal-tried : (i : ℕ) (w : Emission) → i < length c.roots → Going w → (ns : List Note) (v : Emission) → let r = get_or c.roots i no_root in
      (try_goal S (as_open (class_of c r).conclusion (is_open c r) r.values) r w.state >>= λ first. elim first.result as (λ _. Run Emission) [
        | some d ↦ goal_done i w (suc w.opened) w.rigid d first.state
        | none ↦ try_goal S as_ground r (restored w.state first.state) >>= λ second. or_else second.result (Ground i) >>= λ d. goal_done i w w.opened (suc w.rigid) d second.state
      ]) ≡ done ns v → Going v
  goal-tried i w l W ns v q =
      let r = get_or c.roots i no_root in
      let open-target = as_open (class_of c r).conclusion (is_open c r) r.values in
      let A = try_comes open-target i w.state l W.sound (open_sensible i l w.state W.grows) in
      run_then _ _ ns v q (λ ms first ks one more.
      let is-first : first ≡ record { result = A.result; state = A.state } = ended ms A.notes first (record { result = A.result; state = A.state }) (sym one ∙ A.is_so) in
      go A A.result refl ks (subst (λ (x : Tried Derived). (elim x.result as (λ _. Run Emission) [
        | some d ↦ goal_done i w (suc w.opened) w.rigid d x.state
        | none ↦ try_goal S as_ground r (restored w.state x.state) >>= λ second. or_else second.result (Ground i) >>= λ d. goal_done i w w.opened (suc w.rigid) d second.state
      ]) ≡ done ks v) is-first more))
    where
      go : (A : Comes S (λ d e₁. Told e₁.undone.lines e₁.kept.store d.judgment d.line) (try_goal S (as_open (class_of c (get_or c.roots i no_root)).conclusion (is_open c (get_or c.roots i no_root)) (get_or c.roots i no_root).values) (get_or c.roots i no_root)) w.state)
          (o : Option Derived) → A.result ≡ o → (ks : List Note) → (elim A.result as (λ _. Run Emission) [
            | some d ↦ goal_done i w (suc w.opened) w.rigid d A.state
            | none ↦ try_goal S as_ground (get_or c.roots i no_root) (restored w.state A.state) >>= λ second. or_else second.result (Ground i) >>= λ d. goal_done i w w.opened (suc w.rigid) d second.state
          ]) ≡ done ks v → Going v
      go A (some d) z ks e = goal-done i w (suc w.opened) w.rigid d A.state W A.grew.lines A.grew.store A.sound (A.holds d z) ks v (rw z at e)
      go A none z ks e =
          let base = restored w.state A.state in
          let s = sound_restored S w.state W.sound A.state A.grew A.sound in
          let B = try_comes as_ground i base l s tt in
          run_then _ _ ks v (rw z at e) (λ ms second ks₂ two more. run_then _ _ ks₂ v more (λ ms₂ d ks₃ there end.
          let is-second : second ≡ record { result = B.result; state = B.state } = ended ms B.notes second (record { result = B.result; state = B.state }) (sym two ∙ B.is_so) in
          let o : B.result ≡ some d = ap (λ (x : Tried Derived). x.result) (sym is-second) ∙ there_is second.result (Ground i) ms₂ d there in
          goal-done i w w.opened (suc w.rigid) d B.state W B.grew.lines (grows_then w.state.kept.store A.state.kept.store B.state.kept.store A.grew.store B.grew.store) B.sound (B.holds d o) ks₃ v
          (subst (λ (x : Tried Derived). goal_done i w w.opened (suc w.rigid) d x.state ≡ done ks₃ v) is-second end)))

  goal_emitted : (i : ℕ) (w : Emission) → i < length c.roots → Going w → (ns : List Note) (v : Emission) → emit_goal i w ≡ done ns v → Going v
  unfolding emit_goal
  goal_emitted i w l W ns v q = goal-tried i w l W ns v (subst (λ (x : Classed × Setting). (try_goal x.1 (as_open (class_of x.0 (get_or x.0.roots i no_root)).conclusion (is_open x.0 (get_or x.0.roots i no_root)) (get_or x.0.roots i no_root).values) (get_or x.0.roots i no_root) w.state >>= λ first. elim first.result as (λ _. Run Emission) [
    | some d ↦ goal_done i w (suc w.opened) w.rigid d first.state
    | none ↦ try_goal x.1 as_ground (get_or x.0.roots i no_root) (restored w.state first.state) >>= λ second. or_else second.result (Ground i) >>= λ d. goal_done i w w.opened (suc w.rigid) d second.state
  ]) ≡ done ns v) (ap₂ (λ a b. (a, b)) W.classed W.setting) q)

  goals_emitted : (is : List ℕ) (w : Emission) → Below (length c.roots) is → Going w → (ns : List Note) (v : Emission) → emit_goals is w ≡ done ns v → Going v
  unfolding emit_goals
  goals_emitted [] w b W ns v q = subst Going (ended [] ns w v q) W
  goals_emitted (i ∷ is) w b W ns v q = run_then (emit_goal i w) (λ u. emit_goals is u) ns v q (λ ms u ks one more. goals_emitted is u b.1 (goal_emitted i w b.0 W ms u one) ks v more)

-- the numbers below n are below n
below-up-to : (n m : ℕ) → n ≤ m → Below m (up_to n)
unfolding up_to
below-up-to zero m l = tt
below-up-to (suc n) m l = below_both m (up_to n) (n ∷ []) (below-up-to n m (omega arith)) (omega arith, tt)

-- what emission comes to
pub record WellEmitted (P : Pack) (w : Emission) : Type 0 where
  -- the classes are class building's, and emission's nodes stand behind theirs
  pub classed : (ns : List Note) × (class_run P ≡ done ns w.classed)
  pub patterns : Grows w.classed.built.store w.state.kept.store
  -- patterns are well sorted, and the maps tell the truth
  pub sound : Sound w.setting w.state
  -- the last lines are the result lines, and each names a line that states its goal line's judgment
  pub before : List Line
  pub results : List Line
  pub lines : w.state.undone.lines ≡ before ++ results
  pub shown : AllShown w.state.undone.lines w.state.kept.store w.goals results

-- the result lines behind all others
finished : Emission → Emission
finished v = record { classed = v.classed; setting = v.setting; state = having_lines (v.state.undone.lines ++ v.results) v.state; goals = v.goals; results = []; opened = v.opened; rigid = v.rigid }

finish_is : (v : Emission) (ns : List Note) (w : Emission) → finish v ≡ done ns w → finished v ≡ w
unfolding finish finished ◌>>=◌ behind
finish_is v ns w e = ended _ ns (finished v) w e

-- a goal that may be tried
attemptable : (P : Pack) → Good P → Few P → (c : Classed) → Classes P c → (i : ℕ) → i < length c.roots → is_a_cut P (node_of P (get_or c.roots i no_root).goal.judgment).head ≡ false
    → ((s : ℕ) → Among s (needed_below (length P.steps) P ((get_or c.roots i no_root).step ∷ [])) → StepMeets P s) → Attemptable P (get_or c.roots i no_root).step
unfolding predicate_of
attemptable P good few c C i l uncut meets =
    let r = get_or c.roots i no_root in
    let R = C.roots i (subst (λ n. i < n) C.count l) in
    let j : (step_of P r.step).judgment ≡ r.goal.judgment = R.judgment ∙ ap (λ g. g.judgment) (sym R.goal) in
    record { given = R.given; uncut = ap (λ x. is_a_cut P (node_of P x).head) j ∙ uncut; meets = meets }

module _ (bytes : List ℕ) (P : Pack) (read : parse bytes ≡ fine P) where
  -- whatever emission comes to, of every pack that is read
  pub well_emitted : (ns : List Note) (w : Emission) → emit_run P ≡ done ns w → WellEmitted P w
  unfolding emit_run finished
  well_emitted ns w e =
      let good = parsed_good bytes P read in
      let few = parsed_few bytes P read in
      run_then _ _ ns w e (λ ms₁ c ks₁ one e₁. run_then _ _ ks₁ w e₁ (λ ms₂ b ks₂ two e₂. run_then _ _ ks₂ w e₂ (λ ms₃ v ks₃ three end.
      let C = classes_left P good few ms₁ c one in
      let B = begin-left P good few c C ms₂ b two in
      let S = b.setting in
      let tries : (i : ℕ) → i < length c.roots → Attemptable P (get_or c.roots i no_root).step = λ i l. (let R = C.roots i (subst (λ n. i < n) C.count l) in attemptable P good few c C i l (B.uncut i l) (goal-meets P good few C.building.0 c.built C.building.1 (get_or c.roots i no_root).step R.wanted)) in
      let start : Going P good few c C S B.pack tries B.target B.conclusion b = record { classed = B.classed; setting = refl; sound = B.sound; grows = B.grows; shown = rw (B.nothing_yet.0, B.nothing_yet.1) tt } in
      let k = C.count in
      let G = goals_emitted P good few c C S B.pack tries B.target B.conclusion (up_to (length P.goals)) b (below-up-to (length P.goals) (length c.roots) (omega arith)) start ms₃ v three in
      let ls = v.state.undone.lines in
      let more : Grows ls (ls ++ v.results) = with v.results refl in
      subst (WellEmitted P) (finish_is v ks₃ w end) (record {
        classed = (ms₁, one ∙ ap (done ms₁) (sym G.classed));
        patterns = subst (λ x. Grows x.built.store v.state.kept.store) (sym G.classed) G.grows;
        sound = subst (λ x. Sound x (having_lines (ls ++ v.results) v.state)) (sym G.setting) (sound_lines S v.state G.sound (ls ++ v.results) more);
        before = ls;
        results = v.results;
        lines = refl;
        shown = shown_grow ls (ls ++ v.results) v.state.kept.store v.state.kept.store more (grows_none v.state.kept.store) v.goals v.results G.shown;
      }))))
