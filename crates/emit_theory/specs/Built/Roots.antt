-- What class building and the goals' tests leave: a well-sorted store, and for each goal a step of its judgment and values of its class's
-- conclusion.
use Rattle.std.specs.Prelude.{◌≡◌, refl, true, false}
use Rattle.std.proofs.Common.{sym, ◌∙◌, arith}
use Rattle.std.proofs.Math.Path.{ap}
use mathlib.Core.List.{List, [], ◌∷◌}
use Rattle.std.proofs.Math.Option.{some}
use Prim.Native.Nat.{ℕ, zero, suc, ◌<◌}
use borrow.Author.Tests.{eqb-true}
use Rattle.std.proofs.Math.ListN.{length, get_or}
use Rattle.definition.specs.Test.{is, see, never, same}
use Rattle.definition.specs.Pack.{no_node, Goal, Result, Pack, step_of}
use Rattle.definition.specs.Good.{Good, Few}
use Rattle.definition.specs.Verdict.{no_goal, no_result, matches}
use Rattle.definition.specs.Store.{is_variable, term_of}
use Rattle.definition.specs.Run.{Note, done}
use Rattle.definition.specs.Keys.{first_of, needed, keyed}
use Rattle.definition.specs.Classes.{no_class, Built, build_classes}
use Rattle.definition.specs.Goals.{Root, result_of, instance_of, test_goal, test_goals}
use Rattle.definition.specs.Calls.{Classed, class_run}
use Rattle.theory.specs.Keys.Needed.{Among, first-earlier, first-judgment}
use Rattle.theory.specs.Keys.KeyedLaws.{keyed-kept}
use Rattle.theory.specs.Classes.GoalsMet.{result-needed}
use Rattle.emission.specs.Emit.{no_root}
use Rattle.emit_theory.specs.Stores.{SortedStore}
use Rattle.emit_theory.specs.Built.Runs.{run_then, there_is, test_holds}
use Rattle.emit_theory.specs.Built.Whole.{classes_sorted}

-- a goal whose tests passed
pub record Rooted (P : Pack) (b : Built) (g : Goal) (r : Root) : Type 0 where
  pub goal : r.goal ≡ g
  pub given : r.step < length P.steps
  pub wanted : Among r.step (needed P)
  pub judgment : (step_of P r.step).judgment ≡ g.judgment
  pub class : r.class < length b.classes
  pub values : matches P (term_of b.store (get_or b.classes r.class no_class).conclusion) g.judgment [] ≡ some r.values

-- a result that is found is one of them
found_given : (name : List ℕ) (rs : List Result) (r : Result) → result_of name rs ≡ some r → (k : ℕ) × (k < length rs) × (get_or rs k no_result ≡ r)
unfolding result_of
found_given name [] r e = never (cc)
found_given name (x ∷ rs) r e = elim (see (same name x.name)) [
  | is true t ↦ let q : some x ≡ some r = rw (t, result_of) at e in (0, omega arith, cc)
  | is false t ↦ let F = found_given name rs r (rw (t, result_of) at e) in (suc F.0, omega (arith, F.1), F.2)
]

module _ (P : Pack) (good : Good P) (b : Built) (all : length b.classes ≡ length (keyed P).classes) where
  goal_rooted : (i : ℕ) (g : Goal) (ns : List Note) (r : Root) → test_goal P b i g ≡ done ns r → Rooted P b g r
  unfolding test_goal instance_of
  goal_rooted i g ns r e = run_then _ _ ns r e (λ _ x ks one more. run_then _ _ ks r more (λ _ u ks₂ two more₂. run_then _ _ ks₂ r more₂ (λ _ vs ks₃ three end.
      let F = found_given g.name P.results x (there_is (result_of g.name P.results) _ _ x one) in
      let l = (good.results F.0 F.1).step in
      let w = result-needed P good F.0 F.1 in
      let K = keyed-kept P good in
      let is_x = F.2 in
      let s = (get_or P.results F.0 no_result).step in
      let o = first-earlier P s l in
      let C = K.0.classed (first_of P s) (omega (arith, K.1)) w in
      let q : (step_of P x.step).judgment ≡ g.judgment = eqb-true (step_of P x.step).judgment g.judgment (test_holds _ _ _ u two) in
      let same_step : s ≡ x.step = ap (λ (y : Result). y.step) is_x in
      let made : record { goal = g; step = first_of P x.step; class = get_or (keyed P).words (first_of P x.step) 0; values = vs } ≡ r = cc in
      rw (← made) (record {
        goal = refl;
        given = rw (← same_step) (omega arith);
        wanted = rw (← same_step) w;
        judgment = ap (λ y. (step_of P (first_of P y)).judgment) (sym same_step) ∙ first-judgment P s l ∙ ap (λ y. (step_of P y).judgment) same_step ∙ q;
        class = rw (← same_step) (omega (arith, C.0));
        values = there_is _ _ _ vs three;
      }))))

  goals_rooted : (i : ℕ) (gs : List Goal) (ns : List Note) (rs : List Root) → test_goals P b i gs ≡ done ns rs → (length rs ≡ length gs) × ((k : ℕ) → k < length gs → Rooted P b (get_or gs k no_goal) (get_or rs k no_root))
  unfolding test_goals
  goals_rooted i [] ns rs e = let q : [] ≡ rs = cc in rw (← q) (refl, λ k l. absurd (omega arith))
  goals_rooted i (g ∷ gs) ns rs e = run_then _ _ ns rs e (λ ms r ks one more. run_then _ _ ks rs more (λ ms₂ qs ks₂ two end.
      let q : r ∷ qs ≡ rs = cc in
      let R = goal_rooted i g ms r one in
      let Rs = goals_rooted (suc i) gs ms₂ qs two in
      rw (← q) (ap suc Rs.0, each r qs R Rs.1)))
    where
      each : (r : Root) (qs : List Root) → Rooted P b g r → ((k : ℕ) → k < length gs → Rooted P b (get_or gs k no_goal) (get_or qs k no_root)) → (k : ℕ) → k < suc (length gs) → Rooted P b (get_or (g ∷ gs) k no_goal) (get_or (r ∷ qs) k no_root)
      each r qs R Rs zero l = R
      each r qs R Rs (suc k) l = Rs k (omega arith)

-- what a run of class building leaves
pub record Classes (P : Pack) (c : Classed) : Type 0 where
  pub pack : c.pack ≡ P
  pub building : (ns : List Note) × (build_classes P ≡ done ns c.built)
  pub store : SortedStore P c.built.store
  pub conclusions : (k : ℕ) → k < length c.built.classes → (get_or c.built.classes k no_class).conclusion < length c.built.store
  pub applied : (k : ℕ) → k < length c.built.classes → is_variable (get_or c.built.store (get_or c.built.classes k no_class).conclusion no_node) ≡ false
  pub count : length c.roots ≡ length P.goals
  pub roots : (k : ℕ) → k < length P.goals → Rooted P c.built (get_or P.goals k no_goal) (get_or c.roots k no_root)

pub classes_left : (P : Pack) → Good P → Few P → (ns : List Note) (c : Classed) → class_run P ≡ done ns c → Classes P c
unfolding class_run
classes_left P good few ns c e = run_then _ _ ns c e (λ ms b ks one more. run_then _ _ ks c more (λ ms₂ rs ks₂ two end.
    let q : record { pack = P; built = b; roots = rs } ≡ c = cc in
    let B = classes_sorted P good few ms b one in
    let R = goals_rooted P good b B.1 0 P.goals ms₂ rs two in
    rw (← q) (record { pack = refl; building = (ms, one); store = B.0.store; conclusions = B.0.within; applied = B.0.applied; count = R.0; roots = R.1 })))
