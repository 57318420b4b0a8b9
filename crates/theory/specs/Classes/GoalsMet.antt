-- The goals' tests behind class building: on an accepted pack whose classes are exact they all pass, so the run never stops.
use Rattle.std.specs.Prelude.{◌≡◌, refl, true, false, ℕ, zero, suc, ◌<◌}
use Rattle.std.proofs.Common.{sym, ap, ◌∙◌, arith}
use Rattle.std.proofs.Math.Path.{subst}
use mathlib.Core.List.{List, [], ◌∷◌, ◌++◌, map}
use Rattle.std.proofs.Math.Option.{none, some}
use borrow.Author.Tests.{eq-eqb}
use Rattle.std.proofs.Math.ListN.{length, get_or}
use Rattle.definition.specs.Test.{is, see, never, same, same_true, same_refl}
use Rattle.definition.specs.Pack.{Goal, Result, Pack, step_of}
use Rattle.definition.specs.Tree.{tree_of}
use Rattle.definition.specs.Good.{Good, Once, Few}
use Rattle.definition.specs.Verdict.{no_goal, no_result, Met, Accepted, Bound, value_of}
use Rattle.definition.proofs.Laws.Matches.{Agrees, Given, complete}
use Rattle.definition.specs.Store.{nothing, term_of}
use Rattle.definition.specs.Keys.{first_of, needed, keyed}
use Rattle.definition.specs.Run.{Note, done, behind, ◌>>=◌, or_else, need}
use Rattle.definition.specs.Classes.{no_class, Built}
use Rattle.definition.specs.Goals.{Root, result_of, instance_of, test_goal, test_goals}
use Rattle.definition.specs.Calls.{Classed, class_run}
use Rattle.theory.specs.Classes.Steps.{step_derived, Concludes}
use Rattle.theory.specs.Keys.Needed.{Among, among_here, among_there, first-earlier, first-judgment, wanted-needed}
use Rattle.theory.specs.Keys.KeyedLaws.{keyed-kept}
use Rattle.theory.specs.Classes.Built.{BuiltGood}
use Rattle.theory.specs.Classes.AllClasses.{RuleMade, classes_made}

-- the result that is found by a name that one has
record ByName (name : List ℕ) (rs : List Result) : Type 0 where
  at : ℕ
  within : at < length rs
  named : name ≡ (get_or rs at no_result).name
  found : result_of name rs ≡ some (get_or rs at no_result)

-- some result of a name is found where there is one
by_name : (name : List ℕ) (rs : List Result) (i : ℕ) → i < length rs → name ≡ (get_or rs i no_result).name → ByName name rs
unfolding result_of
by_name name [] i h e = absurd (omega arith)
by_name name (r ∷ rs) zero h e =
    let p : same name r.name ≡ true = ap (same name) (sym e) ∙ same_refl name in
    record { at = 0; within = omega arith; named = e; found = rw (p, result_of) }
by_name name (r ∷ rs) (suc i) h e = elim (see (same name r.name)) [
  | is true p ↦ record { at = 0; within = omega arith; named = same_true name r.name p; found = rw (p, result_of) }
  | is false p ↦
      let q = by_name name rs i (omega arith) e in
      record { at = suc q.at; within = omega (arith, q.within); named = q.named; found = rw (p, result_of) q.found }
]

-- names are given once: it is the result in question
pub result_named : (P : Pack) → Once P → (name : List ℕ) (i : ℕ) → i < length P.results → name ≡ (get_or P.results i no_result).name → result_of name P.results ≡ some (get_or P.results i no_result)
result_named P O name i h e =
    let q = by_name name P.results i h e in
    let n : q.at ≡ i = O.results q.at i q.within h (sym q.named ∙ e) in
    q.found ∙ ap (λ (k : ℕ). some (get_or P.results k no_result)) n

-- what a function gives for an element is among what it gives for all
among_map : (f : Result → ℕ) (rs : List Result) (i : ℕ) → i < length rs → Among (f (get_or rs i no_result)) (map f rs)
among_map f [] i h = absurd (omega arith)
among_map f (r ∷ rs) zero h = among_here (f r) (map f rs)
among_map f (r ∷ rs) (suc i) h = among_there (f (get_or rs i no_result)) (f r) (map f rs) (among_map f rs i (omega arith))

-- the first step of a result's judgment is needed
pub result-needed : (P : Pack) → Good P → (i : ℕ) → i < length P.results → Among (first_of P (get_or P.results i no_result).step) (needed P)
unfolding needed
result-needed P G i h =
    let s = (get_or P.results i no_result).step in
    let l = (G.results i h).step in
    let f = first-earlier P s l in
    wanted-needed P (length P.steps) (map (λ (r : Result). first_of P r.step) P.results) (first_of P s) (omega arith) (among_map (λ (r : Result). first_of P r.step) P.results i h)

module _ (P : Pack) (G : Good P) (O : Once P) (A : Accepted P) (b : Built) (B : BuiltGood P (keyed P).words b) (all : length b.classes ≡ length (keyed P).classes) where
  -- a result's judgment is an instance of its class's conclusion
  result_instance : (i : ℕ) → i < length P.results → (n : ℕ) → (step_of P (get_or P.results i no_result).step).judgment ≡ n
      → (values : List Bound) × (instance_of P b (get_or (keyed P).words (first_of P (get_or P.results i no_result).step) 0) n ≡ some values)
  unfolding instance_of value_of
  result_instance i h n e =
      let s = (get_or P.results i no_result).step in
      let l = (G.results i h).step in
      let f = first_of P s in
      let c = get_or (keyed P).words f 0 in
      let o = first-earlier P s l in
      let w = result-needed P G i h in
      let K = keyed-kept P G in
      let C = K.0.classed f (omega (arith, K.1)) w in
      let X = B.classes c (omega (arith, C.0)) in
      let is-n = first-judgment P s l ∙ e in
      let D = subst (λ (j : ℕ). Concludes P (keyed P).words c (tree_of P j)) is-n (step_derived P G A f (omega arith) w) in
      let N = X.instances (tree_of P n) D in
      let ν = N.assignment in
      let given : n < length P.nodes = subst (λ (j : ℕ). j < length P.nodes) e (G.steps s l).judgment.given in
      let none_agrees : Agrees P ν [] = λ k m v. never (let z : none ≡ some m = v in cc) in
      let none-given : Given P [] = λ k m v. never (let z : none ≡ some m = v in cc) in
      let found = complete P G O ν (term_of b.store (get_or b.classes c no_class).conclusion) n [] given none_agrees none-given N.is in
      (found.values, found.found)

  -- a goal that is met passes its test
  goal-met : (i : ℕ) (g : Goal) → Met P g → (root : Root) × (test_goal P b i g ≡ done [] root)
  unfolding test_goal or_else need ◌>>=◌ behind
  goal-met i g m =
      let r = get_or P.results m.result no_result in
      let named = result_named P O g.name m.result m.given m.name in
      let v = result_instance m.result m.given g.judgment m.judgment in (
        record { goal = g; step = first_of P r.step; class = get_or (keyed P).words (first_of P r.step) 0; values = v.0 },
        rw (named, or_else, eq-eqb (step_of P r.step).judgment g.judgment m.judgment, need, v.1, or_else),
      )

  -- and so do several
  all-met : (i : ℕ) (gs : List Goal) → ((k : ℕ) → k < length gs → Met P (get_or gs k no_goal)) → (noted : List Note) × (roots : List Root) × (test_goals P b i gs ≡ done noted roots)
  unfolding test_goals ◌>>=◌ behind
  all-met i [] m = ([], [], refl)
  all-met i (g ∷ gs) m =
      let first = goal-met i g (m 0 (omega arith)) in
      let rest = all-met (suc i) gs (λ k h. m (suc k) (omega arith)) in
      (rest.0 ++ [], first.0 ∷ rest.1, rw (first.1, rest.2))

  -- the goals' tests pass
  pub goals_met : (noted : List Note) × (roots : List Root) × (test_goals P b 0 P.goals ≡ done noted roots)
  goals_met = all-met 0 P.goals A.goals

-- class building and the goals' tests never stop
pub never_stops : (P : Pack) → Good P → Few P → Once P → Accepted P → length P.steps < nothing → RuleMade P
    → (noted : List Note) × (c : Classed) × (class_run P ≡ done noted c) × (c.pack ≡ P) × BuiltGood P (keyed P).words c.built × (length c.built.classes ≡ length (keyed P).classes)
unfolding class_run ◌>>=◌ behind
never_stops P G F O A few R =
    let M = classes_made P G F few R in
    let N = goals_met P G O A M.built M.good M.all in
    (M.noted ++ (N.0 ++ []), record { pack = P; built = M.built; roots = N.1 }, rw (M.is, N.2), refl, M.good, M.all)
