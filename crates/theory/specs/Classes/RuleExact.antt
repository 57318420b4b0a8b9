-- The conclusion of a rule's class: its instances are just what derivations by the rule, over the refs' classes, conclude.
use Rattle.std.specs.Prelude.{◌≡◌, true, false, ℕ, suc, ◌<◌, length, get_or}
use Rattle.std.proofs.Math.Path.{refl, sym, subst}
use Rattle.std.proofs.Common.{ap, ◌∙◌, arith}
use mathlib.Core.List.{List, [], ◌∷◌, map}
use Rattle.definition.specs.Test.{never}
use Rattle.definition.specs.Pack.{prop, Terms, nil, cons, Rule, Pack, rule_of, step_of}
use Rattle.definition.specs.Tree.{Tree, Trees, turn, turns}
use Rattle.definition.specs.Verdict.{Bound}
use Rattle.definition.specs.Good.{Below, GoodRule, Good, Few}
use Rattle.definition.proofs.Laws.Grow.{below_more}
use Rattle.definition.specs.Graph.{Graph, Grown, up_to}
use Rattle.definition.specs.Analysis.{Resolved, instantiate, resolve}
use Rattle.definition.specs.Run.{Run}
use Rattle.definition.specs.Keys.{first_of, predicate_of, is_a_cut}
use Rattle.definition.specs.Classes.{Built, Premises}
use Rattle.theory.specs.Derive.{SortedTree, Judgment, InstanceOf, Fits, by, Derivations, none as no-derivations, more, Shapes}
use Rattle.theory.specs.Classes.Steps.{Concludes, ConcludesAll, AllJudged, fits_of, fits-judgments, turn_sorted}
use Rattle.theory.specs.Unification.Solve.{trees_at, Solves, sort_at, Begins}
use Rattle.theory.specs.Copies.Begin.{trees_at-same, solves_begins, sort_at_begins}
use Rattle.theory.specs.Copies.Push.{Extends}
use Rattle.theory.specs.Copies.Instantiate.{values_of, Instantiated, instantiated}
use Rattle.theory.specs.Unification.Acyclic.{Ending}
use Rattle.theory.specs.Unification.Circle.{solved_acyclic, acyclic_ends}
use Rattle.theory.specs.Patterns.Instances.{instance_of, instance_sort}
use Rattle.theory.specs.Classes.Premise.{turn-same}
use Rattle.theory.specs.Classes.Built.{BuiltGood}
use Rattle.theory.specs.Classes.Premises.{class_of, Made, MatchesAll, count_is, matches_same, AllProp, TakenAll}
use Rattle.theory.specs.Copies.Variables.{variables_of, length_of, variables_solved, up_to_at}
use Rattle.theory.specs.Unification.Typed.{Typed, TypedAll}
use Rattle.theory.specs.Patterns.ReadBack.{sorts_by, ReadBack, read_one, choose}

-- the classes of refs, by their first steps
abbrev pub classes_of : Pack → List ℕ → List ℕ → List ℕ
classes_of P words refs = map (λ q. get_or words (first_of P q) 0) refs

module _ (P : Pack) (words : List ℕ) (b : Built) (B : BuiltGood P words b) where
  -- premises that match and are judgments are concluded in the shapes of their refs' classes
  matched_concluded : (ν : ℕ → Tree) (ts : Terms) (refs : List ℕ) → Made words b (map (first_of P) refs) → count_is ts (map (first_of P) refs) → MatchesAll words b ν ts (map (first_of P) refs)
      → AllJudged P (turns ν ts) → ConcludesAll P words (classes_of P words refs) (turns ν ts)
  unfolding turn
  matched_concluded ν nil [] M c m J = (no-derivations, tt)
  matched_concluded ν nil (q ∷ refs) M c m J = absurd c
  matched_concluded ν (cons t ts) [] M c m J = absurd c
  matched_concluded ν (cons t ts) (q ∷ refs) M c m J =
      let X = B.classes (get_or words (first_of P q) 0) M.0 in
      let p = (class_of words b (first_of P q)).conclusion in
      let d = X.derived (turn ν t) (instance_of P b.store X.sorts B.earlier m.0.0 p prop X.sorted (turn ν t) (sym m.0.1) J.0) in
      let ds = matched_concluded ν ts refs M.1 c m.1 J.1 in
      (more d.0 ds.0, (d.1, ds.1))

  -- and what is so concluded matches
  pub concluded_matches : (ν : ℕ → Tree) (ts : Terms) (refs : List ℕ) → Made words b (map (first_of P) refs) → {js : Trees} (ds : Derivations P js) → Shapes P words ds (classes_of P words refs) → turns ν ts ≡ js
      → MatchesAll words b ν ts (map (first_of P) refs)
  unfolding turn
  concluded_matches ν nil refs M ds h e = tt
  concluded_matches ν (cons t ts) [] M no-derivations h e = never (cc)
  concluded_matches ν (cons t ts) [] M (more d ds) h e = absurd h
  concluded_matches ν (cons t ts) (q ∷ refs) M no-derivations h e = absurd h
  concluded_matches ν (cons t ts) (q ∷ refs) M (more {j} {js} d ds) h e =
      let X = B.classes (get_or words (first_of P q) 0) M.0 in
      let N = X.instances j (d, h.0) in
      let top : turn ν t ≡ j = cc in
      let rest : turns ν ts ≡ js = cc in
      ((N.assignment, top ∙ sym N.is), concluded_matches ν ts refs M.1 ds h.1 rest)

-- trees that are judgments, each by its node
judged_each : (P : Pack) (g : Graph) (θ : ℕ → Tree) (xs : List ℕ) → AllJudged P (trees_at θ xs) → Below (length g) xs → AllProp P g xs → TypedAll P g θ xs
unfolding trees_at
judged_each P g θ [] J l p = tt
judged_each P g θ (x ∷ xs) J l p = (rw p.0 J.0, judged_each P g θ xs J.1 l.1 p.1)

-- typed nodes that a choice types
chosen_judged : (P : Pack) (g : Graph) (θ ϕ : ℕ → Tree) (xs : List ℕ) → ((x : ℕ) → x < length g → Typed P g θ x → SortedTree P (ϕ x) (sort_at P g x)) → Below (length g) xs → AllProp P g xs → TypedAll P g θ xs → AllJudged P (trees_at ϕ xs)
unfolding trees_at
chosen_judged P g θ ϕ [] each l p t = tt
chosen_judged P g θ ϕ (x ∷ xs) each l p t = (subst (SortedTree P (ϕ x)) p.0 (each x l.0 t.0), chosen_judged P g θ ϕ xs each l.1 p.1 t.1)

-- nodes of a graph are so in one that begins with it
props-begin : (P : Pack) (g h : Graph) → Begins g h → (xs : List ℕ) → Below (length g) xs → AllProp P g xs → AllProp P h xs
props-begin P g h b [] l p = tt
props-begin P g h b (x ∷ xs) l p = (sort_at_begins P g h b x l.0 ∙ p.0, props-begin P g h b xs l.1 p.1)

module _ (P : Pack) (G : Good P) (F : Few P) (words : List ℕ) (b : Built) (B : BuiltGood P words b) (s : ℕ) (given : s < length P.steps) (uncut : is_a_cut P (predicate_of P s) ≡ false)
    (word : get_or words s 0 ≡ length b.classes) (M : Made words b (map (first_of P) (step_of P s).refs))
    (C : count_is (rule_of P (step_of P s).rule).premises (map (first_of P) (step_of P s).refs)) (judgments copies : List ℕ) (o : Run Premises)
    (T : TakenAll P (rule_of P (step_of P s).rule).vars (up_to (length (rule_of P (step_of P s).rule).vars)) words b (rule_of P (step_of P s).rule).premises (map (first_of P) (step_of P s).refs)
    (record { graph = variables_of (rule_of P (step_of P s).rule).vars; instances = []; judgments = judgments; copies = copies }) o)
    (θ : ℕ → Tree) (S : Solves θ T.result.graph) (J : AllJudged P (trees_at θ T.more)) (values : List Bound) where
  abbrev rule : Rule
  rule = rule_of P (step_of P s).rule

  abbrev env : List ℕ
  env = up_to (length rule.vars)

  abbrev pub top : Grown
  top = instantiate rule.conclusion env T.result.graph

  abbrev pub g : Graph
  g = top.graph

  R : GoodRule P (rule_of P (step_of P s).rule)
  R = G.rules (step_of P s).rule (G.steps s given).rule

  I : Instantiated P (up_to (length (rule_of P (step_of P s).rule).vars)) (rule_of P (step_of P s).rule).conclusion prop T.result.graph (instantiate (rule_of P (step_of P s).rule).conclusion (up_to (length (rule_of P (step_of P s).rule).vars)) T.result.graph)
  I = instantiated P (omega (arith, F.symbols)) rule.vars env rule.conclusion prop T.result.graph T.formed T.environment R.conclusion

  W : Extends θ T.result.graph g
  W = I.extends θ S

  K : Ending (suc (length g)) g
  K = acyclic_ends g (solved_acyclic W.solution P g I.formed W.solves)

  abbrev pub back : Resolved
  back = resolve (suc (length g)) P g values true (top.at ∷ []) (record { numbering = []; store = b.store })

  pub read : ReadBack P g top.at prop b.store back
  read = read_one P values g I.formed (length g) top.at prop b.store I.inside I.sort (K top.at I.inside) B.earlier W.solution W.solves

  -- the rule's variables stand for themselves
  own : (ν : ℕ → Tree) (k : ℕ) → k < length rule.vars → values_of env ν k ≡ ν k
  own ν k h = ap ν (up_to_at (length rule.vars) k h)

  -- each instance is concluded
  pub instance_derived : (j : Tree) → InstanceOf P back.state.store (get_or back.patterns 0 0) j → Concludes P words (length b.classes) j
  unfolding trees_at
  instance_derived j N =
      let X = choose P g I.formed (length g) K W.solution W.solves top.at prop b.store back read j N in
      let ϕ = X.solution in
      let ν = values_of env ϕ in
      let Z = solves_begins ϕ T.result.graph g I.begins X.solves in
      let l = below_more (length T.result.graph) (length g) T.more I.begins.longer T.inside in
      let p = props-begin P T.result.graph g I.begins T.more T.inside T.props in
      let same = trees_at-same W.solution θ (length T.result.graph) T.more T.inside W.agrees in
      let judged : AllJudged P (turns ν rule.premises) = subst (AllJudged P) (T.are ϕ Z) (chosen_judged P g W.solution ϕ T.more X.typed l p (judged_each P g W.solution T.more (subst (AllJudged P) (sym same) J) l p)) in
      let ds = matched_concluded P words b B ν rule.premises (step_of P s).refs M C (T.matches ϕ Z) judged in
      let e : turn ν rule.conclusion ≡ j = sym (I.is ϕ X.solves) ∙ X.gives in
      let so = instance_sort P back.state.store (sorts_by g back.state.numbering) read.earlier (get_or back.patterns 0 0) prop read.sorted j N in
      let fp = fits-judgments P rule.vars ν rule.premises R.premises judged in
      let fc = fits_of P rule.vars ν rule.conclusion prop R.conclusion (subst (Judgment P) (sym e) so) in
      (by (step_of P s).rule ν (G.steps s given).rule fp fc refl e ds.0, (s, record { given = given; word = word }, uncut, refl, ds.1))

  -- what the rule concludes over its refs' classes is an instance
  pub rule_instance : (ν : ℕ → Tree) → Fits P rule.vars ν rule.conclusion → MatchesAll words b ν rule.premises (map (first_of P) (step_of P s).refs)
      → (j : Tree) → turn ν rule.conclusion ≡ j → InstanceOf P back.state.store (get_or back.patterns 0 0) j
  rule_instance ν fc m j e =
      let vars = rule.vars in
      let A = T.extends ν (variables_solved vars ν) (matches_same P vars words b ν (values_of env ν) (λ k h. sym (own ν k h)) rule.premises (map (first_of P) (step_of P s).refs) R.premises m) in
      let D = I.extends A.solution A.solves in
      let ϕ = D.solution in
      let n = length_of vars in
      let same : (k : ℕ) → k < length vars → values_of env ϕ k ≡ ν k = λ k h. own ϕ k h ∙ D.agrees k (omega (arith, T.longer)) ∙ A.agrees k (omega arith) in
      let ρ : ℕ → Tree = λ k. ϕ (get_or back.state.numbering k 0) in
      let f = read.meaning ϕ D.solves ρ (record { at = λ k h. refl }) ∙ I.is ϕ D.solves ∙ turn-same P vars (values_of env ϕ) ν same rule.conclusion prop R.conclusion ∙ e in
      instance_of P back.state.store (sorts_by g back.state.numbering) read.earlier ρ (get_or back.patterns 0 0) prop read.sorted j f
      (subst (Judgment P) e (turn_sorted P vars ν rule.conclusion prop R.conclusion fc))
