-- A rule's class as it is made: class building meets no refusal, and the conclusion is exact.
use Rattle.std.specs.Prelude.{◌≡◌, Bool, true, ℕ, suc, ◌<◌}
use Rattle.std.proofs.Math.Path.{refl}
use Rattle.std.proofs.Common.{sym, ap, ap₂, ◌∙◌, subst, arith}
use Rattle.std.proofs.Math.Bool.{false, not}
use mathlib.Core.List.{List, [], ◌∷◌, ◌++◌, map}
use Rattle.std.proofs.Math.Option.{Option, some}
use Rattle.std.proofs.Math.ListN.{length, get_or}
use Rattle.definition.specs.Test.{never, all}
use Rattle.definition.specs.Pack.{prop, Terms, nil, cons, Rule, no_node, Pack, rule_of, step_of}
use Rattle.definition.specs.Tree.{Tree, tree_then, turn, turns}
use Rattle.definition.specs.Verdict.{Bound, judgments, Accepted}
use Rattle.definition.specs.Good.{Below, Judgments, GoodRule, Good, Once, Few}
use Rattle.definition.proofs.Laws.Grow.{below_more}
use Rattle.definition.proofs.Laws.Agreement.{judged, judgments-pick, judged-below}
use Rattle.definition.specs.Store.{nothing, is_variable}
use Rattle.definition.specs.Graph.{vertex, circular, ends, up_to}
use Rattle.definition.specs.Analysis.{Resolved, instantiate, valued, resolve}
use Rattle.definition.specs.Run.{Note, Run, done, behind, ◌>>=◌, or_else, need}
use Rattle.definition.specs.Keys.{first_of, predicate_of, is_a_cut, rule_key, no_keyed, key_of, keyed}
use Rattle.definition.specs.Classes.{Class, Built, Premises, take_premises, make_rule, add_class, count_of, is_fixed}
use Rattle.definition.specs.declared.Refusal.{Refusal}
use Rattle.theory.specs.Derive.{InstanceOf, Fits, Derivation, leaf, by, Shape, Shapes}
use Rattle.theory.specs.Classes.Steps.{AllJudged, refs-judged}
use Rattle.theory.specs.Keys.Needed.{first-earlier}
use Rattle.theory.specs.Keys.Keyed.{get_d_any, firsts-below}
use Rattle.theory.specs.Keys.KeyedLaws.{keyed-kept}
use Rattle.theory.specs.Unification.Solve.{trees_at}
use Rattle.theory.specs.Copies.Push.{Extends}
use Rattle.theory.specs.Copies.Instantiate.{values_of}
use Rattle.theory.specs.Unification.Circle.{solved_acyclic, acyclic_ends}
use Rattle.theory.specs.Patterns.Interned.{grows_then}
use Rattle.theory.specs.Patterns.Valued.{Found, agreeing_none, valued_found}
use Rattle.theory.specs.Classes.Premise.{turn-same}
use Rattle.theory.specs.Classes.Built.{Exact, exact_grows, BuiltGood, class_step}
use Rattle.theory.specs.Classes.CutClass.{Makes, add-made}
use Rattle.theory.specs.Classes.AllClasses.{RuleMade}
use Rattle.theory.specs.Classes.Premises.{MatchesAll, matches_same, TakenAll, premises-taken}
use Rattle.theory.specs.Classes.FirstStep.{FirstStep, rule-key, first_step}
use Rattle.theory.specs.Patterns.Entries.{resolve_keeps}
use Rattle.theory.specs.Copies.Variables.{variables_of, length_of, variables_formed, variables_solved, up_to_at, variables_environment}
use Rattle.theory.specs.Patterns.ReadBack.{sorts_by, ReadBack}
use Rattle.theory.specs.Classes.RuleExact.{classes_of, concluded_matches, back, read, instance_derived, rule_instance}

-- the key of a step that is not cut
key-rule : (P : Pack) (words : List ℕ) (s : ℕ) → is_a_cut P (predicate_of P s) ≡ false → key_of P words s ≡ rule_key (step_of P s).rule (map (λ r. get_or words (first_of P r) nothing) (step_of P s).refs)
unfolding key_of
key-rule P words s c = rw (c, key_of)

key-parts : {r q : ℕ} {cs ds : List ℕ} → rule_key r cs ≡ rule_key q ds → (r ≡ q) × (cs ≡ ds)
key-parts e = (cc, cc)

-- the classes in a key are those of the refs
key_classes : (P : Pack) (words : List ℕ) → length words ≡ length P.steps → (refs : List ℕ) → Below (length P.steps) refs → map (λ r. get_or words (first_of P r) nothing) refs ≡ classes_of P words refs
key_classes P words w [] b = refl
key_classes P words w (r ∷ refs) b = let f = first-earlier P r b.0 in ap₂ ◌∷◌ (get_d_any words (first_of P r) nothing 0 (omega (arith, b.0))) (key_classes P words w refs b.1)

-- assignments that agree on the rule's variables turn premises into the same judgments
premises-same : (P : Pack) (vars : List ℕ) (ν μ : ℕ → Tree) → ((k : ℕ) → k < length vars → ν k ≡ μ k) → (ts : Terms) → Judgments P vars ts → turns ν ts ≡ turns μ ts
unfolding turn
premises-same P vars ν μ e nil H = refl
premises-same P vars ν μ e (cons t ts) H = ap₂ tree_then (turn-same P vars ν μ e t prop H.0) (premises-same P vars ν μ e ts H.1)

-- a step's refs come before the last step
refs-below : (P : Pack) → Good P → (s : ℕ) → s < length P.steps → Below (length P.steps) (step_of P s).refs
refs-below P G s l = below_more s (length P.steps) (step_of P s).refs (omega arith) (G.steps s l).earlier

-- what is made is made behind notes too
behind-made : (P : Pack) (words : List ℕ) (b : Built) (ns : List Note) (r : Run Built) → Makes P words b r → Makes P words b (behind ns r)
unfolding behind
behind-made P words b ns r M = record { noted = ns ++ M.noted; built = M.built; is = rw M.is; good = M.good; longer = M.longer }

-- what is made behind a part of the run that is done
done-made : {A : Type 0} (P : Pack) (words : List ℕ) (b : Built) (r : Run A) (f : A → Run Built) (ns : List Note) (a : A) → r ≡ done ns a → Makes P words b (f a) → Makes P words b (r >>= f)
unfolding ◌>>=◌
done-made P words b r f ns a e M = rw (e, ◌>>=◌) (behind-made P words b ns (f a) M)

need-done : (t : Bool) (r : Refusal) → t ≡ true → need t r ≡ done [] tt
unfolding need
need-done t r e = rw (e, need)

some_done : {A : Type 0} (o : Option A) (a : A) (r : Refusal) → o ≡ some a → or_else o r ≡ done [] a
unfolding or_else
some_done o a r e = rw (e, or_else)

all-below : (f : ℕ → Bool) (n : ℕ) (xs : List ℕ) → ((x : ℕ) → x < n → f x ≡ true) → Below n xs → all f xs ≡ true
unfolding all
all-below f n [] e l = refl
all-below f n (x ∷ xs) e l = rw (e x l.0, all-below f n xs e l.1)

module _ (P : Pack) (G : Good P) (F : Few P) (few : length P.steps < nothing) (O : Once P) (A : Accepted P) (b : Built) (B : BuiltGood P (keyed P).words b)
    (low : length b.classes < length (keyed P).classes) (s : ℕ) (X : FirstStep P A (keyed P).words b s) where
  abbrev words : List ℕ
  words = (keyed P).words

  abbrev rule : Rule
  rule = rule_of P (step_of P s).rule

  abbrev refs : List ℕ
  refs = map (first_of P) (step_of P s).refs

  abbrev env : List ℕ
  env = up_to (length rule.vars)

  abbrev start : Premises
  start = record { graph = variables_of rule.vars; instances = []; judgments = []; copies = [] }

  R : GoodRule P (rule_of P (step_of P s).rule)
  R = G.rules (step_of P s).rule (G.steps s X.given).rule

  abbrev ν : ℕ → Tree
  ν = (A.steps s X.given).assignment

  own : (k : ℕ) → k < length rule.vars → ν k ≡ values_of env ν k
  own k h = sym (ap ν (up_to_at (length rule.vars) k h))

  matching : MatchesAll words b (values_of env ν) rule.premises refs
  matching = matches_same P rule.vars words b ν (values_of env ν) own rule.premises refs R.premises X.matching

  T : TakenAll P rule.vars env words b rule.premises refs start (take_premises P s words b env rule.premises refs start)
  T = premises-taken P F s rule.vars env words b B rule.premises refs start R.premises X.made X.counted (variables_formed P rule.vars) (variables_environment P rule.vars) ν (variables_solved rule.vars ν) matching

  W : Extends ν (variables_of rule.vars) T.result.graph
  W = T.extends ν (variables_solved rule.vars ν) matching

  -- the first step's own judgments are the trees of its instances
  trees_are : trees_at W.solution T.more ≡ judgments P (step_of P s).refs
  trees_are =
      let n = length_of rule.vars in
      T.are W.solution W.solves
      ∙ premises-same P rule.vars (values_of env W.solution) ν (λ k h. ap W.solution (up_to_at (length rule.vars) k h) ∙ W.agrees k (omega arith)) rule.premises R.premises
      ∙ (A.steps s X.given).premises

  acyclic : circular T.result.graph ≡ false
  acyclic = solved_acyclic W.solution P T.result.graph T.formed W.solves

  found : Found P W.solution (valued (suc (length T.result.graph)) P T.result.graph T.result.instances T.result.judgments [])
  found =
      let g = T.result.graph in
      let below = refs-below P G s X.given in
      let K = acyclic_ends g acyclic in
      rw (T.instances, T.judged) (valued_found P G O g T.formed W.solution W.solves (suc (length g)) T.more (judged P refs) [] T.inside (judged-below P G refs (firsts-below P (length P.steps) (step_of P s).refs (omega arith) below))
      (all-below (λ x. ends (suc (length g)) g x) (length g) T.more K T.inside) (agreeing_none P W.solution) (trees_are ∙ X.firsts ∙ judgments-pick P refs))

  judged-all : AllJudged P (trees_at W.solution T.more)
  judged-all = subst (AllJudged P) (sym trees_are) (refs-judged P G (step_of P s).refs (refs-below P G s X.given))

  -- the conclusion read back, for whatever ground values
  module _ (values : List Bound) where
    abbrev conclusion : Resolved
    conclusion = back P G F words b B s X.given X.uncut X.word X.made X.counted [] [] (take_premises P s words b env rule.premises refs start) T W.solution W.solves judged-all values

    -- a derivation of the class's shape concludes an instance
    shape_instance : {j : Tree} (d : Derivation P j) → Shape P words d (length b.classes) → InstanceOf P conclusion.state.store (get_or conclusion.patterns 0 0) j
    shape_instance (leaf p ts h cut) Q =
        let c = class_step P G few (length b.classes) low Q.0 Q.1 in
        let o = class_step P G few (length b.classes) low s (record { given = X.given; word = X.word }) in
        let u = rule-key P words Q.0 (step_of P s).rule (map (λ r. get_or words (first_of P r) nothing) (step_of P s).refs) (c.1 ∙ sym o.1 ∙ key-rule P words s X.uncut) in
        never (let z : true ≡ false = sym cut ∙ ap (is_a_cut P) (sym Q.2) ∙ u in cc)
    shape_instance (by {j} {js} r μ l fp fc ep ec ds) Q =
        let c = class_step P G few (length b.classes) low Q.0 Q.1 in
        let o = class_step P G few (length b.classes) low s (record { given = X.given; word = X.word }) in
        let k = key-parts (sym (key-rule P words Q.0 Q.2) ∙ c.1 ∙ sym o.1 ∙ key-rule P words s X.uncut) in
        let e : r ≡ (step_of P s).rule = sym Q.3 ∙ k.0 in
        let w = (keyed-kept P G).1 in
        let cs = sym (key_classes P words w (step_of P Q.0).refs (refs-below P G Q.0 Q.1.given)) ∙ k.1 ∙ key_classes P words w (step_of P s).refs (refs-below P G s X.given) in
        let ps : turns μ rule.premises ≡ js = subst (λ (x : ℕ). turns μ (rule_of P x).premises ≡ js) e ep in
        let q : turn μ rule.conclusion ≡ j = subst (λ (x : ℕ). turn μ (rule_of P x).conclusion ≡ j) e ec in
        let f : Fits P rule.vars μ rule.conclusion = subst (λ (x : ℕ). Fits P (rule_of P x).vars μ (rule_of P x).conclusion) e fc in
        let m = concluded_matches P words b B μ rule.premises (step_of P s).refs X.made ds (subst (Shapes P words ds) cs Q.4) ps in
        rule_instance P G F words b B s X.given X.uncut X.word X.made X.counted [] [] (take_premises P s words b env rule.premises refs start) T W.solution W.solves judged-all values μ f m j q

    read_it : ReadBack P (instantiate rule.conclusion env T.result.graph).graph (instantiate rule.conclusion env T.result.graph).at prop b.store conclusion
    read_it = read P G F words b B s X.given X.uncut X.word X.made X.counted [] [] (take_premises P s words b env rule.premises refs start) T W.solution W.solves judged-all values

    exact : Exact P words conclusion.state.store (get_or conclusion.patterns 0 0) (length b.classes)
    exact = record {
      sorts = sorts_by (instantiate rule.conclusion env T.result.graph).graph conclusion.state.numbering;
      sorted = read_it.sorted;
      derived = instance_derived P G F words b B s X.given X.uncut X.word X.made X.counted [] [] (take_premises P s words b env rule.premises refs start) T W.solution W.solves judged-all values;
      instances = λ j c. shape_instance c.0 c.1;
    }

    -- whatever the class's other figures, it is added with an exact conclusion
    added : (x : Class) (xs : List ℕ) → x.conclusion ≡ get_or conclusion.patterns 0 0
        → Makes P words b (add_class b (resolve (suc (length (instantiate rule.conclusion env T.result.graph).graph)) P (instantiate rule.conclusion env T.result.graph).graph values false xs conclusion.state).state.store x)
    added x xs e =
        let g = (instantiate rule.conclusion env T.result.graph).graph in
        let store = (resolve (suc (length g)) P g values false xs conclusion.state).state.store in
        let Z = (resolve_keeps P g values false (suc (length g)) xs conclusion.state).0 in
        add-made P words b store x B (grows_then b.store conclusion.state.store store read_it.grows Z.grows) (Z.earlier read_it.earlier) (Z.once (read_it.once B.once))
        (rw e (exact_grows P words conclusion.state.store store (get_or conclusion.patterns 0 0) (length b.classes) read_it.earlier Z.grows exact))

  -- the class is made
  step-made : Makes P words b (make_rule P s words b)
  unfolding make_rule
  step-made =
      let g = (instantiate rule.conclusion env T.result.graph).graph in
      let values = found.values in
      let entries = resolve (suc (length g)) P g values false T.result.copies (conclusion values).state in
      let numbering = entries.state.numbering in
      let class : Class = record {
        conclusion = get_or (conclusion values).patterns 0 0;
        flex = map (λ x. (vertex g x).flex) numbering;
        cut = false;
        fixed = count_of (is_fixed g values numbering) (up_to (length g));
        entries = length entries.patterns;
        renamings = count_of (λ p. is_variable (get_or entries.state.store p no_node)) entries.patterns;
      } in
      done-made P words b _ _ _ tt refl (done-made P words b _ _ T.noted T.result T.is
      (done-made P words b _ _ [] tt (need-done (not (circular T.result.graph)) _ (ap not acyclic))
      (done-made P words b _ _ [] values (some_done _ values _ found.found)
      (done-made P words b _ _ _ tt refl (added values class T.result.copies refl)))))

-- a class of a rule is made, and is exact
pub rule-made : (P : Pack) → Good P → Few P → Once P → Accepted P → length P.steps < nothing → RuleMade P
rule-made P G F O A few b B low r cs key = step-made P G F few O A b B low (get_or (keyed P).classes (length b.classes) no_keyed).first (first_step P G A b B low r cs key)
