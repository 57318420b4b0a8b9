-- A rule's class as it is made, of an accepted step or not: the store stays well sorted, the conclusion is a judgment's pattern, and each premise
-- has the head of its ref's conclusion.
use Rattle.std.specs.Prelude.{◌≡◌, refl, Bool, true, false, List, [], ◌∷◌, ◌++◌, map, ℕ, suc, ◌<◌, length, get_or}
use Rattle.std.proofs.Common.{ap, ◌∙◌, arith}
use Rattle.std.proofs.Math.Option.{Option, some}
use Rattle.std.proofs.lemmas.Bool.{not-true}
use Rattle.definition.specs.Pack.{prop, Term, no_node, Pack, rule_of, step_of}
use Rattle.definition.specs.Good.{Below, Sorted, Good, Few}
use Rattle.definition.specs.Verdict.{Bound}
use Rattle.definition.specs.Store.{is_variable}
use Rattle.definition.specs.Graph.{vertex, circular, up_to}
use Rattle.definition.specs.Analysis.{instantiate, valued, Numbered, resolve}
use Rattle.definition.specs.Run.{Note, Run, done, ◌>>=◌, note, or_else, need}
use Rattle.definition.specs.declared.Refusal.{Refusal}
use Rattle.definition.specs.Keys.{first_of}
use Rattle.definition.specs.Classes.{Built, Premises, make_rule, count_of, is_fixed}
use Rattle.theory.specs.Unification.Kept.{formed_forest}
use Rattle.theory.specs.Copies.Instantiate.{instantiated}
use Rattle.theory.specs.Copies.Variables.{variables_of, variables_formed, variables_environment}
use Rattle.theory.specs.Classes.Premises.{Made}
use Rattle.theory.specs.Making.Circles.{instance}
use Rattle.theory.specs.Making.Firsts.{firsts-given}
use Rattle.emit_theory.specs.Stores.{SortedStore}
use Rattle.emit_theory.specs.Built.Valued.{is_valued, valued_sorted}
use Rattle.emit_theory.specs.Built.Runs.{run_then, there_is, test_holds, each_below}
use Rattle.emit_theory.specs.Built.Heads.{judgment_instance, SameHeads}
use Rattle.emit_theory.specs.Built.Premises.{BuiltSorted, Taken, premises-taken}
use Rattle.emit_theory.specs.Built.ReadsRule.{ReadBack, rule_read}
use Rattle.emit_theory.specs.Built.Adds.{Added, class_added}

-- the premises taken, without a circle and with ground values: the conclusion and the copies' variables read back
rule-back : (P : Pack) → Good P → Few P → (vars : List ℕ) → Below (length P.sorts) vars → (t : Term) → Sorted P vars t prop → (env : List ℕ) (start ps : Premises) → start.instances ≡ [] → start.judgments ≡ [] → start.copies ≡ [] → Taken P vars env start ps
    → circular ps.graph ≡ false → (values : List Bound) → valued (suc (length ps.graph)) P ps.graph ps.instances ps.judgments [] ≡ some values → (st : Numbered) → SortedStore P st.store
    → let top = instantiate t env ps.graph in
    let first = resolve (suc (length top.graph)) P top.graph values true (top.at ∷ []) st in
    ReadBack P prop (get_or first.patterns 0 0) st.store (resolve (suc (length top.graph)) P top.graph values false ps.copies first.state).state.store
rule-back P good few vars B t R env start ps ni nj nc T acyclic values found st S =
    let g = ps.graph in
    let E = T.environment in
    let is : ps.instances ≡ T.instances = T.instances_are ∙ ap (λ (xs : List ℕ). xs ++ T.instances) ni in
    let js : ps.judgments ≡ T.judgments = T.judgments_are ∙ ap (λ (xs : List ℕ). xs ++ T.judgments) nj in
    let cs : ps.copies ≡ T.copies = T.copies_are ∙ ap (λ (xs : List ℕ). xs ++ T.copies) nc in
    let W = valued_sorted P good g T.formed (suc (length g)) T.instances T.judgments values T.asked (rw (is, js) at found) in
    let top = instantiate t env g in
    let I = instantiated P (omega (arith, few.symbols)) vars env t prop g T.formed E R in
    let K = instance P vars env t prop g R E.enough (formed_forest P g T.formed) (λ x m. (T.formed x m).below) E.below in
    let N = judgment_instance P few vars B t R env g in
    rule_read P good few g top.graph T.formed I.formed I.begins (K.acyclic acyclic) values W.0 W.1 top.at prop I.inside I.sort N.0 N.1 ps.copies
    (rw cs (each_below (length g) T.copies T.inside)) (rw cs ((T.closed (is_valued g values) W.1).1 W.2)) st S

-- the parts of a rule's run that is done: premises taken, a test, values found, and what came last
rule-parts : {A B C Q : Type 0} (begun : ℕ) (taken : Run A) (test : A → Bool) (x : Refusal) (found : A → Option B) (y : Refusal) (fill : A → ℕ) (last : A → B → Run C) (ns : List Note) (c : C)
    → (note 3 begun >>= λ u. taken >>= λ a. need (test a) x >>= λ v. or_else (found a) y >>= λ b. note 3 (fill a) >>= λ w. last a b) ≡ done ns c
    → ((a : A) (ms : List Note) → taken ≡ done ms a → test a ≡ true → (b : B) → found a ≡ some b → (ks : List Note) → last a b ≡ done ks c → Q) → Q
rule-parts begun taken test x found y fill last ns c e go =
    run_then _ _ ns c e (λ ms₁ u ks₁ p₁ e₁. run_then _ _ ks₁ c e₁ (λ ms₂ a ks₂ p₂ e₂. run_then _ _ ks₂ c e₂ (λ ms₃ v ks₃ p₃ e₃. run_then _ _ ks₃ c e₃ (λ ms₄ b ks₄ p₄ e₄. run_then _ _ ks₄ c e₄ (λ ms₅ w ks₅ p₅ e₅.
    go a ms₂ p₂ (test_holds (test a) x ms₃ v p₃) b (there_is (found a) y ms₄ b p₄) ks₅ e₅)))))

-- a step's class, its refs' classes being made, and the heads of its rule's premises
pub rule_added : (P : Pack) → Good P → Few P → (s : ℕ) → s < length P.steps → (words : List ℕ) (b : Built) → BuiltSorted P b → Made words b (map (first_of P) (step_of P s).refs)
    → (ns : List Note) (c : Built) → make_rule P s words b ≡ done ns c → Added P b c × SameHeads b (rule_of P (step_of P s).rule).premises (map (λ q. get_or words q 0) (map (first_of P) (step_of P s).refs))
unfolding make_rule
rule_added P good few s l words b B M ns c e =
    let rule = rule_of P (step_of P s).rule in
    let vars = rule.vars in
    let env = up_to (length vars) in
    let R = good.rules (step_of P s).rule (good.steps s l).rule in
    let start : Premises = record { graph = variables_of vars; instances = []; judgments = []; copies = [] } in
    let st : Numbered = record { numbering = []; store = b.store } in
    rule-parts _ _ _ _ _ _ _ _ ns c e (λ ps ms came test values found ks last.
    let taken = premises-taken P good few s vars R.vars env words b B rule.premises (map (first_of P) (step_of P s).refs) start R.premises M (firsts-given P good s l) (variables_formed P vars) (variables_environment P vars) ms ps came in
    let read = rule-back P good few vars R.vars rule.conclusion R.conclusion env start ps refl refl refl taken.0 (not-true (circular ps.graph) test) values found st B.store in
    let top = instantiate rule.conclusion env ps.graph in
    let first = resolve (suc (length top.graph)) P top.graph values true (top.at ∷ []) st in
    let entries = resolve (suc (length top.graph)) P top.graph values false ps.copies first.state in
    let numbering = entries.state.numbering in (
      (class_added P b entries.state.store (record {
        conclusion = get_or first.patterns 0 0;
        flex = map (λ x. (vertex top.graph x).flex) numbering;
        cut = false;
        fixed = count_of (is_fixed top.graph values numbering) (up_to (length top.graph));
        entries = length entries.patterns;
        renamings = count_of (λ p. is_variable (get_or entries.state.store p no_node)) entries.patterns;
      }) B read.grows read.sorted read.within read.sort read.applied ks c last).0,
      taken.1,
    ))
