-- All premises of a rule taken: the graph stays well formed, each instance is a node beside its ref's judgment, what passes with the
-- instances passes with the copies' variables, and each premise has the head of its ref's conclusion.
use Rattle.std.specs.Prelude.{◌≡◌, refl, Bool, true, false, ℕ, ◌<◌, ◌≤◌, length}
use Rattle.std.proofs.Common.{sym, subst, ◌∙◌, arith}
use mathlib.Core.List.{List, [], ◌∷◌, ◌++◌, map, append_assoc, append-nil}
use Rattle.std.proofs.Math.ListN.{get_or}
use Rattle.definition.specs.Pack.{prop, Terms, nil, cons, no_node, Pack, step_of, sort_of}
use Rattle.definition.specs.Store.{is_variable}
use Rattle.definition.specs.Good.{Below, Judgments, Good, Few}
use Rattle.definition.specs.Graph.{Graph, unify, up_to}
use Rattle.definition.specs.Analysis.{copied, copy, instantiate}
use Rattle.definition.specs.Run.{Note, done}
use Rattle.definition.specs.Classes.{no_class, Built, Premises, in_order, take_premises}
use Rattle.definition.specs.declared.Refusal.TheVariants.{Clash}
use Rattle.theory.specs.Unification.Solve.{sort_at, Formed}
use Rattle.theory.specs.Copies.Copying.{pattern_sort}
use Rattle.theory.specs.Copies.Instantiate.{Environment}
use Rattle.theory.specs.Patterns.Fixed.{Each}
use Rattle.theory.specs.Classes.Premises.{Made}
use Rattle.emit_theory.specs.Stores.{SortedStore}
use Rattle.emit_theory.specs.Built.Closed.{Pass, Closed}
use Rattle.emit_theory.specs.Built.Valued.{Asked}
use Rattle.emit_theory.specs.Built.Runs.{run_then, there_is, each_map, each_append}
use Rattle.emit_theory.specs.Built.Heads.{SameHeads}
use Rattle.emit_theory.specs.Built.Premise.{OnePremise, one_premise, premise_head}

-- class building so far: the store is well sorted, and each class's conclusion is a judgment's pattern of it
pub record BuiltSorted (P : Pack) (b : Built) : Type 0 where
  pub store : SortedStore P b.store
  pub within : (c : ℕ) → c < length b.classes → (get_or b.classes c no_class).conclusion < length b.store
  pub judged : (c : ℕ) → c < length b.classes → pattern_sort P b.store (get_or b.classes c no_class).conclusion ≡ prop
  pub applied : (c : ℕ) → c < length b.classes → is_variable (get_or b.store (get_or b.classes c no_class).conclusion no_node) ≡ false

-- what taking premises comes to
pub record Taken (P : Pack) (vars env : List ℕ) (ps r : Premises) : Type 0 where
  pub formed : Formed P r.graph
  pub longer : length ps.graph ≤ length r.graph
  pub sorts : (z : ℕ) → z < length ps.graph → sort_at P r.graph z ≡ sort_at P ps.graph z
  pub environment : Environment P vars env r.graph
  pub instances : List ℕ
  pub judgments : List ℕ
  pub copies : List ℕ
  pub instances_are : r.instances ≡ ps.instances ++ instances
  pub judgments_are : r.judgments ≡ ps.judgments ++ judgments
  pub copies_are : r.copies ≡ ps.copies ++ copies
  pub asked : Asked P r.graph instances judgments
  pub inside : Each (λ y. y < length r.graph) copies
  pub closed : (H : ℕ → Bool) → Closed H r.graph → Closed H ps.graph × (Pass H instances → Pass H copies)

-- nothing is taken
nothing-taken : (P : Pack) (vars env : List ℕ) (ps : Premises) → Formed P ps.graph → Environment P vars env ps.graph → Taken P vars env ps ps
nothing-taken P vars env ps F E = record {
  formed = F;
  longer = omega arith;
  sorts = λ z l. refl;
  environment = E;
  instances = [];
  judgments = [];
  copies = [];
  instances_are = sym (append-nil ps.instances);
  judgments_are = sym (append-nil ps.judgments);
  copies_are = sym (append-nil ps.copies);
  asked = tt;
  inside = tt;
  closed = λ H C. (C, λ p. tt);
}

-- one premise, and then the others
first_taken : (P : Pack) (vars env : List ℕ) (ps : Premises) (g : Graph) (x n : ℕ) (ys : List ℕ) (r : Premises) → n < length P.nodes → sort_of P n ≡ prop → OnePremise P vars env ps.graph x ys g
    → Taken P vars env (record { graph = g; instances = ps.instances ++ (x ∷ []); judgments = ps.judgments ++ (n ∷ []); copies = ps.copies ++ ys }) r → Taken P vars env ps r
first_taken P vars env ps g x n ys r hn pn O R =
    let l = R.longer in
    record {
      formed = R.formed;
      longer = omega (arith, O.longer);
      sorts = λ z m. R.sorts z (omega (arith, O.longer)) ∙ O.sorts z m;
      environment = R.environment;
      instances = x ∷ R.instances;
      judgments = n ∷ R.judgments;
      copies = ys ++ R.copies;
      instances_are = R.instances_are ∙ append_assoc ps.instances (x ∷ []) R.instances;
      judgments_are = R.judgments_are ∙ append_assoc ps.judgments (n ∷ []) R.judgments;
      copies_are = R.copies_are ∙ append_assoc ps.copies ys R.copies;
      asked = (omega (arith, O.inside), hn, pn ∙ sym (R.sorts x O.inside ∙ O.sort), R.asked);
      inside = each_append (λ y. y < length r.graph) ys R.copies (each_map (λ y. y < length g) (λ y. y < length r.graph) (λ y m. omega arith) ys O.variables) R.inside;
      closed = λ H C.
          let D = R.closed H C in
          let B = O.closed H D.0 in
          (B.0, λ p. each_append (λ y. H y ≡ true) ys R.copies (B.1 p.0) (D.1 p.1));
    }

module _ (P : Pack) (good : Good P) (few : Few P) (s : ℕ) (vars : List ℕ) (proper : Below (length P.sorts) vars) (env words : List ℕ) (b : Built) (B : BuiltSorted P b) where
  -- whatever premises were taken
  pub premises-taken : (ts : Terms) (refs : List ℕ) (ps : Premises) → Judgments P vars ts → Made words b refs → Below (length P.steps) refs → Formed P ps.graph → Environment P vars env ps.graph
      → (ns : List Note) (r : Premises) → take_premises P s words b env ts refs ps ≡ done ns r → Taken P vars env ps r × SameHeads b ts (map (λ q. get_or words q 0) refs)
  unfolding take_premises
  premises-taken nil refs ps T M l F E ns r e = let q : ps ≡ r = cc in (subst (Taken P vars env ps) q (nothing-taken P vars env ps F E), tt)
  premises-taken (cons t ts) [] ps T M l F E ns r e = let q : ps ≡ r = cc in (subst (Taken P vars env ps) q (nothing-taken P vars env ps F E), tt)
  premises-taken (cons t ts) (q ∷ refs) ps T M l F E ns r e =
      let class = get_or b.classes (get_or words q 0) no_class in
      let p = class.conclusion in
      let fresh = copy b.store class.flex ps.graph p in
      let inst = instantiate t env fresh.graph in
      let ks = up_to (length class.flex) in
      let J = (good.steps q l.0).judgment in
      run_then _ _ ns r e (λ ms u ks₁ before after. run_then _ _ ks₁ r after (λ ms₂ g ks₂ came on.
      let u = there_is (unify inst.graph inst.at (copied fresh.nodes p)).graph (Clash s) ms₂ g came in
      let within = B.within (get_or words q 0) M.0 in
      let judged = B.judged (get_or words q 0) M.0 in
      let O = one_premise P few vars env b.store B.store class.flex p within judged t T.0 ps.graph F E ks g u in
      let head = premise_head P few vars env b.store B.store class.flex p within judged t T.0 ps.graph F E proper (B.applied (get_or words q 0) M.0) g u in
      let next : Premises = record { graph = g; instances = ps.instances ++ (inst.at ∷ []); judgments = ps.judgments ++ ((step_of P q).judgment ∷ []); copies = ps.copies ++ in_order ks fresh.variables } in
      let rest = premises-taken ts refs next T.1 M.1 l.1 O.formed O.environment ks₂ r on in
      (first_taken P vars env ps g inst.at (step_of P q).judgment (in_order ks fresh.variables) r J.given J.predicate O rest.0, (M.0, head, rest.1))))
