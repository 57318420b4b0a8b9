-- One premise: a fresh copy of its ref's conclusion, its instance, and their unification, in terms of solutions.
use Rattle.std.specs.Prelude.{◌≡◌, refl, Bool, List, [], ◌∷◌, ℕ, ◌<◌, ◌≤◌, length, get_or}
use Rattle.std.proofs.Common.{sym, ap, ap₂, ◌∙◌, subst, arith}
use Rattle.std.proofs.Math.Option.{Option, none, some}
use Rattle.definition.specs.Pack.{prop, Term, Terms, var, app, nil, cons, Node, Pack, symbol_of}
use Rattle.definition.specs.Tree.{Tree, tree, tree_then, turn, turns}
use Rattle.definition.proofs.Laws.Grow.{below_at}
use Rattle.definition.specs.Good.{Below, Sorted, SortedAll, Few}
use Rattle.definition.specs.Store.{term_of}
use Rattle.definition.specs.Graph.{Graph, Grown, unify}
use Rattle.definition.specs.Analysis.{Copy, copied, copy, instantiate}
use Rattle.definition.proofs.Laws.Store.{StoreOnce}
use Rattle.theory.specs.Unification.Solve.{Solves, sort_at, Formed, SameNodes}
use Rattle.theory.specs.Copies.Begin.{begins_trans, solves_begins, sort_at_begins}
use Rattle.theory.specs.Copies.Push.{Extends}
use Rattle.theory.specs.Unification.Kept.{same-sort}
use Rattle.theory.specs.Unification.Unify.{Says, unify_says}
use Rattle.theory.specs.Copies.Instantiate.{Environment, environment_begins, values_of, Instantiated, instantiated}
use Rattle.theory.specs.Copies.Terms.{Earlier}
use Rattle.theory.specs.Copies.Parts.{parts_self}
use Rattle.theory.specs.Copies.Copying.{CopyOf}
use Rattle.theory.specs.Copies.Copy.{Copied, copy_says}
use Rattle.theory.specs.Patterns.Sorted.{SortedPattern, sorted_inside, sorted_sort, sorted_formed, sorted_each}

-- assignments that agree on a rule's variables turn its terms into the same trees
mutual
  unfolding turn

  pub turn-same : (P : Pack) (vars : List ℕ) (ν μ : ℕ → Tree) → ((k : ℕ) → k < length vars → ν k ≡ μ k) → (t : Term) (s : ℕ) → Sorted P vars t s → turn ν t ≡ turn μ t
  turn-same P vars ν μ e (var k) s h = e k h.0
  turn-same P vars ν μ e (app f ts) s h = ap (tree f) (turns_same P vars ν μ e ts (symbol_of P f).inputs h.2)

  pub turns_same : (P : Pack) (vars : List ℕ) (ν μ : ℕ → Tree) → ((k : ℕ) → k < length vars → ν k ≡ μ k) → (ts : Terms) (ss : List ℕ) → SortedAll P vars ts ss → turns ν ts ≡ turns μ ts
  turns_same P vars ν μ e nil [] h = refl
  turns_same P vars ν μ e nil (s ∷ ss) h = absurd h
  turns_same P vars ν μ e (cons t ts) [] h = absurd h
  turns_same P vars ν μ e (cons t ts) (s ∷ ss) h = ap₂ tree_then (turn-same P vars ν μ e t s h.0) (turns_same P vars ν μ e ts ss h.1)

-- solutions that agree on a graph give its environment the same trees
pub env-same : (P : Pack) (vars env : List ℕ) (g : Graph) → Environment P vars env g → (θ ϕ : ℕ → Tree) → ((x : ℕ) → x < length g → ϕ x ≡ θ x) → (k : ℕ) → k < length vars → values_of env ϕ k ≡ values_of env θ k
env-same P vars env g E θ ϕ a k h = a (get_or env k 0) (below_at (length g) env k E.below (omega (arith, E.enough)))

-- an environment in a graph with the same nodes
pub env-joined : (P : Pack) (vars env : List ℕ) (g h : Graph) → SameNodes g h → Environment P vars env g → Environment P vars env h
env-joined P vars env g h S E = record {
  below = subst (λ (n : ℕ). Below n env) (sym S.long) E.below;
  enough = E.enough;
  sorts = λ k l. same-sort P g h S (get_or env k 0) ∙ E.sorts k l;
}

-- a premise that unifies with an instance of its ref's conclusion
abbrev pub Matches : List Node → ℕ → (ℕ → Tree) → Term → Type 0
Matches s p ν t = (μ : ℕ → Tree) × (turn ν t ≡ turn μ (term_of s p))

-- what one premise makes of a graph
pub record OnePremise (P : Pack) (vars env : List ℕ) (s : List Node) (p : ℕ) (t : Term) (g : Graph) (x : ℕ) (o : Option Graph) : Type 0 where
  pub graph : Graph
  pub made : o ≡ some graph
  pub formed : Formed P graph
  pub longer : length g ≤ length graph
  pub inside : x < length graph
  pub environment : Environment P vars env graph
  pub sort : sort_at P graph x ≡ prop
  pub sorts : (y : ℕ) → y < length g → sort_at P graph y ≡ sort_at P g y
  pub before : (θ : ℕ → Tree) → Solves θ graph → Solves θ g
  pub is : (θ : ℕ → Tree) → Solves θ graph → θ x ≡ turn (values_of env θ) t
  pub matches : (θ : ℕ → Tree) → Solves θ graph → Matches s p (values_of env θ) t
  pub extends : (θ : ℕ → Tree) → Solves θ g → Matches s p (values_of env θ) t → Extends θ g graph

module _ (P : Pack) (F : Few P) (vars env : List ℕ) (s : List Node) (E : Earlier s) (O : StoreOnce s) (flex : List Bool) (sorts : ℕ → ℕ) (p : ℕ) (Q : SortedPattern P s sorts p prop)
    (t : Term) (T : Sorted P vars t prop) (g : Graph) (G : Formed P g) (V' : Environment P vars env g) where
  abbrev fresh : Copy
  fresh = copy s flex g p

  abbrev inst : Grown
  inst = instantiate t env fresh.graph

  abbrev other : ℕ
  other = copied fresh.nodes p

  C : Copied P s flex g p (copy s flex g p)
  C = copy_says P s flex g p E (sorted_formed P s sorts p prop Q) G (sorted_inside P s sorts p prop Q) (sorted_each P s sorts p prop O Q)

  K : CopyOf P s flex (copy s flex g p) p (copied (copy s flex g p).nodes p)
  K = C.copies p (parts_self s p)

  I : Instantiated P env t prop (copy s flex g p).graph (instantiate t env (copy s flex g p).graph)
  I = instantiated P (omega (arith, F.symbols)) vars env t prop fresh.graph C.formed (environment_begins P vars env g fresh.graph C.begins V') T

  -- a solution that matches the premise goes on to one that makes both sides equal
  onwards : (θ : ℕ → Tree) → Solves θ g → (m : Matches s p (values_of env θ) t) → (X : Extends θ g inst.graph) × (X.solution inst.at ≡ X.solution other)
  onwards θ S m =
      let W = C.extends θ m.0 S in
      let X = I.extends W.solution W.solves in
      let agrees : (x : ℕ) → x < length g → X.solution x ≡ θ x = λ x h. X.agrees x (omega (arith, C.begins.longer)) ∙ W.agrees x h in
      let left = I.is X.solution X.solves ∙ turn-same P vars (values_of env X.solution) (values_of env θ) (env-same P vars env g V' θ X.solution agrees) t prop T in
      let right = X.agrees other K.inside ∙ W.is p (parts_self s p) in
      (record { solution = X.solution; agrees = agrees; solves = X.solves }, left ∙ m.1 ∙ sym right)

  says : Says P inst.graph inst.at other (unify inst.graph inst.at other).graph
  says =
      unify_says P inst.graph inst.at other I.formed I.inside (omega (arith, K.inside, I.begins.longer))
      (I.sort ∙ sym (sort_at_begins P fresh.graph inst.graph I.begins other K.inside ∙ K.sort ∙ sorted_sort P s sorts p prop Q))

  -- with one solution that matches there is no clash
  pub one_premise : (θ : ℕ → Tree) → Solves θ g → Matches s p (values_of env θ) t → OnePremise P vars env s p t g inst.at (unify inst.graph inst.at other).graph
  one_premise θ S m = at (unify inst.graph inst.at other).graph says where
    at : (o : Option Graph) → Says P inst.graph inst.at other o → OnePremise P vars env s p t g inst.at o
    at none c = let X = onwards θ S m in absurd (c X.0.solution X.0.solves X.1)
    at (some h) c = record {
      graph = h;
      made = refl;
      formed = c.0;
      longer = omega (arith, C.begins.longer, I.begins.longer, c.1.long);
      inside = omega (arith, I.inside, c.1.long);
      environment = env-joined P vars env inst.graph h c.1 (environment_begins P vars env fresh.graph inst.graph I.begins (environment_begins P vars env g fresh.graph C.begins V'));
      sort = same-sort P inst.graph h c.1 inst.at ∙ I.sort;
      sorts = λ y l. same-sort P inst.graph h c.1 y ∙ sort_at_begins P g inst.graph (begins_trans g fresh.graph inst.graph C.begins I.begins) y l;
      before = λ ϕ R. solves_begins ϕ g fresh.graph C.begins (solves_begins ϕ fresh.graph inst.graph I.begins (c.2 ϕ R).0);
      is = λ ϕ R. I.is ϕ (c.2 ϕ R).0;
      matches = λ ϕ R.
          let both = c.2 ϕ R in
          (λ k. ϕ (copied fresh.variables k), sym (I.is ϕ both.0) ∙ both.1 ∙ C.is ϕ (solves_begins ϕ fresh.graph inst.graph I.begins both.0) p (parts_self s p));
      extends = λ ϕ R n. let X = onwards ϕ R n in record { solution = X.0.solution; agrees = X.0.agrees; solves = c.3 X.0.solution X.0.solves X.1 };
    }
