-- A rule's term in a graph: its node stands for the term with the environment's trees put for the variables, and nothing else is asked.
use Rattle.std.specs.Prelude.{◌≡◌, refl, false, List, [], ◌∷◌, ℕ, ◌<◌, ◌≤◌, length, get_or}
use Rattle.std.proofs.Common.{ap, ap₂, ◌∙◌, arith, ne_eqb}
use Rattle.definition.specs.Pack.{Term, Terms, var, app, nil, cons, Pack, symbol_of}
use Rattle.definition.specs.Tree.{Tree, tree, tree_then, turn, turns}
use Rattle.definition.specs.Store.{variable_head}
use Rattle.definition.specs.Good.{Below, Sorted, SortedAll}
use Rattle.definition.proofs.Laws.Grow.{below_more, below_at}
use Rattle.definition.specs.Graph.{Vertex, Graph, Grown, applied, push, is_var}
use Rattle.definition.specs.Analysis.{GrownAll, instantiate, instantiate_all}
use Rattle.theory.specs.Unification.Solve.{trees_at, Solves, sort_at, SortsAt, Formed, Begins}
use Rattle.theory.specs.Copies.Begin.{begins_refl, begins_trans, solves_begins, sort_at_begins, SortsAt-begins}
use Rattle.theory.specs.Copies.Push.{push-length, push_begins, push-new, push_formed, push-sort-applied, push_extends, NewNode, new_applied, Extends, extends_trans}

-- an environment: for each variable a node of the graph of its sort
pub record Environment (P : Pack) (vars env : List ℕ) (g : Graph) : Type 0 where
  pub below : Below (length g) env
  pub enough : length vars ≤ length env
  pub sorts : (k : ℕ) → k < length vars → sort_at P g (get_or env k 0) ≡ get_or vars k 0

-- it is one for a longer graph too
pub environment_begins : (P : Pack) (vars env : List ℕ) (g h : Graph) → Begins g h → Environment P vars env g → Environment P vars env h
environment_begins P vars env g h b E = record {
  below = below_more (length g) (length h) env b.longer E.below;
  enough = E.enough;
  sorts = λ k l. sort_at_begins P g h b (get_or env k 0) (below_at (length g) env k E.below (omega (arith, E.enough))) ∙ E.sorts k l;
}

-- the tree that a solution gives to each variable
abbrev pub values_of : List ℕ → (ℕ → Tree) → ℕ → Tree
values_of env θ k = θ (get_or env k 0)

-- what a term's node and its graph are like
pub record Instantiated (P : Pack) (env : List ℕ) (t : Term) (s : ℕ) (g : Graph) (r : Grown) : Type 0 where
  pub begins : Begins g r.graph
  pub inside : r.at < length r.graph
  pub formed : Formed P r.graph
  pub sort : sort_at P r.graph r.at ≡ s
  pub is : (θ : ℕ → Tree) → Solves θ r.graph → θ r.at ≡ turn (values_of env θ) t
  pub extends : (θ : ℕ → Tree) → Solves θ g → Extends θ g r.graph

-- the same of terms
pub record InstantiatedAll (P : Pack) (env : List ℕ) (ts : Terms) (ss : List ℕ) (g : Graph) (r : GrownAll) : Type 0 where
  pub begins : Begins g r.graph
  pub inside : Below (length r.graph) r.ats
  pub formed : Formed P r.graph
  pub sorts : SortsAt P r.graph r.ats ss
  pub are : (θ : ℕ → Tree) → Solves θ r.graph → trees_at θ r.ats ≡ turns (values_of env θ) ts
  pub extends : (θ : ℕ → Tree) → Solves θ g → Extends θ g r.graph

-- a graph is its own extension
extends_refl : (θ : ℕ → Tree) (g : Graph) → Solves θ g → Extends θ g g
extends_refl θ g s = record { solution = θ; agrees = λ x l. refl; solves = s }

-- an application over nodes that are as they must be
applied_says : (P : Pack) → length P.symbols ≤ variable_head → (env : List ℕ) (h : ℕ) (ts : Terms) (s : ℕ) (g : Graph) (r : GrownAll)
    → h < length P.symbols → (symbol_of P h).output ≡ s → InstantiatedAll P env ts (symbol_of P h).inputs g r
    → Instantiated P env (app h ts) s g (push r.graph (applied h r.ats))
unfolding turn is_var push
applied_says P few env h ts s g r l o R =
    let v = applied h r.ats in
    let k = r.graph in
    let n : is_var v ≡ false = ne_eqb h variable_head (λ e. omega arith) in
    let node : NewNode P k v = new_applied P k h r.ats n l R.inside R.sorts in
    let new = push-new k v in
    let b = push_begins k v in
    record {
      begins = begins_trans g k (push k v).graph R.begins b;
      inside = omega (arith, push-length k v);
      formed = push_formed P k v R.formed node;
      sort = push-sort-applied P k v n ∙ o;
      is = λ θ S.
          let q = S.apps (length k) (omega (arith, push-length k v)) (ap (λ (v : Vertex). v.link) new) (ap is_var new ∙ n) in
          q ∙ ap (λ (v : Vertex). tree v.head (trees_at θ v.args)) new ∙ ap (tree h) (R.are θ (solves_begins θ k (push k v).graph b S));
      extends = λ θ S.
          let e = R.extends θ S in
          extends_trans θ g k (push k v).graph R.begins e (push_extends P k v e.solution R.formed node e.solves);
    }

-- the other nodes, and a first one
cons_says : (P : Pack) (env : List ℕ) (t : Term) (ts : Terms) (s : ℕ) (ss : List ℕ) (g : Graph) (rs : GrownAll) (r : Grown)
    → InstantiatedAll P env ts ss g rs → Instantiated P env t s rs.graph r
    → InstantiatedAll P env (cons t ts) (s ∷ ss) g (record { ats = r.at ∷ rs.ats; graph = r.graph })
unfolding turn trees_at
cons_says P env t ts s ss g rs r Rs R = record {
  begins = begins_trans g rs.graph r.graph Rs.begins R.begins;
  inside = (R.inside, below_more (length rs.graph) (length r.graph) rs.ats R.begins.longer Rs.inside);
  formed = R.formed;
  sorts = (R.sort, SortsAt-begins P rs.graph r.graph R.begins rs.ats ss Rs.inside Rs.sorts);
  are = λ θ S. ap₂ tree_then (R.is θ S) (Rs.are θ (solves_begins θ rs.graph r.graph R.begins S));
  extends = λ θ S. let e = Rs.extends θ S in extends_trans θ g rs.graph r.graph Rs.begins e (R.extends e.solution e.solves);
}

-- a well-sorted term in a graph, and terms
mutual
  unfolding instantiate turn trees_at

  pub instantiated : (P : Pack) → length P.symbols ≤ variable_head → (vars env : List ℕ) (t : Term) (s : ℕ) (g : Graph)
      → Formed P g → Environment P vars env g → Sorted P vars t s → Instantiated P env t s g (instantiate t env g)
  instantiated P few vars env (var k) s g f E h = record {
    begins = begins_refl g;
    inside = below_at (length g) env k E.below (omega (arith, h.0, E.enough));
    formed = f;
    sort = E.sorts k h.0 ∙ h.1;
    is = λ θ S. refl;
    extends = λ θ S. extends_refl θ g S;
  }
  instantiated P few vars env (app h ts) s g f E w =
      applied_says P few env h ts s g (instantiate_all ts env g) w.0 w.1 (instantiated_all P few vars env ts (symbol_of P h).inputs g f E w.2)

  pub instantiated_all : (P : Pack) → length P.symbols ≤ variable_head → (vars env : List ℕ) (ts : Terms) (ss : List ℕ) (g : Graph)
      → Formed P g → Environment P vars env g → SortedAll P vars ts ss → InstantiatedAll P env ts ss g (instantiate_all ts env g)
  instantiated_all P few vars env nil [] g f E h =
      record { begins = begins_refl g; inside = tt; formed = f; sorts = tt; are = λ θ S. refl; extends = λ θ S. extends_refl θ g S }
  instantiated_all P few vars env nil (s ∷ ss) g f E h = absurd h
  instantiated_all P few vars env (cons t ts) [] g f E h = absurd h
  instantiated_all P few vars env (cons t ts) (s ∷ ss) g f E h =
      let rs = instantiate_all ts env g in
      let Rs = instantiated_all P few vars env ts ss g f E h.1 in
      let R = instantiated P few vars env t s rs.graph Rs.formed (environment_begins P vars env g rs.graph Rs.begins E) h.0 in
      cons_says P env t ts s ss g rs (instantiate t env rs.graph) Rs R
