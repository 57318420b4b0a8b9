-- No circle comes in by a node more over nodes that are there, nor by an instance of a rule's term.
use Rattle.std.specs.Prelude.{◌≡◌, refl, Bool, List, [], ◌∷◌, ◌++◌}
use Rattle.std.proofs.Math.Path.{ap}
use Rattle.std.proofs.Common.{◌∙◌, arith}
use Rattle.std.proofs.Math.Bool.{true, false}
use Rattle.std.proofs.Math.Option.{none}
use Prim.Native.Nat.{ℕ, zero, suc, ◌<◌, ◌≤◌}
use Rattle.std.proofs.Math.Decide.{dec_lt}
use Rattle.std.proofs.Math.ListN.{length}
use Rattle.definition.specs.Test.{is, see, never, all, ◌and◌, and_parts}
use Rattle.definition.specs.Pack.{Pack, Term, Terms, var, app, nil, cons, symbol_of}
use Rattle.definition.specs.Good.{Below, Sorted, SortedAll}
use Rattle.definition.proofs.Laws.Grow.{below_more, below_at, length_more}
use Rattle.definition.specs.Graph.{Vertex, Graph, Grown, applied, vertex, push, root, is_var, ends, circular}
use Rattle.definition.specs.Analysis.{GrownAll, instantiate, instantiate_all}
use Rattle.theory.specs.Unification.Solve.{Begins}
use Rattle.theory.specs.Unification.Forest.{Forest, root_inside}
use Rattle.theory.specs.Unification.Like.{vertex-old, vertex-new, root-old, root-new, forest_more}
use Rattle.theory.specs.Unification.Acyclic.{ends_more}
use Rattle.theory.specs.Unification.Circle.{all_up_to, acyclic_ends}
use Rattle.theory.specs.Copies.Begin.{begins_refl, begins_trans}
use Rattle.theory.specs.Copies.Push.{push_begins}
use Rattle.theory.specs.Unification.Inner.{Inner, inner_more}

-- what holds of f holds of h, for numbers below n
all-below : (n : ℕ) (f h : ℕ → Bool) (xs : List ℕ) → Below n xs → ((x : ℕ) → x < n → f x ≡ true → h x ≡ true) → all f xs ≡ true → all h xs ≡ true
unfolding all ◌and◌
all-below n f h [] b k e = refl
all-below n f h (x ∷ xs) b k e = let p = and_parts (f x) (all f xs) e in rw (k x b.0 p.0, ◌and◌) (all-below n f h xs b.1 k p.1)

-- what holds of each number below n
all_each : (n : ℕ) (h : ℕ → Bool) (xs : List ℕ) → Below n xs → ((x : ℕ) → x < n → h x ≡ true) → all h xs ≡ true
unfolding all ◌and◌
all_each n h [] b k = refl
all_each n h (x ∷ xs) b k = rw (k x b.0, ◌and◌) (all_each n h xs b.1 k)

-- ---- a node more
module _ (g : Graph) (v : Vertex) (bare : v.link ≡ none) (F : Forest g) (I : Inner g) where
  abbrev more : Graph
  more = g ++ (v ∷ [])

  -- a node's root is the vertex that it was
  root-same : (x : ℕ) → x < length g → vertex more (root more x) ≡ vertex g (root g x)
  root-same x l = ap (vertex more) (root-old g v bare F x l) ∙ vertex-old g v bare (root g x) (root_inside g F x l)

  -- terms that ended do so still
  ends-old : (k x : ℕ) → x < length g → ends k g x ≡ true → ends k more x ≡ true
  unfolding ends
  ends-old zero x l e = never (cc)
  ends-old (suc k) x l e =
      let s = root-same x l in
      let i : is_var (vertex more (root more x)) ≡ is_var (vertex g (root g x)) = ap is_var s in
      elim (see (is_var (vertex g (root g x)))) [
        | is true w ↦ let w' = i ∙ w in rw (w', ends)
        | is false w ↦
            let w' = i ∙ w in
            let a : (vertex more (root more x)).args ≡ (vertex g (root g x)).args = ap (λ (u : Vertex). u.args) s in
            let b = I (root g x) (root_inside g F x l) in
            let old : all (λ y. ends k g y) (vertex g (root g x)).args ≡ true = rw (w, ends) at e in
            rw (w', ends, a) (all-below (length g) (λ y. ends k g y) (λ y. ends k more y) (vertex g (root g x)).args b (λ y m q. ends-old k y m q) old)
      ]

  -- the new one ends a level behind those below it
  ends-new : (k : ℕ) → Below (length g) v.args → ((x : ℕ) → x < length g → ends k more x ≡ true) → ends (suc k) more (length g) ≡ true
  unfolding ends
  ends-new k b h =
      let s : vertex more (root more (length g)) ≡ v = ap (vertex more) (root-new g v bare) ∙ vertex-new g v bare in
      elim (see (is_var v)) [
        | is true w ↦ let w' = ap is_var s ∙ w in rw (w', ends)
        | is false w ↦
            let w' = ap is_var s ∙ w in
            let a : (vertex more (root more (length g))).args ≡ v.args = ap (λ (u : Vertex). u.args) s in
            rw (w', ends, a) (all_each (length g) (λ y. ends k more y) v.args b h)
      ]

  -- so there is no circle, if there was none
  pub acyclic_more : Below (length g) v.args → circular g ≡ false → circular (g ++ (v ∷ [])) ≡ false
  unfolding circular
  acyclic_more b A =
      let n = length more in
      let long : n ≡ suc (length g) = length_more g v in
      let old : (x : ℕ) → x < length g → ends (suc (length g)) more x ≡ true = λ x l. ends-old (suc (length g)) x l (acyclic_ends g A x l) in
      let new : ends (suc (suc (length g))) more (length g) ≡ true = ends-new (suc (length g)) b old in
      rw (all_up_to (λ x. ends (suc n) more x) n (λ x l. elim (dec_lt x (length g)) [
        | yes h ↦ ends_more (suc (length g)) (suc n) more x (omega arith) (old x h)
        | no h ↦ let e : x ≡ length g = omega (arith, h) in ends_more (suc (suc (length g))) (suc n) more x (omega arith) (ap (λ (z : ℕ). ends (suc (suc (length g))) more z) e ∙ new)
      ]))

-- ---- a rule's term
-- what a term in the graph is: a node of it, and the graph is sound and without a circle if it was before
pub record Instance (g : Graph) (r : Grown) : Type 0 where
  pub begins : Begins g r.graph
  pub inside : r.at < length r.graph
  pub forest : Forest r.graph
  pub inner : Inner r.graph
  pub acyclic : circular g ≡ false → circular r.graph ≡ false

-- the same of terms
pub record Instances (g : Graph) (r : GrownAll) : Type 0 where
  pub begins : Begins g r.graph
  pub inside : Below (length r.graph) r.ats
  pub forest : Forest r.graph
  pub inner : Inner r.graph
  pub acyclic : circular g ≡ false → circular r.graph ≡ false

mutual
  unfolding instantiate push

  pub instance : (P : Pack) (vars env : List ℕ) (t : Term) (s : ℕ) (g : Graph) → Sorted P vars t s → length vars ≤ length env → Forest g → Inner g → Below (length g) env → Instance g (instantiate t env g)
  instance P vars env (var k) s g w n F I b = record { begins = begins_refl g; inside = below_at (length g) env k b (omega (arith, w.0)); forest = F; inner = I; acyclic = λ A. A }
  instance P vars env (app h ts) s g w n F I b =
      let R = instances P vars env ts (symbol_of P h).inputs g w.2 n F I b in
      let r = instantiate_all ts env g in
      let v = applied h r.ats in
      record {
        begins = begins_trans g r.graph (r.graph ++ (v ∷ [])) R.begins (push_begins r.graph v);
        inside = omega (arith, length_more r.graph v);
        forest = forest_more r.graph v refl R.forest;
        inner = inner_more r.graph v refl R.inner R.inside;
        acyclic = λ A. acyclic_more r.graph v refl R.forest R.inner R.inside (R.acyclic A);
      }

  pub instances : (P : Pack) (vars env : List ℕ) (ts : Terms) (ss : List ℕ) (g : Graph) → SortedAll P vars ts ss → length vars ≤ length env → Forest g → Inner g → Below (length g) env → Instances g (instantiate_all ts env g)
  instances P vars env nil [] g w n F I b = record { begins = begins_refl g; inside = tt; forest = F; inner = I; acyclic = λ A. A }
  instances P vars env nil (s ∷ ss) g w n F I b = absurd w
  instances P vars env (cons t ts) [] g w n F I b = absurd w
  instances P vars env (cons t ts) (s ∷ ss) g w n F I b =
      let rest = instantiate_all ts env g in
      let R = instances P vars env ts ss g w.1 n F I b in
      let first = instantiate t env rest.graph in
      let T = instance P vars env t s rest.graph w.0 n R.forest R.inner (below_more (length g) (length rest.graph) env R.begins.longer b) in
      record {
        begins = begins_trans g rest.graph first.graph R.begins T.begins;
        inside = (T.inside, below_more (length rest.graph) (length first.graph) rest.ats T.begins.longer R.inside);
        forest = T.forest;
        inner = T.inner;
        acyclic = λ A. T.acyclic (R.acyclic A);
      }
