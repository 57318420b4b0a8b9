-- Ground values: where the refs' judgments are a solution's trees, the instance test finds them, and what it finds is the solution.
use Rattle.std.specs.Prelude.{◌≡◌, eqb, length}
use Rattle.std.proofs.Math.Path.{refl, sym}
use Rattle.std.proofs.Common.{ap, ◌∙◌, arith}
use Rattle.std.proofs.Math.Bool.{true, false}
use mathlib.Core.List.{List, [], ◌∷◌}
use Rattle.std.proofs.Math.Option.{Option, none, some}
use Prim.Native.Nat.{ℕ, zero, suc, ◌<◌}
use borrow.Author.Tests.{eqb-true, eq-eqb}
use Rattle.definition.specs.Test.{is, see, never, all, and_parts}
use Rattle.definition.specs.Pack.{Pack, node_of}
use Rattle.definition.specs.Tree.{Tree, pick, trees, tree_of}
use Rattle.definition.specs.Good.{Below, Good, Once}
use Rattle.definition.proofs.Laws.Grow.{below_more}
use Rattle.definition.proofs.Laws.Tree.{args-below, tree_node, tree_once}
use Rattle.definition.proofs.Laws.Matches.{tree_parts, then_parts}
use Rattle.definition.specs.Verdict.{Bound, value_of, provided, onwards}
use Rattle.definition.specs.Graph.{Graph, vertex, root, is_var, ends}
use Rattle.definition.specs.Analysis.{pairing, value_at, valued}
use Rattle.theory.specs.Unification.Solve.{trees_at, Solves, Formed}
use Rattle.theory.specs.Unification.Acyclic.{solves_root}

-- values that are the solution's trees, each given as a node
pub record Agreeing (P : Pack) (θ : ℕ → Tree) (vs : List Bound) : Type 0 where
  pub trees_of : (r m : ℕ) → value_of r vs ≡ some m → θ r ≡ tree_of P m
  pub given : (r m : ℕ) → value_of r vs ≡ some m → m < length P.nodes

-- no value yet
pub agreeing_none : (P : Pack) (θ : ℕ → Tree) → Agreeing P θ []
unfolding value_of
agreeing_none P θ = record { trees_of = λ r m e. never (let z : none ≡ some m = e in cc); given = λ r m e. never (let z : none ≡ some m = e in cc) }

-- one value more
agreeing_more : (P : Pack) (θ : ℕ → Tree) (vs : List Bound) (r n : ℕ) → Agreeing P θ vs → n < length P.nodes → θ r ≡ tree_of P n → Agreeing P θ (pairing r n ∷ vs)
unfolding value_of
agreeing_more P θ vs r n A h e = record {
  trees_of = λ k m v. elim (see (eqb r k)) [
    | is true t ↦ let z : some n ≡ some m = rw (t, value_of) at v in let q : n ≡ m = cc in ap θ (sym (eqb-true r k t)) ∙ e ∙ ap (tree_of P) q
    | is false t ↦ A.trees_of k m (rw (t, value_of) at v)
  ];
  given = λ k m v. elim (see (eqb r k)) [
    | is true t ↦ let z : some n ≡ some m = rw (t, value_of) at v in let q : n ≡ m = cc in omega arith
    | is false t ↦ A.given k m (rw (t, value_of) at v)
  ];
}

-- what the test comes to
pub record Found (P : Pack) (θ : ℕ → Tree) (o : Option (List Bound)) : Type 0 where
  pub values : List Bound
  pub found : o ≡ some values
  pub agrees : Agreeing P θ values

-- what is below a term that ends ends a level earlier
pub deep_ends : (g : Graph) (d x : ℕ) → ends (suc d) g x ≡ true → is_var (vertex g (root g x)) ≡ false → all (λ y. ends d g y) (vertex g (root g x)).args ≡ true
unfolding ends
deep_ends g d x e w = rw (w, ends) at e

module _ (P : Pack) (G : Good P) (O : Once P) (g : Graph) (F : Formed P g) (θ : ℕ → Tree) (S : Solves θ g) where
  -- a root whose tree is the ground node's gets its value, if what is below it does
  value_found : (deeper : List ℕ → List ℕ → List Bound → Option (List Bound)) (r n : ℕ) (vs : List Bound) → r < length g → (vertex g r).link ≡ none → n < length P.nodes
      → Agreeing P θ vs → θ r ≡ tree_of P n
      → ((ys ms : List ℕ) (ws : List Bound) → Below (length g) ys → Below (length P.nodes) ms → (is_var (vertex g r) ≡ false) → ys ≡ (vertex g r).args → Agreeing P θ ws → trees_at θ ys ≡ pick (trees P) ms → Found P θ (deeper ys ms ws))
      → Found P θ (value_at P g deeper r n vs)
  unfolding value_at provided
  value_found deeper r n vs h l c A k below = elim (see (value_of r vs)) [
    | is (some m) v ↦
        let z : m ≡ n = tree_once P G O m n (A.given r m v) c (sym (A.trees_of r m v) ∙ k) in
        rw (v, value_at, eq-eqb m n z, provided) (record { values = vs; found = refl; agrees = A })
    | is none v ↦
        let B = agreeing_more P θ vs r n A c k in
        elim (see (is_var (vertex g r))) [
          | is true w ↦ rw (v, value_at, w) (record { values = pairing r n ∷ vs; found = refl; agrees = B })
          | is false w ↦
              let a = tree_parts (sym (S.apps r h l w) ∙ k ∙ tree_node P G n c) in
              let ms = below_more n (length P.nodes) (node_of P n).args (omega arith) (args-below P G n c) in
              rw (v, value_at, w, eq-eqb (vertex g r).head (node_of P n).head a.0, provided) (below (vertex g r).args (node_of P n).args (pairing r n ∷ vs) (F r h).below ms w refl B a.1)
        ]
  ]

  -- values found, and then more
  found_then : (o : Option (List Bound)) (f : List Bound → Option (List Bound)) → Found P θ o → ((ws : List Bound) → Agreeing P θ ws → Found P θ (f ws)) → Found P θ (onwards o f)
  unfolding onwards
  found_then o f i h = rw (i.found, onwards) (h i.values i.agrees)

  -- nodes whose trees are those of the ground nodes beside them get their values
  pub valued_found : (d : ℕ) (xs ns : List ℕ) (vs : List Bound) → Below (length g) xs → Below (length P.nodes) ns → all (λ x. ends d g x) xs ≡ true
      → Agreeing P θ vs → trees_at θ xs ≡ pick (trees P) ns → Found P θ (valued d P g xs ns vs)
  unfolding valued trees_at pick all ends tree_of
  valued_found zero [] [] vs b c e A q = record { values = vs; found = refl; agrees = A }
  valued_found zero [] (n ∷ ns) vs b c e A q = never (cc)
  valued_found zero (x ∷ xs) [] vs b c e A q = never (cc)
  valued_found zero (x ∷ xs) (n ∷ ns) vs b c e A q = let p = and_parts (ends 0 g x) (all (λ y. ends 0 g y) xs) e in never (let z : false ≡ true = p.0 in cc)
  valued_found (suc d) [] [] vs b c e A q = record { values = vs; found = refl; agrees = A }
  valued_found (suc d) [] (n ∷ ns) vs b c e A q = never (cc)
  valued_found (suc d) (x ∷ xs) [] vs b c e A q = never (cc)
  valued_found (suc d) (x ∷ xs) (n ∷ ns) vs b c e A q =
      let r = root g x in
      let f = F x b.0 in
      let t = then_parts q in
      let p = and_parts (ends (suc d) g x) (all (λ y. ends (suc d) g y) xs) e in
      let k : θ r ≡ tree_of P n = sym (solves_root θ P g F S x b.0) ∙ t.0 in
      found_then (value_at P g (λ ys ms ws. valued d P g ys ms ws) r n vs) (λ ws. valued (suc d) P g xs ns ws)
      (value_found (λ ys ms ws. valued d P g ys ms ws) r n vs f.within f.rooted c.0 A k
      (λ ys ms ws u v w i B z. valued_found d ys ms ws u v (rw i (deep_ends g d x p.0 w)) B z))
      (λ ws B. valued_found (suc d) xs ns ws b.1 c.1 p.1 B t.1)
