-- Ground values found one by one: what is asked in front comes first, and each value is a ground node of the pack.
use Rattle.std.specs.Prelude.{◌≡◌, Bool, eqb, length}
use Rattle.std.proofs.Math.Path.{refl, sym, ap, subst}
use Rattle.std.proofs.Common.{◌∙◌, arith}
use Rattle.std.proofs.Math.Bool.{true, false}
use mathlib.Core.List.{List, [], ◌∷◌, ◌++◌}
use Rattle.std.proofs.Math.Option.{Option, none, some}
use Prim.Native.Nat.{ℕ, zero, suc, ◌<◌}
use Rattle.definition.specs.Test.{is, see, never}
use Rattle.definition.specs.Pack.{Pack, node_of}
use Rattle.definition.specs.Good.{Below, Good}
use Rattle.definition.proofs.Laws.Grow.{below_more}
use Rattle.definition.proofs.Laws.Tree.{args-below}
use Rattle.definition.specs.Verdict.{Bound, value_of, provided, onwards}
use Rattle.definition.specs.Graph.{Graph, vertex, root, is_var}
use Rattle.definition.specs.Analysis.{pairing, value_at, valued}
use Rattle.definition.proofs.Laws.Agreement.{onwards-same, onwards_some}

-- ---- values and then more values
-- going on with nothing changes nothing
onwards_stay : (o : Option (List Bound)) (f : List Bound → Option (List Bound)) → onwards (onwards o (λ ws. some ws)) f ≡ onwards o f
unfolding onwards
onwards_stay none f = refl
onwards_stay (some ws) f = refl

-- it does not matter which two of three are taken together
onwards_then : (o : Option (List Bound)) (f k : List Bound → Option (List Bound)) → onwards (onwards o f) k ≡ onwards o (λ ws. onwards (f ws) k)
unfolding onwards
onwards_then none f k = refl
onwards_then (some ws) f k = refl

module _ (d : ℕ) (P : Pack) (g : Graph) where
  -- nothing asked
  pub valued_nil : (vs : List Bound) → valued (suc d) P g [] [] vs ≡ some vs
  unfolding valued
  valued_nil vs = refl

  -- the first by itself, then the rest
  pub valued_cons : (x : ℕ) (xs : List ℕ) (n : ℕ) (ns : List ℕ) (vs : List Bound) → valued (suc d) P g (x ∷ xs) (n ∷ ns) vs ≡ onwards (valued (suc d) P g (x ∷ []) (n ∷ []) vs) (λ ws. valued (suc d) P g xs ns ws)
  unfolding valued
  valued_cons x xs n ns vs = sym (onwards_stay (value_at P g (λ ys ms ws. valued d P g ys ms ws) (root g x) n vs) (λ ws. valued (suc d) P g xs ns ws))

  -- some, then others
  pub valued-append : (xs ys ns ms : List ℕ) (vs : List Bound) → length xs ≡ length ns → valued (suc d) P g (xs ++ ys) (ns ++ ms) vs ≡ onwards (valued (suc d) P g xs ns vs) (λ ws. valued (suc d) P g ys ms ws)
  unfolding valued onwards
  valued-append [] ys [] ms vs e = refl
  valued-append [] ys (n ∷ ns) ms vs e = absurd (omega arith)
  valued-append (x ∷ xs) ys [] ms vs e = absurd (omega arith)
  valued-append (x ∷ xs) ys (n ∷ ns) ms vs e =
      let o = value_at P g (λ zs ks ws. valued d P g zs ks ws) (root g x) n vs in
      onwards-same o (λ ws. valued (suc d) P g (xs ++ ys) (ns ++ ms) ws) (λ ws. onwards (valued (suc d) P g xs ns ws) (λ us. valued (suc d) P g ys ms us)) (λ ws. valued-append xs ys ns ms ws (omega arith))
      ∙ sym (onwards_then o (λ ws. valued (suc d) P g xs ns ws) (λ us. valued (suc d) P g ys ms us))

  -- one more behind those that have their values, and behind those that have none
  pub valued_snoc : (xs ns : List ℕ) (x n : ℕ) (vs ws : List Bound) → length xs ≡ length ns → valued (suc d) P g xs ns vs ≡ some ws → valued (suc d) P g (xs ++ (x ∷ [])) (ns ++ (n ∷ [])) vs ≡ valued (suc d) P g (x ∷ []) (n ∷ []) ws
  unfolding onwards
  valued_snoc xs ns x n vs ws e h = valued-append xs (x ∷ []) ns (n ∷ []) vs e ∙ ap (λ (o : Option (List Bound)). onwards o (λ us. valued (suc d) P g (x ∷ []) (n ∷ []) us)) h

  pub valued-none : (xs ns ys ms : List ℕ) (vs : List Bound) → length xs ≡ length ns → valued (suc d) P g xs ns vs ≡ none → valued (suc d) P g (xs ++ ys) (ns ++ ms) vs ≡ none
  unfolding onwards
  valued-none xs ns ys ms vs e h = valued-append xs ys ns ms vs e ∙ ap (λ (o : Option (List Bound)). onwards o (λ us. valued (suc d) P g ys ms us)) h

-- ---- each value is a ground node
-- these are
abbrev pub Grounded : Pack → List Bound → Type 0
Grounded P [] = Unit {0}
Grounded P (b ∷ bs) = (b.value < length P.nodes) × Grounded P bs

-- so what is found among them is
pub grounded_value : (P : Pack) (vs : List Bound) (k n : ℕ) → Grounded P vs → value_of k vs ≡ some n → n < length P.nodes
unfolding value_of
grounded_value P [] k n h e = never (cc)
grounded_value P (b ∷ vs) k n h e = elim (see (eqb b.variable k)) [
  | is true p ↦ let q : some b.value ≡ some n = rw (p, value_of) at e in let r : b.value ≡ n = cc in omega (arith, h.0)
  | is false p ↦ grounded_value P vs k n h.1 (rw (p, value_of) at e)
]

-- what a test lets through
pub provided-parts : (t : Bool) (o : Option (List Bound)) (ws : List Bound) → provided t o ≡ some ws → (t ≡ true) × (o ≡ some ws)
unfolding provided
provided-parts true o ws e = (refl, e)
provided-parts false o ws e = never (cc)

some_eq : {us ws : List Bound} → some us ≡ some ws → us ≡ ws
some_eq e = cc

module _ (P : Pack) (G : Good P) (g : Graph) where
  -- a root's value is, if those below it are
  root_grounded : (deeper : List ℕ → List ℕ → List Bound → Option (List Bound)) → ((ys ms : List ℕ) (us ws : List Bound) → Below (length P.nodes) ms → Grounded P us → deeper ys ms us ≡ some ws → Grounded P ws)
      → (r n : ℕ) (vs ws : List Bound) → n < length P.nodes → Grounded P vs → value_at P g deeper r n vs ≡ some ws → Grounded P ws
  unfolding value_at
  root_grounded deeper ih r n vs ws l h e = elim (see (value_of r vs)) [
    | is (some m) p ↦
        let q = provided-parts (eqb m n) (some vs) ws (rw (p, value_at) at e) in
        subst (Grounded P) (some_eq q.1) h
    | is none p ↦ elim (see (is_var (vertex g r))) [
      | is true v ↦ let q : some (pairing r n ∷ vs) ≡ some ws = rw (p, value_at, v) at e in subst (Grounded P) (some_eq q) (l, h)
      | is false v ↦
          let q = provided-parts (eqb (vertex g r).head (node_of P n).head) (deeper (vertex g r).args (node_of P n).args (pairing r n ∷ vs)) ws (rw (p, value_at, v) at e) in
          ih (vertex g r).args (node_of P n).args (pairing r n ∷ vs) ws (below_more n (length P.nodes) (node_of P n).args (omega arith) (args-below P G n l)) (l, h) q.1
    ]
  ]

  -- whatever is asked of ground nodes
  pub valued_grounded : (d : ℕ) (xs ns : List ℕ) (vs ws : List Bound) → Below (length P.nodes) ns → Grounded P vs → valued d P g xs ns vs ≡ some ws → Grounded P ws
  unfolding valued
  valued_grounded zero [] [] vs ws b h e = subst (Grounded P) (some_eq e) h
  valued_grounded zero [] (n ∷ ns) vs ws b h e = never (cc)
  valued_grounded zero (x ∷ xs) [] vs ws b h e = never (cc)
  valued_grounded zero (x ∷ xs) (n ∷ ns) vs ws b h e = never (cc)
  valued_grounded (suc d) [] [] vs ws b h e = subst (Grounded P) (some_eq e) h
  valued_grounded (suc d) [] (n ∷ ns) vs ws b h e = never (cc)
  valued_grounded (suc d) (x ∷ xs) [] vs ws b h e = never (cc)
  valued_grounded (suc d) (x ∷ xs) (n ∷ ns) vs ws b h e =
      let q = onwards_some (value_at P g (λ ys ms us. valued d P g ys ms us) (root g x) n vs) (λ us. valued (suc d) P g xs ns us) ws e in
      let us = q.0 in
      let i = root_grounded (λ ys ms us. valued d P g ys ms us) (λ ys ms us zs c k f. valued_grounded d ys ms us zs c k f) (root g x) n vs us b.0 h q.1 in
      valued_grounded (suc d) xs ns us ws b.1 i q.2
