-- Interning: a node gets a place that holds it, earlier nodes stay, and nodes still rest on earlier ones; so too a lifted ground term.
use Rattle.std.specs.Prelude.{◌≡◌, refl, true, false, List, [], ◌∷◌, ◌++◌, ℕ, ◌<◌, ◌≤◌, eqb, length, get_or}
use Rattle.std.proofs.Common.{sym, ap, ◌∙◌, append_assoc, append-nil, arith, eqb-true, length-append}
use Rattle.std.proofs.Math.Option.{none, some}
use Rattle.std.proofs.Math.ListN.{get_or-append}
use Rattle.std.proofs.lemmas.List.{get_or_at}
use Rattle.definition.specs.Test.{is, see, tests}
use Rattle.definition.specs.Pack.{Node, no_node}
use Rattle.definition.specs.Good.{Below}
use Rattle.definition.proofs.Laws.Store.{place_found, place_none, StoreOnce}
use Rattle.definition.specs.Store.{is_variable, below, place_of, Stored, intern}
use Rattle.definition.specs.Tree.{Tree, Trees, tree, no_trees, tree_then}
use Rattle.definition.specs.Analysis.{StoredAll, lift, lift_all}
use Rattle.theory.specs.Copies.Terms.{Earlier, below-variable, below-applied}

-- a list behind another
pub data Grows {A : Type 0} (xs ys : List A) : Type 0 where
  with : (more : List A) → ys ≡ xs ++ more → Grows xs ys

pub grows_none : {A : Type 0} (xs : List A) → Grows xs xs
grows_none xs = with [] (sym (append-nil xs))

pub grows_then : {A : Type 0} (xs ys zs : List A) → Grows xs ys → Grows ys zs → Grows xs zs
grows_then xs ys zs (with a p) (with b q) = with (a ++ b) (q ∙ ap (λ l. l ++ b) p ∙ append_assoc xs a b)

pub grows_long : {A : Type 0} (xs ys : List A) → Grows xs ys → length xs ≤ length ys
grows_long xs ys (with a p) = let l = length-append xs a in let m = ap length p in omega arith

pub grows_at : {A : Type 0} (xs ys : List A) (d : A) (i : ℕ) → Grows xs ys → i < length xs → get_or ys i d ≡ get_or xs i d
grows_at xs ys d i (with a p) h = ap (λ l. get_or l i d) p ∙ get_or-append xs a d i h

-- one node more that was not there
once_more : (s : List Node) (n : Node) → StoreOnce s → ((k : ℕ) → k < length s → get_or s k no_node ≡ n → ⊥) → StoreOnce (s ++ (n ∷ []))
once_more s n O new i j a b e =
    let l = length-append s (n ∷ []) in
    let last = get_or_at s n [] no_node (length s) refl in
    elim (see (eqb i (length s))) [
      | is true p ↦ elim (see (eqb j (length s))) [
        | is true q ↦ omega tests
        | is false q ↦
            let o : j < length s = omega tests in
            absurd (new j o (sym (get_or-append s (n ∷ []) no_node j o) ∙ sym e ∙ ap (λ (k : ℕ). get_or (s ++ (n ∷ [])) k no_node) (eqb-true i (length s) p) ∙ last))
      ]
      | is false p ↦ elim (see (eqb j (length s))) [
        | is true q ↦
            let o : i < length s = omega tests in
            absurd (new i o (sym (get_or-append s (n ∷ []) no_node i o) ∙ e ∙ ap (λ (k : ℕ). get_or (s ++ (n ∷ [])) k no_node) (eqb-true j (length s) q) ∙ last))
        | is false q ↦
            let o : i < length s = omega tests in
            let u : j < length s = omega tests in
            O i j o u (sym (get_or-append s (n ∷ []) no_node i o) ∙ e ∙ get_or-append s (n ∷ []) no_node j u)
      ]
    ]

-- what interning gives
pub record Interned (s : List Node) (n : Node) (r : Stored) : Type 0 where
  pub grows : Grows s r.store
  pub within : r.number < length r.store
  pub is : get_or r.store r.number no_node ≡ n
  pub earlier : Earlier s → Below (length s) (below n) → Earlier r.store
  pub once : StoreOnce s → StoreOnce r.store

-- one node more that rests on those before it
earlier_more : (s : List Node) (n : Node) → Earlier s → Below (length s) (below n) → Earlier (s ++ (n ∷ []))
earlier_more s n E b i h = elim (see (eqb i (length s))) [
  | is true p ↦
      let e = eqb-true i (length s) p in
      let q : get_or (s ++ (n ∷ [])) i no_node ≡ n = ap (λ (k : ℕ). get_or (s ++ (n ∷ [])) k no_node) e ∙ get_or_at s n [] no_node (length s) refl in
      rw (q, e) b
  | is false p ↦
      let l = length-append s (n ∷ []) in
      let o : i < length s = omega tests in
      rw (get_or-append s (n ∷ []) no_node i o) (E i o)
]

pub interned : (s : List Node) (n : Node) → Interned s n (intern s n)
unfolding intern
interned s n = elim (see (place_of n s 0)) [
  | is (some p) e ↦
      let f = place_found n s 0 p e in
      let q : f.0 ≡ p = omega (arith, f.1) in
      rw (e, intern) (record { grows = grows_none s; within = omega (arith, f.2, q); is = ap (λ (k : ℕ). get_or s k no_node) (sym q) ∙ f.3; earlier = λ E b. E; once = λ O. O })
  | is none e ↦
      let l = length-append s (n ∷ []) in
      rw (e, intern) (record { grows = with (n ∷ []) refl; within = omega arith; is = get_or_at s n [] no_node (length s) refl; earlier = λ E b. earlier_more s n E b; once = λ O. once_more s n O (λ k h q. place_none n s 0 k e h q) })
]

-- numbers of a store that has grown
pub record Lifted (s : List Node) (r : Stored) : Type 0 where
  pub grows : Grows s r.store
  pub within : r.number < length r.store
  pub earlier : Earlier s → Earlier r.store
  pub once : StoreOnce s → StoreOnce r.store

pub record LiftedAll (s : List Node) (r : StoredAll) : Type 0 where
  pub grows : Grows s r.store
  pub within : Below (length r.store) r.numbers
  pub earlier : Earlier s → Earlier r.store
  pub once : StoreOnce s → StoreOnce r.store

-- what stands below a node stands among its arguments
pub below-args : (k : ℕ) (n : Node) → Below k n.args → Below k (below n)
below-args k n b = elim (see (is_variable n)) [
  | is true p ↦ rw (below-variable n p) tt
  | is false p ↦ rw (below-applied n p) b
]

mutual
  unfolding lift

  pub lifted : (t : Tree) (s : List Node) → Lifted s (lift t s)
  lifted (tree h ts) s =
      let L = lifted_all ts s in
      let args = lift_all ts s in
      let n : Node = record { head = h; args = args.numbers } in
      let I = interned args.store n in
      record { grows = grows_then s args.store (intern args.store n).store L.grows I.grows; within = I.within; earlier = λ E. I.earlier (L.earlier E) (below-args (length args.store) n L.within); once = λ O. I.once (L.once O) }

  pub lifted_all : (ts : Trees) (s : List Node) → LiftedAll s (lift_all ts s)
  lifted_all no_trees s = record { grows = grows_none s; within = tt; earlier = λ E. E; once = λ O. O }
  lifted_all (tree_then t ts) s =
      let F = lifted t s in
      let first = lift t s in
      let R = lifted_all ts first.store in
      let rest = lift_all ts first.store in
      let l = grows_long first.store rest.store R.grows in
      record { grows = grows_then s first.store rest.store F.grows R.grows; within = (omega (arith, F.within), R.within); earlier = λ E. R.earlier (F.earlier E); once = λ O. R.once (F.once O) }
