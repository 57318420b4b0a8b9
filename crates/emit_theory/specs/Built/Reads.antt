-- Nodes of a well-formed graph read back into a well-sorted store: where each variable that gets no number has a ground value of its sort, the
-- store stays well sorted, and the patterns have their nodes' sorts.
use Rattle.std.specs.Prelude.{◌≡◌, Bool, ◌||◌, length}
use Rattle.std.proofs.Common.{sym, ◌∙◌}
use Rattle.std.proofs.Math.Path.{subst}
use Rattle.std.proofs.Math.Bool.{true, false}
use mathlib.Core.List.{List, [], ◌∷◌}
use Rattle.std.proofs.Math.Option.{none, some}
use Prim.Native.Nat.{ℕ, zero, suc, ◌<◌}
use Rattle.definition.specs.Test.{is, see, never, all, and_parts}
use Rattle.definition.specs.Pack.{Pack, symbol_of, sort_of}
use Rattle.definition.specs.Tree.{tree_of}
use Rattle.definition.specs.Good.{Below, Good, Few}
use Rattle.definition.specs.Verdict.{Bound, value_of}
use Rattle.definition.specs.Store.{Stored}
use Rattle.definition.specs.Graph.{Graph, vertex, root, is_var, ends}
use Rattle.definition.specs.Analysis.{copied, StoredAll, lift, Numbered, ResolvedOne, Resolved, number_of, resolve_variable, resolve_at, resolve}
use Rattle.theory.specs.Unification.Solve.{sort_at, SortsAt, Formed}
use Rattle.theory.specs.Unification.Kept.{root-sort}
use Rattle.theory.specs.Copies.Begin.{sort_at-variable, sort_at-applied}
use Rattle.theory.specs.Copies.Copying.{copied_is}
use Rattle.theory.specs.Patterns.Valued.{deep_ends}
use Rattle.theory.specs.Patterns.Fixed.{Each, Downward}
use Rattle.emit_theory.specs.Stores.{SortedStore}
use Rattle.emit_theory.specs.Built.Lifts.{Holds, HoldsAll, holds_none, holds_first, holds_variable, holds_over, lift_node_law}

-- a pattern read back, with its store
abbrev pub stored : ResolvedOne → Stored
stored r = record { number = r.pattern; store = r.state.store }

-- patterns read back, with theirs
abbrev pub stored_all : Resolved → StoredAll
stored_all r = record { numbers = r.patterns; store = r.state.store }

-- values of ground nodes, one for each unjoined variable of these nodes that gets no number by itself
module _ (P : Pack) (good : Good P) (few : Few P) (g : Graph) (F : Formed P g) (values : List Bound) (everyone : Bool) (Q : ℕ → Type 0) (D : Downward g Q)
    (known : (r : ℕ) → r < length g → (vertex g r).link ≡ none → is_var (vertex g r) ≡ true → Q r → (everyone || (vertex g r).flex) ≡ false
    → (m : ℕ) × (value_of r values ≡ some m) × (m < length P.nodes) × (sort_of P m ≡ sort_at P g r)) where
  -- a variable
  variable_read : (r : ℕ) (st : Numbered) → SortedStore P st.store → r < length g → (vertex g r).link ≡ none → Q r → is_var (vertex g r) ≡ true
      → Holds P (sort_at P g r) st.store (stored (resolve_variable P g values everyone r st))
  unfolding resolve_variable
  variable_read r st S l a q v =
      let so = sort_at-variable P g r v in
      elim (see (number_of r st.numbering 0)) [
        | is (some k) p ↦ rw (p, resolve_variable, so) (holds_variable P st.store k (vertex g r).sort S)
        | is none p ↦ elim (see (everyone || (vertex g r).flex)) [
          | is true f ↦ rw (p, resolve_variable, f, so) (holds_variable P st.store (length st.numbering) (vertex g r).sort S)
          | is false f ↦
              let K = known r l a v q f in
              let c : copied values r ≡ K.0 = copied_is values r K.0 K.1 in
              let H : Holds P (sort_at P g r) st.store (lift (tree_of P (copied values r)) st.store) =
              rw (c, ← K.3) (lift_node_law P good few K.0 st.store K.2 S) in
              rw (p, resolve_variable, f) H
        ]
      ]

  -- a root, if what is below it can be read back
  root_read : (deeper : List ℕ → Numbered → Resolved) (r : ℕ) (st : Numbered) → SortedStore P st.store → r < length g → (vertex g r).link ≡ none → Q r
      → (is_var (vertex g r) ≡ false → (ss : List ℕ) → SortsAt P g (vertex g r).args ss → HoldsAll P ss st.store (stored_all (deeper (vertex g r).args st)))
      → Holds P (sort_at P g r) st.store (stored (resolve_at P g values everyone deeper r st))
  unfolding resolve_at
  root_read deeper r st S l a q below = elim (see (is_var (vertex g r))) [
    | is true v ↦ rw (v, resolve_at) (variable_read r st S l a q v)
    | is false v ↦
        let N = F r l in
        rw (v, resolve_at, sort_at-applied P g r v)
        (holds_over P few (vertex g r).head st.store (stored_all (deeper (vertex g r).args st)) (N.head v) (below v (symbol_of P (vertex g r).head).inputs (N.sorts v)))
  ]

  -- nodes that end within d levels
  pub resolve_sorted : (d : ℕ) (xs : List ℕ) (st : Numbered) → SortedStore P st.store → Below (length g) xs → Each Q xs → all (λ x. ends d g x) xs ≡ true
      → (ss : List ℕ) → SortsAt P g xs ss → HoldsAll P ss st.store (stored_all (resolve d P g values everyone xs st))
  unfolding resolve all ends
  resolve_sorted zero [] st S b o e [] q = holds_none P st.store S
  resolve_sorted zero [] st S b o e (so ∷ ss) q = absurd q
  resolve_sorted zero (x ∷ xs) st S b o e ss q = let p = and_parts (ends 0 g x) (all (λ y. ends 0 g y) xs) e in never (let z : false ≡ true = p.0 in cc)
  resolve_sorted (suc d) [] st S b o e [] q = holds_none P st.store S
  resolve_sorted (suc d) [] st S b o e (so ∷ ss) q = absurd q
  resolve_sorted (suc d) (x ∷ xs) st S b o e [] q = absurd q
  resolve_sorted (suc d) (x ∷ xs) st S b o e (so ∷ ss) q =
      let r = root g x in
      let f = F x b.0 in
      let w = D.roots x b.0 o.0 in
      let p = and_parts (ends (suc d) g x) (all (λ y. ends (suc d) g y) xs) e in
      let deeper : List ℕ → Numbered → Resolved = λ ys s. resolve d P g values everyone ys s in
      let first = resolve_at P g values everyone deeper r st in
      let A = root_read deeper r st S f.within f.rooted w
      (λ v ts t. resolve_sorted d (vertex g r).args st S (F r f.within).below (D.args r f.within f.rooted v w) (deep_ends g d x p.0 v) ts t) in
      let B : Holds P so st.store (stored first) = subst (λ (t : ℕ). Holds P t st.store (stored first)) (sym (root-sort P g F x b.0) ∙ q.0) A in
      let R = resolve_sorted (suc d) xs first.state B.sorted b.1 o.1 p.1 ss q.1 in
      holds_first P so ss st.store (stored first) (stored_all (resolve (suc d) P g values everyone xs first.state)) B R
