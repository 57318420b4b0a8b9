-- The store's nodes stay patterns when terms are read back from a graph whose nodes have few arguments.
use Rattle.std.specs.Prelude.{Bool, ◌||◌, length}
use Rattle.std.proofs.Math.Bool.{true, false}
use mathlib.Core.List.{List, [], ◌∷◌}
use Rattle.std.proofs.Math.Option.{none, some}
use Prim.Native.Nat.{ℕ, zero, suc, ◌≤◌}
use Rattle.std.proofs.Common.{arith}
use Rattle.definition.specs.Test.{is, see}
use Rattle.definition.specs.Pack.{Node, Pack}
use Rattle.definition.specs.Good.{Below, Good, Few}
use Rattle.definition.specs.Verdict.{Bound}
use Rattle.definition.specs.Store.{is_variable}
use Rattle.definition.specs.Graph.{Graph, vertex, root, is_var}
use Rattle.definition.specs.Analysis.{copied, Numbered, Resolved, number_of, resolve_variable, resolve_at, resolve}
use Rattle.theory.specs.Patterns.Interned.{Grows}
use Rattle.theory.specs.Patterns.Entries.{resolve_keeps}
use Rattle.theory.specs.Copies.Terms.{Patterns}
use Rattle.theory.specs.Making.Interns.{intern-variable, intern-applied}
use Rattle.theory.specs.Making.Lifts.{lift_tree}
use Rattle.theory.specs.Making.Resolves.{resolve-most}
use Rattle.theory.specs.Making.FewArgs.{FewArgs}

-- what was read back of these nodes, behind what was there
pub record ReadBack (xs : List ℕ) (st : Numbered) (r : Resolved) : Type 0 where
  pub patterns : Patterns r.state.store
  pub inside : Below (length r.state.store) r.patterns
  pub few : length r.patterns ≤ length xs
  pub grows : Grows st.store r.state.store

module _ (P : Pack) (G : Good P) (W : Few P) (g : Graph) (F : FewArgs g) (values : List Bound) (everyone : Bool) where
  variable_patterns : (r : ℕ) (st : Numbered) → Patterns st.store → Patterns (resolve_variable P g values everyone r st).state.store
  unfolding resolve_variable
  variable_patterns r st S = elim (see (number_of r st.numbering 0)) [
    | is (some k) p ↦ rw (p, resolve_variable) (intern-variable st.store k (vertex g r).sort S).patterns
    | is none p ↦ elim (see (everyone || (vertex g r).flex)) [
      | is true q ↦ rw (p, resolve_variable, q) (intern-variable st.store (length st.numbering) (vertex g r).sort S).patterns
      | is false q ↦ rw (p, resolve_variable, q) (lift_tree P G W (copied values r) st.store S).patterns
    ]
  ]

  at_patterns : (deeper : List ℕ → Numbered → Resolved) (r : ℕ) (st : Numbered) → ReadBack (vertex g r).args st (deeper (vertex g r).args st) → Patterns st.store → Patterns (resolve_at P g values everyone deeper r st).state.store
  unfolding resolve_at is_var is_variable
  at_patterns deeper r st B S = elim (see (is_var (vertex g r))) [
    | is true w ↦ rw (w, resolve_at) (variable_patterns r st S)
    | is false w ↦
        let args = deeper (vertex g r).args st in
        let n : Node = record { head = (vertex g r).head; args = args.patterns } in
        rw (w, resolve_at) (intern-applied args.state.store n B.patterns w (omega (arith, B.few, F r)) B.inside).patterns
  ]

  -- with what is known of it whatever the store was
  read_back : (d : ℕ) (xs : List ℕ) (st : Numbered) → Patterns (resolve d P g values everyone xs st).state.store → ReadBack xs st (resolve d P g values everyone xs st)
  read_back d xs st S =
      let K = resolve_keeps P g values everyone d xs st in
      record { patterns = S; inside = K.1; few = resolve-most d P g values everyone xs st; grows = K.0.grows }

  store_patterns : (d : ℕ) (xs : List ℕ) (st : Numbered) → Patterns st.store → Patterns (resolve d P g values everyone xs st).state.store
  unfolding resolve
  store_patterns zero [] st S = S
  store_patterns zero (x ∷ xs) st S = S
  store_patterns (suc d) [] st S = S
  store_patterns (suc d) (x ∷ xs) st S =
      let r = root g x in
      let deeper : List ℕ → Numbered → Resolved = λ ys s. resolve d P g values everyone ys s in
      let A = at_patterns deeper r st (read_back d (vertex g r).args st (store_patterns d (vertex g r).args st S)) S in
      store_patterns (suc d) xs (resolve_at P g values everyone deeper r st).state A

  -- whatever nodes are read back, however deep
  pub resolve_patterns : (d : ℕ) (xs : List ℕ) (st : Numbered) → Patterns st.store → ReadBack xs st (resolve d P g values everyone xs st)
  resolve_patterns d xs st S = read_back d xs st (store_patterns d xs st S)
