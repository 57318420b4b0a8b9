-- Laws of the definition alone: the numbers of a store's variables stay below a bound when patterns are put into it, if the class that
-- is made has no more variables.
use Rattle.std.specs.Prelude.{◌≡◌, refl, Bool, ◌||◌, length, get_or, eqb}
use Rattle.std.proofs.Common.{ap, ◌∙◌, arith}
use Rattle.std.proofs.Math.Bool.{true, false}
use mathlib.Core.List.{List, [], ◌∷◌, ◌++◌}
use Rattle.std.proofs.Math.Option.{none, some}
use Prim.Native.Nat.{ℕ, zero, suc, ◌+◌, ◌<◌, ◌≤◌}
use Rattle.std.proofs.Math.Decide.{dec_lt}
use Rattle.std.proofs.Math.ListN.{length-append, get_or-append}
use Rattle.std.proofs.lemmas.List.{get_or_at}
use Rattle.definition.specs.Test.{is, see, never}
use Rattle.definition.specs.Pack.{Node, no_node, Pack, symbol_of}
use Rattle.definition.specs.Tree.{Tree, Trees, tree, no_trees, tree_then, tree_of}
use Rattle.definition.specs.Good.{Good, Few}
use Rattle.definition.specs.Verdict.{Bound}
use Rattle.definition.proofs.Laws.Grow.{length_more}
use Rattle.definition.specs.Store.{variable_node, is_variable, place_of, intern}
use Rattle.definition.specs.Graph.{Graph, vertex, root, is_var}
use Rattle.definition.specs.Analysis.{copied, lift, lift_all, Numbered, Resolved, number_of, resolve_variable, resolve_at, resolve}
use Rattle.definition.specs.Classes.{fresh_variables}
use Rattle.theory.specs.Walks.Matching.{number_of as number_in}
use Rattle.theory.specs.Making.Interns.{not-variable, symbol-head, cut_top}
use Rattle.theory.specs.Making.Lifts.{Slim, SlimAll, tree_slim}

-- a variable node has a number below n
abbrev pub NumberBelow : ℕ → Node → Type 0
NumberBelow n m = is_variable m ≡ true → get_or m.args 0 0 < n

-- all of a store have
abbrev pub VariablesBelow : ℕ → List Node → Type 0
VariablesBelow n s = (q : ℕ) → q < length s → is_variable (get_or s q no_node) ≡ true → number_in s q < n

-- of none
pub variables_none : (n : ℕ) → VariablesBelow n []
variables_none n q h = absurd (omega arith)

-- below a higher bound
pub variables_higher : (n m : ℕ) (s : List Node) → n ≤ m → VariablesBelow n s → VariablesBelow m s
variables_higher n m s h B q l v = omega (arith, B q l v)

-- ---- one node more
-- behind the others
variables_more : (n : ℕ) (s : List Node) (m : Node) → VariablesBelow n s → NumberBelow n m → VariablesBelow n (s ++ (m ∷ []))
variables_more n s m B new q l = elim (dec_lt q (length s)) [
  | yes h ↦ rw (get_or-append s (m ∷ []) no_node q h) (B q h)
  | no h ↦
      let e : q ≡ length s = omega (arith, h, length_more s m) in
      let i : get_or (s ++ (m ∷ [])) q no_node ≡ m = ap (λ (j : ℕ). get_or (s ++ (m ∷ [])) j no_node) e ∙ get_or_at s m [] no_node (length s) refl in
      rw i new
]

-- interned
pub variables_intern : (n : ℕ) (s : List Node) (m : Node) → VariablesBelow n s → NumberBelow n m → VariablesBelow n (intern s m).store
unfolding intern
variables_intern n s m B new = elim (see (place_of m s 0)) [
  | is (some i) e ↦ rw (e, intern) B
  | is none e ↦ rw (e, intern) (variables_more n s m B new)
]

-- a variable
pub variables_variable : (n : ℕ) (s : List Node) (k so : ℕ) → VariablesBelow n s → k < n → VariablesBelow n (intern s (variable_node k so)).store
variables_variable n s k so B h = variables_intern n s (variable_node k so) B (λ v. h)

-- an application
pub variables_applied : (n : ℕ) (s : List Node) (m : Node) → VariablesBelow n s → is_variable m ≡ false → VariablesBelow n (intern s m).store
variables_applied n s m B a = variables_intern n s m B (λ v. never (cc))

-- ---- a cut class's conclusion
-- variables numbered on from k
pub variables_fresh : (n : ℕ) (sorts : List ℕ) (k : ℕ) (s : List Node) → k + length sorts ≤ n → VariablesBelow n s → VariablesBelow n (fresh_variables sorts k s).store
unfolding fresh_variables
variables_fresh n [] k s h B = B
variables_fresh n (so ∷ sorts) k s h B = variables_fresh n sorts (suc k) (intern s (variable_node k so)).store (omega arith) (variables_variable n s k so B (omega arith))

-- over them the predicate
pub variables_cut : (P : Pack) → Few P → (p : ℕ) → p < length P.symbols → (n : ℕ) → length (symbol_of P p).inputs ≤ n → (s : List Node) → VariablesBelow n s → VariablesBelow n (cut_top P p s).store
variables_cut P W p l n h s B =
    let vs = fresh_variables (symbol_of P p).inputs 0 s in
    let m : Node = record { head = p; args = vs.numbers } in
    variables_applied n vs.store m (variables_fresh n (symbol_of P p).inputs 0 s (omega arith) B) (not-variable m (symbol-head P W p l))

-- ---- a ground term
mutual
  unfolding lift

  variables_lift : (n : ℕ) (t : Tree) → Slim t → (s : List Node) → VariablesBelow n s → VariablesBelow n (lift t s).store
  variables_lift n (tree h ts) w s B =
      let args = lift_all ts s in
      let m : Node = record { head = h; args = args.numbers } in
      variables_applied n args.store m (variables_lift_all n ts w.2 s B) (not-variable m w.0)

  variables_lift_all : (n : ℕ) (ts : Trees) → SlimAll ts → (s : List Node) → VariablesBelow n s → VariablesBelow n (lift_all ts s).store
  variables_lift_all n no_trees w s B = B
  variables_lift_all n (tree_then t ts) w s B = variables_lift_all n ts w.1 (lift t s).store (variables_lift n t w.0 s B)

-- of the pack
pub variables_tree : (P : Pack) → Good P → Few P → (n : ℕ) (x : ℕ) (s : List Node) → VariablesBelow n s → VariablesBelow n (lift (tree_of P x) s).store
variables_tree P G W n x s B = variables_lift n (tree_of P x) (tree_slim P G W x) s B

-- ---- terms read back
-- a number that was given is below their number
number_given : (x : ℕ) (ys : List ℕ) (i k : ℕ) → number_of x ys i ≡ some k → k < i + length ys
unfolding number_of
number_given x [] i k e = never (cc)
number_given x (y ∷ ys) i k e = elim (see (eqb y x)) [
  | is true p ↦ let q : some i ≡ some k = rw (p, number_of) at e in let r : i ≡ k = cc in omega arith
  | is false p ↦ let h = number_given x ys (suc i) k (rw (p, number_of) at e) in omega arith
]

-- numbers are only added, and if there are no more than n of them at the end the variables' are below n
pub record Bounded (n : ℕ) (st st' : Numbered) : Type 0 where
  pub grows : length st.numbering ≤ length st'.numbering
  pub bounded : length st'.numbering ≤ n → VariablesBelow n st.store → VariablesBelow n st'.store

-- one after the other
pub bounded_then : (n : ℕ) (st st' st'' : Numbered) → Bounded n st st' → Bounded n st' st'' → Bounded n st st''
bounded_then n st st' st'' A B = record { grows = omega (arith, A.grows, B.grows); bounded = λ h S. B.bounded h (A.bounded (omega (arith, h, B.grows)) S) }

module _ (P : Pack) (G : Good P) (W : Few P) (g : Graph) (values : List Bound) (everyone : Bool) (n : ℕ) where
  -- a variable
  variable_bounded : (r : ℕ) (st : Numbered) → Bounded n st (resolve_variable P g values everyone r st).state
  unfolding resolve_variable
  variable_bounded r st = elim (see (number_of r st.numbering 0)) [
    | is (some k) p ↦
        let l = number_given r st.numbering 0 k p in
        rw (p, resolve_variable) (record { grows = omega arith; bounded = λ h S. variables_variable n st.store k (vertex g r).sort S (omega arith) })
    | is none p ↦ elim (see (everyone || (vertex g r).flex)) [
      | is true q ↦
          let m = length-append st.numbering (r ∷ []) in
          rw (p, resolve_variable, q) (record { grows = omega arith; bounded = λ h S. variables_variable n st.store (length st.numbering) (vertex g r).sort S (omega arith) })
      | is false q ↦ rw (p, resolve_variable, q) (record { grows = omega arith; bounded = λ h S. variables_tree P G W n (copied values r) st.store S })
    ]
  ]

  -- a root, its arguments first
  at_bounded : (deeper : List ℕ → Numbered → Resolved) (r : ℕ) (st : Numbered) → Bounded n st (deeper (vertex g r).args st).state → Bounded n st (resolve_at P g values everyone deeper r st).state
  unfolding resolve_at is_var is_variable
  at_bounded deeper r st B = elim (see (is_var (vertex g r))) [
    | is true w ↦ rw (w, resolve_at) (variable_bounded r st)
    | is false w ↦
        let args = deeper (vertex g r).args st in
        let m : Node = record { head = (vertex g r).head; args = args.patterns } in
        rw (w, resolve_at) (record { grows = B.grows; bounded = λ h S. variables_applied n args.state.store m (B.bounded h S) w })
  ]

  -- whatever nodes are read back, however deep
  pub resolve_bounded : (d : ℕ) (xs : List ℕ) (st : Numbered) → Bounded n st (resolve d P g values everyone xs st).state
  unfolding resolve
  resolve_bounded zero [] st = record { grows = omega arith; bounded = λ h S. S }
  resolve_bounded zero (x ∷ xs) st = record { grows = omega arith; bounded = λ h S. S }
  resolve_bounded (suc d) [] st = record { grows = omega arith; bounded = λ h S. S }
  resolve_bounded (suc d) (x ∷ xs) st =
      let r = root g x in
      let deeper : List ℕ → Numbered → Resolved = λ ys s. resolve d P g values everyone ys s in
      let first = (resolve_at P g values everyone deeper r st).state in
      let A = at_bounded deeper r st (resolve_bounded d (vertex g r).args st) in
      bounded_then n st first (resolve (suc d) P g values everyone xs first).state A (resolve_bounded (suc d) xs first)
