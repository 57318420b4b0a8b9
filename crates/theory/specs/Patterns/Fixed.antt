-- Terms read back with ground values: where each variable that gets no number has its value, a pattern stands for what its node stands for.
use Rattle.std.specs.Prelude.{◌≡◌, Bool, ◌||◌, eqb}
use Rattle.std.proofs.Math.Path.{refl, sym, ap, ap₂}
use Rattle.std.proofs.Common.{◌∙◌, subst, arith, eq-eqb}
use Rattle.std.proofs.Math.Bool.{true, false}
use mathlib.Core.List.{List, [], ◌∷◌, ◌++◌}
use Rattle.std.proofs.Math.Option.{none, some}
use Prim.Native.Nat.{ℕ, zero, suc, ◌<◌}
use Rattle.std.proofs.Math.ListN.{length, get_or, length-append}
use Rattle.std.proofs.lemmas.List.{get_or_at}
use Rattle.definition.specs.Test.{is, see, never, all, and_parts}
use Rattle.definition.specs.Pack.{Node, no_node, Pack}
use Rattle.definition.specs.Tree.{Tree, tree, tree_then, tree_of, turn, turns}
use Rattle.definition.specs.Verdict.{Bound, value_of}
use Rattle.definition.specs.Good.{Below, Good, Few}
use Rattle.definition.specs.Store.{variable_head, variable_node, is_variable, below, term_of, intern}
use Rattle.definition.specs.Graph.{Graph, vertex, root, is_var, ends}
use Rattle.definition.specs.Analysis.{copied, Numbered, ResolvedOne, Resolved, number_of, resolve_variable, resolve_at, resolve}
use Rattle.theory.specs.Unification.Solve.{trees_at, Solves, Formed}
use Rattle.theory.specs.Unification.Acyclic.{solves_root}
use Rattle.theory.specs.Patterns.Valued.{Agreeing, deep_ends}
use Rattle.theory.specs.Copies.Terms.{Earlier, terms_at, term_variable}
use Rattle.theory.specs.Patterns.Interned.{Grows, with, grows_none, grows_then, grows_long, interned, lifted, below-args}
use Rattle.theory.specs.Patterns.Resolved.{term_grows, Means, means_before, number_found}
use Rattle.theory.specs.Patterns.Ground.{Ground, applied_means, lift_means, node_ground}

-- a number that has been found is the one copied to
copied-value : (vs : List Bound) (r m : ℕ) → value_of r vs ≡ some m → copied vs r ≡ m
unfolding copied
copied-value vs r m e = rw (e, copied)

-- what reading a node back gives
record FixedOne (θ : ℕ → Tree) (x : ℕ) (st : Numbered) (r : ResolvedOne) : Type 0 where
  pub store_grows : Grows st.store r.state.store
  pub numbers-grow : Grows st.numbering r.state.numbering
  pub earlier : Earlier r.state.store
  pub within : r.pattern < length r.state.store
  pub meaning : (ρ : ℕ → Tree) → Means θ r.state.numbering ρ → turn ρ (term_of r.state.store r.pattern) ≡ θ x

-- what reading nodes back gives
pub record Fixed (θ : ℕ → Tree) (xs : List ℕ) (st : Numbered) (r : Resolved) : Type 0 where
  pub store_grows : Grows st.store r.state.store
  pub numbers-grow : Grows st.numbering r.state.numbering
  pub earlier : Earlier r.state.store
  pub within : Below (length r.state.store) r.patterns
  pub meaning : (ρ : ℕ → Tree) → Means θ r.state.numbering ρ → turns ρ (terms_at r.state.store r.patterns) ≡ trees_at θ xs

-- a variable interned: the pattern stands for what its number stands for
variable-fixed : (θ : ℕ → Tree) (r k so : ℕ) (st : Numbered) (numbers : List ℕ) → Earlier st.store → Grows st.numbering numbers → k < length numbers → get_or numbers k 0 ≡ r
    → FixedOne θ r st (record { pattern = (intern st.store (variable_node k so)).number; state = record { numbering = numbers; store = (intern st.store (variable_node k so)).store } })
unfolding turn below is_variable
variable-fixed θ r k so st numbers E N h e =
    let I = interned st.store (variable_node k so) in
    let p = intern st.store (variable_node k so) in
    let L : Earlier p.store = I.earlier E tt in
    let v : is_variable (get_or p.store p.number no_node) ≡ true = rw I.is (eq-eqb variable_head variable_head refl) in
    record {
      store_grows = I.grows;
      numbers-grow = N;
      earlier = L;
      within = I.within;
      meaning = λ ρ M. ap (turn ρ) (term_variable p.store L p.number I.within v) ∙ ap (λ (n : Node). ρ (get_or n.args 0 0)) I.is ∙ M.at k h ∙ ap θ e;
    }

-- what has no number in the end had none before
number_before : (r : ℕ) (xs more : List ℕ) (i : ℕ) → number_of r (xs ++ more) i ≡ none → number_of r xs i ≡ none
unfolding number_of
number_before r [] more i e = refl
number_before r (x ∷ xs) more i e = elim (see (eqb x r)) [
  | is true t ↦ never (let z : some i ≡ none = rw (t, number_of) at e in cc)
  | is false t ↦ rw (t, number_of) (number_before r xs more (suc i) (rw (t, number_of) at e))
]

-- what has no number in a numbering that has grown
number_since : (r : ℕ) (xs ys : List ℕ) → Grows xs ys → number_of r ys 0 ≡ none → number_of r xs 0 ≡ none
number_since r xs ys (with more p) e = number_before r xs more 0 (ap (λ (l : List ℕ). number_of r l 0) (sym p) ∙ e)

-- all of these nodes
abbrev pub Each : (ℕ → Type 0) → List ℕ → Type 0
Each Q [] = Unit {0}
Each Q (x ∷ xs) = Q x × Each Q xs

-- what holds of a node holds of its root and of what is below that
pub record Downward (g : Graph) (Q : ℕ → Type 0) : Type 0 where
  pub roots : (x : ℕ) → x < length g → Q x → Q (root g x)
  pub args : (r : ℕ) → r < length g → (vertex g r).link ≡ none → is_var (vertex g r) ≡ false → Q r → Each Q (vertex g r).args

-- values that agree with a solution, one for each unjoined variable of these nodes that gets no number by itself and has none at the start
module _ (P : Pack) (G : Good P) (W : Few P) (g : Graph) (values : List Bound) (everyone : Bool) (θ : ℕ → Tree) (A : Agreeing P θ values) (start : List ℕ) (Q : ℕ → Type 0) (D : Downward g Q)
    (known : (r : ℕ) → r < length g → (vertex g r).link ≡ none → is_var (vertex g r) ≡ true → Q r → (everyone || (vertex g r).flex) ≡ false → number_of r start 0 ≡ none → (m : ℕ) × (value_of r values ≡ some m)) where
  -- a variable
  fix_variable : (r : ℕ) (st : Numbered) → Earlier st.store → Grows start st.numbering → r < length g → (vertex g r).link ≡ none → Q r → is_var (vertex g r) ≡ true
      → FixedOne θ r st (resolve_variable P g values everyone r st)
  unfolding resolve_variable
  fix_variable r st E N h l o w = elim (see (number_of r st.numbering 0)) [
    | is (some k) p ↦
        let f = number_found r st.numbering 0 k p in
        let q : f.0 ≡ k = omega (arith, f.1) in
        rw (p, resolve_variable) (variable-fixed θ r k (vertex g r).sort st st.numbering E (grows_none st.numbering) (omega (arith, f.2, q))
        (ap (λ (i : ℕ). get_or st.numbering i 0) (sym q) ∙ f.3))
    | is none p ↦ elim (see (everyone || (vertex g r).flex)) [
      | is true q ↦
          let k = length st.numbering in
          let n = length-append st.numbering (r ∷ []) in
          rw (p, resolve_variable, q) (variable-fixed θ r k (vertex g r).sort st (st.numbering ++ (r ∷ [])) E (with (r ∷ []) refl) (omega arith) (get_or_at st.numbering r [] 0 k refl))
      | is false q ↦
          let v = known r h l w o q (number_since r start st.numbering N p) in
          let c = copied-value values r v.0 v.1 in
          let t = tree_of P (copied values r) in
          let L = lifted t st.store in
          rw (p, resolve_variable, q) (record {
            store_grows = L.grows;
            numbers-grow = grows_none st.numbering;
            earlier = L.earlier E;
            within = L.within;
            meaning = λ ρ M.
                lift_means t st.store ρ E (subst (λ (m : ℕ). Ground (tree_of P m)) (sym c) (node_ground P G W v.0 (A.given r v.0 v.1)))
                ∙ ap (tree_of P) c ∙ sym (A.trees_of r v.0 v.1);
          })
    ]
  ]

  -- a root, if what is below it can be read back
  fix_at : (deeper : List ℕ → Numbered → Resolved) (r : ℕ) (st : Numbered) → Earlier st.store → Grows start st.numbering → Solves θ g → r < length g → (vertex g r).link ≡ none → Q r
      → (is_var (vertex g r) ≡ false → Fixed θ (vertex g r).args st (deeper (vertex g r).args st))
      → FixedOne θ r st (resolve_at P g values everyone deeper r st)
  unfolding resolve_at is_var
  fix_at deeper r st E N S h l o below = elim (see (is_var (vertex g r))) [
    | is true w ↦ rw (w, resolve_at) (fix_variable r st E N h l o w)
    | is false w ↦
        let args = deeper (vertex g r).args st in
        let B = below w in
        let n : Node = record { head = (vertex g r).head; args = args.patterns } in
        let I = interned args.state.store n in
        rw (w, resolve_at) (record {
          store_grows = grows_then st.store args.state.store (intern args.state.store n).store B.store_grows I.grows;
          numbers-grow = B.numbers-grow;
          earlier = I.earlier B.earlier (below-args (length args.state.store) n B.within);
          within = I.within;
          meaning = λ ρ M. applied_means args.state.store (vertex g r).head args.patterns ρ B.earlier B.within w ∙ ap (tree (vertex g r).head) (B.meaning ρ M) ∙ sym (S.apps r h l w);
        })
  ]

  -- nodes that end within d levels are read back as what they stand for
  pub fix_back : (d : ℕ) (xs : List ℕ) (st : Numbered) → Earlier st.store → Grows start st.numbering → Formed P g → Solves θ g → Below (length g) xs → Each Q xs → all (λ x. ends d g x) xs ≡ true
      → Fixed θ xs st (resolve d P g values everyone xs st)
  unfolding resolve trees_at turn all ends terms_at
  fix_back zero [] st E N F S b o e = record { store_grows = grows_none st.store; numbers-grow = grows_none st.numbering; earlier = E; within = tt; meaning = λ ρ M. refl }
  fix_back zero (x ∷ xs) st E N F S b o e = let p = and_parts (ends 0 g x) (all (λ y. ends 0 g y) xs) e in never (let z : false ≡ true = p.0 in cc)
  fix_back (suc d) [] st E N F S b o e = record { store_grows = grows_none st.store; numbers-grow = grows_none st.numbering; earlier = E; within = tt; meaning = λ ρ M. refl }
  fix_back (suc d) (x ∷ xs) st E N F S b o e =
      let r = root g x in
      let f = F x b.0 in
      let q = D.roots x b.0 o.0 in
      let p = and_parts (ends (suc d) g x) (all (λ y. ends (suc d) g y) xs) e in
      let first = resolve_at P g values everyone (λ ys s. resolve d P g values everyone ys s) r st in
      let A = fix_at (λ ys s. resolve d P g values everyone ys s) r st E N S f.within f.rooted q
      (λ w. fix_back d (vertex g r).args st E N F S (F r f.within).below (D.args r f.within f.rooted w q) (deep_ends g d x p.0 w)) in
      let rest = resolve (suc d) P g values everyone xs first.state in
      let R = fix_back (suc d) xs first.state A.earlier (grows_then start st.numbering first.state.numbering N A.numbers-grow) F S b.1 o.1 p.1 in
      let l = grows_long first.state.store rest.state.store R.store_grows in
      record {
        store_grows = grows_then st.store first.state.store rest.state.store A.store_grows R.store_grows;
        numbers-grow = grows_then st.numbering first.state.numbering rest.state.numbering A.numbers-grow R.numbers-grow;
        earlier = R.earlier;
        within = (omega (arith, A.within), R.within);
        meaning = λ ρ M.
            ap₂ tree_then
            (ap (turn ρ) (term_grows first.state.store rest.state.store first.pattern R.store_grows A.within)
            ∙ A.meaning ρ (means_before θ first.state.numbering rest.state.numbering ρ R.numbers-grow M)
            ∙ sym (solves_root θ P g F S x b.0))
            (R.meaning ρ M);
      }
