-- Terms read back: store and numbering only grow, and with all variables numbered a pattern stands for what its node stands for.
use Rattle.std.specs.Prelude.{◌≡◌, Bool, ◌||◌, eqb}
use Rattle.std.proofs.Math.Path.{refl, sym, ap, ap₂}
use Rattle.std.proofs.Common.{◌∙◌, arith, eqb-true, eq-eqb}
use Rattle.std.proofs.Math.Bool.{true, false}
use mathlib.Core.List.{List, [], ◌∷◌}
use Rattle.std.proofs.Math.Option.{none, some}
use Prim.Native.Nat.{ℕ, zero, suc, ◌+◌, ◌<◌}
use Rattle.std.proofs.Math.ListN.{length, get_or, length-append}
use Rattle.std.proofs.lemmas.List.{get_or_at}
use Rattle.definition.specs.Test.{is, see, never, all, and_parts}
use Rattle.definition.specs.Pack.{Terms, cons, Node, no_node, Pack}
use Rattle.definition.specs.Tree.{Tree, tree, tree_then, tree_of, turn, turns}
use Rattle.definition.specs.Verdict.{Bound}
use Rattle.definition.specs.Good.{Below}
use Rattle.definition.specs.Store.{variable_head, variable_node, is_variable, below, term_of, intern}
use Rattle.definition.specs.Graph.{Graph, vertex, root, is_var, ends}
use Rattle.definition.specs.Analysis.{copied, Numbered, ResolvedOne, Resolved, number_of, resolve_variable, resolve_at, resolve}
use Rattle.definition.proofs.Laws.Store.{StoreOnce}
use Rattle.theory.specs.Unification.Solve.{trees_at, Solves, Formed}
use Rattle.theory.specs.Unification.Acyclic.{solves_root}
use Rattle.theory.specs.Patterns.Valued.{deep_ends}
use Rattle.theory.specs.Copies.Terms.{Earlier, terms_at, term_variable, term_applied, term_append}
use Rattle.theory.specs.Patterns.Interned.{Grows, with, grows_none, grows_then, grows_long, grows_at, interned, lifted, below-args}

-- a number's term in a store that has grown
pub term_grows : (s t : List Node) (n : ℕ) → Grows s t → n < length s → term_of t n ≡ term_of s n
term_grows s t n (with more p) h = ap (λ (l : List Node). term_of l n) p ∙ term_append s more n h

pub terms_grow : (s t : List Node) (ns : List ℕ) → Grows s t → Below (length s) ns → terms_at t ns ≡ terms_at s ns
unfolding terms_at
terms_grow s t [] G b = refl
terms_grow s t (n ∷ ns) G b = ap₂ cons (term_grows s t n G b.0) (terms_grow s t ns G b.1)

-- trees that the numbered variables have in a solution
pub record Means (θ : ℕ → Tree) (numbering : List ℕ) (ρ : ℕ → Tree) : Type 0 where
  pub at : (k : ℕ) → k < length numbering → ρ k ≡ θ (get_or numbering k 0)

pub means_before : (θ : ℕ → Tree) (xs ys : List ℕ) (ρ : ℕ → Tree) → Grows xs ys → Means θ ys ρ → Means θ xs ρ
means_before θ xs ys ρ G M = record { at = λ k h. M.at k (let l = grows_long xs ys G in omega arith) ∙ ap θ (grows_at xs ys 0 k G h) }

-- the place that is found has the variable
pub number_found : (x : ℕ) (xs : List ℕ) (i k : ℕ) → number_of x xs i ≡ some k → (j : ℕ) × (k ≡ i + j) × (j < length xs) × (get_or xs j 0 ≡ x)
unfolding number_of
number_found x [] i k e = never (cc)
number_found x (y ∷ xs) i k e = elim (see (eqb y x)) [
  | is true t ↦ let q : some i ≡ some k = rw (t, number_of) at e in let r : i ≡ k = cc in (0, omega arith, omega arith, eqb-true y x t)
  | is false t ↦ let r = number_found x xs (suc i) k (rw (t, number_of) at e) in (suc r.0, omega (arith, r.1), omega (arith, r.2), r.3)
]

variable_is : (k s : ℕ) → is_variable (variable_node k s) ≡ true
unfolding is_variable
variable_is k s = eq-eqb variable_head variable_head refl

-- what reading a node back gives
pub record ReadOne (θ : ℕ → Tree) (everyone : Bool) (x : ℕ) (st : Numbered) (r : ResolvedOne) : Type 0 where
  pub store_grows : Grows st.store r.state.store
  pub numbers-grow : Grows st.numbering r.state.numbering
  pub earlier : Earlier r.state.store
  pub once : StoreOnce st.store → StoreOnce r.state.store
  pub within : r.pattern < length r.state.store
  pub meaning : everyone ≡ true → (ρ : ℕ → Tree) → Means θ r.state.numbering ρ → turn ρ (term_of r.state.store r.pattern) ≡ θ x

pub record Read (θ : ℕ → Tree) (everyone : Bool) (xs : List ℕ) (st : Numbered) (r : Resolved) : Type 0 where
  pub store_grows : Grows st.store r.state.store
  pub numbers-grow : Grows st.numbering r.state.numbering
  pub earlier : Earlier r.state.store
  pub once : StoreOnce st.store → StoreOnce r.state.store
  pub within : Below (length r.state.store) r.patterns
  pub meaning : everyone ≡ true → (ρ : ℕ → Tree) → Means θ r.state.numbering ρ → turns ρ (terms_at r.state.store r.patterns) ≡ trees_at θ xs

-- a variable's pattern stands for what its number stands for
variable_means : (s : List Node) (k so : ℕ) (ρ : ℕ → Tree) → Earlier s → turn ρ (term_of (intern s (variable_node k so)).store (intern s (variable_node k so)).number) ≡ ρ k
unfolding turn below is_variable
variable_means s k so ρ E =
    let I = interned s (variable_node k so) in
    let p = intern s (variable_node k so) in
    let b : Below (length s) (below (variable_node k so)) = tt in
    let v : is_variable (get_or p.store p.number no_node) ≡ true = rw I.is (variable_is k so) in
    ap (turn ρ) (term_variable p.store (I.earlier E b) p.number I.within v) ∙ ap (λ (n : Node). ρ (get_or n.args 0 0)) I.is

pub variable-earlier : (s : List Node) (k so : ℕ) → Earlier s → Earlier (intern s (variable_node k so)).store
unfolding below is_variable
variable-earlier s k so E = (interned s (variable_node k so)).earlier E tt

module _ (P : Pack) (g : Graph) (values : List Bound) (everyone : Bool) (θ : ℕ → Tree) where
  read_variable : (r : ℕ) (st : Numbered) → Earlier st.store → ReadOne θ everyone r st (resolve_variable P g values everyone r st)
  unfolding resolve_variable
  read_variable r st E = elim (see (number_of r st.numbering 0)) [
    | is (some k) p ↦
        let so = (vertex g r).sort in
        let I = interned st.store (variable_node k so) in
        let f = number_found r st.numbering 0 k p in
        let q : f.0 ≡ k = omega (arith, f.1) in
        rw (p, resolve_variable) (record {
          store_grows = I.grows;
          numbers-grow = grows_none st.numbering;
          earlier = variable-earlier st.store k so E;
          once = I.once;
          within = I.within;
          meaning = λ e ρ M. variable_means st.store k so ρ E ∙ M.at k (omega (arith, f.2, q)) ∙ ap θ (ap (λ (i : ℕ). get_or st.numbering i 0) (sym q) ∙ f.3);
        })
    | is none p ↦ elim (see (everyone || (vertex g r).flex)) [
      | is true q ↦
          let so = (vertex g r).sort in
          let k = length st.numbering in
          let I = interned st.store (variable_node k so) in
          let l = length-append st.numbering (r ∷ []) in
          rw (p, resolve_variable, q) (record {
            store_grows = I.grows;
            numbers-grow = with (r ∷ []) refl;
            earlier = variable-earlier st.store k so E;
            once = I.once;
            within = I.within;
            meaning = λ e ρ M. variable_means st.store k so ρ E ∙ M.at k (omega arith) ∙ ap θ (get_or_at st.numbering r [] 0 k refl);
          })
      | is false q ↦
          let L = lifted (tree_of P (copied values r)) st.store in
          rw (p, resolve_variable, q) (record {
            store_grows = L.grows;
            numbers-grow = grows_none st.numbering;
            earlier = L.earlier E;
            once = L.once;
            within = L.within;
            meaning = λ e ρ M. never (let z : true ≡ false = ap (λ (b : Bool). b || (vertex g r).flex) (sym e) ∙ q in cc);
          })
    ]
  ]

  -- a root, if what is below it can be read back
  read_at : (deeper : List ℕ → Numbered → Resolved) (r : ℕ) (st : Numbered) → Earlier st.store → Solves θ g → r < length g → (vertex g r).link ≡ none
      → (is_var (vertex g r) ≡ false → Read θ everyone (vertex g r).args st (deeper (vertex g r).args st))
      → ReadOne θ everyone r st (resolve_at P g values everyone deeper r st)
  unfolding resolve_at turn is_variable
  read_at deeper r st E S h l below = elim (see (is_var (vertex g r))) [
    | is true w ↦ rw (w, resolve_at) (read_variable r st E)
    | is false w ↦
        let args = deeper (vertex g r).args st in
        let B = below w in
        let n : Node = record { head = (vertex g r).head; args = args.patterns } in
        let I = interned args.state.store n in
        let p = intern args.state.store n in
        let L = I.earlier B.earlier (below-args (length args.state.store) n B.within) in
        let v : is_variable (get_or p.store p.number no_node) ≡ false = rw I.is w in
        rw (w, resolve_at) (record {
          store_grows = grows_then st.store args.state.store p.store B.store_grows I.grows;
          numbers-grow = B.numbers-grow;
          earlier = L;
          once = λ O. I.once (B.once O);
          within = I.within;
          meaning = λ e ρ M.
              ap (turn ρ) (term_applied p.store L p.number I.within v)
              ∙ ap (λ (m : Node). tree m.head (turns ρ (terms_at p.store m.args))) I.is
              ∙ ap (λ (ts : Terms). tree (vertex g r).head (turns ρ ts)) (terms_grow args.state.store p.store args.patterns I.grows B.within)
              ∙ ap (tree (vertex g r).head) (B.meaning e ρ M)
              ∙ sym (S.apps r h l w);
        })
  ]

  -- nodes that end within d levels are read back
  pub read_back : (d : ℕ) (xs : List ℕ) (st : Numbered) → Earlier st.store → Formed P g → Solves θ g → Below (length g) xs → all (λ x. ends d g x) xs ≡ true
      → Read θ everyone xs st (resolve d P g values everyone xs st)
  unfolding resolve trees_at turn all ends terms_at
  read_back zero [] st E F S b e = record { store_grows = grows_none st.store; numbers-grow = grows_none st.numbering; earlier = E; once = λ O. O; within = tt; meaning = λ q ρ M. refl }
  read_back zero (x ∷ xs) st E F S b e = let p = and_parts (ends 0 g x) (all (λ y. ends 0 g y) xs) e in never (let z : false ≡ true = p.0 in cc)
  read_back (suc d) [] st E F S b e = record { store_grows = grows_none st.store; numbers-grow = grows_none st.numbering; earlier = E; once = λ O. O; within = tt; meaning = λ q ρ M. refl }
  read_back (suc d) (x ∷ xs) st E F S b e =
      let r = root g x in
      let f = F x b.0 in
      let p = and_parts (ends (suc d) g x) (all (λ y. ends (suc d) g y) xs) e in
      let first = resolve_at P g values everyone (λ ys s. resolve d P g values everyone ys s) r st in
      let A = read_at (λ ys s. resolve d P g values everyone ys s) r st E S f.within f.rooted
      (λ w. read_back d (vertex g r).args st E F S (F r f.within).below (deep_ends g d x p.0 w)) in
      let rest = resolve (suc d) P g values everyone xs first.state in
      let R = read_back (suc d) xs first.state A.earlier F S b.1 p.1 in
      let l = grows_long first.state.store rest.state.store R.store_grows in
      record {
        store_grows = grows_then st.store first.state.store rest.state.store A.store_grows R.store_grows;
        numbers-grow = grows_then st.numbering first.state.numbering rest.state.numbering A.numbers-grow R.numbers-grow;
        earlier = R.earlier;
        once = λ O. R.once (A.once O);
        within = (omega (arith, A.within), R.within);
        meaning = λ q ρ M.
            ap₂ tree_then
            (ap (turn ρ) (term_grows first.state.store rest.state.store first.pattern R.store_grows A.within)
            ∙ A.meaning q ρ (means_before θ first.state.numbering rest.state.numbering ρ R.numbers-grow M)
            ∙ sym (solves_root θ P g F S x b.0))
            (R.meaning q ρ M);
      }
