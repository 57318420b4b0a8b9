-- Reading back again: a root that was read back is found, the state stays, and so it is in every later state.
use Rattle.std.specs.Prelude.{◌≡◌, Bool, ◌||◌, List, [], ◌∷◌, ◌++◌, map, ℕ, suc, ◌+◌, eqb}
use Rattle.std.proofs.Math.Path.{refl, ap}
use Rattle.std.proofs.Common.{sym, ◌∙◌, arith, eq-eqb, ne_eqb}
use Rattle.std.proofs.Math.Bool.{true, false}
use Rattle.std.proofs.Math.Option.{none, some}
use Rattle.std.proofs.Math.ListN.{length}
use Rattle.definition.specs.Test.{is, see, never}
use Rattle.definition.specs.Pack.{Node, Pack}
use Rattle.definition.specs.Tree.{tree_of}
use Rattle.definition.specs.Verdict.{Bound}
use Rattle.definition.specs.Store.{variable_node, place_of, intern}
use Rattle.definition.specs.Graph.{Graph, vertex, root, is_var}
use Rattle.definition.specs.Analysis.{copied, lift, Numbered, ResolvedOne, Resolved, number_of, resolve_variable, resolve_at}
use Rattle.theory.specs.Patterns.Interned.{Grows, grows_none, grows_then, interned, lifted}
use Rattle.theory.specs.Walks.Again.{headed, place-grown, place-interned, Has, has-grown, has_lifted}

-- the graph's variables in the order of their numbers, with a store
abbrev pub numbered_as : List ℕ → List Node → Numbered
numbered_as xs s = record { numbering = xs; store = s }

-- a pattern with a state
abbrev pub resolved_one : ℕ → Numbered → ResolvedOne
resolved_one p st = record { pattern = p; state = st }

-- patterns with a state
abbrev pub resolved_as : List ℕ → Numbered → Resolved
resolved_as ps st = record { patterns = ps; state = st }

-- a number that is found is found there among more
number_longer : (x : ℕ) (xs ys : List ℕ) (i k : ℕ) → number_of x xs i ≡ some k → number_of x (xs ++ ys) i ≡ some k
unfolding number_of
number_longer x [] ys i k e = never (cc)
number_longer x (y ∷ xs) ys i k e = elim (see (eqb y x)) [
  | is true q ↦ let r : some i ≡ some k = rw (q, number_of) at e in rw (q, number_of) r
  | is false q ↦ rw (q, number_of) (number_longer x xs ys (suc i) k (rw (q, number_of) at e))
]

-- one that is not found is found last once it is put there
number_last : (x : ℕ) (xs : List ℕ) (i : ℕ) → number_of x xs i ≡ none → number_of x (xs ++ (x ∷ [])) i ≡ some (i + length xs)
unfolding number_of
number_last x [] i e = rw (eq-eqb x x refl, number_of) (ap some (omega arith))
number_last x (y ∷ xs) i e = elim (see (eqb y x)) [
  | is true q ↦ let r : some i ≡ none = rw (q, number_of) at e in never (cc)
  | is false q ↦ rw (q, number_of) (number_last x xs (suc i) (rw (q, number_of) at e) ∙ ap some (omega arith))
]

-- and is not found once another is
number_other : (x r : ℕ) (xs : List ℕ) (i : ℕ) → (r ≡ x → ⊥) → number_of x xs i ≡ none → number_of x (xs ++ (r ∷ [])) i ≡ none
unfolding number_of
number_other x r [] i n e = rw (ne_eqb r x n, number_of)
number_other x r (y ∷ xs) i n e = elim (see (eqb y x)) [
  | is true q ↦ let r : some i ≡ none = rw (q, number_of) at e in never (cc)
  | is false q ↦ rw (q, number_of) (number_other x r xs (suc i) n (rw (q, number_of) at e))
]

module _ (P : Pack) (g : Graph) (values : List Bound) (everyone : Bool) where
  -- a variable that gets a number when it is met
  abbrev pub numbers : ℕ → Bool
  numbers r = everyone || (vertex g r).flex

  -- a later state: numbers stay, what would not be numbered is not, and the store has grown
  pub record Later (st st' : Numbered) : Type 0 where
    pub found : (r k : ℕ) → number_of r st.numbering 0 ≡ some k → number_of r st'.numbering 0 ≡ some k
    pub missed : (r : ℕ) → numbers r ≡ false → number_of r st.numbering 0 ≡ none → number_of r st'.numbering 0 ≡ none
    pub grows : Grows st.store st'.store

  -- the store alone
  later_store : (xs : List ℕ) (s t : List Node) → Grows s t → Later (numbered_as xs s) (numbered_as xs t)
  later_store xs s t G = record { found = λ r k e. e; missed = λ r f e. e; grows = G }

  -- no step
  pub later-none : (st : Numbered) → Later st st
  later-none st = later_store st.numbering st.store st.store (grows_none st.store)

  -- two steps
  pub later_then : (st t u : Numbered) → Later st t → Later t u → Later st u
  later_then st t u a b = record {
    found = λ r k e. b.found r k (a.found r k e);
    missed = λ r f e. b.missed r f (a.missed r f e);
    grows = grows_then st.store t.store u.store a.grows b.grows;
  }

  -- one variable more
  later_number : (xs : List ℕ) (r : ℕ) (s t : List Node) → numbers r ≡ true → Grows s t → Later (numbered_as xs s) (numbered_as (xs ++ (r ∷ [])) t)
  later_number xs r s t f G = record {
    found = λ x k e. number_longer x xs (r ∷ []) 0 k e;
    missed = λ x n e. number_other x r xs 0 (λ q. let z : true ≡ false = sym f ∙ ap numbers q ∙ n in never (cc)) e;
    grows = G;
  }

  mutual
    -- a state has a root as a pattern: a variable by its number or its ground value, an application by its head over what its arguments' roots are
    pub data Reads (st : Numbered) : ℕ → ℕ → Type 0 where
      by_number : (r p k : ℕ) → is_var (vertex g r) ≡ true → number_of r st.numbering 0 ≡ some k → place_of (variable_node k (vertex g r).sort) st.store 0 ≡ some p → Reads st r p
      by_value : (r p : ℕ) → is_var (vertex g r) ≡ true → number_of r st.numbering 0 ≡ none → numbers r ≡ false → Has st.store (tree_of P (copied values r)) p → Reads st r p
      by_head : (r p : ℕ) (rs ps : List ℕ) → is_var (vertex g r) ≡ false → rs ≡ map (root g) (vertex g r).args → ReadsAll st rs ps → place_of (headed (vertex g r).head ps) st.store 0 ≡ some p → Reads st r p

    -- roots as patterns
    pub data ReadsAll (st : Numbered) : List ℕ → List ℕ → Type 0 where
      no_reads : ReadsAll st [] []
      reads_then : (r p : ℕ) (rs ps : List ℕ) → Reads st r p → ReadsAll st rs ps → ReadsAll st (r ∷ rs) (p ∷ ps)

  mutual
    -- a later state has it still
    pub reads_later : (st t : Numbered) → Later st t → (r p : ℕ) → Reads st r p → Reads t r p
    reads_later st t L _ _ (by_number r p k v n e) = by_number r p k v (L.found r k n) (place-grown (variable_node k (vertex g r).sort) st.store t.store p L.grows e)
    reads_later st t L _ _ (by_value r p v n f h) = by_value r p v (L.missed r f n) f (has-grown st.store t.store L.grows (tree_of P (copied values r)) p h)
    reads_later st t L _ _ (by_head r p rs ps v q R e) = by_head r p rs ps v q (all-later st t L rs ps R) (place-grown (headed (vertex g r).head ps) st.store t.store p L.grows e)

    -- and them
    pub all-later : (st t : Numbered) → Later st t → (rs ps : List ℕ) → ReadsAll st rs ps → ReadsAll t rs ps
    all-later st t L _ _ no_reads = no_reads
    all-later st t L _ _ (reads_then r p rs ps R Rs) = reads_then r p rs ps (reads_later st t L r p R) (all-later st t L rs ps Rs)

  -- reading a variable back: what it has become is had, in a later state
  variable_read : (r : ℕ) (st : Numbered) → is_var (vertex g r) ≡ true
      → let o = resolve_variable P g values everyone r st in Later st o.state × Reads o.state r o.pattern
  unfolding resolve_variable
  variable_read r st v = elim (see (number_of r st.numbering 0)) [
    | is (some k) e ↦
        let n = variable_node k (vertex g r).sort in
        let p = intern st.store n in
        rw (e, resolve_variable) (later_store st.numbering st.store p.store (interned st.store n).grows, by_number r p.number k v e (place-interned st.store n))
    | is none e ↦ elim (see (numbers r)) [
      | is true f ↦
          let k = length st.numbering in
          let n = variable_node k (vertex g r).sort in
          let p = intern st.store n in
          rw (e, resolve_variable, f) (
            later_number st.numbering r st.store p.store f (interned st.store n).grows,
            by_number r p.number k v (number_last r st.numbering 0 e ∙ ap some (omega arith)) (place-interned st.store n),
          )
      | is false f ↦
          let t = tree_of P (copied values r) in
          let p = lift t st.store in
          rw (e, resolve_variable, f) (later_store st.numbering st.store p.store (lifted t st.store).grows, by_value r p.number v e f (has_lifted t st.store))
    ]
  ]

  -- reading a root back, if it is so below it
  pub at_read : (deeper : List ℕ → Numbered → Resolved) (r : ℕ) (st : Numbered)
      → (is_var (vertex g r) ≡ false → let a = deeper (vertex g r).args st in Later st a.state × ReadsAll a.state (map (root g) (vertex g r).args) a.patterns)
      → let o = resolve_at P g values everyone deeper r st in Later st o.state × Reads o.state r o.pattern
  unfolding resolve_at
  at_read deeper r st below = elim (see (is_var (vertex g r))) [
    | is true v ↦ rw (v, resolve_at) (variable_read r st v)
    | is false v ↦
        let a = deeper (vertex g r).args st in
        let n = headed (vertex g r).head a.patterns in
        let p = intern a.state.store n in
        let t = numbered_as a.state.numbering p.store in
        let L : Later a.state t = later_store a.state.numbering a.state.store p.store (interned a.state.store n).grows in
        let B = below v in
        rw (v, resolve_at) (
          later_then st a.state t B.0 L,
          by_head r p.number (map (root g) (vertex g r).args) a.patterns v refl (all-later a.state t L (map (root g) (vertex g r).args) a.patterns B.1) (place-interned a.state.store n),
        )
  ]

mutual
  -- what is had where all are numbered is had where they are not
  pub reads_fewer : (P : Pack) (g : Graph) (values : List Bound) (st : Numbered) (r p : ℕ) → Reads P g values true st r p → Reads P g values false st r p
  reads_fewer P g values st _ _ (by_number r p k v n e) = by_number r p k v n e
  reads_fewer P g values st _ _ (by_value r p v n f e) = never (let z : true ≡ false = f in cc)
  reads_fewer P g values st _ _ (by_head r p rs ps v q R e) = by_head r p rs ps v q (all_fewer P g values st rs ps R) e

  -- roots too
  all_fewer : (P : Pack) (g : Graph) (values : List Bound) (st : Numbered) (rs ps : List ℕ) → ReadsAll P g values true st rs ps → ReadsAll P g values false st rs ps
  all_fewer P g values st _ _ no_reads = no_reads
  all_fewer P g values st _ _ (reads_then r p rs ps R Rs) = reads_then r p rs ps (reads_fewer P g values st r p R) (all_fewer P g values st rs ps Rs)
