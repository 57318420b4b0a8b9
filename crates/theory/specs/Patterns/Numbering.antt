-- Numbering: with all variables numbered, numbers go to distinct unjoined variables, and a pattern read back is well sorted.
use Rattle.std.specs.Prelude.{◌≡◌, refl, eqb}
use Rattle.std.proofs.Common.{sym, ◌∙◌, subst, arith, eqb-true, eq-eqb}
use Rattle.std.proofs.Math.Path.{ap}
use Rattle.std.proofs.Math.Bool.{true, false}
use mathlib.Core.List.{List, [], ◌∷◌, ◌++◌}
use Rattle.std.proofs.Math.Option.{none, some}
use Prim.Native.Nat.{ℕ, zero, suc, ◌<◌}
use Rattle.std.proofs.Math.ListN.{length, get_or, length-append, get_or-append}
use Rattle.std.proofs.lemmas.List.{get_or_at}
use Rattle.definition.specs.Test.{is, see, never, tests, all, and_parts}
use Rattle.definition.specs.Pack.{Node, Pack, symbol_of}
use Rattle.definition.specs.Verdict.{Bound}
use Rattle.definition.specs.Good.{Below}
use Rattle.definition.specs.Store.{variable_node, is_variable, intern}
use Rattle.definition.specs.Graph.{Graph, vertex, root, is_var, ends}
use Rattle.definition.specs.Analysis.{Numbered, ResolvedOne, Resolved, number_of, resolve_variable, resolve_at, resolve}
use Rattle.theory.specs.Unification.Solve.{sort_at, SortsAt, Formed}
use Rattle.theory.specs.Unification.Kept.{root-sort}
use Rattle.theory.specs.Patterns.Valued.{deep_ends}
use Rattle.theory.specs.Patterns.Interned.{Grows, with, grows_none, grows_then, grows_long, grows_at, interned}
use Rattle.theory.specs.Patterns.Sorted.{SortedPattern, variable, application, SortedPatterns, none as no-patterns, more, sorted_grows, sorteds_grow}
use Rattle.theory.specs.Patterns.Resolved.{number_found}

-- the numbered variables: nodes of the graph, joined to none, each once
pub record Numbers (g : Graph) (xs : List ℕ) : Type 0 where
  pub inside : (k : ℕ) → k < length xs → get_or xs k 0 < length g
  pub alone : (k : ℕ) → k < length xs → (vertex g (get_or xs k 0)).link ≡ none
  pub variables : (k : ℕ) → k < length xs → is_var (vertex g (get_or xs k 0)) ≡ true
  pub once : (j k : ℕ) → j < length xs → k < length xs → get_or xs j 0 ≡ get_or xs k 0 → j ≡ k

pub numbers-none : (g : Graph) → Numbers g []
numbers-none g = record { inside = λ k h. absurd (omega arith); alone = λ k h. absurd (omega arith); variables = λ k h. absurd (omega arith); once = λ j k h i e. absurd (omega arith) }

-- where no number is found there is none
pub number_none : (x : ℕ) (xs : List ℕ) (i k : ℕ) → number_of x xs i ≡ none → k < length xs → get_or xs k 0 ≡ x → ⊥
unfolding number_of
number_none x [] i k e h q = absurd (omega arith)
number_none x (y ∷ xs) i zero e h q = never (let z : some i ≡ none = rw (eq-eqb y x q, number_of) at e in cc)
number_none x (y ∷ xs) i (suc k) e h q = elim (see (eqb y x)) [
  | is true t ↦ never (let z : some i ≡ none = rw (t, number_of) at e in cc)
  | is false t ↦ number_none x xs (suc i) k (rw (t, number_of) at e) (omega arith) q
]

-- a new number
numbers_more : (g : Graph) (xs : List ℕ) (r : ℕ) → Numbers g xs → number_of r xs 0 ≡ none → r < length g → (vertex g r).link ≡ none → is_var (vertex g r) ≡ true → Numbers g (xs ++ (r ∷ []))
numbers_more g xs r N e h l v =
    let n = length-append xs (r ∷ []) in
    let last = get_or_at xs r [] 0 (length xs) refl in
    let place : (Q : ℕ → Type 0) → ((k : ℕ) → k < length xs → Q (get_or xs k 0)) → Q r → (k : ℕ) → k < length (xs ++ (r ∷ [])) → Q (get_or (xs ++ (r ∷ [])) k 0) =
    λ Q old new k b. elim (see (eqb k (length xs))) [
      | is true p ↦ subst Q (sym (ap (λ (i : ℕ). get_or (xs ++ (r ∷ [])) i 0) (eqb-true k (length xs) p) ∙ last)) new
      | is false p ↦ let o : k < length xs = omega tests in subst Q (sym (get_or-append xs (r ∷ []) 0 k o)) (old k o)
    ] in
    record {
      inside = place (λ x. x < length g) N.inside h;
      alone = place (λ x. (vertex g x).link ≡ none) N.alone l;
      variables = place (λ x. is_var (vertex g x) ≡ true) N.variables v;
      once = λ j k a b q. elim (see (eqb j (length xs))) [
        | is true s ↦ elim (see (eqb k (length xs))) [
          | is true t ↦ omega tests
          | is false t ↦
              let o : k < length xs = omega tests in
              absurd (number_none r xs 0 k e o (sym (get_or-append xs (r ∷ []) 0 k o) ∙ sym q ∙ ap (λ (i : ℕ). get_or (xs ++ (r ∷ [])) i 0) (eqb-true j (length xs) s) ∙ last))
        ]
        | is false s ↦ elim (see (eqb k (length xs))) [
          | is true t ↦
              let o : j < length xs = omega tests in
              absurd (number_none r xs 0 j e o (sym (get_or-append xs (r ∷ []) 0 j o) ∙ q ∙ ap (λ (i : ℕ). get_or (xs ++ (r ∷ [])) i 0) (eqb-true k (length xs) t) ∙ last))
          | is false t ↦
              let o : j < length xs = omega tests in
              let u : k < length xs = omega tests in
              N.once j k o u (sym (get_or-append xs (r ∷ []) 0 j o) ∙ q ∙ get_or-append xs (r ∷ []) 0 k u)
        ]
      ];
    }

-- the sorts of numbered variables
abbrev pub VarSorts : Graph → List ℕ → (ℕ → ℕ) → Type 0
VarSorts g xs sorts = (k : ℕ) → k < length xs → sorts k ≡ (vertex g (get_or xs k 0)).sort

sorts-before : (g : Graph) (xs ys : List ℕ) (sorts : ℕ → ℕ) → Grows xs ys → VarSorts g ys sorts → VarSorts g xs sorts
sorts-before g xs ys sorts G W k h = W k (let l = grows_long xs ys G in omega arith) ∙ ap (λ (x : ℕ). (vertex g x).sort) (grows_at xs ys 0 k G h)

-- what reading a node back with all variables numbered says of numbers and sorts
record NumberedOne (P : Pack) (g : Graph) (x : ℕ) (st : Numbered) (r : ResolvedOne) : Type 0 where
  numbers-grow : Grows st.numbering r.state.numbering
  store_grows : Grows st.store r.state.store
  numbers : Numbers g st.numbering → Numbers g r.state.numbering
  sorted : (sorts : ℕ → ℕ) → VarSorts g r.state.numbering sorts → SortedPattern P r.state.store sorts r.pattern (sort_at P g x)

pub record NumberedAll (P : Pack) (g : Graph) (xs : List ℕ) (st : Numbered) (r : Resolved) : Type 0 where
  pub numbers-grow : Grows st.numbering r.state.numbering
  pub store_grows : Grows st.store r.state.store
  pub numbers : Numbers g st.numbering → Numbers g r.state.numbering
  pub sorted : (sorts : ℕ → ℕ) → VarSorts g r.state.numbering sorts → (ss : List ℕ) → SortsAt P g xs ss → SortedPatterns P r.state.store sorts r.patterns ss

-- an interned variable is sorted
variable_sorted : (P : Pack) (s : List Node) (k so : ℕ) (sorts : ℕ → ℕ) → sorts k ≡ so → SortedPattern P (intern s (variable_node k so)).store sorts (intern s (variable_node k so)).number so
variable_sorted P s k so sorts e =
    let I = interned s (variable_node k so) in
    variable (intern s (variable_node k so)).number k so I.within (I.is ∙ ap (variable_node k) (sym e)) e

-- no nodes have no sorts; one more has one more
nothing_of : (P : Pack) (g : Graph) (sorts : ℕ → ℕ) (s : List Node) (ss : List ℕ) → SortsAt P g [] ss → SortedPatterns P s sorts [] ss
nothing_of P g sorts s [] h = no-patterns
nothing_of P g sorts s (so ∷ ss) h = absurd h

more_of : (P : Pack) (g : Graph) (sorts : ℕ → ℕ) (x : ℕ) (xs : List ℕ) (p : ℕ) (ps : List ℕ) (s : List Node) → SortedPattern P s sorts p (sort_at P g x)
    → ((ss : List ℕ) → SortsAt P g xs ss → SortedPatterns P s sorts ps ss) → (ss : List ℕ) → SortsAt P g (x ∷ xs) ss → SortedPatterns P s sorts (p ∷ ps) ss
more_of P g sorts x xs p ps s q qs [] h = absurd h
more_of P g sorts x xs p ps s q qs (so ∷ ss) h = more p so ps ss (subst (SortedPattern P s sorts p) h.0 q) (qs ss h.1)

module _ (P : Pack) (g : Graph) (F : Formed P g) (values : List Bound) where
  number_variable : (r : ℕ) (st : Numbered) → r < length g → (vertex g r).link ≡ none → is_var (vertex g r) ≡ true → NumberedOne P g r st (resolve_variable P g values true r st)
  unfolding resolve_variable sort_at
  number_variable r st h l w = elim (see (number_of r st.numbering 0)) [
    | is (some k) p ↦
        let so = (vertex g r).sort in
        let f = number_found r st.numbering 0 k p in
        let q : f.0 ≡ k = omega (arith, f.1) in
        let at : get_or st.numbering k 0 ≡ r = ap (λ (i : ℕ). get_or st.numbering i 0) (sym q) ∙ f.3 in
        rw (p, resolve_variable) (record {
          numbers-grow = grows_none st.numbering;
          store_grows = (interned st.store (variable_node k so)).grows;
          numbers = λ N. N;
          sorted = λ sorts W. rw (w, sort_at) (variable_sorted P st.store k so sorts (W k (omega (arith, f.2, q)) ∙ ap (λ (x : ℕ). (vertex g x).sort) at));
        })
    | is none p ↦
        let so = (vertex g r).sort in
        let k = length st.numbering in
        let n = length-append st.numbering (r ∷ []) in
        rw (p, resolve_variable) (record {
          numbers-grow = with (r ∷ []) refl;
          store_grows = (interned st.store (variable_node k so)).grows;
          numbers = λ N. numbers_more g st.numbering r N p h l w;
          sorted = λ sorts W. rw (w, sort_at) (variable_sorted P st.store k so sorts (W k (omega arith) ∙ ap (λ (x : ℕ). (vertex g x).sort) (get_or_at st.numbering r [] 0 k refl)));
        })
  ]

  number_at : (deeper : List ℕ → Numbered → Resolved) (r : ℕ) (st : Numbered) → r < length g → (vertex g r).link ≡ none
      → (is_var (vertex g r) ≡ false → NumberedAll P g (vertex g r).args st (deeper (vertex g r).args st))
      → NumberedOne P g r st (resolve_at P g values true deeper r st)
  unfolding resolve_at sort_at is_variable
  number_at deeper r st h l below = elim (see (is_var (vertex g r))) [
    | is true w ↦ rw (w, resolve_at) (number_variable r st h l w)
    | is false w ↦
        let args = deeper (vertex g r).args st in
        let B = below w in
        let n : Node = record { head = (vertex g r).head; args = args.patterns } in
        let I = interned args.state.store n in
        let p = intern args.state.store n in
        let f = F r h in
        rw (w, resolve_at) (record {
          numbers-grow = B.numbers-grow;
          store_grows = grows_then st.store args.state.store p.store B.store_grows I.grows;
          numbers = B.numbers;
          sorted = λ sorts W. rw (w, sort_at) (application p.number (symbol_of P (vertex g r).head).output I.within (rw I.is w) (rw I.is (f.head w)) (rw I.is refl) args.patterns (rw I.is refl)
              (rw I.is (sorteds_grow P args.state.store p.store sorts I.grows args.patterns (symbol_of P (vertex g r).head).inputs (B.sorted sorts W (symbol_of P (vertex g r).head).inputs (f.sorts w)))));
        })
  ]

  -- nodes that end within d levels
  pub number_back : (d : ℕ) (xs : List ℕ) (st : Numbered) → Below (length g) xs → all (λ x. ends d g x) xs ≡ true → NumberedAll P g xs st (resolve d P g values true xs st)
  unfolding resolve all ends
  number_back zero [] st b e = record { numbers-grow = grows_none st.numbering; store_grows = grows_none st.store; numbers = λ N. N; sorted = λ sorts W. nothing_of P g sorts st.store }
  number_back zero (x ∷ xs) st b e = let p = and_parts (ends 0 g x) (all (λ y. ends 0 g y) xs) e in never (let z : false ≡ true = p.0 in cc)
  number_back (suc d) [] st b e = record { numbers-grow = grows_none st.numbering; store_grows = grows_none st.store; numbers = λ N. N; sorted = λ sorts W. nothing_of P g sorts st.store }
  number_back (suc d) (x ∷ xs) st b e =
      let r = root g x in
      let f = F x b.0 in
      let p = and_parts (ends (suc d) g x) (all (λ y. ends (suc d) g y) xs) e in
      let first = resolve_at P g values true (λ ys s. resolve d P g values true ys s) r st in
      let A = number_at (λ ys s. resolve d P g values true ys s) r st f.within f.rooted (λ w. number_back d (vertex g r).args st (F r f.within).below (deep_ends g d x p.0 w)) in
      let rest = resolve (suc d) P g values true xs first.state in
      let R = number_back (suc d) xs first.state b.1 p.1 in
      record {
        numbers-grow = grows_then st.numbering first.state.numbering rest.state.numbering A.numbers-grow R.numbers-grow;
        store_grows = grows_then st.store first.state.store rest.state.store A.store_grows R.store_grows;
        numbers = λ N. R.numbers (A.numbers N);
        sorted = λ sorts W. more_of P g sorts x xs first.pattern rest.patterns rest.state.store
            (subst (SortedPattern P rest.state.store sorts first.pattern) (sym (root-sort P g F x b.0)) (sorted_grows P first.state.store rest.state.store sorts R.store_grows first.pattern (sort_at P g r)
            (A.sorted sorts (sorts-before g first.state.numbering rest.state.numbering sorts R.numbers-grow W))))
            (R.sorted sorts W);
      }
