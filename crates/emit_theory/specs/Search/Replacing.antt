-- A pattern put for L: whatever it is put into keeps its sort and can be spoken of.
use Rattle.std.specs.Prelude.{◌≡◌, eqb, length}
use Rattle.std.proofs.Math.Path.{refl, sym, ap, subst}
use Rattle.std.proofs.Common.{◌∙◌, arith}
use Rattle.std.proofs.Math.Bool.{true, false}
use mathlib.Core.List.{List, [], ◌∷◌}
use Rattle.std.proofs.Math.Option.{some}
use Prim.Native.Nat.{ℕ, zero, suc, ◌<◌}
use borrow.Author.Tests.{eqb-true}
use Rattle.std.proofs.Math.ListN.{get_or}
use Rattle.definition.specs.Test.{is, see, never}
use Rattle.definition.specs.Pack.{Node, no_node, Pack, symbol_of}
use Rattle.definition.specs.Good.{Below, Few}
use Rattle.definition.specs.Verdict.{Bound, value_of}
use Rattle.definition.specs.Store.{is_variable, below, Stored, intern}
use Rattle.definition.specs.Analysis.{StoredAll}
use Rattle.definition.proofs.Laws.Grow.{below_more}
use Rattle.emission.specs.Patterns.{replace_in, replace}
use Rattle.theory.specs.Copies.Copying.{pattern_sort}
use Rattle.theory.specs.Copies.Terms.{below-variable, below-applied}
use Rattle.theory.specs.Patterns.Interned.{Grows, grows_none, grows_then, grows_long, grows_at}
use Rattle.emit_theory.specs.Stores.{SortedStore, sorted_earlier}
use Rattle.emit_theory.specs.Graph.Intern.{sort-node, sort_grows, node_sort_application}
use Rattle.emit_theory.specs.Patterns.{Of, AllOf, no_of, of_more, of_grows, all_of_grow, all-args, intern_of}
use Rattle.emit_theory.specs.Search.Matching.{below_spoken}

module _ (P : Pack) (few : Few P) (L : ℕ) (names : List Bound) where
  -- patterns of these sorts, over a store that has grown
  pub record Put (s : List Node) (so : ℕ) (r : Stored) : Type 0 where
    pub sorted : SortedStore P r.store
    pub grows : Grows s r.store
    pub pattern : Of P L names r.store so r.number

  pub record PutAll (s : List Node) (sorts : List ℕ) (r : StoredAll) : Type 0 where
    pub sorted : SortedStore P r.store
    pub grows : Grows s r.store
    pub patterns : AllOf P L names r.store sorts r.numbers

  same_names : (p k : ℕ) → value_of p names ≡ some k → (k' : ℕ) × (value_of p names ≡ some k')
  same_names p k h = (k, h)

  -- of a store: L and the case variables are variables
  pub record Variables (s : List Node) : Type 0 where
    pub of_L : (p : ℕ) → p ≡ L → is_variable (get_or s p no_node) ≡ true
    pub of_cases : (p k : ℕ) → value_of p names ≡ some k → is_variable (get_or s p no_node) ≡ true

  -- they stay so
  pub record Stays (s : List Node) : Type 0 where
    pub sorted : SortedStore P s
    pub L_stored : L < length s
    pub cases_stored : (p k : ℕ) → value_of p names ≡ some k → p < length s
    pub variables : Variables s

  pub stays_grow : (s t : List Node) → Grows s t → SortedStore P t → Stays s → Stays t
  stays_grow s t G W A =
      let g = grows_long s t G in
      record {
        sorted = W;
        L_stored = omega (arith, A.L_stored);
        cases_stored = λ p k h. let z = A.cases_stored p k h in omega arith;
        variables = record {
          of_L = λ p i. let q = grows_at s t no_node p G (rw i A.L_stored) in rw q (A.variables.of_L p i);
          of_cases = λ p k h. let q = grows_at s t no_node p G (A.cases_stored p k h) in rw q (A.variables.of_cases p k h);
        };
      }

  module _ (y lso : ℕ) where
    -- one pattern, if those below it are done
    put_in : (d : ℕ) (deeper : List ℕ → List Node → StoredAll)
        → ((sorts qs : List ℕ) (s : List Node) → Stays s → pattern_sort P s L ≡ lso → Of P L names s lso y → AllOf P L names s sorts qs → Below d qs → PutAll s sorts (deeper qs s))
        → (so p : ℕ) (s : List Node) → Stays s → pattern_sort P s L ≡ lso → Of P L names s lso y → Of P L names s so p → p < suc d → Put s so (replace_in L y deeper p s)
    unfolding replace_in
    put_in d deeper D so p s A ls Y O b = elim (see (eqb p L)) [
      | is true t ↦
          let i : p ≡ L = eqb-true p L t in
          let q : lso ≡ so = sym ls ∙ ap (pattern_sort P s) (sym i) ∙ O.sort in
          rw (t, replace_in) (record { sorted = A.sorted; grows = grows_none s; pattern = subst (λ x. Of P L names s x y) q Y })
      | is false t ↦ elim (see (below (get_or s p no_node))) [
        | is [] c ↦ rw (t, c, replace_in) (record { sorted = A.sorted; grows = grows_none s; pattern = O })
        | is (a ∷ more) c ↦
            let n = get_or s p no_node in
            let v : is_variable n ≡ false = applied n a more c in
            let e : n.args ≡ a ∷ more = sym (below-applied n v) ∙ c in
            let W = A.sorted p O.stored in
            let inputs = (symbol_of P n.head).inputs in
            let As = all-args P L names s p (omega (arith, O.stored)) inputs n.args (W.args v) (below_spoken P few L names [] s A.sorted A.variables.of_L A.variables.of_cases p O.spoken v) in
            let E = sorted_earlier P s A.sorted p O.stored in
            let R = D inputs (a ∷ more) s A ls Y (subst (AllOf P L names s inputs) e As) (below_more p d (a ∷ more) (omega arith) (subst (Below p) c E)) in
            let args = deeper (a ∷ more) s in
            let I = intern_of P L names few args.store n.head inputs args.numbers R.sorted (W.head v) refl R.patterns in
            let q : (symbol_of P n.head).output ≡ so = sym (sort-node P s p ∙ node_sort_application P n v) ∙ O.sort in
            let r = intern args.store (record { head = n.head; args = args.numbers }) in
            rw (t, c, replace_in) (record { sorted = I.0; grows = grows_then s args.store r.store R.grows I.1; pattern = subst (λ x. Of P L names r.store x r.number) q I.2 })
      ]
    ]
      where
        applied : (n : Node) (a : ℕ) (more : List ℕ) → below n ≡ a ∷ more → is_variable n ≡ false
        applied n a more c = elim (see (is_variable n)) [
          | is true v ↦ never (let z : [] ≡ a ∷ more = sym (below-variable n v) ∙ c in cc)
          | is false v ↦ v
        ]

    -- patterns from left to right, the depth being more than their numbers
    pub put_all : (d : ℕ) (sorts ps : List ℕ) (s : List Node) → Stays s → pattern_sort P s L ≡ lso → Of P L names s lso y → AllOf P L names s sorts ps → Below d ps → PutAll s sorts (replace d L y ps s)
    unfolding replace
    put_all zero _ [] s A ls Y no_of b = record { sorted = A.sorted; grows = grows_none s; patterns = no_of }
    put_all zero _ (p ∷ ps) s A ls Y Os b = absurd (let k = b.0 in omega arith)
    put_all (suc d) _ [] s A ls Y no_of b = record { sorted = A.sorted; grows = grows_none s; patterns = no_of }
    put_all (suc d) _ (p ∷ ps) s A ls Y (of_more so _ sorts _ O Os) b =
        let F = put_in d (λ qs t. replace d L y qs t) (λ ss qs t B m Z Qs c. put_all d ss qs t B m Z Qs c) so p s A ls Y O b.0 in
        let first = replace_in L y (λ qs t. replace d L y qs t) p s in
        let t = first.store in
        let m = sort_grows P s t F.grows L A.L_stored ∙ ls in
        let R = put_all (suc d) sorts ps t (stays_grow s t F.grows F.sorted A) m (of_grows P L names names s t same_names F.grows lso y Y) (all_of_grow P L names names s t same_names F.grows sorts ps Os) b.1 in
        let rest = replace (suc d) L y ps t in
        record {
          sorted = R.sorted;
          grows = grows_then s t rest.store F.grows R.grows;
          patterns = of_more so first.number sorts rest.numbers (of_grows P L names names t rest.store same_names R.grows so first.number F.pattern) R.patterns;
        }
