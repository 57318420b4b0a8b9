-- A node read back with all variables numbered: its instances are just the trees that solutions give the node.
use Rattle.std.specs.Prelude.{◌≡◌, refl, Bool, ℕ, suc, ◌<◌, eqb}
use Rattle.std.proofs.Math.Path.{sym, ap}
use Rattle.std.proofs.Common.{◌∙◌}
use Rattle.std.proofs.Math.Bool.{true, false}
use mathlib.Core.List.{List, [], ◌∷◌}
use Rattle.std.proofs.Math.Option.{none, some}
use native.Mathlib.Omega.{arith}
use borrow.Author.Tests.{eqb-true, eq-eqb}
use Rattle.std.proofs.Math.ListN.{length, get_or}
use Rattle.definition.specs.Test.{◌and◌, is, see, any, all, and_parts}
use Rattle.definition.specs.Pack.{Node, no_node, Pack}
use Rattle.definition.specs.Tree.{Tree, turn}
use Rattle.definition.specs.Verdict.{Bound}
use Rattle.definition.proofs.Laws.Matches.{then_parts}
use Rattle.definition.proofs.Laws.Agreement.{any_some, some_any}
use Rattle.definition.specs.Store.{is_variable, term_of}
use Rattle.definition.specs.Graph.{Graph, vertex, is_var, ends}
use Rattle.definition.specs.Analysis.{parts, Numbered, Resolved, number_of, resolve}
use Rattle.definition.proofs.Laws.Store.{StoreOnce}
use Rattle.theory.specs.Derive.{SortedTree, In, at, InstanceOf}
use Rattle.theory.specs.Unification.Solve.{trees_at, Solves, sort_at, Formed}
use Rattle.theory.specs.Copies.Begin.{sort_at-variable}
use Rattle.theory.specs.Unification.Acyclic.{Ending, value, extends, chosen}
use Rattle.theory.specs.Copies.Terms.{Earlier, terms_at}
use Rattle.theory.specs.Copies.Copying.{number_at}
use Rattle.theory.specs.Patterns.Interned.{Grows}
use Rattle.theory.specs.Patterns.Sorted.{SortedPattern, SortedPatterns, more, sorted_inside, sorted_parts, sorted_variable}
use Rattle.theory.specs.Patterns.Instances.{variable_sort, turn_agree}
use Rattle.theory.specs.Patterns.Resolved.{Means, number_found, read_back}
use Rattle.theory.specs.Patterns.Numbering.{Numbers, numbers-none, number_none, number_back}
use Rattle.theory.specs.Unification.Typed.{Typed, typed_value}

-- the sort of a numbered variable
abbrev pub sorts_by : Graph → List ℕ → ℕ → ℕ
sorts_by g numbering k = (vertex g (get_or numbering k 0)).sort

-- what reading one node back comes to
pub record ReadBack (P : Pack) (g : Graph) (x so : ℕ) (store : List Node) (r : Resolved) : Type 0 where
  pub grows : Grows store r.state.store
  pub earlier : Earlier r.state.store
  pub once : StoreOnce store → StoreOnce r.state.store
  pub numbers : Numbers g r.state.numbering
  pub sorted : SortedPattern P r.state.store (sorts_by g r.state.numbering) (get_or r.patterns 0 0) so
  pub meaning : (θ : ℕ → Tree) → Solves θ g → (ρ : ℕ → Tree) → Means θ r.state.numbering ρ → turn ρ (term_of r.state.store (get_or r.patterns 0 0)) ≡ θ x

first_sorted : (P : Pack) (s : List Node) (sorts : ℕ → ℕ) (p so : ℕ) → SortedPatterns P s sorts (p ∷ []) (so ∷ []) → SortedPattern P s sorts p so
first_sorted P s sorts p so (more _ _ _ _ S Ss) = S

-- a node that ends, with a solution
pub read_one : (P : Pack) (values : List Bound) (g : Graph) (F : Formed P g) (d x so : ℕ) (store : List Node) → x < length g → sort_at P g x ≡ so → ends (suc d) g x ≡ true → Earlier store
    → (θ : ℕ → Tree) → Solves θ g → ReadBack P g x so store (resolve (suc d) P g values true (x ∷ []) (record { numbering = []; store = store }))
unfolding resolve all turn trees_at terms_at
read_one P values g F d x so store h e q E θ S =
    let st : Numbered = record { numbering = []; store = store } in
    let r = resolve (suc d) P g values true (x ∷ []) st in
    let a : all (λ y. ends (suc d) g y) (x ∷ []) ≡ true = rw q in
    let R = read_back P g values true θ (suc d) (x ∷ []) st E F S (h, tt) a in
    let N = number_back P g F values (suc d) (x ∷ []) st (h, tt) a in
    record {
      grows = R.store_grows;
      earlier = R.earlier;
      once = R.once;
      numbers = N.numbers (numbers-none g);
      sorted = first_sorted P r.state.store (sorts_by g r.state.numbering) (get_or r.patterns 0 0) so (N.sorted (sorts_by g r.state.numbering) (λ k l. refl) (so ∷ []) (e, tt));
      meaning = λ ϕ Z ρ M. (then_parts ((read_back P g values true ϕ (suc d) (x ∷ []) st E F Z (h, tt) a).meaning refl ρ M)).0;
    }

-- a variable among a sorted pattern's parts has the sort that goes with its number
part-sort : (P : Pack) (s : List Node) (sorts : ℕ → ℕ) (p so : ℕ) → SortedPattern P s sorts p so
    → (q : ℕ) → In q (parts s p) → is_variable (get_or s q no_node) ≡ true → variable_sort s q ≡ sorts (number_at s q)
part-sort P s sorts p so S q i v = let R = sorted_parts P s sorts p so S q i in ap (λ (n : Node). get_or n.args 1 0) (sorted_variable P s sorts q R.0 R.1 v)

-- an element that passes
any_at : (f : ℕ → Bool) (xs : List ℕ) (x : ℕ) → In x xs → f x ≡ true → any f xs ≡ true
any_at f xs x (at i d l q) e = some_any f d xs i l (ap f q ∙ e)

any_in : (f : ℕ → Bool) (xs : List ℕ) → any f xs ≡ true → (x : ℕ) × In x xs × (f x ≡ true)
any_in f xs e = let r = any_some f 0 xs e in (get_or xs r.0 0, at r.0 0 r.1 refl, r.2)

-- whether a pattern has a variable of this number
unfoldable has_variable : List Node → ℕ → ℕ → Bool
has_variable s p k = any (λ q. is_variable (get_or s q no_node) and eqb (number_at s q) k) (parts s p)

variable_of : (s : List Node) (p k : ℕ) → has_variable s p k ≡ true → (q : ℕ) × In q (parts s p) × (is_variable (get_or s q no_node) and eqb (number_at s q) k ≡ true)
unfolding has_variable
variable_of s p k h = any_in (λ q. is_variable (get_or s q no_node) and eqb (number_at s q) k) (parts s p) h

-- one assignment where a pattern has variables, another elsewhere
unfoldable patched : List Node → ℕ → (ℕ → Tree) → (ℕ → Tree) → ℕ → Tree
patched s p ρ μ k = elim (has_variable s p k) [ true ↦ ρ k | false ↦ μ k ]

-- the pattern is the same by either
patched_same : (s : List Node) → Earlier s → (p : ℕ) → p < length s → (ρ μ : ℕ → Tree) → turn (patched s p ρ μ) (term_of s p) ≡ turn ρ (term_of s p)
unfolding patched has_variable ◌and◌
patched_same s E p l ρ μ = turn_agree s E (patched s p ρ μ) ρ p l (λ q i v.
    let h : has_variable s p (number_at s q) ≡ true = any_at (λ r. is_variable (get_or s r no_node) and eqb (number_at s r) (number_at s q)) (parts s p) q i (both q v) in
    rw (h, patched))
  where
    both : (q : ℕ) → is_variable (get_or s q no_node) ≡ true → is_variable (get_or s q no_node) and eqb (number_at s q) (number_at s q) ≡ true
    both q v = rw (v, eq-eqb (number_at s q) (number_at s q) refl)

-- trees for the variables of a graph: a numbered one's by its number
unfoldable chosen_by : List ℕ → (ℕ → Tree) → (ℕ → Tree) → ℕ → Tree
chosen_by numbering ρ θ r = elim (number_of r numbering 0) [ some k ↦ ρ k | none ↦ θ r ]

-- a number is found
number_is : (g : Graph) (numbering : List ℕ) → Numbers g numbering → (k : ℕ) → k < length numbering → number_of (get_or numbering k 0) numbering 0 ≡ some k
number_is g numbering N k h = elim (see (number_of (get_or numbering k 0) numbering 0)) [
  | is none e ↦ absurd (number_none (get_or numbering k 0) numbering 0 k e h refl)
  | is (some i) e ↦
      let f = number_found (get_or numbering k 0) numbering 0 i e in
      let o = N.once f.0 k f.2 h f.3 in
      let u = f.1 in
      let q : i ≡ k = omega arith in
      e ∙ ap some q
]

module _ (P : Pack) (g : Graph) (F : Formed P g) (n : ℕ) (K : Ending (suc n) g) (θ : ℕ → Tree) (S : Solves θ g) where
  -- an instance of what is read back, as a solution that gives the node just that tree
  pub record Chosen (x : ℕ) (j : Tree) : Type 0 where
    pub solution : ℕ → Tree
    pub solves : Solves solution g
    pub gives : solution x ≡ j
    -- wherever the first solution is of a node's sort, so is this one
    pub typed : (y : ℕ) → y < length g → Typed P g θ y → SortedTree P (solution y) (sort_at P g y)

  pub choose : (x so : ℕ) (store : List Node) (r : Resolved) → ReadBack P g x so store r → (j : Tree) → InstanceOf P r.state.store (get_or r.patterns 0 0) j → Chosen x j
  unfolding chosen_by patched
  choose x so store r R j N =
      let s = r.state.store in
      let p = get_or r.patterns 0 0 in
      let numbering = r.state.numbering in
      let ρ = patched s p N.assignment (λ k. θ (get_or numbering k 0)) in
      let κ = chosen_by numbering ρ θ in
      let ϕ = value (suc n) g κ in
      let Z = extends P g F n K κ in
      let means : Means ϕ numbering ρ = record { at = λ k h. sym (chosen g n κ (get_or numbering k 0) (R.numbers.alone k h) (R.numbers.variables k h) ∙ rw (number_is g numbering R.numbers k h, chosen_by)) } in
      record {
        solution = ϕ;
        solves = Z;
        gives = sym (R.meaning ϕ Z ρ means) ∙ patched_same s R.earlier p (sorted_inside P s (sorts_by g numbering) p so R.sorted) N.assignment (λ k. θ (get_or numbering k 0)) ∙ N.is;
        typed = λ y l t. typed_value P g F θ S κ (λ v a b c d. choice x so store r R j N v a b c d) (suc n) y l (K y l) t;
      }
    where
      choice : (x so : ℕ) (store : List Node) (r : Resolved) → ReadBack P g x so store r → (j : Tree) → (N : InstanceOf P r.state.store (get_or r.patterns 0 0) j)
          → (v : ℕ) → v < length g → (vertex g v).link ≡ none → is_var (vertex g v) ≡ true → Typed P g θ v
          → SortedTree P (chosen_by r.state.numbering (patched r.state.store (get_or r.patterns 0 0) N.assignment (λ k. θ (get_or r.state.numbering k 0))) θ v) (sort_at P g v)
      choice x so store r R j N v l a w t =
          let s = r.state.store in
          let p = get_or r.patterns 0 0 in
          let numbering = r.state.numbering in
          elim (see (number_of v numbering 0)) [
            | is none e ↦ rw (e, chosen_by) t
            | is (some i) e ↦
                let f = number_found v numbering 0 i e in
                let u = f.1 in
                let q : i ≡ f.0 = omega arith in
                let at : get_or numbering i 0 ≡ v = ap (λ (m : ℕ). get_or numbering m 0) q ∙ f.3 in
                elim (see (has_variable s p i)) [
                  | is false h ↦ rw (e, chosen_by, h, patched, at) t
                  | is true h ↦
                      let o = variable_of s p i h in
                      let b = and_parts (is_variable (get_or s o.0 no_node)) (eqb (number_at s o.0) i) o.2 in
                      let k = eqb-true (number_at s o.0) i b.1 in
                      let z = N.sorted o.0 o.1 b.0 in
                      let y = part-sort P s (sorts_by g numbering) p so R.sorted o.0 o.1 b.0 in
                      let c : variable_sort s o.0 ≡ sort_at P g v = y ∙ ap (sorts_by g numbering) k ∙ ap (λ (m : ℕ). (vertex g m).sort) at ∙ sym (sort_at-variable P g v w) in
                      rw (e, chosen_by, h, patched) (rw (k, c) at z)
                ]
          ]
