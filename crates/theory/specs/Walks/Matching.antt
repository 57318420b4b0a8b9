-- A pattern of the store against a ground node by a worklist: pairs from its top, arguments in their order ahead of the rest, each application of the store once.
use Rattle.std.specs.Prelude.{◌≡◌, true, false, ℕ, ◌+◌, ◌<◌, ◌≤◌, eqb, length, get_or}
use Rattle.std.proofs.Math.Path.{refl, ap₂}
use Rattle.std.proofs.Common.{sym, ap, ◌∙◌, arith, eqb-true}
use mathlib.Core.List.{List, [], ◌∷◌}
use Rattle.std.proofs.Math.Option.{Option, none, some}
use Rattle.std.proofs.lemmas.Bool.{eqb-false}
use Rattle.definition.specs.Test.{is, see, never}
use Rattle.definition.specs.Pack.{Pack, Node, no_node, node_of}
use Rattle.definition.specs.Tree.{Tree, tree_then, pick, trees, tree_of, turn, turns}
use Rattle.definition.specs.Store.{is_variable, below, term_of}
use Rattle.definition.specs.Verdict.{Bound, value_of}
use Rattle.definition.specs.Good.{Below}
use Rattle.definition.specs.Graph.{Pair}
use Rattle.definition.specs.Analysis.{pairing}
use Rattle.definition.proofs.Laws.Matches.{Agrees, Given, then_parts}
use Rattle.theory.specs.Copies.Terms.{terms_at}
use Rattle.theory.specs.Copies.Copying.{value_of_new, value_of_old, value_apart}
use Rattle.theory.specs.Walks.WalkOnce.{unfinished}
use Rattle.theory.specs.Walks.Memo.{has}
use Rattle.theory.specs.Walks.Ahead.{beside, lefts, rights, ahead}

-- the pairs still to be taken, what applications were matched with, and the values of variables so far
pub record Matching : Type 0 where
  pub work : List Pair
  pub seen : List Bound
  pub values : List Bound

-- pairs with what was seen and values
abbrev pub matching : List Pair → List Bound → List Bound → Matching
matching work seen vs = record { work = work; seen = seen; values = vs }

-- the number of a variable
abbrev pub number_of : List Node → ℕ → ℕ
number_of s p = get_or (get_or s p no_node).args 0 0

-- one pair: a variable's value, and an application's ground node, is the same wherever it is met; an application's arguments are put ahead of the rest
unfoldable pub take_match : Pack → List Node → ℕ → ℕ → List Pair → List Bound → List Bound → Option Matching
unfolding value_of is_variable node_of ahead
take_match P s p n work seen vs =
    elim (is_variable (get_or s p no_node)) [
      | true ↦
          elim (value_of (number_of s p) vs) [
            | some m ↦ elim (eqb m n) [ true ↦ some (matching work seen vs) | false ↦ none ]
            | none ↦ some (matching work seen (pairing (number_of s p) n ∷ vs))
          ]
      | false ↦
          elim (value_of p seen) [
            | some m ↦ elim (eqb m n) [ true ↦ some (matching work seen vs) | false ↦ none ]
            | none ↦
                elim (eqb (get_or s p no_node).head (node_of P n).head) [
                  | true ↦ elim (ahead (get_or s p no_node).args (node_of P n).args work) [ none ↦ none | some w ↦ some (matching w (pairing p n ∷ seen) vs) ]
                  | false ↦ none
                ]
          ]
    ]

-- pairs and the arguments of nodes below k that were not seen: how many pairs are still taken, at most
abbrev pub matches_left : List Node → ℕ → Matching → ℕ
matches_left s k t = length t.work + unfinished (λ x. below (get_or s x no_node)) has k t.seen

-- an assignment that agrees with one value more agrees with the others, and gives the variable that one
pub agrees_less : (P : Pack) (ν : ℕ → Tree) (k n : ℕ) (vs : List Bound) → value_of k vs ≡ none → Agrees P ν (pairing k n ∷ vs) → Agrees P ν vs × (ν k ≡ tree_of P n)
agrees_less P ν k n vs e a = (λ j m v. a j m (value_of_old k n vs j (value_apart vs j k m v e) ∙ v), a k n (value_of_new k n vs))

-- what holds of all values and of one more holds of them together
pub values-more : (Q : ℕ → ℕ → Type 0) (k n : ℕ) (vs : List Bound) → ((j m : ℕ) → value_of j vs ≡ some m → Q j m) → Q k n → (j m : ℕ) → value_of j (pairing k n ∷ vs) ≡ some m → Q j m
values-more Q k n vs a b j m v = elim (see (eqb k j)) [
  | is true t ↦
      let i : k ≡ j = eqb-true k j t in
      let z : some n ≡ some m = sym (value_of_new k n vs) ∙ ap (λ (h : ℕ). value_of h (pairing k n ∷ vs)) i ∙ v in
      let q : n ≡ m = cc in
      rw (← i, ← q) b
  | is false t ↦ a j m (sym (value_of_old k n vs j (λ i. eqb-false k j t (sym i))) ∙ v)
]

module _ (P : Pack) (s : List Node) where
  -- an assignment turns the pattern's term into the node's tree
  abbrev pub Fits : (ℕ → Tree) → ℕ → ℕ → Type 0
  Fits ν p n = turn ν (term_of s p) ≡ tree_of P n

  -- it does so for all pairs whose pattern is below k
  abbrev pub Meets : (ℕ → Tree) → ℕ → List Pair → Type 0
  Meets ν k [] = Unit {0}
  Meets ν k (q ∷ work) = (q.left < k → Fits ν q.left q.right) × Meets ν k work

  -- and so for fewer
  pub meets_less : (ν : ℕ → Tree) (j k : ℕ) (work : List Pair) → j ≤ k → Meets ν k work → Meets ν j work
  meets_less ν j k [] h m = tt
  meets_less ν j k (q ∷ work) h m = (λ l. m.0 (omega arith), meets_less ν j k work h m.1)

  -- of pairs put ahead of others: the others, and what was put there if it is below k
  pub meets-ahead : (ν : ℕ → Tree) (k : ℕ) (xs ns : List ℕ) (work w : List Pair) → ahead xs ns work ≡ some w → Meets ν k w → (Below k xs → turns ν (terms_at s xs) ≡ pick (trees P) ns) × Meets ν k work
  unfolding ahead turn terms_at pick tree_of
  meets-ahead ν k [] [] work w e m = let q : work ≡ w = cc in (λ b. refl, rw (← q) at m)
  meets-ahead ν k [] (n ∷ ns) work w e m = never (cc)
  meets-ahead ν k (x ∷ xs) [] work w e m = never (cc)
  meets-ahead ν k (x ∷ xs) (n ∷ ns) work w e m = elim (see (ahead xs ns work)) [
    | is none p ↦ let z : none ≡ some w = rw (p, ahead) at e in never (cc)
    | is (some v) p ↦
        let z : some (beside x n ∷ v) ≡ some w = rw (p, ahead) at e in
        let q : beside x n ∷ v ≡ w = cc in
        let m' : Meets ν k (beside x n ∷ v) = rw (← q) at m in
        let ih = meets-ahead ν k xs ns work v p m'.1 in
        (λ b. ap₂ tree_then (m'.0 b.0) (ih.0 b.1), ih.1)
  ]

  -- and from these together
  pub ahead-meets : (ν : ℕ → Tree) (k : ℕ) (xs ns : List ℕ) (work w : List Pair) → ahead xs ns work ≡ some w → turns ν (terms_at s xs) ≡ pick (trees P) ns → Meets ν k work → Meets ν k w
  unfolding ahead turn terms_at pick tree_of
  ahead-meets ν k [] [] work w e t m = let q : work ≡ w = cc in rw (← q) m
  ahead-meets ν k [] (n ∷ ns) work w e t m = never (cc)
  ahead-meets ν k (x ∷ xs) [] work w e t m = never (cc)
  ahead-meets ν k (x ∷ xs) (n ∷ ns) work w e t m = elim (see (ahead xs ns work)) [
    | is none p ↦ let z : none ≡ some w = rw (p, ahead) at e in never (cc)
    | is (some v) p ↦
        let z : some (beside x n ∷ v) ≡ some w = rw (p, ahead) at e in
        let q : beside x n ∷ v ≡ w = cc in
        let u = then_parts t in
        rw (← q) (λ h. u.0, ahead-meets ν k xs ns work v p u.1 m)
  ]

  -- where one side is longer no assignment does so
  pub ahead_never : (ν : ℕ → Tree) (xs ns : List ℕ) (work : List Pair) → ahead xs ns work ≡ none → turns ν (terms_at s xs) ≡ pick (trees P) ns → ⊥
  unfolding ahead turn terms_at pick
  ahead_never ν [] [] work e t = never (cc)
  ahead_never ν [] (n ∷ ns) work e t = never (cc)
  ahead_never ν (x ∷ xs) [] work e t = never (cc)
  ahead_never ν (x ∷ xs) (n ∷ ns) work e t = elim (see (ahead xs ns work)) [
    | is none p ↦ ahead_never ν xs ns work p (then_parts t).1
    | is (some v) p ↦ let z : some (beside x n ∷ v) ≡ none = rw (p, ahead) at e in never (cc)
  ]

  -- what is known between turns: numbers in range, and that what was seen follows from the values and the pairs below it
  pub record Known (k : ℕ) (t : Matching) : Type 0 where
    pub nodes : Below k (lefts t.work)
    pub grounds : Below (length P.nodes) (rights t.work)
    pub values : Given P t.values
    pub seen : Given P t.seen
    pub settled : (x m : ℕ) → value_of x t.seen ≡ some m → (ν : ℕ → Tree) → Agrees P ν t.values → Meets ν x t.work → Fits ν x m

  -- what a turn gives: no assignment where there is none; else what is left has the same ones, and fewer pairs are left
  pub record Turned (k : ℕ) (b t : Matching) : Type 0 where
    pub known : Known k t
    pub forth : (ν : ℕ → Tree) → Agrees P ν b.values → Meets ν k b.work → Agrees P ν t.values × Meets ν k t.work
    pub back : (ν : ℕ → Tree) → Agrees P ν t.values → Meets ν k t.work → Agrees P ν b.values × Meets ν k b.work
    pub less : matches_left s k t < matches_left s k b

  -- of whatever a turn answers
  abbrev pub Says : ℕ → Matching → Option Matching → Type 0
  Says k b none = (ν : ℕ → Tree) → Agrees P ν b.values → Meets ν k b.work → ⊥
  Says k b (some t) = Turned k b t
