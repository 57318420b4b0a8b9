-- A rule's term matched against a pattern: over a store that has grown it is the same, and the values are patterns of the store.
use Rattle.std.specs.Prelude.{◌≡◌, refl, Bool, true, false, List, [], ◌∷◌, ℕ, ◌<◌, ◌≤◌, eqb, length, get_or}
use Rattle.std.proofs.Common.{sym, ap, ◌∙◌, subst, arith, eqb-true}
use Rattle.std.proofs.Math.Option.{Option, none, some}
use Rattle.definition.specs.Test.{is, see, never}
use Rattle.definition.specs.Pack.{Term, Terms, var, app, nil, cons, Node, no_node, Pack, node_of}
use Rattle.definition.specs.Good.{Below, Sorted, SortedAll, Few}
use Rattle.definition.proofs.Laws.Grow.{below_more}
use Rattle.definition.specs.Verdict.{Bound, value_of, bound, provided, onwards, matches, match_all}
use Rattle.definition.proofs.Laws.Agreement.{onwards-same}
use Rattle.emission.specs.Patterns.{over}
use Rattle.theory.specs.Copies.Terms.{Earlier, below-applied}
use Rattle.theory.specs.Patterns.Interned.{Grows, grows_at}
use Rattle.theory.specs.Making.Interns.{symbol-head, not-variable}
use Rattle.emit_theory.specs.Again.IfSome.{IfSome, if_then}

-- values below n
abbrev pub Within : ℕ → List Bound → Type 0
Within n bs = (k : ℕ) → IfSome (λ v. v < n) (value_of k bs)

-- where there are no values
pub within_none : (n : ℕ) → Within n []
unfolding value_of
within_none n k = tt

-- below n is below what is no less
pub within_more : (n m : ℕ) (bs : List Bound) → n ≤ m → Within n bs → Within m bs
within_more n m bs h w k = if_then (λ v. v < n) (λ v. v < m) (λ v l. omega arith) (value_of k bs) (w k)

some_eq : {A : Type 0} {a b : A} → some a ≡ some b → a ≡ b
some_eq e = cc

-- one value more
within_pair : (n k p : ℕ) (bs : List Bound) → p < n → Within n bs → Within n (record { variable = k; value = p } ∷ bs)
unfolding value_of
within_pair n k p bs l w i = elim (see (eqb k i)) [ is true t ↦ rw (t, value_of) l | is false t ↦ rw (t, value_of) (w i) ]

-- what a variable's match leaves
within-bound : (n k p : ℕ) (bs cs : List Bound) → p < n → Within n bs → bound k p bs (value_of k bs) ≡ some cs → Within n cs
unfolding bound
within-bound n k p bs cs l w e = elim (see (value_of k bs)) [
  | is none h ↦ subst (Within n) (some_eq (rw (h, bound) at e)) (within_pair n k p bs l w)
  | is (some v) h ↦ elim (see (eqb v p)) [
    | is true t ↦ subst (Within n) (some_eq (rw (h, t, bound) at e)) w
    | is false t ↦ never (let z : none ≡ some cs = rw (h, t, bound) at e in cc)
  ]
]

-- what a test lets through need only be the same if it does
provided-same : (b : Bool) (r q : Option (List Bound)) → (b ≡ true → r ≡ q) → provided b r ≡ provided b q
unfolding provided
provided-same true r q h = h refl
provided-same false r q h = refl

module _ (P : Pack) (W : Few P) (vars : List ℕ) (s : List Node) (E : Earlier s) where
  -- a symbol's node is no variable, so its arguments stand in the store
  args_inside : (n h : ℕ) → n < length s → h < length P.symbols → eqb (get_or s n no_node).head h ≡ true → Below (length s) (get_or s n no_node).args
  args_inside n h l k e =
      let node : Node = get_or s n no_node in
      let v = not-variable node (λ z. symbol-head P W h k (sym (eqb-true node.head h e) ∙ z)) in
      below_more n (length s) node.args (omega arith) (rw (below-applied node v) at (E n l))

  module _ (t : List Node) (G : Grows s t) where
    mutual
      unfolding matches node_of

      -- over a store that has grown
      pub match_grown : (x : Term) (so : ℕ) → Sorted P vars x so → (n : ℕ) (bs : List Bound) → n < length s → matches (over P t) x n bs ≡ matches (over P s) x n bs
      match_grown (var k) so H n bs l = refl
      match_grown (app h xs) so H n bs l =
          ap {B = Option (List Bound)} (λ (m : Node). provided (eqb m.head h) (match_all (over P t) xs m.args bs)) (grows_at s t no_node n G l)
          ∙ provided-same (eqb (get_or s n no_node).head h) (match_all (over P t) xs (get_or s n no_node).args bs) (match_all (over P s) xs (get_or s n no_node).args bs)
          (λ e. match_grown-all xs _ H.2 (get_or s n no_node).args bs (args_inside n h l H.0 e))

      match_grown-all : (xs : Terms) (sorts : List ℕ) → SortedAll P vars xs sorts → (ns : List ℕ) (bs : List Bound) → Below (length s) ns
          → match_all (over P t) xs ns bs ≡ match_all (over P s) xs ns bs
      match_grown-all nil sorts H [] bs l = refl
      match_grown-all nil sorts H (n ∷ ns) bs l = refl
      match_grown-all (cons x xs) sorts H [] bs l = refl
      match_grown-all (cons x xs) [] H (n ∷ ns) bs l = absurd H
      match_grown-all (cons x xs) (so ∷ sorts) H (n ∷ ns) bs l =
          ap (λ r. onwards r (λ cs. match_all (over P t) xs ns cs)) (match_grown x so H.0 n bs l.0)
          ∙ onwards-same (matches (over P s) x n bs) (λ cs. match_all (over P t) xs ns cs) (λ cs. match_all (over P s) xs ns cs) (λ cs. match_grown-all xs sorts H.1 ns cs l.1)

  mutual
    unfolding matches node_of

    -- the values are patterns of the store
    pub match_within : (x : Term) (so : ℕ) → Sorted P vars x so → (n : ℕ) (bs cs : List Bound) → n < length s → Within (length s) bs
        → matches (over P s) x n bs ≡ some cs → Within (length s) cs
    match_within (var k) so H n bs cs l w e = within-bound (length s) k n bs cs l w e
    match_within (app h xs) so H n bs cs l w e = elim (see (eqb (get_or s n no_node).head h)) [
      | is true t ↦ match_within-all xs _ H.2 (get_or s n no_node).args bs cs (args_inside n h l H.0 t) w (rw (t, provided) at e)
      | is false t ↦ never (let z : none ≡ some cs = rw (t, provided) at e in cc)
    ]

    match_within-all : (xs : Terms) (sorts : List ℕ) → SortedAll P vars xs sorts → (ns : List ℕ) (bs cs : List Bound) → Below (length s) ns → Within (length s) bs
        → match_all (over P s) xs ns bs ≡ some cs → Within (length s) cs
    match_within-all nil sorts H [] bs cs l w e = subst (Within (length s)) (some_eq e) w
    match_within-all nil sorts H (n ∷ ns) bs cs l w e = never (cc)
    match_within-all (cons x xs) sorts H [] bs cs l w e = never (cc)
    match_within-all (cons x xs) [] H (n ∷ ns) bs cs l w e = absurd H
    match_within-all (cons x xs) (so ∷ sorts) H (n ∷ ns) bs cs l w e = elim (see (matches (over P s) x n bs)) [
      | is none q ↦ never (let z : none ≡ some cs = rw (q, onwards) at e in cc)
      | is (some ds) q ↦ match_within-all xs sorts H.1 ns ds cs l.1 (match_within x so H.0 n bs ds l.0 w q) (rw (q, onwards) at e)
    ]
