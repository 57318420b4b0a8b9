-- Interning and lifting again: what the store has is found where it stands, and the store stays; so too in every store grown from it.
use Rattle.std.specs.Prelude.{◌≡◌, refl, true, false, List, [], ◌∷◌, ◌++◌, ℕ, suc, ◌+◌, length}
use Rattle.std.proofs.Common.{ap, ◌∙◌, arith}
use Rattle.std.proofs.Math.Option.{none, some}
use Rattle.definition.specs.Test.{is, see, never}
use Rattle.definition.specs.Pack.{Node}
use Rattle.definition.specs.Certificate.{same_node}
use Rattle.definition.proofs.Laws.Store.{node-same}
use Rattle.definition.specs.Store.{place_of, Stored, intern}
use Rattle.definition.specs.Tree.{Tree, Trees, tree, no_trees, tree_then}
use Rattle.definition.specs.Analysis.{StoredAll, lift, lift_all}
use Rattle.theory.specs.Patterns.Interned.{Grows, with, interned, lifted_all}

-- a pattern's number with its store
abbrev pub stored : ℕ → List Node → Stored
stored p s = record { number = p; store = s }

-- several patterns' numbers with their store
abbrev pub stored_all : List ℕ → List Node → StoredAll
stored_all ps s = record { numbers = ps; store = s }

-- a head over numbers
abbrev pub headed : ℕ → List ℕ → Node
headed h ps = record { head = h; args = ps }

-- a node that is found is found there in a longer store
place-longer : (n : Node) (s t : List Node) (i p : ℕ) → place_of n s i ≡ some p → place_of n (s ++ t) i ≡ some p
unfolding place_of
place-longer n [] t i p e = never (cc)
place-longer n (m ∷ s) t i p e = elim (see (same_node n m)) [
  | is true q ↦ let r : some i ≡ some p = rw (q, place_of) at e in rw (q, place_of) r
  | is false q ↦ rw (q, place_of) (place-longer n s t (suc i) p (rw (q, place_of) at e))
]

-- a node that is not found is found last once it is put there
place-last : (n : Node) (s : List Node) (i : ℕ) → place_of n s i ≡ none → place_of n (s ++ (n ∷ [])) i ≡ some (i + length s)
unfolding place_of
place-last n [] i e = rw (node-same n, place_of) (ap some (omega arith))
place-last n (m ∷ s) i e = elim (see (same_node n m)) [
  | is true q ↦ let r : some i ≡ none = rw (q, place_of) at e in never (cc)
  | is false q ↦ rw (q, place_of) (place-last n s (suc i) (rw (q, place_of) at e) ∙ ap some (omega arith))
]

-- the same in a store that has grown
pub place-grown : (n : Node) (s t : List Node) (p : ℕ) → Grows s t → place_of n s 0 ≡ some p → place_of n t 0 ≡ some p
place-grown n s t p (with more q) e = ap (λ l. place_of n l 0) q ∙ place-longer n s more 0 p e

-- an interned node is found at its number
pub place-interned : (s : List Node) (n : Node) → place_of n (intern s n).store 0 ≡ some (intern s n).number
unfolding intern
place-interned s n = elim (see (place_of n s 0)) [
  | is (some p) e ↦ rw (e, intern) e
  | is none e ↦ rw (e, intern) (place-last n s 0 e ∙ ap some (omega arith))
]

-- a node that is found is interned there, and the store stays
pub intern-placed : (s : List Node) (n : Node) (p : ℕ) → place_of n s 0 ≡ some p → intern s n ≡ stored p s
unfolding intern
intern-placed s n p e = rw (e, intern)

abbrev mutual
  -- the store has a ground term at a number
  pub Has : List Node → Tree → ℕ → Type 0
  Has s (tree h ts) p = (ps : List ℕ) × HasAll s ts ps × (place_of (headed h ps) s 0 ≡ some p)

  -- ground terms at numbers
  pub HasAll : List Node → Trees → List ℕ → Type 0
  HasAll s no_trees [] = Unit {0}
  HasAll s no_trees (p ∷ ps) = ⊥
  HasAll s (tree_then t ts) [] = ⊥
  HasAll s (tree_then t ts) (p ∷ ps) = Has s t p × HasAll s ts ps

mutual
  -- a store that has grown still has a ground term
  pub has-grown : (s s' : List Node) → Grows s s' → (t : Tree) (p : ℕ) → Has s t p → Has s' t p
  has-grown s s' g (tree h ts) p (ps, all, e) = (ps, has-grown-all s s' g ts ps all, place-grown (headed h ps) s s' p g e)

  -- and ground terms
  pub has-grown-all : (s s' : List Node) → Grows s s' → (ts : Trees) (ps : List ℕ) → HasAll s ts ps → HasAll s' ts ps
  has-grown-all s s' g no_trees [] a = tt
  has-grown-all s s' g no_trees (p ∷ ps) a = a
  has-grown-all s s' g (tree_then t ts) [] a = a
  has-grown-all s s' g (tree_then t ts) (p ∷ ps) a = (has-grown s s' g t p a.0, has-grown-all s s' g ts ps a.1)

mutual
  unfolding lift

  -- a ground term that the store has is lifted to where it stands
  pub lift_had : (s : List Node) (t : Tree) (p : ℕ) → Has s t p → lift t s ≡ stored p s
  lift_had s (tree h ts) p (ps, all, e) = ap (λ (r : StoredAll). intern r.store (headed h r.numbers)) (lift_had_all s ts ps all) ∙ intern-placed s (headed h ps) p e

  -- and ground terms
  pub lift_had_all : (s : List Node) (ts : Trees) (ps : List ℕ) → HasAll s ts ps → lift_all ts s ≡ stored_all ps s
  lift_had_all s no_trees [] a = refl
  lift_had_all s no_trees (p ∷ ps) a = absurd a
  lift_had_all s (tree_then t ts) [] a = absurd a
  lift_had_all s (tree_then t ts) (p ∷ ps) a =
      ap (λ (r : Stored). stored_all (r.number ∷ (lift_all ts r.store).numbers) (lift_all ts r.store).store) (lift_had s t p a.0)
      ∙ ap (λ (r : StoredAll). stored_all (p ∷ r.numbers) r.store) (lift_had_all s ts ps a.1)

mutual
  unfolding lift

  -- the store has the ground term that was lifted
  pub has_lifted : (t : Tree) (s : List Node) → Has (lift t s).store t (lift t s).number
  has_lifted (tree h ts) s =
      let args = lift_all ts s in
      let n = headed h args.numbers in
      (args.numbers, has-grown-all args.store (intern args.store n).store (interned args.store n).grows ts args.numbers (has_lifted_all ts s), place-interned args.store n)

  -- and the ground terms that were
  pub has_lifted_all : (ts : Trees) (s : List Node) → HasAll (lift_all ts s).store ts (lift_all ts s).numbers
  has_lifted_all no_trees s = tt
  has_lifted_all (tree_then t ts) s =
      let first = lift t s in
      let rest = lift_all ts first.store in
      (has-grown first.store rest.store (lifted_all ts first.store).grows t first.number (has_lifted t s), has_lifted_all ts first.store)

-- a ground term that lifting leaves the store for, it leaves every grown store for
pub lift_again : (t : Tree) (s s' : List Node) (p : ℕ) → Grows s s' → lift t s ≡ stored p s → lift t s' ≡ stored p s'
lift_again t s s' p g e =
    let h : Has s t p = rw e at (has_lifted t s) in
    lift_had s' t p (has-grown s s' g t p h)

-- lifted once, lifting again changes nothing
pub lift_twice : (t : Tree) (s : List Node) → lift t (lift t s).store ≡ lift t s
lift_twice t s = lift_had (lift t s).store t (lift t s).number (has_lifted t s)
