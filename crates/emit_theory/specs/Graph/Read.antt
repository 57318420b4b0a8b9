-- Patterns that a graph's nodes are raised to, and readings in the course of raising: well sorted, and such that lines can speak of them.
use Rattle.std.specs.Prelude.{◌≡◌, refl, List, [], ◌∷◌, ℕ, suc, ◌<◌, length}
use Rattle.std.proofs.Common.{ap, ◌∙◌, arith}
use Rattle.std.proofs.Math.Option.{some}
use Rattle.definition.specs.Pack.{Node, Pack}
use Rattle.definition.specs.Good.{Below}
use Rattle.definition.specs.Verdict.{Bound, value_of}
use Rattle.definition.specs.Graph.{Graph}
use Rattle.definition.specs.Analysis.{pairing}
use Rattle.emission.specs.Global.{node_of_l, Reading}
use Rattle.theory.specs.Unification.Solve.{sort_at, SortsAt}
use Rattle.theory.specs.Copies.Copying.{newest, older, looked, pattern_sort}
use Rattle.theory.specs.Patterns.Interned.{Grows, grows_long}
use Rattle.emit_theory.specs.Stores.{Sorted, SortedStore}
use Rattle.emit_theory.specs.Spoken.{Spoken, SpokenAll, none as no_more, more as and-more, spoken_grows}
use Rattle.emit_theory.specs.Graph.Intern.{sort_grows}

-- L's pattern, the names and the graph
module _ (P : Pack) (L : ℕ) (names : List Bound) (g : Graph) where
  -- a pattern of a store that a node may be raised to: of the node's sort, and such that lines can speak of it
  pub record RaisedTo (s : List Node) (x p : ℕ) : Type 0 where
    pub within : p < length s
    pub sort : pattern_sort P s p ≡ sort_at P g x
    pub spoken : Spoken L names s p

  -- nodes beside their patterns
  abbrev pub RaisedToAll : List Node → List ℕ → List ℕ → Type 0
  RaisedToAll s [] [] = Unit {0}
  RaisedToAll s [] (p ∷ ps) = ⊥
  RaisedToAll s (x ∷ xs) [] = ⊥
  RaisedToAll s (x ∷ xs) (p ∷ ps) = RaisedTo s x p × RaisedToAll s xs ps

  -- the store is well sorted, L's pattern has the sort of L's node, and what was raised so far is as it should be
  pub record Reads (m : Reading) : Type 0 where
    pub store : SortedStore P m.store
    pub eigen : L < length m.store
    pub eigen-sort : pattern_sort P m.store L ≡ sort_at P g node_of_l
    pub memo : (r p : ℕ) → value_of r m.memo ≡ some p → RaisedTo m.store r p

  -- a pattern stays as it should be when the store grows
  pub raised_grows : (s t : List Node) → Grows s t → (x p : ℕ) → RaisedTo s x p → RaisedTo t x p
  raised_grows s t G x p S =
      let l = grows_long s t G in
      record { within = omega (arith, S.within); sort = sort_grows P s t G p S.within ∙ S.sort; spoken = spoken_grows L names names s t (λ p k e. (k, e)) G p S.spoken }

  -- so do several
  pub raised_all-grow : (s t : List Node) → Grows s t → (xs ps : List ℕ) → RaisedToAll s xs ps → RaisedToAll t xs ps
  raised_all-grow s t G [] [] A = tt
  raised_all-grow s t G [] (p ∷ ps) A = absurd A
  raised_all-grow s t G (x ∷ xs) [] A = absurd A
  raised_all-grow s t G (x ∷ xs) (p ∷ ps) A = (raised_grows s t G x p A.0, raised_all-grow s t G xs ps A.1)

  -- a reading over a store that has grown
  pub reads_grow : (m : Reading) (t : List Node) → Grows m.store t → SortedStore P t → Reads m → Reads (record { memo = m.memo; store = t })
  reads_grow m t G T R =
      let l = grows_long m.store t G in
      record {
        store = T;
        eigen = omega (arith, R.eigen);
        eigen-sort = sort_grows P m.store t G L R.eigen ∙ R.eigen-sort;
        memo = λ r p e. raised_grows m.store t G r p (R.memo r p e);
      }

  -- and with one node more in the memo
  pub reads_more : (m : Reading) (r p : ℕ) → RaisedTo m.store r p → Reads m → Reads (record { memo = pairing r p ∷ m.memo; store = m.store })
  reads_more m r p S R = record {
    store = R.store;
    eigen = R.eigen;
    eigen-sort = R.eigen-sort;
    memo = λ q o e. elim (looked r p m.memo q o e) [
      | newest i j ↦ rw (i, j) S
      | older f ↦ R.memo q o f
    ];
  }

  -- as many patterns as nodes
  pub raised_length : (s : List Node) (xs ps : List ℕ) → RaisedToAll s xs ps → length ps ≡ length xs
  raised_length s [] [] S = refl
  raised_length s [] (p ∷ ps) S = absurd S
  raised_length s (x ∷ xs) [] S = absurd S
  raised_length s (x ∷ xs) (p ∷ ps) S = ap suc (raised_length s xs ps S.1)

  -- they lie in the store
  pub raised_below : (s : List Node) (xs ps : List ℕ) → RaisedToAll s xs ps → Below (length s) ps
  raised_below s [] [] S = tt
  raised_below s [] (p ∷ ps) S = absurd S
  raised_below s (x ∷ xs) [] S = absurd S
  raised_below s (x ∷ xs) (p ∷ ps) S = (S.0.within, raised_below s xs ps S.1)

  -- lines can speak of them
  pub raised_spoken : (s : List Node) (xs ps : List ℕ) → RaisedToAll s xs ps → SpokenAll L names s ps
  raised_spoken s [] [] S = no_more
  raised_spoken s [] (p ∷ ps) S = absurd S
  raised_spoken s (x ∷ xs) [] S = absurd S
  raised_spoken s (x ∷ xs) (p ∷ ps) S = and-more p ps S.0.spoken (raised_spoken s xs ps S.1)

  -- they have the sorts that their nodes have
  pub raised_sorts : (s : List Node) (xs ps ss : List ℕ) → SortsAt P g xs ss → RaisedToAll s xs ps → Sorted P s (length s) ss ps
  raised_sorts s [] [] [] q S = tt
  raised_sorts s [] [] (so ∷ ss) q S = absurd q
  raised_sorts s [] (p ∷ ps) ss q S = absurd S
  raised_sorts s (x ∷ xs) [] ss q S = absurd S
  raised_sorts s (x ∷ xs) (p ∷ ps) [] q S = absurd q
  raised_sorts s (x ∷ xs) (p ∷ ps) (so ∷ ss) q S = (S.0.within, S.0.sort ∙ q.0, raised_sorts s xs ps ss q.1 S.1)
