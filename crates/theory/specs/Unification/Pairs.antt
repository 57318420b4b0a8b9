-- Pairs still to be made equal: what equates them, and that arguments side by side are pairs of one sort.
use Rattle.std.specs.Prelude.{◌≡◌, refl, List, [], ◌∷◌, ℕ, ◌+◌, ◌≤◌, ◌<◌, length}
use Rattle.std.proofs.Common.{sym, ap₂, ◌∙◌, arith}
use Rattle.definition.specs.Pack.{Pack}
use Rattle.definition.specs.Tree.{Tree, tree_then}
use Rattle.definition.specs.Good.{Below}
use Rattle.definition.specs.Graph.{Graph, Pair, last_first}
use Rattle.theory.specs.Unification.Solve.{trees_at, sort_at, SortsAt, SameNodes}
use Rattle.theory.specs.Unification.Kept.{same-sort}

-- a tree for each node makes the pairs equal
abbrev pub Equated : (ℕ → Tree) → List Pair → Type 0
Equated θ [] = Unit {0}
Equated θ (p ∷ work) = (θ p.left ≡ θ p.right) × Equated θ work

-- the pairs are of nodes of the graph, two of one sort
abbrev pub Paired : Pack → Graph → List Pair → Type 0
Paired P g [] = Unit {0}
Paired P g (p ∷ work) = (p.left < length g) × (p.right < length g) × (sort_at P g p.left ≡ sort_at P g p.right) × Paired P g work

-- they are so in a graph of the same nodes
pub paired_same : (P : Pack) (g h : Graph) → SameNodes g h → (work : List Pair) → Paired P g work → Paired P h work
paired_same P g h s [] q = tt
paired_same P g h s (p ∷ work) q = (
  rw s.long q.0,
  rw s.long q.1,
  same-sort P g h s p.left ∙ q.2 ∙ sym (same-sort P g h s p.right),
  paired_same P g h s work q.3,
)

-- as many nodes as sorts
pub sorts-length : (P : Pack) (g : Graph) (xs ss : List ℕ) → SortsAt P g xs ss → length xs ≡ length ss
sorts-length P g [] [] q = refl
sorts-length P g [] (s ∷ ss) q = absurd q
sorts-length P g (x ∷ xs) [] q = absurd q
sorts-length P g (x ∷ xs) (s ∷ ss) q = let h = sorts-length P g xs ss q.1 in omega arith

-- arguments of the same sorts, side by side, are pairs of one sort
pub args-paired : (P : Pack) (g : Graph) (xs ys ss : List ℕ) (work : List Pair) → Below (length g) xs → Below (length g) ys → SortsAt P g xs ss → SortsAt P g ys ss
    → Paired P g work → Paired P g (last_first xs ys work)
unfolding last_first
args-paired P g [] ys ss work bx by sx sy q = q
args-paired P g (x ∷ xs) [] ss work bx by sx sy q = q
args-paired P g (x ∷ xs) (y ∷ ys) [] work bx by sx sy q = absurd sx
args-paired P g (x ∷ xs) (y ∷ ys) (s ∷ ss) work bx by sx sy q =
    args-paired P g xs ys ss (record { left = x; right = y } ∷ work) bx.1 by.1 sx.1 sy.1 (bx.0, by.0, sx.0 ∙ sym sy.0, q)

-- no more pairs than arguments come on
pub args-length : (xs ys : List ℕ) (work : List Pair) → length (last_first xs ys work) ≤ length xs + length work
unfolding last_first
args-length [] ys work = omega arith
args-length (x ∷ xs) [] work = omega arith
args-length (x ∷ xs) (y ∷ ys) work = let h = args-length xs ys (record { left = x; right = y } ∷ work) in omega arith

-- equal trees of the arguments make their pairs equal
pub args_forth : (θ : ℕ → Tree) (xs ys : List ℕ) (work : List Pair) → trees_at θ xs ≡ trees_at θ ys → Equated θ work → Equated θ (last_first xs ys work)
unfolding last_first trees_at
args_forth θ [] ys work e q = q
args_forth θ (x ∷ xs) [] work e q = q
args_forth θ (x ∷ xs) (y ∷ ys) work e q = args_forth θ xs ys (record { left = x; right = y } ∷ work) (cc) (cc, q)

-- equal pairs of as many arguments make their trees equal
pub args-back : (θ : ℕ → Tree) (xs ys : List ℕ) (work : List Pair) → length xs ≡ length ys → Equated θ (last_first xs ys work) → (trees_at θ xs ≡ trees_at θ ys) × Equated θ work
unfolding last_first trees_at
args-back θ [] [] work l q = (refl, q)
args-back θ [] (y ∷ ys) work l q = absurd (omega arith)
args-back θ (x ∷ xs) [] work l q = absurd (omega arith)
args-back θ (x ∷ xs) (y ∷ ys) work l q =
    let h = args-back θ xs ys (record { left = x; right = y } ∷ work) (omega arith) q in
    (ap₂ tree_then h.1.0 h.0, h.1.1)
