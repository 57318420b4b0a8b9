-- Solutions of a term graph: a tree for each node that respects links and applications. Graphs that are well formed and well sorted.
use Rattle.std.specs.Prelude.{◌≡◌, true, false, List, [], ◌∷◌, ℕ, ◌+◌, ◌<◌, ◌≤◌, length}
use Rattle.std.proofs.Math.Option.{none, some}
use Rattle.definition.specs.Pack.{Pack, symbol_of}
use Rattle.definition.specs.Tree.{Tree, Trees, tree, no_trees, tree_then}
use Rattle.definition.specs.Good.{Below}
use Rattle.definition.specs.Graph.{Graph, vertex, root, is_var}

-- the trees of these nodes
unfoldable pub trees_at : (ℕ → Tree) → List ℕ → Trees
trees_at θ [] = no_trees
trees_at θ (x ∷ xs) = tree_then (θ x) (trees_at θ xs)

-- a tree for each node: joined nodes have one, and an application that is joined to none is its head over its arguments' trees
pub record Solves (θ : ℕ → Tree) (g : Graph) : Type 0 where
  pub links : (x y : ℕ) → x < length g → (vertex g x).link ≡ some y → θ x ≡ θ y
  pub apps : (x : ℕ) → x < length g → (vertex g x).link ≡ none → is_var (vertex g x) ≡ false
      → θ x ≡ tree (vertex g x).head (trees_at θ (vertex g x).args)

-- the sort of a node: a variable's own, or its head's output
unfoldable pub sort_at : Pack → Graph → ℕ → ℕ
sort_at P g x = elim (is_var (vertex g x)) [ true ↦ (vertex g x).sort | false ↦ (symbol_of P (vertex g x).head).output ]

-- nodes of these sorts
abbrev pub SortsAt : Pack → Graph → List ℕ → List ℕ → Type 0
SortsAt P g [] [] = Unit {0}
SortsAt P g [] (s ∷ ss) = ⊥
SortsAt P g (x ∷ xs) [] = ⊥
SortsAt P g (x ∷ xs) (s ∷ ss) = (sort_at P g x ≡ s) × SortsAt P g xs ss

-- a well-formed node of a graph
pub record Formed-at (P : Pack) (g : Graph) (x : ℕ) : Type 0 where
  -- it is not rigid
  pub soft : (vertex g x).rigid ≡ false
  -- an application has a symbol on top, over nodes of the graph of its input sorts
  pub head : is_var (vertex g x) ≡ false → (vertex g x).head < length P.symbols
  pub below : Below (length g) (vertex g x).args
  pub sorts : is_var (vertex g x) ≡ false → SortsAt P g (vertex g x).args (symbol_of P (vertex g x).head).inputs
  -- a variable has no arguments
  pub bare : is_var (vertex g x) ≡ true → (vertex g x).args ≡ []
  -- it is joined to a node of the graph of its own sort
  pub linked : (y : ℕ) → (vertex g x).link ≡ some y → (y < length g) × (sort_at P g x ≡ sort_at P g y)
  -- its links come to an end
  pub rooted : (vertex g (root g x)).link ≡ none
  pub within : root g x < length g

abbrev pub Formed : Pack → Graph → Type 0
Formed P g = (x : ℕ) → x < length g → Formed-at P g x

-- the same nodes, whatever they are joined to and however they are marked
pub record SameNodes (g h : Graph) : Type 0 where
  pub long : length h ≡ length g
  pub heads : (x : ℕ) → (vertex h x).head ≡ (vertex g x).head
  pub args : (x : ℕ) → (vertex h x).args ≡ (vertex g x).args
  pub sorts : (x : ℕ) → (vertex h x).sort ≡ (vertex g x).sort

-- argument cells of nodes that are joined to none
unfoldable pub open_cells : Graph → ℕ
open_cells [] = 0
open_cells (v ∷ vs) = elim v.link [ none ↦ length v.args + open_cells vs | some y ↦ open_cells vs ]

-- a graph that begins with another
pub record Begins (g h : Graph) : Type 0 where
  pub longer : length g ≤ length h
  pub kept : (x : ℕ) → x < length g → vertex h x ≡ vertex g x
