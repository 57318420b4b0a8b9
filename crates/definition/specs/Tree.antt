-- Finite ground terms: what a ground node stands for, and what a rule's term becomes under an assignment.
use Rattle.std.specs.Prelude.{List, [], ◌∷◌, ◌++◌, ℕ, get_or}
use Rattle.definition.specs.Pack.{Term, Terms, var, app, nil, cons, Node, Pack}

-- a symbol over trees
mutual
  pub data Tree : Type 0 where
    tree : ℕ → Trees → Tree

  pub data Trees : Type 0 where
    no_trees : Trees
    tree_then : Tree → Trees → Trees

abbrev pub no_tree : Tree
no_tree = tree 0 no_trees

-- the trees of these numbers
unfoldable pub pick : List Tree → List ℕ → Trees
pick ts [] = no_trees
pick ts (a ∷ args) = tree_then (get_or ts a no_tree) (pick ts args)

-- the trees of nodes in their order, each over trees before it
unfoldable pub grow : List Tree → List Node → List Tree
unfolding pick
grow ts [] = ts
grow ts (n ∷ ns) = grow (ts ++ (tree n.head (pick ts n.args) ∷ [])) ns

-- the tree of each ground node of a pack
unfoldable pub trees : Pack → List Tree
unfolding grow
trees P = grow [] P.nodes

unfoldable pub tree_of : Pack → ℕ → Tree
unfolding trees
tree_of P n = get_or (trees P) n no_tree

-- a term with each variable's tree put for it, the same wherever it stands
unfoldable mutual
  pub turn : (ℕ → Tree) → Term → Tree
  turn ν (var k) = ν k
  turn ν (app h ts) = tree h (turns ν ts)

  pub turns : (ℕ → Tree) → Terms → Trees
  turns ν nil = no_trees
  turns ν (cons t ts) = tree_then (turn ν t) (turns ν ts)
