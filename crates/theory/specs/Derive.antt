-- What demand 3 speaks of, in document 01's words: well-sorted ground terms, judgments, instances, derivations and shapes.
use Rattle.std.specs.Prelude.{◌≡◌, true, false, List, [], ◌∷◌, map, ℕ, ◌<◌, length, get_or}
use Rattle.definition.specs.Pack.{prop, Term, Terms, var, app, nil, cons, Node, no_node, Pack, symbol_of, rule_of, step_of}
use Rattle.definition.specs.Tree.{Tree, Trees, tree, no_trees, tree_then, turn, turns}
use Rattle.definition.specs.Store.{is_variable, term_of}
use Rattle.definition.specs.Analysis.{parts}
use Rattle.definition.specs.Keys.{first_of, predicate_of, is_a_cut}

-- "finite well-sorted ground terms of the pack's symbols, given as nodes or not"
abbrev mutual
  pub SortedTree : Pack → Tree → ℕ → Type 0
  SortedTree P (tree h ts) s = (h < length P.symbols) × ((symbol_of P h).output ≡ s) × SortedTrees P ts (symbol_of P h).inputs

  pub SortedTrees : Pack → Trees → List ℕ → Type 0
  SortedTrees P no_trees [] = Unit {0}
  SortedTrees P no_trees (s ∷ ss) = ⊥
  SortedTrees P (tree_then t ts) [] = ⊥
  SortedTrees P (tree_then t ts) (s ∷ ss) = SortedTree P t s × SortedTrees P ts ss

-- "a judgment is a predicate over finite well-sorted ground terms"
abbrev pub Judgment : Pack → Tree → Type 0
Judgment P t = SortedTree P t prop

-- an element of a list
pub data In {A : Type 0} (x : A) (xs : List A) : Type 0 where
  at : (i : ℕ) (d : A) → i < length xs → get_or xs i d ≡ x → In x xs

-- "An instance puts for each variable one such term of its sort, the same wherever it stands"
pub record InstanceOf (P : Pack) (store : List Node) (p : ℕ) (t : Tree) : Type 0 where
  pub assignment : ℕ → Tree
  pub sorted : (q : ℕ) → In q (parts store p) → is_variable (get_or store q no_node) ≡ true
      → SortedTree P (assignment (get_or (get_or store q no_node).args 0 0)) (get_or (get_or store q no_node).args 1 0)
  pub is : turn assignment (term_of store p) ≡ t

-- an assignment that gives each variable that occurs in a term a tree of its sort
abbrev mutual
  pub Fits : Pack → List ℕ → (ℕ → Tree) → Term → Type 0
  Fits P vars ν (var k) = SortedTree P (ν k) (get_or vars k 0)
  Fits P vars ν (app h ts) = FitsAll P vars ν ts

  pub FitsAll : Pack → List ℕ → (ℕ → Tree) → Terms → Type 0
  FitsAll P vars ν nil = Unit {0}
  FitsAll P vars ν (cons t ts) = Fits P vars ν t × FitsAll P vars ν ts

-- "A derivation is a finite tree: a cut leaf is any judgment of a cut predicate; elsewhere one assignment of the variables that occur
-- in a rule turns its premises, in order, into what the subtrees conclude and its conclusion into the tree's own"
mutual
  pub data Derivation (P : Pack) : Tree → Type 0 where
    leaf : (p : ℕ) (ts : Trees) → Judgment P (tree p ts) → is_a_cut P p ≡ true → Derivation P (tree p ts)
    by : {j : Tree} {js : Trees} (r : ℕ) (ν : ℕ → Tree) → r < length P.rules
        → FitsAll P (rule_of P r).vars ν (rule_of P r).premises → Fits P (rule_of P r).vars ν (rule_of P r).conclusion
        → turns ν (rule_of P r).premises ≡ js → turn ν (rule_of P r).conclusion ≡ j
        → Derivations P js → Derivation P j

  pub data Derivations (P : Pack) : Trees → Type 0 where
    none : Derivations P no_trees
    more : {j : Tree} {js : Trees} → Derivation P j → Derivations P js → Derivations P (tree_then j js)

-- a step of a class, by the step words
pub record StepOf (P : Pack) (words : List ℕ) (class s : ℕ) : Type 0 where
  pub given : s < length P.steps
  pub word : get_or words s 0 ≡ class

-- "A derivation has a class's shape if it ends in the class's rule and derives each premise in the shape of that ref's class; for a
-- cut class, if it is a cut leaf of its predicate": the class's rule and refs are those of its steps
abbrev mutual
  pub Shape : (P : Pack) (words : List ℕ) {j : Tree} → Derivation P j → ℕ → Type 0
  Shape P words (leaf p ts h c) class = (s : ℕ) × StepOf P words class s × (predicate_of P s ≡ p)
  Shape P words (by r ν l fp fc ep ec ds) class =
      (s : ℕ) × StepOf P words class s × (is_a_cut P (predicate_of P s) ≡ false) × ((step_of P s).rule ≡ r)
      × Shapes P words ds (map (λ q. get_or words (first_of P q) 0) (step_of P s).refs)

  pub Shapes : (P : Pack) (words : List ℕ) {js : Trees} → Derivations P js → List ℕ → Type 0
  Shapes P words none [] = Unit {0}
  Shapes P words none (c ∷ cs) = ⊥
  Shapes P words (more d ds) [] = ⊥
  Shapes P words (more d ds) (c ∷ cs) = Shape P words d c × Shapes P words ds cs
