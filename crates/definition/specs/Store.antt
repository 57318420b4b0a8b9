-- Document 01, "Class rows and patterns": the interned store of patterns, from `Store::intern`.
use Rattle.std.specs.Prelude.{Bool, true, false, List, [], ◌∷◌, ◌++◌, ℕ, zero, suc, eqb, length, get_or, take, drop}
use Rattle.std.proofs.Math.Option.{Option, none, some}
use Rattle.definition.specs.Pack.{Term, Terms, var, app, nil, cons, Node}
use Rattle.definition.specs.Certificate.{same_node}

-- "2^32−1 if unneeded"
abbrev pub nothing : ℕ
nothing = 4294967295

-- "a variable is … head 2^32−2, number, sort"
abbrev pub variable_head : ℕ
variable_head = 4294967294

abbrev pub variable_node : ℕ → ℕ → Node
variable_node number sort = record { head = variable_head; args = number ∷ sort ∷ [] }

unfoldable pub is_variable : Node → Bool
is_variable n = eqb n.head variable_head

-- the pattern nodes below a node
unfoldable pub below : Node → List ℕ
unfolding is_variable
below n = elim (is_variable n) [ true ↦ [] | false ↦ n.args ]

-- the place of the first equal node, counted on from i
unfoldable pub place_of : Node → List Node → ℕ → Option ℕ
unfolding same_node
place_of n [] i = none
place_of n (m ∷ ms) i = elim (same_node n m) [ true ↦ some i | false ↦ place_of n ms (suc i) ]

-- a pattern's number, and the store that has it
pub record Stored : Type 0 where
  pub number : ℕ
  pub store : List Node

-- a node is given the place of the first equal one, else it is put behind the others
unfoldable pub intern : List Node → Node → Stored
unfolding place_of
intern s n = elim (place_of n s 0) [ some i ↦ record { number = i; store = s } | none ↦ record { number = length s; store = s ++ (n ∷ []) } ]

-- "per node a count, then head and arguments"
unfoldable pub pattern_words : List Node → List ℕ
pattern_words [] = []
pattern_words (n ∷ ns) = (length n.args ∷ n.head ∷ n.args) ++ pattern_words ns

-- the words read back: k nodes at most. Zeros behind the last are nodes without arguments, which none names
unfoldable pub nodes_in : ℕ → List ℕ → List Node
nodes_in zero ws = []
nodes_in (suc k) [] = []
nodes_in (suc k) (n ∷ []) = []
nodes_in (suc k) (n ∷ h ∷ ws) = record { head = h; args = take n ws } ∷ nodes_in k (drop n ws)

-- the terms of these numbers
unfoldable pub pick_terms : List Term → List ℕ → Terms
pick_terms ts [] = nil
pick_terms ts (a ∷ args) = cons (get_or ts a (var 0)) (pick_terms ts args)

-- a node over terms before it; a variable by its number
unfoldable pub term_over : List Term → Node → Term
unfolding is_variable pick_terms
term_over ts n = elim (is_variable n) [ true ↦ var (get_or n.args 0 0) | false ↦ app n.head (pick_terms ts n.args) ]

-- the terms of nodes in their order, each over terms before it
unfoldable pub grow_terms : List Term → List Node → List Term
unfolding term_over
grow_terms ts [] = ts
grow_terms ts (n ∷ ns) = grow_terms (ts ++ (term_over ts n ∷ [])) ns

-- what a number of a store stands for
unfoldable pub term_of : List Node → ℕ → Term
unfolding grow_terms
term_of s p = get_or (grow_terms [] s) p (var 0)
