-- Document 01, "Class rows and patterns": the graph and unification, from `Graph`; Robinson's unification over linked terms.
use Rattle.std.specs.Prelude.{Bool, true, false, not, ◌||◌, List, [], ◌∷◌, ◌++◌, ℕ, zero, suc, ◌+◌, eqb, length, get_or, set}
use Rattle.std.proofs.Math.Option.{Option, none, some}
use Rattle.definition.specs.Test.{◌and◌, all}
use Rattle.definition.specs.Store.{nothing, variable_head}

-- a node of the graph: a variable of a sort, with its marks, or a head over arguments; joined to another node or to none
pub record Vertex : Type 0 where
  pub head : ℕ
  pub args : List ℕ
  pub link : Option ℕ
  pub sort : ℕ
  pub flex : Bool
  pub rigid : Bool

abbrev pub Graph : Type 0
Graph = List Vertex

abbrev pub variable_vertex : ℕ → Bool → Bool → Vertex
variable_vertex sort flex rigid = record { head = variable_head; args = []; link = none; sort = sort; flex = flex; rigid = rigid }

abbrev pub applied : ℕ → List ℕ → Vertex
applied head args = record { head = head; args = args; link = none; sort = nothing; flex = false; rigid = false }

unfoldable pub vertex : Graph → ℕ → Vertex
vertex g x = get_or g x (applied 0 [])

-- a node's number, and the graph that has it
pub record Grown : Type 0 where
  pub at : ℕ
  pub graph : Graph

-- one node more
unfoldable pub push : Graph → Vertex → Grown
push g v = record { at = length g; graph = g ++ (v ∷ []) }

-- "one graph's nodes plus argument cells"
unfoldable pub cells : Graph → ℕ
cells [] = 0
cells (v ∷ vs) = suc (length v.args) + cells vs

-- the node that a chain of at most k links ends in
unfoldable pub follow : ℕ → Graph → ℕ → ℕ
unfolding vertex
follow zero g x = x
follow (suc k) g x = elim (vertex g x).link [ none ↦ x | some y ↦ follow k g y ]

-- "equal roots": what a node was joined to in the end
unfoldable pub root : Graph → ℕ → ℕ
unfolding follow
root g x = follow (length g) g x

unfoldable pub is_var : Vertex → Bool
is_var v = eqb v.head variable_head

-- a variable that may be bound: not a rigid one
unfoldable pub is_free : Vertex → Bool
unfolding is_var ◌and◌
is_free v = is_var v and not v.rigid

abbrev pub link_to : Vertex → ℕ → Vertex
link_to v y = record { head = v.head; args = v.args; link = some y; sort = v.sort; flex = v.flex; rigid = v.rigid }

abbrev pub with_flex : Vertex → Bool → Vertex
with_flex v f = record { head = v.head; args = v.args; link = v.link; sort = v.sort; flex = f; rigid = v.rigid }

-- x is joined to y
unfoldable pub join : Graph → ℕ → ℕ → Graph
unfolding vertex
join g x y = set g x (link_to (vertex g x) y)

-- a variable is bound to y; "a flexible variable makes its class flexible"
unfoldable pub bind : Graph → ℕ → ℕ → Graph
unfolding join is_var vertex
bind g x y =
    elim (is_var (vertex g y)) [
      | true ↦ join (set g y (with_flex (vertex g y) ((vertex g y).flex || (vertex g x).flex))) x y
      | false ↦ join g x y
    ]

-- two nodes to be made equal
pub record Pair : Type 0 where
  pub left : ℕ
  pub right : ℕ

-- arguments side by side, "the last arguments are taken first"
unfoldable pub last_first : List ℕ → List ℕ → List Pair → List Pair
last_first [] ys work = work
last_first (x ∷ xs) [] work = work
last_first (x ∷ xs) (y ∷ ys) work = last_first xs ys (record { left = x; right = y } ∷ work)

-- a graph and the pairs still to be taken, or a clash
pub data Turn : Type 0 where
  on : Graph → List Pair → Turn
  clashed : Turn

-- two roots: equal ones succeed; "a free left side binds first"; equal heads are joined before their arguments;
-- "Rigid against another rigid variable, or against an application, clashes"
unfoldable pub meet : Graph → ℕ → ℕ → List Pair → Turn
unfolding is_free is_var vertex bind join last_first
meet g x y work =
    elim (eqb x y) [
      | true ↦ on g work
      | false ↦
          elim (is_free (vertex g x)) [
            | true ↦ on (bind g x y) work
            | false ↦
                elim (is_free (vertex g y)) [
                  | true ↦ on (bind g y x) work
                  | false ↦
                      elim (is_var (vertex g x) || is_var (vertex g y)) [
                        | true ↦ clashed
                        | false ↦
                            elim (eqb (vertex g x).head (vertex g y).head) [ true ↦ on (join g x y) (last_first (vertex g x).args (vertex g y).args work) | false ↦ clashed ]
                      ]
                ]
          ]
    ]

-- what unification comes to: the graph, or none after a clash; and the number of pairs taken
pub record Unified : Type 0 where
  pub graph : Option Graph
  pub taken : ℕ

-- pairs are taken from the worklist's top, at most k
unfoldable pub take_pairs : ℕ → Graph → List Pair → ℕ → Unified
unfolding meet root
take_pairs zero g [] n = record { graph = some g; taken = n }
take_pairs zero g (p ∷ work) n = record { graph = none; taken = n }
take_pairs (suc k) g [] n = record { graph = some g; taken = n }
take_pairs (suc k) g (p ∷ work) n = elim (meet g (root g p.left) (root g p.right) work) [ clashed ↦ record { graph = none; taken = suc n } | on h more ↦ take_pairs k h more (suc n) ]

-- one unification takes no more pairs than its first and the argument cells of the graph
unfoldable pub unify : Graph → ℕ → ℕ → Unified
unfolding take_pairs cells
unify g x y = take_pairs (suc (cells g)) g (record { left = x; right = y } ∷ []) 0

-- a term that ends within k levels
unfoldable pub ends : ℕ → Graph → ℕ → Bool
unfolding is_var vertex root all
ends zero g x = false
ends (suc k) g x = elim (is_var (vertex g (root g x))) [ true ↦ true | false ↦ all (λ y. ends k g y) (vertex g (root g x)).args ]

-- the numbers below n
unfoldable pub up_to : ℕ → List ℕ
up_to zero = []
up_to (suc n) = up_to n ++ (n ∷ [])

-- "A circle": a term that does not end within as many levels as there are nodes
unfoldable pub circular : Graph → Bool
unfolding ends up_to
circular g = not (all (λ x. ends (suc (length g)) g x) (up_to (length g)))
