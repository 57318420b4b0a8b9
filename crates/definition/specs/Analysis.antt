-- Document 01, "Class rows and patterns": patterns into the graph and back, from `copy`, `instantiate`, `resolve`, `fix`, `lift`.
use Rattle.std.specs.Prelude.{Bool, true, false, ◌||◌, List, [], ◌∷◌, ◌++◌, map, ℕ, zero, suc, eqb, length, get_or}
use Rattle.std.proofs.Math.Option.{Option, none, some}
use Rattle.definition.specs.Test.{any}
use Rattle.definition.specs.Pack.{Term, Terms, var, app, nil, cons, Node, no_node, Pack, node_of}
use Rattle.definition.specs.Tree.{Tree, Trees, tree, no_trees, tree_then, tree_of}
use Rattle.definition.specs.Verdict.{Bound, value_of, provided, onwards}
use Rattle.definition.specs.Store.{variable_node, is_variable, below, Stored, intern}
use Rattle.definition.specs.Graph.{Graph, variable_vertex, applied, vertex, Grown, push, root, is_var}

-- the numbers met from these on, at most d deep: behind those seen, each once and behind what is below it
unfoldable pub parts_from : ℕ → List Node → List ℕ → List ℕ → List ℕ
unfolding any below
parts_from zero s [] seen = seen
parts_from zero s (p ∷ ps) seen = seen
parts_from (suc d) s [] seen = seen
parts_from (suc d) s (p ∷ ps) seen = parts_from (suc d) s ps (elim (any (eqb p) seen) [ true ↦ seen | false ↦ parts_from d s (below (get_or s p no_node)) seen ++ (p ∷ []) ])

-- the distinct nodes of a pattern, as `copy` meets them: each behind what is below it
unfoldable pub parts : List Node → ℕ → List ℕ
unfolding parts_from
parts s p = parts_from (suc p) s (p ∷ []) []

-- a pattern node's copy, and a class variable's: what a number was copied to
unfoldable pub copied : List Bound → ℕ → ℕ
unfolding value_of
copied bs p = elim (value_of p bs) [ none ↦ 0 | some x ↦ x ]

-- a graph with the copies made so far: of pattern nodes, and of variables by their number
pub record Copy : Type 0 where
  pub graph : Graph
  pub nodes : List Bound
  pub variables : List Bound

abbrev pub pairing : ℕ → ℕ → Bound
pairing k x = record { variable = k; value = x }

-- one node's copy: a fresh variable with its class's mark, or an application over copies
unfoldable pub copy_node : List Node → List Bool → Copy → ℕ → Copy
unfolding is_variable push copied
copy_node s flex c p =
    let n = get_or s p no_node in
    let k = get_or n.args 0 0 in
    elim (is_variable n) [
      | true ↦
          let made = push c.graph (variable_vertex (get_or n.args 1 0) (get_or flex k false) false) in
          record { graph = made.graph; nodes = pairing p made.at ∷ c.nodes; variables = pairing k made.at ∷ c.variables }
      | false ↦
          let made = push c.graph (applied n.head (map (copied c.nodes) n.args)) in
          record { graph = made.graph; nodes = pairing p made.at ∷ c.nodes; variables = c.variables }
    ]

unfoldable pub copy_all : List Node → List Bool → Copy → List ℕ → Copy
unfolding copy_node
copy_all s flex c [] = c
copy_all s flex c (p ∷ ps) = copy_all s flex (copy_node s flex c p) ps

-- "a fresh copy": a node for each distinct node of the pattern, with variables of its own
unfoldable pub copy : List Node → List Bool → Graph → ℕ → Copy
unfolding copy_all parts
copy s flex g p = copy_all s flex (record { graph = g; nodes = []; variables = [] }) (parts s p)

-- nodes' numbers, and the graph that has them
pub record GrownAll : Type 0 where
  pub ats : List ℕ
  pub graph : Graph

-- a rule's term in the graph: a node for each application written, none for its variables; the last argument first
unfoldable mutual
  unfolding push

  pub instantiate : Term → List ℕ → Graph → Grown
  instantiate (var k) env g = record { at = get_or env k 0; graph = g }
  instantiate (app h ts) env g = let below = instantiate_all ts env g in push below.graph (applied h below.ats)

  pub instantiate_all : Terms → List ℕ → Graph → GrownAll
  instantiate_all nil env g = record { ats = []; graph = g }
  instantiate_all (cons t ts) env g =
      let rest = instantiate_all ts env g in
      let first = instantiate t env rest.graph in
      record { ats = first.at ∷ rest.ats; graph = first.graph }

-- patterns' numbers, and the store that has them
pub record StoredAll : Type 0 where
  pub numbers : List ℕ
  pub store : List Node

-- a ground term as a pattern, arguments first
unfoldable mutual
  unfolding intern

  pub lift : Tree → List Node → Stored
  lift (tree h ts) s = let below = lift_all ts s in intern below.store (record { head = h; args = below.numbers })

  pub lift_all : Trees → List Node → StoredAll
  lift_all no_trees s = record { numbers = []; store = s }
  lift_all (tree_then t ts) s =
      let first = lift t s in
      let rest = lift_all ts first.store in
      record { numbers = first.number ∷ rest.numbers; store = rest.store }

-- the ground value of a root: the same wherever it is met; what is below an application gets its values by `deeper`
unfoldable pub value_at : Pack → Graph → (List ℕ → List ℕ → List Bound → Option (List Bound)) → ℕ → ℕ → List Bound → Option (List Bound)
unfolding node_of vertex is_var value_of provided
value_at P g deeper r n vs =
    elim (value_of r vs) [
      | some m ↦ provided (eqb m n) (some vs)
      | none ↦
          elim (is_var (vertex g r)) [
            | true ↦ some (pairing r n ∷ vs)
            | false ↦ provided (eqb (vertex g r).head (node_of P n).head) (deeper (vertex g r).args (node_of P n).args (pairing r n ∷ vs))
          ]
    ]

-- the ground values of nodes, by their roots, at most d deep: none where the ground nodes beside them are no instance
unfoldable pub valued : ℕ → Pack → Graph → List ℕ → List ℕ → List Bound → Option (List Bound)
unfolding root value_at onwards
valued zero P g [] [] vs = some vs
valued zero P g [] (n ∷ ns) vs = none
valued zero P g (x ∷ xs) [] vs = none
valued zero P g (x ∷ xs) (n ∷ ns) vs = none
valued (suc d) P g [] [] vs = some vs
valued (suc d) P g [] (n ∷ ns) vs = none
valued (suc d) P g (x ∷ xs) [] vs = none
valued (suc d) P g (x ∷ xs) (n ∷ ns) vs = onwards (value_at P g (λ ys ms ws. valued d P g ys ms ws) (root g x) n vs) (λ ws. valued (suc d) P g xs ns ws)

-- the graph's variables in the order of their numbers, and the store
pub record Numbered : Type 0 where
  pub numbering : List ℕ
  pub store : List Node

-- a pattern read back, or several, and what numbers and store have become
pub record ResolvedOne : Type 0 where
  pub pattern : ℕ
  pub state : Numbered

pub record Resolved : Type 0 where
  pub patterns : List ℕ
  pub state : Numbered

-- the place of a variable among the numbered ones, counted on from i
unfoldable pub number_of : ℕ → List ℕ → ℕ → Option ℕ
number_of x [] i = none
number_of x (y ∷ ys) i = elim (eqb y x) [ true ↦ some i | false ↦ number_of x ys (suc i) ]

-- how a variable is read back: by its number; by the next number, if all are numbered or it is flexible; else by its ground value
unfoldable pub resolve_variable : Pack → Graph → List Bound → Bool → ℕ → Numbered → ResolvedOne
unfolding number_of intern lift tree_of vertex copied
resolve_variable P g values everyone r st =
    elim (number_of r st.numbering 0) [
      | some k ↦ let p = intern st.store (variable_node k (vertex g r).sort) in record { pattern = p.number; state = record { numbering = st.numbering; store = p.store } }
      | none ↦
          elim (everyone || (vertex g r).flex) [
            | true ↦
                let p = intern st.store (variable_node (length st.numbering) (vertex g r).sort) in
                record { pattern = p.number; state = record { numbering = st.numbering ++ (r ∷ []); store = p.store } }
            | false ↦ let p = lift (tree_of P (copied values r)) st.store in record { pattern = p.number; state = record { numbering = st.numbering; store = p.store } }
          ]
    ]

-- how a root is read back: arguments first, by `deeper`
unfoldable pub resolve_at : Pack → Graph → List Bound → Bool → (List ℕ → Numbered → Resolved) → ℕ → Numbered → ResolvedOne
unfolding resolve_variable vertex is_var intern
resolve_at P g values everyone deeper r st =
    elim (is_var (vertex g r)) [
      | true ↦ resolve_variable P g values everyone r st
      | false ↦
          let args = deeper (vertex g r).args st in
          let p = intern args.state.store (record { head = (vertex g r).head; args = args.patterns }) in
          record { pattern = p.number; state = record { numbering = args.state.numbering; store = p.store } }
    ]

-- "Variables are numbered as `resolve` meets them": terms read back from left to right, at most d deep
unfoldable pub resolve : ℕ → Pack → Graph → List Bound → Bool → List ℕ → Numbered → Resolved
unfolding resolve_at root
resolve zero P g values everyone [] st = record { patterns = []; state = st }
resolve zero P g values everyone (x ∷ xs) st = record { patterns = []; state = st }
resolve (suc d) P g values everyone [] st = record { patterns = []; state = st }
resolve (suc d) P g values everyone (x ∷ xs) st =
    let first = resolve_at P g values everyone (λ ys s. resolve d P g values everyone ys s) (root g x) st in
    let rest = resolve (suc d) P g values everyone xs first.state in
    record { patterns = first.pattern ∷ rest.patterns; state = rest.state }
