-- From `Global`: terms into a goal's graph and back, and what is open set to its ground value.
use Rattle.std.specs.Prelude.{true, false, List, [], ◌∷◌, map, ℕ, zero, suc, eqb}
use Rattle.std.proofs.Math.Option.{Option, none, some}
use Rattle.definition.specs.Test.{any}
use Rattle.definition.specs.Pack.{Term, Terms, var, app, nil, cons, Node, Pack, node_of}
use Rattle.definition.specs.Verdict.{Bound, value_of}
use Rattle.definition.specs.Store.{intern}
use Rattle.definition.specs.Graph.{Graph, applied, vertex, Grown, push, root, is_var, bind}
use Rattle.definition.specs.Analysis.{GrownAll, pairing, copied}

-- L is the first node of a goal's graph
abbrev pub node_of_l : ℕ
node_of_l = 0

-- ---- `lower`: a ground node with all below it, one graph node for each distinct ground node
pub record Lowered : Type 0 where
  pub graph : Graph
  pub nodes : List Bound

unfoldable pub lower_one : Pack → (List ℕ → Lowered → Lowered) → ℕ → Lowered → Lowered
unfolding value_of node_of push copied
lower_one P deeper n w =
    elim (value_of n w.nodes) [
      | some x ↦ w
      | none ↦
          let args = deeper (node_of P n).args w in
          let made = push args.graph (applied (node_of P n).head (map (copied args.nodes) (node_of P n).args)) in
          record { graph = made.graph; nodes = pairing n made.at ∷ args.nodes }
    ]

-- arguments ahead of their node, at most d deep
unfoldable pub lower : ℕ → Pack → List ℕ → Lowered → Lowered
unfolding lower_one
lower zero P [] w = w
lower zero P (n ∷ ns) w = w
lower (suc d) P [] w = w
lower (suc d) P (n ∷ ns) w = lower (suc d) P ns (lower_one P (λ ms v. lower d P ms v) n w)

-- ---- `lower_pattern`: a graph node for each place of a term; `variable` says what stands for a variable
unfoldable mutual
  unfolding push

  pub lower_term : (ℕ → Graph → Grown) → Term → Graph → Grown
  lower_term variable (var k) g = variable k g
  lower_term variable (app h ts) g = let args = lower_terms variable ts g in push args.graph (applied h args.ats)

  pub lower_terms : (ℕ → Graph → Grown) → Terms → Graph → GrownAll
  lower_terms variable nil g = record { ats = []; graph = g }
  lower_terms variable (cons t ts) g =
      let first = lower_term variable t g in
      let rest = lower_terms variable ts first.graph in
      record { ats = first.at ∷ rest.ats; graph = rest.graph }

-- ---- `raise`: a graph node as a pattern, none while a variable other than L stands in it
-- what was raised so far, by roots, and the store
pub record Reading : Type 0 where
  pub memo : List Bound
  pub store : List Node

pub record RaisedOne : Type 0 where
  pub pattern : Option ℕ
  pub reading : Reading

pub record Raised : Type 0 where
  pub patterns : Option (List ℕ)
  pub reading : Reading

abbrev pub raises_none : Reading → RaisedOne
raises_none m = record { pattern = none; reading = m }

-- a root that the memo hasn't: its arguments by `deeper`, then itself
unfoldable pub raise_root : ℕ → Graph → (List ℕ → Reading → Raised) → ℕ → Reading → RaisedOne
unfolding vertex is_var intern
raise_root eigen g deeper r m =
    elim (is_var (vertex g r)) [
      | true ↦
          elim (eqb r node_of_l) [
            | true ↦ record { pattern = some eigen; reading = record { memo = pairing r eigen ∷ m.memo; store = m.store } }
            | false ↦ raises_none m
          ]
      | false ↦
          let args = deeper (vertex g r).args m in
          elim args.patterns [
            | none ↦ raises_none args.reading
            | some ps ↦
                let made = intern args.reading.store (record { head = (vertex g r).head; args = ps }) in
                record { pattern = some made.number; reading = record { memo = pairing r made.number ∷ args.reading.memo; store = made.store } }
          ]
    ]

-- the memo is asked ahead of the depth
unfoldable pub raise_one : (ℕ → Reading → RaisedOne) → ℕ → Reading → RaisedOne
unfolding value_of
raise_one anew r m = elim (value_of r m.memo) [ some p ↦ record { pattern = some p; reading = m } | none ↦ anew r m ]

-- the first and then the rest; with the first none, the rest isn't raised
unfoldable pub raise_next : RaisedOne → (Reading → Raised) → Raised
raise_next first rest =
    elim first.pattern [
      | none ↦ record { patterns = none; reading = first.reading }
      | some p ↦ let others = rest first.reading in elim others.patterns [ none ↦ others | some ps ↦ record { patterns = some (p ∷ ps); reading = others.reading } ]
    ]

-- nodes from left to right, so many levels left
unfoldable pub raise : ℕ → ℕ → Graph → List ℕ → Reading → Raised
unfolding root raise_one raise_root raise_next
raise zero eigen g [] m = record { patterns = some []; reading = m }
raise zero eigen g (x ∷ xs) m = raise_next (raise_one (λ r k. raises_none k) (root g x) m) (λ k. raise zero eigen g xs k)
raise (suc d) eigen g [] m = record { patterns = some []; reading = m }
raise (suc d) eigen g (x ∷ xs) m = raise_next (raise_one (λ r k. raise_root eigen g (λ ys l. raise d eigen g ys l) r k) (root g x) m) (λ k. raise (suc d) eigen g xs k)

-- "`raise` yields none below 65,536": depth 0 is a level too
abbrev pub raise_levels : ℕ
raise_levels = 65537

-- ---- `settle`: free variables take the values of the ground terms beside them
pub record Settling : Type 0 where
  pub lowered : Lowered
  pub met : List ℕ

-- a root is settled once; L takes no value; "a node met with another head binds nothing below it"
unfoldable pub settle_root : Pack → (List ℕ → List ℕ → Settling → Settling) → ℕ → ℕ → Settling → Settling
unfolding any vertex is_var lower copied bind node_of
settle_root P deeper r n w =
    let g = w.lowered.graph in
    let marked : Settling = record { lowered = w.lowered; met = r ∷ w.met } in
    elim (any (eqb r) w.met) [
      | true ↦ w
      | false ↦
          elim (is_var (vertex g r)) [
            | true ↦
                elim (eqb r node_of_l) [
                  | true ↦ marked
                  | false ↦
                      let put = lower (suc n) P (n ∷ []) w.lowered in
                      record { lowered = record { graph = bind put.graph r (copied put.nodes n); nodes = put.nodes }; met = r ∷ w.met }
                ]
            | false ↦ elim (eqb (vertex g r).head (node_of P n).head) [ true ↦ deeper (vertex g r).args (node_of P n).args marked | false ↦ marked ]
          ]
    ]

-- nodes beside ground nodes, from left to right, at most d deep
unfoldable pub settle : ℕ → Pack → List ℕ → List ℕ → Settling → Settling
unfolding root settle_root
settle zero P [] ns w = w
settle zero P (x ∷ xs) ns w = w
settle (suc d) P [] ns w = w
settle (suc d) P (x ∷ xs) [] w = w
settle (suc d) P (x ∷ xs) (n ∷ ns) w = settle (suc d) P xs ns (settle_root P (λ ys ms v. settle d P ys ms v) (root w.lowered.graph x) n w)
