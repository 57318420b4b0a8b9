-- The nodes of a graph have few arguments: at most 16, as the symbols of a pack have inputs. What class building does keeps it so.
use Rattle.std.specs.Prelude.{◌≡◌, refl, Bool, true, false, List, [], ◌∷◌, ◌++◌, map, ℕ, zero, suc, ◌≤◌, length, get_or}
use Rattle.std.proofs.Common.{ap, arith}
use Rattle.std.proofs.Math.Option.{some}
use Rattle.std.proofs.Math.Decide.{dec_lt}
use Rattle.std.proofs.lemmas.List.{length-map}
use Rattle.definition.specs.Test.{is, see}
use Rattle.definition.specs.Pack.{Node, no_node, Pack, Term, Terms, var, app, nil, cons, symbol_of}
use Rattle.definition.specs.Good.{Good, Sorted, SortedAll}
use Rattle.definition.specs.Store.{is_variable}
use Rattle.definition.specs.Graph.{Vertex, Graph, variable_vertex, applied, vertex, push, unify}
use Rattle.definition.specs.Analysis.{Copy, copied, copy_node, copy_all, copy, parts, instantiate, instantiate_all}
use Rattle.theory.specs.Unification.Solve.{SameNodes}
use Rattle.theory.specs.Copies.Terms.{Patterns}
use Rattle.theory.specs.Making.Unified.{unify-same}

-- at most 16 each
abbrev pub FewArgs : Graph → Type 0
FewArgs g = (x : ℕ) → length (vertex g x).args ≤ 16

-- a node more
few_at : (g : Graph) (v : Vertex) → FewArgs g → length v.args ≤ 16 → (x : ℕ) → length (vertex (g ++ (v ∷ [])) x).args ≤ 16
unfolding vertex
few_at [] v h l zero = l
few_at [] v h l (suc x) = omega arith
few_at (w ∷ g) v h l zero = h 0
few_at (w ∷ g) v h l (suc x) = few_at g v (λ y. h (suc y)) l x

pub few_more : (g : Graph) (v : Vertex) → FewArgs g → length v.args ≤ 16 → FewArgs (g ++ (v ∷ []))
few_more g v h l = few_at g v h l

pub few_push : (g : Graph) (v : Vertex) → FewArgs g → length v.args ≤ 16 → FewArgs (push g v).graph
unfolding push
few_push g v h l = few_at g v h l

-- the same nodes
pub few_same : (g h : Graph) → SameNodes g h → FewArgs g → FewArgs h
few_same g h S f x = let k = f x in let e = ap length (S.args x) in omega arith

-- ---- variables
-- one of each of these sorts
abbrev variables_of : List ℕ → Graph
variables_of vars = map (λ so. variable_vertex so false false) vars

few_variable : (vars : List ℕ) (x : ℕ) → length (vertex (variables_of vars) x).args ≤ 16
unfolding vertex
few_variable [] x = omega arith
few_variable (so ∷ vars) zero = omega arith
few_variable (so ∷ vars) (suc x) = few_variable vars x

pub few_variables : (vars : List ℕ) → FewArgs (map (λ so. variable_vertex so false false) vars)
few_variables vars = few_variable vars

-- ---- a copy
-- past the end of a store there is a node without arguments
past_end : (s : List Node) (p : ℕ) → length s ≤ p → get_or s p no_node ≡ no_node
past_end [] p h = refl
past_end (n ∷ s) zero h = absurd (omega arith)
past_end (n ∷ s) (suc p) h = past_end s p (omega arith)

-- so that every pattern node that is no variable has few
pub few_pattern : (s : List Node) → Patterns s → (p : ℕ) → is_variable (get_or s p no_node) ≡ false → length (get_or s p no_node).args ≤ 16
few_pattern s S p e = elim (dec_lt p (length s)) [
  | yes l ↦ S.few p l e
  | no l ↦ let q : length (get_or s p no_node).args ≡ 0 = ap (λ (n : Node). length n.args) (past_end s p (omega (arith, l))) in omega arith
]

few_node : (s : List Node) → Patterns s → (flex : List Bool) (c : Copy) (p : ℕ) → FewArgs c.graph → FewArgs (copy_node s flex c p).graph
unfolding copy_node
few_node s S flex c p h =
    let n = get_or s p no_node in
    elim (see (is_variable n)) [
      | is true e ↦ rw (e, copy_node) (few_push c.graph (variable_vertex (get_or n.args 1 0) (get_or flex (get_or n.args 0 0) false) false) h (omega arith))
      | is false e ↦
          let l : length (map (copied c.nodes) n.args) ≤ 16 = omega (arith, length-map n.args (copied c.nodes), few_pattern s S p e) in
          rw (e, copy_node) (few_push c.graph (applied n.head (map (copied c.nodes) n.args)) h l)
    ]

few_all : (s : List Node) → Patterns s → (flex : List Bool) (c : Copy) (ps : List ℕ) → FewArgs c.graph → FewArgs (copy_all s flex c ps).graph
unfolding copy_all
few_all s S flex c [] h = h
few_all s S flex c (p ∷ ps) h = few_all s S flex (copy_node s flex c p) ps (few_node s S flex c p h)

pub few_copy : (s : List Node) → Patterns s → (flex : List Bool) (g : Graph) (p : ℕ) → FewArgs g → FewArgs (copy s flex g p).graph
unfolding copy
few_copy s S flex g p h = few_all s S flex (record { graph = g; nodes = []; variables = [] }) (parts s p) h

-- ---- a rule's term
-- as many nodes as sorts
pub ats_length : (P : Pack) (vars env : List ℕ) (ts : Terms) (ss : List ℕ) (g : Graph) → SortedAll P vars ts ss → length (instantiate_all ts env g).ats ≡ length ss
unfolding instantiate_all
ats_length P vars env nil [] g w = refl
ats_length P vars env nil (s ∷ ss) g w = absurd w
ats_length P vars env (cons t ts) [] g w = absurd w
ats_length P vars env (cons t ts) (s ∷ ss) g w = ap suc (ats_length P vars env ts ss g w.1)

mutual
  unfolding instantiate push

  pub few_instance : (P : Pack) → Good P → (vars env : List ℕ) (t : Term) (s : ℕ) (g : Graph) → Sorted P vars t s → FewArgs g → FewArgs (instantiate t env g).graph
  few_instance P G vars env (var k) s g w h = h
  few_instance P G vars env (app f ts) s g w h =
      let r = instantiate_all ts env g in
      let l : length r.ats ≤ 16 = omega (arith, ats_length P vars env ts (symbol_of P f).inputs g w.2, (G.symbols f w.0).arity) in
      few_more r.graph (applied f r.ats) (few_instances P G vars env ts (symbol_of P f).inputs g w.2 h) l

  pub few_instances : (P : Pack) → Good P → (vars env : List ℕ) (ts : Terms) (ss : List ℕ) (g : Graph) → SortedAll P vars ts ss → FewArgs g → FewArgs (instantiate_all ts env g).graph
  few_instances P G vars env nil [] g w h = h
  few_instances P G vars env nil (s ∷ ss) g w h = absurd w
  few_instances P G vars env (cons t ts) [] g w h = absurd w
  few_instances P G vars env (cons t ts) (s ∷ ss) g w h = few_instance P G vars env t s (instantiate_all ts env g).graph w.0 (few_instances P G vars env ts ss g w.1 h)

-- ---- unification
pub few_unify : (g : Graph) (x y : ℕ) (h : Graph) → (unify g x y).graph ≡ some h → FewArgs g → FewArgs h
few_unify g x y h e f = few_same g h (unify-same g x y h e) f
