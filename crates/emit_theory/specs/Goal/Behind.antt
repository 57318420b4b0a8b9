-- Nodes put behind a graph's own, joined to none: applications stay joined to nodes of their own head only.
use Rattle.std.specs.Prelude.{◌≡◌, refl, Bool, true, false, List, [], ◌∷◌, ◌++◌, map, ℕ, zero, suc, ◌<◌, length}
use Rattle.std.proofs.Common.{sym, ap, ◌∙◌, append_assoc, append-nil, arith}
use Rattle.std.proofs.Math.Option.{none, some}
use Rattle.std.proofs.Math.ListN.{get_or-append}
use Rattle.definition.specs.Test.{is, see, never}
use Rattle.definition.specs.Pack.{Term, Terms, var, app, nil, cons, Pack, node_of, sort_of}
use Rattle.definition.specs.Verdict.{Bound, value_of}
use Rattle.definition.specs.Graph.{Vertex, Graph, variable_vertex, applied, vertex, Grown, push, is_var}
use Rattle.definition.specs.Analysis.{copied, instantiate, instantiate_all}
use Rattle.emission.specs.Global.{Lowered, lower_one, lower, lower_term, lower_terms}
use Rattle.emission.specs.Lay.{open_variable}
use Rattle.theory.specs.Copies.Variables.{variables_of}
use Rattle.emit_theory.specs.Graphs.{SortedGraph}
use Rattle.emit_theory.specs.Goal.Heads.{Headed}

-- nodes that are joined to none
abbrev Alone : List Vertex → Type 0
Alone [] = Unit {0}
Alone (v ∷ vs) = (v.link ≡ none) × Alone vs

-- h is g with such nodes behind it
pub data Behind (g h : Graph) : Type 0 where
  with : (vs : List Vertex) → h ≡ g ++ vs → Alone vs → Behind g h

-- nothing behind it
pub behind_refl : (g : Graph) → Behind g g
behind_refl g = with [] (sym (append-nil g)) tt

both_alone : (vs ws : List Vertex) → Alone vs → Alone ws → Alone (vs ++ ws)
both_alone [] ws a b = b
both_alone (v ∷ vs) ws a b = (a.0, both_alone vs ws a.1 b)

-- more behind what is behind
pub behind_trans : (f g h : Graph) → Behind f g → Behind g h → Behind f h
behind_trans f g h (with vs p a) (with ws q b) = with (vs ++ ws) (q ∙ ap (λ l. l ++ ws) p ∙ append_assoc f vs ws) (both_alone vs ws a b)

behind-push : (g : Graph) (v : Vertex) → v.link ≡ none → Behind g (push g v).graph
unfolding push
behind-push g v e = with (v ∷ []) refl (e, tt)

-- ---- links are those that were
no_link : (vs : List Vertex) → Alone vs → (x y : ℕ) → (vertex vs x).link ≡ some y → ⊥
unfolding vertex
no_link [] a x y e = never (cc)
no_link (v ∷ vs) a zero y e = let z = a.0 in never (cc)
no_link (v ∷ vs) a (suc x) y e = no_link vs a.1 x y e

old-link : (g vs : List Vertex) → Alone vs → (x y : ℕ) → (vertex (g ++ vs) x).link ≡ some y → (x < length g) × ((vertex g x).link ≡ some y)
unfolding vertex
old-link [] vs a x y e = absurd (no_link vs a x y e)
old-link (v ∷ g) vs a zero y e = (omega arith, e)
old-link (v ∷ g) vs a (suc x) y e = let r = old-link g vs a x y e in (omega (arith, r.0), r.1)

kept-node : (g vs : List Vertex) (x : ℕ) → x < length g → vertex (g ++ vs) x ≡ vertex g x
unfolding vertex
kept-node g vs x l = get_or-append g vs (applied 0 []) x l

-- so applications are joined as before
pub behind-headed : (P : Pack) (g h : Graph) → SortedGraph P g → Headed g → Behind g h → Headed h
behind-headed P g h S H (with vs e a) = rw e headed
  where
    headed : Headed (g ++ vs)
    headed x y l n =
        let r = old-link g vs a x y l in
        let k = (S x r.0).linked y r.1 in
        let p = kept-node g vs x r.0 in
        ap (λ (v : Vertex). v.head) (kept-node g vs y k.0) ∙ H x y r.1 (ap is_var (sym p) ∙ n) ∙ ap (λ (v : Vertex). v.head) (sym p)

-- ---- what puts nodes there
alone_variables : (sorts : List ℕ) → Alone (variables_of sorts)
alone_variables [] = tt
alone_variables (so ∷ sorts) = (refl, alone_variables sorts)

-- variables of these sorts
pub behind_variables : (g : Graph) (sorts : List ℕ) → Behind g (g ++ variables_of sorts)
behind_variables g sorts = with (variables_of sorts) refl (alone_variables sorts)

-- a rule's term, and terms
mutual
  unfolding instantiate

  pub behind_instance : (t : Term) (env : List ℕ) (g : Graph) → Behind g (instantiate t env g).graph
  behind_instance (var k) env g = behind_refl g
  behind_instance (app h ts) env g =
      let rs = instantiate_all ts env g in
      behind_trans g rs.graph (push rs.graph (applied h rs.ats)).graph (behind_instances ts env g) (behind-push rs.graph (applied h rs.ats) refl)

  behind_instances : (ts : Terms) (env : List ℕ) (g : Graph) → Behind g (instantiate_all ts env g).graph
  behind_instances nil env g = behind_refl g
  behind_instances (cons t ts) env g =
      let rs = instantiate_all ts env g in
      behind_trans g rs.graph (instantiate t env rs.graph).graph (behind_instances ts env g) (behind_instance t env rs.graph)

-- a term, by what stands for its variables, and terms
module _ (variable : ℕ → Graph → Grown) (puts : (k : ℕ) (g : Graph) → Behind g (variable k g).graph) where
  mutual
    unfolding lower_term

    pub behind_term : (t : Term) (g : Graph) → Behind g (lower_term variable t g).graph
    behind_term (var k) g = puts k g
    behind_term (app h ts) g =
        let rs = lower_terms variable ts g in
        behind_trans g rs.graph (push rs.graph (applied h rs.ats)).graph (behind_terms ts g) (behind-push rs.graph (applied h rs.ats) refl)

    behind_terms : (ts : Terms) (g : Graph) → Behind g (lower_terms variable ts g).graph
    behind_terms nil g = behind_refl g
    behind_terms (cons t ts) g =
        let r = lower_term variable t g in
        behind_trans g r.graph (lower_terms variable ts r.graph).graph (behind_term t g) (behind_terms ts r.graph)

-- L or a new variable for a class's variable
pub behind_open : (P : Pack) (chosen : ℕ → Bool) (values : List Bound) (k : ℕ) (g : Graph) → Behind g (open_variable P chosen values k g).graph
unfolding open_variable
behind_open P chosen values k g = elim (see (chosen k)) [
  | is true e ↦ rw (e, open_variable) (behind_refl g)
  | is false e ↦ rw (e, open_variable) (behind-push g (variable_vertex (sort_of P (copied values k)) false false) refl)
]

-- ground nodes
pub behind-lower : (d : ℕ) (P : Pack) (ns : List ℕ) (w : Lowered) → Behind w.graph (lower d P ns w).graph
unfolding lower lower_one
behind-lower zero P [] w = behind_refl w.graph
behind-lower zero P (n ∷ ns) w = behind_refl w.graph
behind-lower (suc d) P [] w = behind_refl w.graph
behind-lower (suc d) P (n ∷ ns) w =
    let one = lower_one P (λ ms v. lower d P ms v) n w in
    behind_trans w.graph one.graph (lower (suc d) P ns one).graph (first (behind-lower d P (node_of P n).args w)) (behind-lower (suc d) P ns one)
  where
    first : Behind w.graph (lower d P (node_of P n).args w).graph → Behind w.graph (lower_one P (λ ms v. lower d P ms v) n w).graph
    first B = elim (see (value_of n w.nodes)) [
      | is (some x) e ↦ rw (e, lower_one) (behind_refl w.graph)
      | is none e ↦
          let v = lower d P (node_of P n).args w in
          let a = applied (node_of P n).head (map (copied v.nodes) (node_of P n).args) in
          rw (e, lower_one) (behind_trans w.graph v.graph (push v.graph a).graph B (behind-push v.graph a refl))
    ]
