-- A rule's variables as a graph: any assignment solves it.
use Rattle.std.specs.Prelude.{◌≡◌, refl, true, false, List, [], ◌∷◌, ◌++◌, map, ℕ, zero, suc, ◌<◌, eqb, length, get_or}
use Rattle.std.proofs.Common.{sym, ap, ◌∙◌, arith, eqb-true, eq-eqb}
use Rattle.std.proofs.Math.Option.{none, some}
use Rattle.std.proofs.lemmas.List.{length-map, get_or_at}
use Rattle.std.proofs.Math.ListN.{get_or-append}
use Rattle.definition.specs.Test.{is, see, never, tests}
use Rattle.definition.specs.Pack.{Pack}
use Rattle.definition.specs.Tree.{Tree}
use Rattle.definition.specs.Good.{Below}
use Rattle.definition.proofs.Laws.Grow.{below_more}
use Rattle.definition.specs.Store.{variable_head}
use Rattle.definition.specs.Graph.{Vertex, Graph, variable_vertex, vertex, is_var, up_to}
use Rattle.theory.specs.Unification.Solve.{Solves, sort_at, Formed}
use Rattle.theory.specs.Unification.Forest.{root_self}
use Rattle.theory.specs.Copies.Instantiate.{Environment}
use Rattle.theory.specs.Unification.Circle.{length_up_to}

-- a variable for each sort
abbrev pub variables_of : List ℕ → Graph
variables_of vars = map (λ so. variable_vertex so false false) vars

pub vertex_of : (vars : List ℕ) (k : ℕ) → k < length vars → vertex (variables_of vars) k ≡ variable_vertex (get_or vars k 0) false false
unfolding vertex
vertex_of [] k h = absurd (omega arith)
vertex_of (v ∷ vars) zero h = refl
vertex_of (v ∷ vars) (suc k) h = vertex_of vars k (omega arith)

pub length_of : (vars : List ℕ) → length (variables_of vars) ≡ length vars
length_of vars = length-map vars (λ so. variable_vertex so false false)

is_var_law : (so : ℕ) → is_var (variable_vertex so false false) ≡ true
unfolding is_var
is_var_law so = eq-eqb variable_head variable_head refl

pub variables_formed : (P : Pack) (vars : List ℕ) → Formed P (variables_of vars)
variables_formed P vars x h =
    let l = length_of vars in
    let e = vertex_of vars x (omega arith) in
    let v : is_var (vertex (variables_of vars) x) ≡ true = rw e (is_var_law (get_or vars x 0)) in
    let n : (vertex (variables_of vars) x).link ≡ none = ap (λ (w : Vertex). w.link) e in
    let r = root_self (variables_of vars) x n in
    record {
      soft = ap (λ (w : Vertex). w.rigid) e;
      head = λ f. never (let z : true ≡ false = sym v ∙ f in cc);
      below = rw e tt;
      sorts = λ f. never (let z : true ≡ false = sym v ∙ f in cc);
      bare = λ f. ap (λ (w : Vertex). w.args) e;
      linked = λ y q. never (let z : none ≡ some y = sym n ∙ q in cc);
      rooted = rw r n;
      within = rw r h;
    }

pub variables_solved : (vars : List ℕ) (θ : ℕ → Tree) → Solves θ (variables_of vars)
variables_solved vars θ = record {
  links = λ x y h q. never (let l = length_of vars in let z : none ≡ some y = sym (ap (λ (w : Vertex). w.link) (vertex_of vars x (omega arith))) ∙ q in cc);
  apps = λ x h n f. never (let l = length_of vars in let z : true ≡ false = sym (is_var_law (get_or vars x 0)) ∙ ap is_var (sym (vertex_of vars x (omega arith))) ∙ f in cc);
}

-- the first n numbers, each at its place
pub up_to_at : (n k : ℕ) → k < n → get_or (up_to n) k 0 ≡ k
unfolding up_to
up_to_at zero k h = absurd (omega arith)
up_to_at (suc n) k h =
    let l = length_up_to n in
    elim (see (eqb k n)) [
      | is true p ↦ let e = eqb-true k n p in rw e (get_or_at (up_to n) n [] 0 n l)
      | is false p ↦ let o : k < n = omega tests in get_or-append (up_to n) (n ∷ []) 0 k (omega arith) ∙ up_to_at n k o
    ]

pub up_to_below : (n : ℕ) → Below n (up_to n)
unfolding up_to
up_to_below zero = tt
up_to_below (suc n) = both (up_to n) (below_more n (suc n) (up_to n) (omega arith) (up_to_below n)) where
  both : (xs : List ℕ) → Below (suc n) xs → Below (suc n) (xs ++ (n ∷ []))
  both [] b = (omega arith, tt)
  both (x ∷ xs) b = (b.0, both xs b.1)

pub variables_environment : (P : Pack) (vars : List ℕ) → Environment P vars (up_to (length vars)) (variables_of vars)
unfolding sort_at
variables_environment P vars =
    let l = length_of vars in
    record {
      below = below_more (length vars) (length (variables_of vars)) (up_to (length vars)) (omega arith) (up_to_below (length vars));
      enough = let m = length_up_to (length vars) in omega arith;
      sorts = λ k h.
          let v : is_var (vertex (variables_of vars) k) ≡ true = rw (vertex_of vars k h) (is_var_law (get_or vars k 0)) in
          ap (sort_at P (variables_of vars)) (up_to_at (length vars) k h) ∙ rw (v, sort_at) (ap (λ (w : Vertex). w.sort) (vertex_of vars k h));
    }
