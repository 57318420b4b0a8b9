-- Pairs taken over one graph, however it grows between its unifications: at most as many as unifications and argument cells.
use Rattle.std.specs.Prelude.{◌≡◌, refl, [], ◌∷◌, ℕ, suc, ◌+◌, ◌<◌, ◌≤◌, length}
use Rattle.std.proofs.Common.{ap, ◌∙◌, arith}
use Rattle.std.proofs.Math.Option.{none, some}
use Rattle.definition.specs.Test.{is, see}
use Rattle.definition.specs.Pack.{Pack}
use Rattle.definition.specs.Graph.{Vertex, Graph, vertex, unify}
use Rattle.theory.specs.Unification.Solve.{sort_at, Formed, open_cells, SameNodes, Begins}
use Rattle.theory.specs.Unification.Unify.{Says, unify_says, unify_open, unify-taken}

-- the argument cells of a graph
unfoldable pub arg_cells : Graph → ℕ
arg_cells [] = 0
arg_cells (v ∷ vs) = length v.args + arg_cells vs

-- those of nodes that are joined to none are among them
open_most : (g : Graph) → open_cells g ≤ arg_cells g
unfolding open_cells arg_cells
open_most [] = omega arith
open_most (v ∷ vs) = let i = open_most vs in elim (see v.link) [ is none e ↦ rw (e, open_cells) (omega arith) | is (some y) e ↦ rw (e, open_cells) (omega arith) ]

-- a graph that grows has no more such cells than it has new ones
grown-cells : (g h : Graph) → Begins g h → open_cells h + arg_cells g ≤ open_cells g + arg_cells h
unfolding open_cells arg_cells vertex
grown-cells [] h b = let o = open_most h in omega arith
grown-cells (v ∷ vs) [] b = let l = b.longer in absurd (omega arith)
grown-cells (v ∷ vs) (w ∷ ws) b =
    let e : w ≡ v = b.kept 0 (omega arith) in
    let c : Begins vs ws = record { longer = let l = b.longer in omega arith; kept = λ x l. b.kept (suc x) (omega arith) } in
    let i = grown-cells vs ws c in
    let a : length w.args ≡ length v.args = ap (λ (u : Vertex). length u.args) e in
    let k : w.link ≡ v.link = ap (λ (u : Vertex). u.link) e in
    elim (see v.link) [ is none p ↦ rw (p, open_cells, k ∙ p) (omega arith) | is (some y) p ↦ rw (p, open_cells, k ∙ p) (omega arith) ]

-- the same nodes have the same cells
same-cells : (g h : Graph) → SameNodes g h → arg_cells h ≡ arg_cells g
unfolding arg_cells vertex
same-cells [] [] s = refl
same-cells [] (w ∷ ws) s = let l = s.long in absurd (omega arith)
same-cells (v ∷ vs) [] s = let l = s.long in absurd (omega arith)
same-cells (v ∷ vs) (w ∷ ws) s =
    let r : SameNodes vs ws = record { long = let l = s.long in omega arith; heads = λ x. s.heads (suc x); args = λ x. s.args (suc x); sorts = λ x. s.sorts (suc x) } in
    let i = same-cells vs ws r in
    let a : length w.args ≡ length v.args = ap length (s.args 0) in
    omega arith

-- a graph with how many unifications it has seen, and how many pairs they took
pub data History (P : Pack) : ℕ → ℕ → Graph → Type 0 where
  begun : (g : Graph) → History P 0 0 g
  grown : (k t : ℕ) (g h : Graph) → History P k t g → Begins g h → History P k t h
  unified : (k t : ℕ) (g h : Graph) (x y : ℕ) → History P k t g → Formed P g → x < length g → y < length g → sort_at P g x ≡ sort_at P g y → (unify g x y).graph ≡ some h
      → History P (suc k) (t + (unify g x y).taken) h

-- pairs taken and cells still open never exceed unifications and argument cells
pub history_taken : (P : Pack) (k t : ℕ) (g : Graph) → History P k t g → t + open_cells g ≤ k + arg_cells g
history_taken P _ _ _ (begun g) = let o = open_most g in omega arith
history_taken P _ _ _ (grown k t g h H b) = let i = history_taken P k t g H in let c = grown-cells g h b in omega arith
history_taken P _ _ _ (unified k t g h x y H F hx hy s e) =
    let i = history_taken P k t g H in
    let o = unify_open P g x y F hx hy s h e in
    let c = same-cells g h (same h e) in
    omega arith
  where
    same : (h : Graph) → (unify g x y).graph ≡ some h → SameNodes g h
    same h e = let z : Says P g x y (some h) = rw e at (unify_says P g x y F hx hy s) in z.1

-- nor with the pairs of a unification that clashes
pub history_clash : (P : Pack) (k t : ℕ) (g : Graph) (x y : ℕ) → History P k t g → Formed P g → x < length g → y < length g → sort_at P g x ≡ sort_at P g y → t + (unify g x y).taken ≤ suc k + arg_cells g
history_clash P k t g x y H F hx hy s = let i = history_taken P k t g H in let o = unify-taken P g x y F hx hy s in omega arith
