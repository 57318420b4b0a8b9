-- How many turns are left, by the words alone: the effort of a walk depends on what is known and on what stands below, on nothing else.
use Rattle.std.specs.Prelude.{◌≡◌, Bool, ltb, get_or, drop}
use Rattle.std.proofs.Math.Path.{refl, sym, ap, ap₂}
use Rattle.std.proofs.Common.{◌∙◌, arith, eq-eqb, ne_eqb}
use Rattle.std.proofs.Math.Bool.{true, false}
use mathlib.Core.List.{List, [], ◌∷◌, map}
use Prim.Native.Nat.{ℕ, zero, suc, ◌+◌, ◌*◌}
use Rattle.std.proofs.Math.Decide.{dec_lt, ℕ_discrete}
use Rattle.std.proofs.Math.Dec.{eqb}
use Rattle.std.proofs.Math.ListN.{length, get_or-eq_default}
use Rattle.definition.specs.Test.{is, see}
use Rattle.definition.specs.Pack.{Pack}
use Rattle.definition.specs.Good.{Below}
use Rattle.definition.specs.Verdict.{Bound}
use Rattle.definition.specs.Store.{variable_head}
use Rattle.definition.specs.Graph.{Vertex, Graph, applied, vertex, root, is_var}
use Rattle.theory.specs.Walks.Walk.{visit, walk, visit_effort, effort, walk_image}
use Rattle.theory.specs.Walks.Machine.{Frame, frame_left, frame_turns, turns_left}
use Rattle.theory.specs.Unification.Inner.{Inner}
use Rattle.theory.specs.Walks.Levels.{arg_roots, roots_variable, roots_applied}
use Rattle.theory.specs.Walks.Resolving.{Resolving, is_read_whole, read_root, read_made, read_others}
use Rattle.store.specs.declared.nodes.Store.{Store}
use Rattle.term_lift.specs.Lifts.{frames_in}
use Rattle.graph.specs.declared.graph.Graph.{Graph as Counts}
use Rattle.graph.specs.Cells.{graph_in, rows_end, Shows}
use Rattle.graph.specs.Links.{graph_past}
use Rattle.term_readback.specs.Words.{marks_in, Says}
use Rattle.term_readback.specs.Asked.{graph_long}
use Rattle.term_readback.specs.Turns.{read_mark}

-- ---- an image of the state on which the same nodes are known, and that goes along with finishing
module _ {S T : Type 0} (kids : ℕ → List ℕ) (known : S → ℕ → Bool) (finish : ℕ → S → S) (known' : T → ℕ → Bool) (finish' : ℕ → T → T) (image : S → T)
    (same : (s : S) (x : ℕ) → known' (image s) x ≡ known s x) (along : (x : ℕ) (s : S) → image (finish x s) ≡ finish' x (image s)) where
  -- the walk's image is the image's walk
  walked : (d : ℕ) (xs : List ℕ) (s : S) → image (walk kids known finish d xs s) ≡ walk kids known' finish' d xs (image s)
  walked = walk_image kids known finish known' finish' image same along

  -- it takes the same effort
  effort_image : (d : ℕ) (xs : List ℕ) (s : S) → effort kids known finish d xs s ≡ effort kids known' finish' d xs (image s)
  unfolding effort walk
  effort_image zero [] s = refl
  effort_image zero (x ∷ xs) s = refl
  effort_image (suc d) [] s = refl
  effort_image (suc d) (x ∷ xs) s =
      let go : S = visit kids known finish (λ ys t. walk kids known finish d ys t) x s in
      let first : visit_effort kids known finish (λ ys t. effort kids known finish d ys t) x s ≡ visit_effort kids known' finish' (λ ys t. effort kids known' finish' d ys t) x (image s) = elim (see (known s x)) [
        | is true k ↦ let k' = same s x ∙ k in rw (k, k', visit_effort)
        | is false k ↦ let k' = same s x ∙ k in rw (k, k', visit_effort) (ap (λ (e : ℕ). length (kids x) + e) (effort_image d (kids x) s))
      ] in
      ap₂ ◌+◌ first (effort_image (suc d) xs go ∙ ap (effort kids known' finish' (suc d) xs) (walked (suc d) (x ∷ []) s))

  -- what is left of a frame
  frame_image : (d x i : ℕ) (s : S) → image (frame_left kids known finish d x i s) ≡ frame_left kids known' finish' d x i (image s)
  unfolding frame_left
  frame_image d x zero s = walked d (x ∷ []) s
  frame_image d x (suc i) s = along x (walk kids known finish d (drop (suc i) (kids x)) s) ∙ ap (finish' x) (walked d (drop (suc i) (kids x)) s)

  -- how many turns that takes
  turns-frame : (d x i : ℕ) (s : S) → frame_turns kids known finish d x i s ≡ frame_turns kids known' finish' d x i (image s)
  unfolding frame_turns
  turns-frame d x zero s = ap (λ (e : ℕ). suc (2 * e)) (effort_image d (x ∷ []) s)
  turns-frame d x (suc i) s = ap (λ (e : ℕ). suc (2 * (length (drop (suc i) (kids x)) + e))) (effort_image d (drop (suc i) (kids x)) s)

  -- and a stack
  pub turns_image : (d : ℕ) (fs : List Frame) (s : S) → turns_left kids known finish d fs s ≡ turns_left kids known' finish' d fs (image s)
  unfolding turns_left
  turns_image d [] s = refl
  turns_image d (f ∷ fs) s =
      ap₂ ◌+◌ (turns-frame d f.node f.taken s) (turns_image d fs (frame_left kids known finish d f.node f.taken s) ∙ ap (turns_left kids known' finish' d fs) (frame_image d f.node f.taken s))

-- ---- what is known, as a test of each node
-- one more is known
unfoldable pub mark : ℕ → (ℕ → Bool) → ℕ → Bool
mark x m y = elim (eqb x y) [ true ↦ true | false ↦ m y ]

-- whether one is
abbrev pub marked : (ℕ → Bool) → ℕ → Bool
marked m x = m x

-- it is
mark_own : (x : ℕ) (m : ℕ → Bool) (y : ℕ) → x ≡ y → mark x m y ≡ true
unfolding mark
mark_own x m y e = rw (eq-eqb x y e, mark)

-- no other is
mark-other : (x : ℕ) (m : ℕ → Bool) (y : ℕ) → (x ≡ y → ⊥) → mark x m y ≡ m y
unfolding mark
mark-other x m y d = rw (ne_eqb x y d, mark)

-- a root that is read back is marked
read_marks : (P : Pack) (h : Graph) (vs : List Bound) (everyone : Bool) (x : ℕ) (s : Resolving) → is_read_whole (read_root P h vs everyone x s) ≡ mark x (is_read_whole s)
unfolding mark
read_marks P h vs everyone x s = λ i y. at y i
  where
    at : (y : ℕ) → is_read_whole (read_root P h vs everyone x s) y ≡ mark x (is_read_whole s) y
    at y = elim (ℕ_discrete x y) [
      | yes e ↦ ap (is_read_whole (read_root P h vs everyone x s)) (sym e) ∙ read_made P h vs everyone x s ∙ sym (mark_own x (is_read_whole s) y e)
      | no d ↦ read_others P h vs everyone x y s d ∙ sym (mark-other x (is_read_whole s) y d)
    ]

-- ---- a graph like another has the same roots to be read back ahead of a node
module _ (cells table : List ℕ) (g : Counts) (h : Graph) (S : Shows cells table g h) (inner : Inner h) where
  -- the graph as it stands
  abbrev G : Graph
  G = graph_in cells table g.nodes

  -- the same roots
  same_roots : (xs : List ℕ) → Below (length h) xs → map (root G) xs ≡ map (root h) xs
  same_roots [] b = refl
  same_roots (x ∷ xs) b = ap₂ ◌∷◌ (S.like.roots x b.0) (same_roots xs b.1)

  -- ahead of a node with the same head, and arguments with the same roots
  roots_so : (x : ℕ) → is_var (vertex G x) ≡ is_var (vertex h x) → map (root G) (vertex G x).args ≡ map (root h) (vertex h x).args → arg_roots G x ≡ arg_roots h x
  roots_so x e f = elim (see (is_var (vertex h x))) [
    | is true v ↦ roots_variable G x (e ∙ v) ∙ sym (roots_variable h x v)
    | is false v ↦ roots_applied G x (e ∙ v) ∙ f ∙ sym (roots_applied h x v)
  ]

  -- ahead of each
  roots_like : (x : ℕ) → arg_roots G x ≡ arg_roots h x
  unfolding is_var vertex
  roots_like x = elim (dec_lt x (length h)) [
    | yes l ↦
        let v = S.like.nodes x l in
        roots_so x (ap (λ (y : ℕ). eqb y variable_head) v.head) (ap (map (root G)) v.args ∙ same_roots (vertex h x).args (inner x l))
    | no l ↦
        let a : vertex G x ≡ applied 0 [] = graph_past cells table g.nodes x (omega (arith, l, graph_long cells table g h S)) in
        let b : vertex h x ≡ applied 0 [] = get_or-eq_default h (applied 0 []) {n = x} (omega (arith, l)) in
        roots_so x (ap is_var (a ∙ sym b)) (ap (λ (v : Vertex). map (root G) v.args) a ∙ sym (ap (λ (v : Vertex). map (root h) v.args) b))
  ]

-- the turns left, by the words
unfoldable pub turns_in : List ℕ → List ℕ → Counts → ℕ → ℕ
unfolding turns_left arg_roots mark frames_in graph_in
turns_in cells table g top = turns_left (arg_roots (graph_in cells table g.nodes)) marked mark g.nodes (frames_in table (rows_end cells) top) (λ x. ltb 0 (get_or (marks_in cells table g) x 0))

-- they are those of the walk
pub turns_of : (cells table words : List ℕ) (g : Counts) (st : Store) (n : ℕ) (everyone : Bool) (P : Pack) (h : Graph) (vs : List Bound) (s : Resolving) (top : ℕ) → Shows cells table g h → Inner h → Says cells table words g st n s
    → turns_in cells table g top ≡ turns_left (arg_roots h) is_read_whole (read_root P h vs everyone) (length h) (frames_in table (rows_end cells) top) s
unfolding turns_in
turns_of cells table words g st n everyone P h vs s top S inner Y =
    let fs = frames_in table (rows_end cells) top in
    let kids : arg_roots (graph_in cells table g.nodes) ≡ arg_roots h = λ i x. roots_like cells table g h S inner x i in
    let tests : (λ (x : ℕ). ltb 0 (get_or (marks_in cells table g) x 0)) ≡ is_read_whole s = λ i x. sym (read_mark cells table words g st n s Y x) i in
    ap (λ (k : ℕ → List ℕ). turns_left k marked mark g.nodes fs (λ x. ltb 0 (get_or (marks_in cells table g) x 0))) kids
    ∙ ap (λ (m : ℕ → Bool). turns_left (arg_roots h) marked mark g.nodes fs m) tests
    ∙ ap (λ (d : ℕ). turns_left (arg_roots h) marked mark d fs (is_read_whole s)) (sym (graph_long cells table g h S))
    ∙ sym (turns_image (arg_roots h) is_read_whole (read_root P h vs everyone) marked mark is_read_whole (λ t x. refl) (λ x t. read_marks P h vs everyone x t) (length h) fs s)
