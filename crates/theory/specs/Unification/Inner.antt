-- Graphs whose arguments are nodes.
use Rattle.std.specs.Prelude.{◌≡◌, [], ◌∷◌, ◌++◌, ℕ, suc, ◌<◌, length}
use Rattle.std.proofs.Common.{◌∙◌, arith, length-append}
use Rattle.std.proofs.Math.Option.{none}
use Rattle.std.proofs.Math.Decide.{dec_lt}
use Rattle.definition.specs.Good.{Below}
use Rattle.definition.proofs.Laws.Grow.{below_more}
use Rattle.definition.specs.Graph.{Vertex, Graph, vertex}
use Rattle.theory.specs.Unification.Solve.{SameNodes}
use Rattle.theory.specs.Unification.Like.{vertex-old, vertex-new}

-- arguments are nodes
abbrev pub Inner : Graph → Type 0
Inner g = (x : ℕ) → x < length g → Below (length g) (vertex g x).args

-- inner graphs stay so while their nodes are the same
pub same_inner : (g h : Graph) → SameNodes g h → Inner g → Inner h
same_inner g h S I x l = let m = S.long in rw (m, S.args x) (I x (omega arith))

-- a node more over nodes
pub inner_more : (g : Graph) (v : Vertex) → v.link ≡ none → Inner g → Below (length g) v.args → Inner (g ++ (v ∷ []))
inner_more g v bare I b x l =
    let long : length (g ++ (v ∷ [])) ≡ suc (length g) = length-append g (v ∷ []) ∙ omega arith in
    elim (dec_lt x (length g)) [
      | yes h ↦ rw (vertex-old g v bare x h) (below_more (length g) (length (g ++ (v ∷ []))) (vertex g x).args (omega arith) (I x h))
      | no h ↦
          let e : x ≡ length g = omega (arith, h) in
          rw (e, vertex-new g v bare) (below_more (length g) (length (g ++ (v ∷ []))) v.args (omega arith) b)
    ]
