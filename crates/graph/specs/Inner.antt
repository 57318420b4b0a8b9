-- A graph held in words whose arguments are nodes.
use Rattle.std.specs.Prelude.{◌≡◌, List, ℕ, length}
use Rattle.std.proofs.Common.{sym, ◌∙◌}
use Rattle.definition.specs.Graph.{Graph}
use Rattle.theory.specs.Unification.Inner.{Inner}
use Rattle.graph.specs.declared.graph.Graph.{Graph as Counts}
use Rattle.graph.specs.Cells.{length-graph_in, Shows}

-- some such graph is held
abbrev pub HoldsInner : List ℕ → List ℕ → Counts → Type 0
HoldsInner words table s = (g : Graph) × Shows words table s g × Inner g

-- it has as many nodes as are counted
pub many-nodes : (words table : List ℕ) (s : Counts) (g : Graph) → Shows words table s g → length g ≡ s.nodes
many-nodes words table s g S = sym S.like.long ∙ length-graph_in words table s.nodes
