-- A node's flex mark as a word.
use Rattle.std.specs.Prelude.{◌≡◌, Bool, true, false, List, ℕ, ◌+◌, ◌≤◌, ◌<◌, length}
use Rattle.std.proofs.Common.{sym, ◌∙◌}
use Rattle.std.proofs.Math.Path.{ap}
use Rattle.definition.specs.Graph.{Graph, vertex}
use Rattle.definition.specs.Classes.{mark}
use Rattle.base.specs.Part.{part}
use Rattle.graph.specs.declared.graph.Graph.{Graph as Counts}
use Rattle.graph.specs.Cells.{Laid, Shows}
use Rattle.graph.specs.Nodes.{FlexOf}
use Rattle.class_premises.specs.Layout.{table_in}
use Rattle.class_premises.specs.declared.layout.Layout.{Layout}
use Rattle.term_readback.specs.Words.{table_end, table_in as lentTable}
use Rattle.class_conclude.specs.Entries.{table_of}

-- what is asked: a node of a graph that stands in the table
pub record FlexAsked (work cells : List ℕ) (l : Layout) (g : Counts) (x : ℕ) : Type 0 where
  pub graph : Graph
  pub shows : Shows cells (table_in work l) g graph
  pub room : l.graph + table_end cells ≤ l.end
  pub fits : l.end ≤ length work
  pub node : x < g.nodes

-- what is answered: its mark
abbrev pub MarkOf : List ℕ → List ℕ → Layout → Counts → ℕ → ℕ → Type 0
MarkOf work cells l g x r = (h : Graph) → Shows cells (table_in work l) g h → r ≡ mark (vertex h x).flex

-- the table as it is lent
module _ (work cells : List ℕ) (l : Layout) (g : Counts) (x : ℕ) where
  pub flex_laid : FlexAsked work cells l g x → Laid cells (lentTable (table_of l) work) g × (x < g.nodes)
  unfolding part
  flex_laid K = (K.shows.laid, K.node)

  -- whether the node is flexible tells its mark
  module _ (f : Bool) (F : FlexOf cells (lentTable (table_of l) work) g x f) where
    pub mark_set : f ≡ true → MarkOf work cells l g x 1
    unfolding part mark
    mark_set e h S = ap mark (sym e ∙ F h S)

    pub mark-none : f ≡ false → MarkOf work cells l g x 0
    unfolding part mark
    mark-none e h S = ap mark (sym e ∙ F h S)
