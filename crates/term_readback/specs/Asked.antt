-- What is asked of single nodes of the graph in its table: arguments' roots, and the key of a root whose arguments' roots were read back.
use Rattle.std.specs.Prelude.{◌≡◌, refl, Bool, true, false, ◌||◌, List, ℕ, ◌+◌, ◌-◌, ◌≤◌, ◌<◌, length, get_or}
use Rattle.std.proofs.Common.{sym, ap, ◌∙◌, arith}
use Rattle.std.proofs.lemmas.List.{length-map}
use Rattle.definition.specs.Test.{never}
use Rattle.definition.specs.Graph.{Graph, vertex, root}
use Rattle.definition.specs.Store.{variable_head}
use Rattle.theory.specs.Walks.Walk.{under_at, below-under}
use Rattle.theory.specs.Unification.Inner.{Inner}
use Rattle.theory.specs.Walks.Levels.{arg_roots, roots_variable, roots_applied}
use Rattle.base.specs.Part.{put}
use Rattle.graph.specs.declared.graph.Graph.{Graph as Counts}
use Rattle.graph.specs.Cells.{start_in, length-graph_in, rows_end, Shows}
use Rattle.graph.specs.Links.{Found}
use Rattle.graph.specs.Nodes.{ArityOf, ArgumentOf, FlexOf, argument_there}
use Rattle.graph.specs.Joins.{HeadOf, head-variable, head-other}
use Rattle.term_readback.specs.declared.table.Table.{Table}
use Rattle.term_readback.specs.Words.{table_end, table_in, Moves}
use Rattle.term_readback.specs.Moved.{table_at, found_outside, found_moves}

-- work holds a graph of nodes with few arguments in its table
pub record Graphed (cells work : List ℕ) (t : Table) (g : Counts) (h : Graph) : Type 0 where
  pub room : t.at + table_end cells ≤ t.end
  pub fits : t.end ≤ length work
  pub shows : Shows cells (table_in t work) g h
  pub inner : Inner h
  pub few : (x : ℕ) → x < length h → length (vertex h x).args ≤ 16

-- a node of it
pub record Asking (cells work : List ℕ) (t : Table) (g : Counts) (x : ℕ) : Type 0 where
  pub graph : Graph
  pub graphed : Graphed cells work t g graph
  pub node : x < g.nodes

-- with so many arguments, and more
pub record Arguing (cells work : List ℕ) (t : Table) (g : Counts) (x i : ℕ) : Type 0 where
  pub asking : Asking cells work t g x
  pub some : i < length (vertex asking.graph x).args

-- only rows were written, and the graph is held still
pub record Finds (cells work work' : List ℕ) (t : Table) (g : Counts) : Type 0 where
  pub long : length work' ≡ length work
  pub ahead : (i : ℕ) → i < t.at → get_or work' i 0 ≡ get_or work i 0
  pub behind : (i : ℕ) → t.at + rows_end cells ≤ i → get_or work' i 0 ≡ get_or work i 0
  pub shows : (h : Graph) → Shows cells (table_in t work) g h → Shows cells (table_in t work') g h

-- so only rows and stack
pub finds_moves : (cells work work' : List ℕ) (t : Table) (g : Counts) → Finds cells work work' t g → Moves cells work work' t g
finds_moves cells work work' t g F = record { long = F.long; ahead = F.ahead; behind = λ i p. F.behind i (omega arith); shows = F.shows }

-- nothing was written
pub finds_none : (cells work : List ℕ) (t : Table) (g : Counts) → Finds cells work work t g
finds_none cells work t g = record { long = refl; ahead = λ i p. refl; behind = λ i p. refl; shows = λ h S. S }

-- two steps
pub finds_then : (cells work work' work'' : List ℕ) (t : Table) (g : Counts) → Finds cells work work' t g → Finds cells work' work'' t g → Finds cells work work'' t g
finds_then cells work work' work'' t g A B = record { long = B.long ∙ A.long; ahead = λ i p. B.ahead i p ∙ A.ahead i p; behind = λ i p. B.behind i p ∙ A.behind i p; shows = λ h S. B.shows h (A.shows h S) }

-- a word behind the rows is as it was
pub finds_word : (cells work work' : List ℕ) (t : Table) (g : Counts) → Finds cells work work' t g → (i : ℕ) → rows_end cells ≤ i → i < t.end - t.at → get_or (table_in t work') i 0 ≡ get_or (table_in t work) i 0
finds_word cells work work' t g F i p q = table_at t work' i q ∙ F.behind (t.at + i) (omega arith) ∙ sym (table_at t work i q)

-- the graph is there still
pub graphed_on : (cells work work' : List ℕ) (t : Table) (g : Counts) (h : Graph) → Moves cells work work' t g → Graphed cells work t g h → Graphed cells work' t g h
graphed_on cells work work' t g h M G = record { room = G.room; fits = omega (arith, G.fits, M.long); shows = M.shows h G.shows; inner = G.inner; few = G.few }

-- the root of an argument was found
pub record Rooted (cells work work' : List ℕ) (t : Table) (g : Counts) (x i r : ℕ) : Type 0 where
  pub finds : Finds cells work work' t g
  pub node : r < g.nodes
  pub is : (h : Graph) → Shows cells (table_in t work) g h → r ≡ root h (get_or (vertex h x).args i 0)

-- how many arguments' roots a node has
abbrev pub CountOf : List ℕ → List ℕ → Table → Counts → ℕ → ℕ → Type 0
CountOf cells work t g x r = (h : Graph) → Shows cells (table_in t work) g h → r ≡ length (arg_roots h x)

-- whether it is numbered when it is met
abbrev pub NumbersOf : List ℕ → List ℕ → Table → Counts → ℕ → Bool → Bool → Type 0
NumbersOf cells work t g x everyone r = (h : Graph) → Shows cells (table_in t work) g h → r ≡ (everyone || (vertex h x).flex)

-- as many nodes as the graph has
pub graph_long : (cells table : List ℕ) (g : Counts) (h : Graph) → Shows cells table g h → length h ≡ g.nodes
graph_long cells table g h S = sym S.like.long ∙ length-graph_in cells table g.nodes

-- how many roots are to be read back ahead of a node
module _ (cells table : List ℕ) (g : Counts) (h : Graph) (S : Shows cells table g h) (x : ℕ) (l : x < g.nodes) where
  -- it is a node of the graph
  same-node : x < length h
  same-node = omega (arith, graph_long cells table g h S)

  -- a variable has no roots to be read back ahead of it
  pub count-variable : (r : ℕ) → HeadOf cells table g x r → r ≡ variable_head → 0 ≡ length (arg_roots h x)
  count-variable r H e = ap length (sym (roots_variable h x (head-variable h x r (H h S) e)))

  -- an application has one for each argument
  pub count-applied : (r k : ℕ) → HeadOf cells table g x r → (r ≡ variable_head → ⊥) → ArityOf cells table g x k → k ≡ length (arg_roots h x)
  count-applied r k H d A = A h S ∙ sym (length-map (vertex h x).args (root h)) ∙ ap length (sym (roots_applied h x (head-other h x r (H h S) d)))

-- all are numbered
pub numbers-all : (everyone f : Bool) → everyone ≡ true → true ≡ (everyone || f)
numbers-all true f e = refl
numbers-all false f e = never (cc)

-- or those that are flexible
pub numbers_flex : (cells table : List ℕ) (g : Counts) (h : Graph) → Shows cells table g h → (x : ℕ) (everyone : Bool) → everyone ≡ false → (f : Bool) → FlexOf cells table g x f → f ≡ (everyone || (vertex h x).flex)
numbers_flex cells table g h S x everyone e f q = q h S ∙ sym (ap (λ (b : Bool). b || (vertex h x).flex) e)

module _ (cells work : List ℕ) (t : Table) (g : Counts) (x i : ℕ) (A : Arguing cells work t g x i) where
  -- the argument stands in the cells
  pub arguing_there : start_in (table_in t work) x + 1 + i < start_in (table_in t work) (x + 1)
  arguing_there = argument_there cells (table_in t work) g A.asking.graph A.asking.graphed.shows x A.asking.node i A.some

  module _ (a : ℕ) (I : ArgumentOf cells (table_in t work) g x i a) where
    -- it is a node
    pub argument_node : a < g.nodes
    argument_node =
        let h = A.asking.graph in
        let S = A.asking.graphed.shows in
        let n = graph_long cells (table_in t work) g h S in
        let b = under_at (λ y. y) (length h) (vertex h x).args i (below-under (length h) (vertex h x).args (A.asking.graphed.inner x (omega (arith, A.asking.node)))) A.some in
        omega (arith, I h S)

    -- its root
    pub rooted : (r : ℕ) (table' : List ℕ) → Found cells (table_in t work) table' g a r → Rooted cells work (put t.at (t.end - t.at) table' work) t g x i r
    rooted r table' F =
        let G = A.asking.graphed in
        let M = found_moves cells work t g G.room G.fits a r table' F in
        record {
          finds = record { long = M.long; ahead = M.ahead; behind = (found_outside cells work t g G.room G.fits a r table' F).behind; shows = M.shows };
          node = F.0;
          is = λ h S. (F.2 h S).0 ∙ ap (root h) (I h S);
        }
