-- One pair taken: two roots meet.
use Rattle.std.specs.Prelude.{Option, Some, None}
use Rattle.std.specs.Prelude.{◌≡◌, List, ℕ, ◌+◌, ◌*◌, ◌<◌}
use Rattle.std.proofs.Common.{sym, ap, ◌∙◌, arith}
use Rattle.definition.specs.Graph.{Graph, Pair, on, clashed, vertex, bind, join, last_first, meet}
use Rattle.theory.specs.Unification.Turn.{meet-same}
use Rattle.graph.specs.declared.graph.Graph.{Graph as Counts}
use Rattle.graph_unify.specs.declared.pairs.Pairs.{Pairs}
use Rattle.graph.specs.Cells.{link_word, rows_end, Laid, nodes_few, Shows, SameRows, shows_rows, Unchanged, unchanged_same, unchanged_then, unchanged_later}
use Rattle.graph.specs.Joins.{Apart, Joins, Binds}
use Rattle.base.specs.Pairs.{pairs_in}
use Rattle.graph.specs.Stack.{pairs_end, pairs_same}
use Rattle.graph_unify.specs.Pairs.{Topmost, topmost_same, PairsOn}

-- a node without a link
abbrev pub Rooted : List ℕ → Counts → ℕ → Type 0
Rooted table s x = (x < s.nodes) × (link_word table x ≡ 0)

-- what a turn answers, of whatever graph is held: the graph and the pairs behind it, or a clash; beyond the pairs nothing changes
abbrev pub Meets : List ℕ → List ℕ → List ℕ → Counts → ℕ → ℕ → ℕ → Option Pairs → Type 0
Meets words table table' s top x y (Some t) =
    ((g : Graph) → Shows words table s g → (h : Graph) × (meet g x y (pairs_in (rows_end words) table top) ≡ on h (pairs_in (rows_end words) table' t.top)) × Shows words table' s h)
    × Unchanged (pairs_end words) table table'
    × Topmost words table' t
Meets words table table' s top x y None = ((g : Graph) → Shows words table s g → meet g x y (pairs_in (rows_end words) table top) ≡ clashed) × Unchanged (pairs_end words) table table'

-- two roots are apart still where the rows are the same
pub apart_rows : (words table table' : List ℕ) (s : Counts) (x y : ℕ) → SameRows words table table' → Laid words table s → Apart table s x y → Apart table' s x y
apart_rows words table table' s x y R L A =
    let n = nodes_few words table s L in
    record {
      left = A.left;
      right = A.right;
      free = R.rows (2 * x + 1) (omega (arith, A.left, L.fits)) ∙ A.free;
      bare = R.rows (2 * y + 1) (omega (arith, A.right, L.fits)) ∙ A.bare;
      unlike = A.unlike;
    }

-- one node met with itself
pub meets-same : (words table : List ℕ) (s : Counts) (top x y : ℕ) (p : Pairs) → x ≡ y → p.top ≡ top → Topmost words table p → Meets words table table s top x y (Some p)
meets-same words table s top x y p e k T = (
  λ g S. (g, meet-same g x y (pairs_in (rows_end words) table top) e ∙ ap (λ (n : ℕ). on g (pairs_in (rows_end words) table n)) (sym k), S),
  unchanged_same (pairs_end words) table,
  T,
)

-- a free side was bound
pub meets-bound : (words table table' : List ℕ) (s : Counts) (top x y a b : ℕ) (p : Pairs) → ((g : Graph) → Shows words table s g → (ps : List Pair) → meet g x y ps ≡ on (bind g a b) ps) → Binds words table table' s a b → p.top ≡ top → Topmost words table' p
    → Meets words table table' s top x y (Some p)
meets-bound words table table' s top x y a b p met B k T = (
  λ g S. (bind g a b, met g S (pairs_in (rows_end words) table top) ∙ ap (on (bind g a b)) (sym (pairs_same (rows_end words) table table' B.1 top) ∙ ap (pairs_in (rows_end words) table') (sym k)), B.0 g S),
  unchanged_later (rows_end words) (pairs_end words) table table' (omega arith) B.1,
  T,
)

-- like heads were joined behind their arguments' pairs
pub meets-joined : (words table mid table' : List ℕ) (s : Counts) (top x y : ℕ) (p : Pairs) → ((g : Graph) → Shows words table s g → (ps : List Pair) → meet g x y ps ≡ on (join g x y) (last_first (vertex g x).args (vertex g y).args ps))
    → PairsOn words table mid s top x y p.top → Topmost words mid p → Joins words mid table' s x y → Meets words table table' s top x y (Some p)
meets-joined words table mid table' s top x y p met A T B = (
  λ g S. (
    join g x y,
    met g S (pairs_in (rows_end words) table top) ∙ ap (on (join g x y)) (sym (A.pairs g S) ∙ sym (pairs_same (rows_end words) mid table' B.1 p.top)),
    B.0 g (shows_rows words table mid s g A.rows S),
  ),
  unchanged_then (pairs_end words) table mid table' A.beyond (unchanged_later (rows_end words) (pairs_end words) mid table' (omega arith) B.1),
  topmost_same words mid table' p B.1 T,
)
