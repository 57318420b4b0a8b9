-- A node more in the graph, and its copy in the memo.
use Rattle.std.specs.Prelude.{Option, Some, None}
use Rattle.std.specs.Prelude.{◌≡◌, Bool, true, false, List, map, ℕ, ◌+◌, ◌-◌, ◌≤◌, ◌<◌, length, get_or, set, drop}
use Rattle.std.proofs.Common.{sym, ap, ◌∙◌, subst, arith, eq-eqb, ne_eqb}
use Rattle.std.proofs.Math.Option.{some}
use Rattle.definition.specs.Store.{variable_head, nothing}
use Rattle.definition.specs.Graph.{Vertex, variable_vertex, applied}
use Rattle.base.specs.Part.{put}
use Rattle.base.specs.Outside.{Outside, outside_then, outside_wider}
use Rattle.base.specs.Lent.{lent-ahead, lent-behind, back, back_outside}
use Rattle.memo.specs.Recall.{recall, Remembers}
use Rattle.memo.specs.declared.memo.Memo.{Memo}
use Rattle.graph.specs.Cells.{mark_in, nodes_few}
use Rattle.graph.specs.Links.{Holds}
use Rattle.graph.specs.Inner.{many-nodes}
use Rattle.graph.specs.Pushes.{Pushes, arguments_to, filled-pushed}
use Rattle.base.specs.declared.id.Node.{Node}
use Rattle.term_copy.specs.declared.node.Copying.{Copying}
use Rattle.term_copy.specs.Places.{table_in, rows_at, rows_in, copy_in, Apart}
use Rattle.term_copy.specs.Steps.{mark_at, noted, Notes, Grows, Makes, CopiedTo, NoRoom, vertex_for, number_for}
use Rattle.graph.specs.declared.graph.Graph.{Graph as Counts}

-- ---- a node more in the graph
-- its number is a word, and so is the next one
pub number_small : (cells cells' table table' : List ℕ) (g g' : Counts) (v : Vertex) (x : Node) → Holds cells table g → Pushes cells cells' table table' g v (Some (x, g')) → x.0 < nothing
number_small cells cells' table table' g g' v x H P =
    let S = H.1 in
    omega (arith, (P.0 H.0 S).0, many-nodes cells table g H.0 S, nodes_few cells table g S.laid, S.laid.fits, S.laid.small)

-- the rows that came back
module _ (work cells table' : List ℕ) (l : Copying) (fits : rows_at cells l ≤ length work) (long : length table' ≡ length (rows_in work cells l)) where
  -- hold what was pushed
  pub grows : (cells' : List ℕ) (g : Counts) (v : Vertex) (r : Option (Node × Counts)) → Pushes cells cells' (rows_in work cells l) table' g v r → Grows work (put l.graph (rows_at cells l - l.graph) table' work) cells cells' l g v r
  grows cells' g v r P = (
    subst (λ (t : List ℕ). Pushes cells cells' (rows_in work cells l) t g v r) (sym (back l.graph (rows_at cells l) work table' (omega arith) fits long)) P,
    back_outside l.graph (rows_at cells l) work table' (omega arith) fits long,
  )

-- a variable's copy, with the mark as it was read
pub variable-made : (work cells cells' flex table' : List ℕ) (l : Copying) (g : Counts) → rows_at cells l ≤ length work → length table' ≡ length (rows_in work cells l) → (sort k mark : ℕ) → mark_in mark ≡ mark_at flex k → (r : Option (Node × Counts))
    → Pushes cells cells' (rows_in work cells l) table' g (variable_vertex sort (mark_in mark) (mark_in 0)) r → Grows work (put l.graph (rows_at cells l - l.graph) table' work) cells cells' l g (variable_vertex sort (mark_at flex k) (mark_in 0)) r
variable-made work cells cells' flex table' l g fits long sort k mark m r P =
    grows work cells table' l fits long cells' g (variable_vertex sort (mark_at flex k) (mark_in 0)) r (subst (λ (b : Bool). Pushes cells cells' (rows_in work cells l) table' g (variable_vertex sort b (mark_in 0)) r) m P)

-- an application's copy, over its arguments as they were gathered behind the place of its head
module _ (work cells : List ℕ) (l : Copying) (g : Counts) (H : Holds cells (rows_in work cells l) g) (fits : rows_at cells l ≤ length work) (copied : List ℕ) (end : ℕ) (more : g.used + 1 ≤ end) (within : end ≤ length cells) (many : length copied ≡ length (arguments_to cells g end)) where
  pub application_made : (cells' table' : List ℕ) → length table' ≡ length (rows_in work cells l) → (head : ℕ) (args : List ℕ) → copied ≡ args → (r : Option (Node × Counts))
      → Pushes (put (g.used + 1) (end - (g.used + 1)) copied cells) cells' (rows_in work cells l) table' g (applied head (arguments_to (put (g.used + 1) (end - (g.used + 1)) copied cells) g end)) r
      → Grows work (put l.graph (rows_at cells l - l.graph) table' work) cells cells' l g (applied head args) r
  application_made cells' table' long head args e r P =
      grows work cells table' l fits long cells' g (applied head args) r (filled-pushed cells (rows_in work cells l) copied g end H.1.laid more within many cells' table' args head e r P)

-- a node's copy is the one or the other
module _ (work work' cells cells' flex : List ℕ) (l : Copying) (memo : Memo) (g : Counts) (key : List ℕ) (r : Option (Node × Counts)) where
  -- by whether its head says that it is a variable
  abbrev GrowsBy : Bool → Type 0
  GrowsBy b = Grows work work' cells cells' l g (elim b [ true ↦ variable_vertex (get_or key 2 0) (mark_at flex (get_or key 1 0)) false | false ↦ applied (get_or key 0 0) (map (copy_in work l memo) (drop 1 key)) ]) r

  -- a variable's
  pub node-variable : get_or key 0 0 ≡ variable_head → Grows work work' cells cells' l g (variable_vertex (get_or key 2 0) (mark_at flex (get_or key 1 0)) (mark_in 0)) r → Grows work work' cells cells' l g (vertex_for work l memo flex key) r
  node-variable e G = subst GrowsBy (sym (eq-eqb (get_or key 0 0) variable_head e)) G

  -- an application's
  pub node-applied : (get_or key 0 0 ≡ variable_head → ⊥) → Grows work work' cells cells' l g (applied (get_or key 0 0) (map (copy_in work l memo) (drop 1 key))) r → Grows work work' cells cells' l g (vertex_for work l memo flex key) r
  node-applied e G = subst GrowsBy (sym (ne_eqb (get_or key 0 0) variable_head e)) G

-- ---- the copy is noted, and put into the memo
module _ (work cells cells' flex : List ℕ) (l : Copying) (memo : Memo) (g : Counts) (p : ℕ) (key : List ℕ) (A : Apart work cells flex l) (H : Holds cells (rows_in work cells l) g) (mid : List ℕ)
    (r : Option (Node × Counts)) (G₀ : Grows work mid cells cells' l g (vertex_for work l memo flex key) r) where
  -- the copy
  abbrev v : Vertex
  v = vertex_for work l memo flex key

  -- with what was answered
  answered : (q : Option (Node × Counts)) → r ≡ q → Grows work mid cells cells' l g v q
  answered q e = subst (λ (o : Option (Node × Counts)). Grows work mid cells cells' l g v o) e G₀

  -- there was no room
  pub copied_short : r ≡ None → NoRoom work mid cells cells' flex l memo g key
  copied_short e =
      let G = answered None e in
      let O = G.1 in (
        G.0,
        record {
          beside = outside_wider l.graph (rows_at cells l) l.copied (rows_at cells l) work mid (omega (arith, A.table, A.stack, A.marks)) (omega arith) O;
          stack = λ i h k. O.ahead i (omega (arith, A.marks));
        },
      )

  module _ (x : Node) (g' : Counts) (e : r ≡ Some (x, g')) where
    -- what noting it asks
    pub note_small : x.0 < nothing
    note_small = number_small cells cells' (rows_in work cells l) (rows_in mid cells l) g g' v x H (answered (Some (x, g')) e).0

    -- and the variables' words are within
    pub note-fits : l.graph ≤ length mid
    note-fits = omega (arith, G₀.1.long, A.rows)

    module _ (noted₁ : List ℕ) (N : Outside l.variables l.graph mid noted₁ × Notes mid noted₁ flex l (number_for key) x.0) where
      -- the graph with it, and its word
      made-noted : Makes work noted₁ cells cells' flex l g v (number_for key) x g'
      made-noted =
          let G = answered (Some (x, g')) e in
          let q : rows_in noted₁ cells l ≡ rows_in mid cells l = lent-behind l.variables l.graph mid noted₁ N.0 l.graph (rows_at cells l) (omega arith) (omega arith) (omega (arith, A.rows, G.1.long)) in (
            subst (λ (t : List ℕ). Pushes cells cells' (rows_in work cells l) t g v (Some (x, g'))) (sym q) G.0,
            outside_then l.variables (rows_at cells l) work mid noted₁
                (outside_wider l.graph (rows_at cells l) l.variables (rows_at cells l) work mid (omega (arith, A.marks)) (omega arith) G.1)
                (outside_wider l.variables l.graph l.variables (rows_at cells l) mid noted₁ (omega arith) (omega arith) N.0),
            λ j h. N.1 j h ∙ ap (noted (number_for key) x.0 j) (G.1.ahead (l.variables + j) (omega (arith, A.marks))),
          )

      -- the memo's table is as it was
      pub table_kept : table_in noted₁ l ≡ table_in work l
      table_kept = lent-ahead l.variables (rows_at cells l) work noted₁ made-noted.1 l.copied l.walk A.table A.stack (omega (arith, A.stack, A.marks, A.rows))

      -- and within
      pub table_inside : l.walk ≤ length noted₁
      table_inside = omega (arith, made-noted.1.long, A.stack, A.marks, A.rows)

      -- and then the memo has it
      pub copied-made : (table' : List ℕ) → length table' ≡ length (table_in noted₁ l) → Remembers table' memo × (recall table' memo ≡ set (recall (table_in noted₁ l) memo) p (some x.0))
          → CopiedTo work (put l.copied (l.walk - l.copied) table' noted₁) cells cells' flex l memo g p key x g'
      copied-made table' long R =
          let M = made-noted in
          let last : List ℕ = put l.copied (l.walk - l.copied) table' noted₁ in
          let B = back l.copied l.walk noted₁ table' A.table table_inside long in
          let O = back_outside l.copied l.walk noted₁ table' A.table table_inside long in
          let rows : rows_in last cells l ≡ rows_in noted₁ cells l = lent-behind l.copied l.walk noted₁ last O l.graph (rows_at cells l) (omega arith) (omega (arith, A.stack, A.marks)) (omega (arith, A.rows, M.1.long)) in (
            subst (λ (t : List ℕ). Pushes cells cells' (rows_in work cells l) t g v (Some (x, g'))) (sym rows) M.0,
            record {
              beside = outside_then l.copied (rows_at cells l) work noted₁ last
                  (outside_wider l.variables (rows_at cells l) l.copied (rows_at cells l) work noted₁ (omega (arith, A.table, A.stack)) (omega arith) M.1)
                  (outside_wider l.copied l.walk l.copied (rows_at cells l) noted₁ last (omega arith) (omega (arith, A.stack, A.marks)) O);
              stack = λ i h k. O.behind i h ∙ M.1.ahead i k;
            },
            λ j h. O.behind (l.variables + j) (omega (arith, A.stack)) ∙ M.2 j h,
            subst (λ (t : List ℕ). Remembers t memo) (sym B) R.0,
            ap (λ (t : List ℕ). recall t memo) B ∙ R.1 ∙ ap (λ (t : List ℕ). set (recall t memo) p (some x.0)) table_kept,
          )
