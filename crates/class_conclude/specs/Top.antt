-- The instance of a conclusion stands in the graph: its table is made ready, the instance is read back, then the copies' variables.
use Rattle.std.specs.Prelude.{◌≡◌, true, false, List, [], ℕ, ◌+◌, ◌-◌, ◌≤◌, ◌<◌, length, get_or, take, drop, replicate}
use Rattle.std.proofs.Common.{sym, ap, ◌∙◌, arith}
use Rattle.std.proofs.Math.Option.{none, some}
use Rattle.std.proofs.Math.Decide.{dec_lt}
use Rattle.definition.specs.Pack.{Pack}
use Rattle.definition.specs.Good.{Below}
use Rattle.definition.specs.Verdict.{Bound, value_of}
use Rattle.definition.specs.Graph.{Graph, circular}
use Rattle.theory.specs.Unification.Inner.{Inner}
use Rattle.theory.specs.Walks.Reading.{numbered_as}
use Rattle.theory.specs.Walks.Resolving.{resolving}
use Rattle.base.specs.Word.{word_of}
use Rattle.base.specs.Part.{part, put, part_at}
use Rattle.base.specs.Outside.{Outside}
use Rattle.buffer.specs.Zero.{zeros_long, zeros_there, zeros-before, zeros-behind}
use Rattle.store.specs.Stored.{nodes}
use Rattle.store.specs.declared.nodes.Store.{Store}
use Rattle.pack_tables.specs.Catalog.{records_of}
use Rattle.pack_tables.specs.SameTables.{Same}
use Rattle.pack_tables.specs.declared.catalog.Catalog.{Catalog}
use Rattle.pack_read.specs.Reads.{Reads}
use Rattle.pack_read.specs.Held.{Proper, reads_on}
use Rattle.term_lift.specs.Lifts.{Lifts}
use Rattle.term_lift.specs.Nodes.{laid_same}
use Rattle.graph.specs.declared.graph.Graph.{Graph as Counts}
use Rattle.graph.specs.Cells.{Shows, nodes_few, shows_rows}
use Rattle.class_premises.specs.Layout.{table_in, Laid}
use Rattle.class_premises.specs.Joins.{copies_in, rows_outside}
use Rattle.class_premises.specs.declared.layout.Layout.{Layout}
use Rattle.term_readback.specs.Words.{values_at, table_end, Lies, Framed}
use Rattle.term_lift.specs.Kept.{lifts_on}
use Rattle.term_readback.specs.Stacks.{Clears}
use Rattle.class_premises.specs.Standing.{lifted_of}
use Rattle.theory.specs.Making.FewArgs.{FewArgs}
use Rattle.class_conclude.specs.declared.top.Wanted.{Wanted}
use Rattle.class_conclude.specs.Entries.{table_of, Holds}

-- ---- what is asked
-- a pack, a graph without circles, values of its first nodes and of no others, a node, and variables of copies
pub record Topped (bytes work words cells : List ℕ) (c : Catalog) (l : Layout) (st : Store) (before : ℕ) (g : Counts) (x copies : ℕ) (P : Pack) (h : Graph) (vs : List Bound) : Type 0 where
  pub lifts : Lifts bytes work words c (lifted_of l) st
  pub reads : Reads bytes (records_of work c) P
  pub proper : Proper P
  pub laid : Laid work words cells l
  pub shows : Shows cells (table_in work l) g h
  pub inner : Inner h
  pub ends : circular h ≡ false
  pub few : FewArgs h
  pub values : (r : ℕ) → r < before → get_or (table_in work l) (values_at cells + r) 0 ≡ word_of (value_of r vs)
  pub beyond : (r : ℕ) → before ≤ r → value_of r vs ≡ none
  pub below : (r n : ℕ) → value_of r vs ≡ some n → n < l.nodes
  pub low : before ≤ g.nodes
  pub node : x < g.nodes
  pub inside : Below g.nodes (copies_in work cells l copies)
  pub copies_few : copies ≤ length cells
  pub some : 0 < l.nodes

-- there are such
pub record Topping (bytes work words cells : List ℕ) (c : Catalog) (l : Layout) (st : Store) (before : ℕ) (g : Counts) (x copies : ℕ) : Type 0 where
  pub pack : Pack
  pub graph : Graph
  pub values : List Bound
  pub topped : Topped bytes work words cells c l st before g x copies pack graph values

-- of what is wanted
abbrev pub ToppingAt : (bytes work words cells : List ℕ) (c : Catalog) (l : Layout) (st : Store) (g : Counts) (w : Wanted) → Type 0
ToppingAt bytes work words cells c l st g w = Topping bytes work words cells c l st w.before g w.node.0 w.copies

-- ---- the table made ready
-- the words of values from a node on are zeros, then nothing was read back
pub record Prepares (work work' cells : List ℕ) (l : Layout) (before : ℕ) (g : Counts) : Type 0 where
  pub zeroed : List ℕ
  pub outside : Outside (l.graph + values_at cells + before) (l.graph + values_at cells + g.nodes) work zeroed
  pub zeros : (r : ℕ) → before ≤ r → r < g.nodes → get_or zeroed (l.graph + values_at cells + r) 0 ≡ 0
  pub clears : Clears zeroed work' cells (table_of l) g

-- these words were lent
module _ (work cells : List ℕ) (l : Layout) (before : ℕ) (g : Counts) (room : l.graph + table_end cells ≤ l.end) (fits : l.end ≤ length work) (low : before ≤ g.nodes) (few : g.nodes ≤ length cells) (zs : List ℕ)
    (z : zs ≡ replicate (length (take (l.graph + values_at cells + g.nodes - (l.graph + values_at cells + before)) (drop (l.graph + values_at cells + before) work))) 0) where
  -- where they start and end
  abbrev from : ℕ
  from = l.graph + values_at cells + before

  -- up to here
  abbrev to : ℕ
  to = l.graph + values_at cells + g.nodes

  -- the words with zeros
  abbrev pub zeroed_words : List ℕ
  zeroed_words = put (l.graph + values_at cells + before) (l.graph + values_at cells + g.nodes - (l.graph + values_at cells + before)) zs work

  -- so many
  ends : to ≡ from + (g.nodes - before)
  ends = omega arith

  -- they stand in work
  within : to ≤ length work
  within = omega arith

  -- it is as long as it was
  pub zeroed_long : length zeroed_words ≡ length work
  zeroed_long = zeros_long from to (g.nodes - before) work zs ends within z

  -- and nothing was read back then
  pub prepares : (work' : List ℕ) → Clears zeroed_words work' cells (table_of l) g → Prepares work work' cells l before g
  prepares work' C = record {
    zeroed = zeroed_words;
    outside = record {
      long = zeroed_long;
      ahead = λ i h. zeros-before from to (g.nodes - before) work zs ends within z i h;
      behind = λ i h. zeros-behind from to (g.nodes - before) work zs ends within z i h;
    };
    zeros = λ r p q.
        let e : l.graph + values_at cells + r ≡ from + (r - before) = omega arith in
        ap (λ (i : ℕ). get_or zeroed_words i 0) e ∙ zeros_there from to (g.nodes - before) work zs ends within z (r - before) (omega arith);
    clears = C;
  }

-- there is room for them
pub topping_room : (bytes work words cells : List ℕ) (c : Catalog) (l : Layout) (st : Store) (before : ℕ) (g : Counts) (x copies : ℕ) → Topping bytes work words cells c l st before g x copies
    → (l.graph + table_end cells ≤ l.end) × (l.end ≤ length work) × (before ≤ g.nodes) × (g.nodes ≤ length cells)
topping_room bytes work words cells c l st before g x copies K =
    let T = K.topped in
    (omega (arith, T.laid.table), T.laid.inside, T.low, omega (arith, nodes_few cells (table_in work l) g T.shows.laid, T.shows.laid.fits))

-- ---- what is held then
module _ (bytes work words cells : List ℕ) (c : Catalog) (l : Layout) (st : Store) (before : ℕ) (g : Counts) (x copies : ℕ) (work₁ : List ℕ) (R : Prepares work work₁ cells l before g) where
  -- the words with zeros
  abbrev mid : List ℕ
  mid = R.zeroed

  module _ (P : Pack) (h : Graph) (vs : List Bound) (T : Topped bytes work words cells c l st before g x copies P h vs) where
    -- the table starts behind lifting's words
    apart : l.copied ≤ l.graph
    apart = omega (arith, T.laid.memo, T.laid.stack, T.laid.variables)

    -- no more nodes than cells
    nodes-most : g.nodes ≤ length cells
    nodes-most = omega (arith, nodes_few cells (table_in work l) g T.shows.laid, T.shows.laid.fits)

    -- nothing ahead of the table was written
    ahead : (i : ℕ) → i < l.copied → get_or mid i 0 ≡ get_or work i 0
    ahead i p = R.outside.ahead i (omega (arith, apart))

    -- so the pack's tables are as they were
    same : Same work mid c
    same = laid_same bytes work words c (lifted_of l) st T.lifts.laid mid R.outside.long (λ i p. ahead i (omega (arith, T.laid.index)))

    -- each node has its value, or none
    values_then : (r : ℕ) → r < g.nodes → get_or (table_in mid l) (values_at cells + r) 0 ≡ word_of (value_of r vs)
    values_then r p =
        let i : values_at cells + r < l.end - l.graph = omega (arith, T.laid.table, nodes-most) in
        let e : l.graph + (values_at cells + r) ≡ l.graph + values_at cells + r = omega arith in
        part_at l.graph (l.end - l.graph) mid (values_at cells + r) i ∙ ap (λ (j : ℕ). get_or mid j 0) e ∙ elim (dec_lt r before) [
          | yes q ↦ R.outside.ahead (l.graph + values_at cells + r) (omega arith) ∙ ap (λ (j : ℕ). get_or work j 0) (sym e) ∙ sym (part_at l.graph (l.end - l.graph) work (values_at cells + r) i) ∙ T.values r q
          | no q ↦ R.zeros r (omega (arith, q)) p ∙ sym (ap word_of (T.beyond r (omega (arith, q))))
        ]

    -- all stands there
    lies : Lies bytes mid words cells c (lifted_of l) (table_of l) st g P h vs
    unfolding part
    lies = record {
      lifts = lifts_on bytes work words c (lifted_of l) st mid R.outside.long ahead T.lifts;
      reads = reads_on bytes work mid c same T.lifts.laid.held.cataloged P T.reads;
      proper = T.proper;
      apart = apart;
      room = omega (arith, T.laid.table);
      fits = omega (arith, T.laid.inside, R.outside.long);
      stands = record {
        shows = shows_rows cells (table_in work l) (table_in mid l) g h (rows_outside work mid cells l (l.graph + values_at cells + before) (l.graph + values_at cells + g.nodes) R.outside (omega arith) (omega (arith, T.laid.table)) T.laid.inside) T.shows;
        inner = T.inner;
        ends = T.ends;
        few = λ y p. T.few y;
        values = values_then;
      };
      below = T.below;
    }

    -- nothing was read back
    pub prepared : Holds bytes work₁ words cells c l st g 0 true P h vs (resolving (numbered_as [] (nodes words st)) [])
    prepared = R.clears.holding bytes words c (lifted_of l) st true P h vs lies (λ e. T.some)

    -- and only the table was written
    pub prepared_framed : Framed cells work work₁ (lifted_of l) (table_of l)
    prepared_framed = record {
      long = R.clears.long ∙ R.outside.long;
      ahead = λ i p. R.clears.ahead i (omega (arith, apart, T.laid.index)) ∙ R.outside.ahead i (omega (arith, apart, T.laid.index));
      between = λ i p q. R.clears.ahead i (omega arith) ∙ R.outside.ahead i (omega arith);
      behind = λ i p. R.clears.behind i (omega (arith, nodes-most)) ∙ R.outside.behind i (omega (arith, nodes-most));
    }
