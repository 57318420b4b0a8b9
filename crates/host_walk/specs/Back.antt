-- Reading back: what stands in work ahead of it, and that it comes to what the definition says.
use Rattle.std.specs.Prelude.{Some, None, Result, Ok, Err}
use Rattle.std.specs.Prelude.{◌≡◌, true, false, ℕ, ◌+◌, ◌-◌, ◌≤◌, ◌<◌, take, drop, replicate}
use Rattle.std.proofs.Math.Path.{sym, ap}
use Rattle.std.proofs.Common.{◌∙◌, le-leb}
use mathlib.Core.List.{List, [], ◌∷◌}
use native.Mathlib.Omega.{arith}
use Rattle.std.proofs.lemmas.Bool.{lt-leb}
use Rattle.std.proofs.Math.ListN.{length, get_or}
use Rattle.definition.specs.Test.{never}
use Rattle.definition.specs.Pack.{Pack, Node}
use Rattle.definition.specs.Verdict.{value_of}
use Rattle.definition.specs.Store.{pattern_words}
use Rattle.definition.specs.Graph.{Graph, vertex, circular, cells as cells_of}
use Rattle.definition.specs.Analysis.{Numbered}
use Rattle.theory.specs.Unification.Inner.{Inner}
use Rattle.theory.specs.Walks.Reading.{numbered_as, resolved_as}
use Rattle.theory.specs.Walks.Resolving.{Resolving, resolving}
use Rattle.base.specs.Part.{part, put, length_part}
use Rattle.base.specs.declared.id.Pattern.{Pattern}
use Rattle.buffer.specs.Zero.{zeros_long, zeros_there, zeros-before}
use Rattle.store.specs.Words.{begins_long}
use Rattle.store.specs.Stored.{nodes}
use Rattle.store.specs.declared.nodes.Store.{Store}
use Rattle.pack_tables.specs.Catalog.{records_of}
use Rattle.pack_tables.specs.declared.catalog.Catalog.{Catalog}
use Rattle.pack_read.specs.Reads.{Reads}
use Rattle.pack_read.specs.Held.{Proper, reads_on}
use Rattle.term_lift.specs.Lifts.{Lifts, index_in}
use Rattle.term_lift.specs.Nodes.{laid_same}
use Rattle.term_lift.specs.declared.lift.Lifted.{Lifted}
use Rattle.graph.specs.declared.graph.Graph.{Graph as Counts}
use Rattle.graph.specs.Cells.{Shows, nodes_few, shows_rows}
use Rattle.graph.specs.Pushes.{cells_shown}
use Rattle.term_readback.specs.declared.table.Table.{Table}
use Rattle.term_readback.specs.Words.{values_at, numbers_at, table_end, table_in, Grounded, Lies, Holding, Ready}
use Rattle.term_lift.specs.Kept.{lifts_on}
use Rattle.term_readback.specs.Moved.{table_at, table_long, numbers-most}
use Rattle.term_readback.specs.Stacks.{Clears, Answers}
use Rattle.host_walk.specs.Came.{done, ended, read_back}
use Rattle.host_walk.specs.Walks.{Walks}
use Rattle.definition.specs.declared.Answer.{Answer}

-- work holds the pack P, behind it lifting's words, behind these the graph h without circles, of nodes with few arguments
pub record Lying (bytes work words cells : List ℕ) (c : Catalog) (l : Lifted) (t : Table) (st : Store) (g : Counts) (P : Pack) (h : Graph) : Type 0 where
  pub lifts : Lifts bytes work words c l st
  pub reads : Reads bytes (records_of work c) P
  pub proper : Proper P
  pub apart : l.end ≤ t.at
  pub room : t.at + table_end cells ≤ t.end
  pub fits : t.end ≤ length work
  pub shows : Shows cells (table_in t work) g h
  pub inner : Inner h
  pub ends : circular h ≡ false
  pub few : (x : ℕ) → x < length h → length (vertex h x).args ≤ 16

-- some such pack and graph
pub record Standing (bytes work words cells : List ℕ) (c : Catalog) (l : Lifted) (t : Table) (st : Store) (g : Counts) : Type 0 where
  pub pack : Pack
  pub graph : Graph
  pub lying : Lying bytes work words cells c l t st g pack graph

-- no node has a value
pub record Blank (work work' cells : List ℕ) (t : Table) (g : Counts) : Type 0 where
  pub long : length work' ≡ length work
  pub ahead : (i : ℕ) → i < t.at + values_at cells → get_or work' i 0 ≡ get_or work i 0
  pub zeros : (r : ℕ) → r < g.nodes → get_or work' (t.at + values_at cells + r) 0 ≡ 0

-- what is answered of whatever pack and graph are held
abbrev pub Backs : List ℕ → List ℕ → List ℕ → List ℕ → List ℕ → Catalog → Lifted → Table → Store → Counts → ℕ → Result (Pattern × Store × ℕ × ℕ) Answer → Type 0
Backs bytes work words words' cells c l t st g x w = (P : Pack) (h : Graph) → Lying bytes work words cells c l t st g P h → Walks words' (read_back P h x (nodes words st) (length words)) w

-- the values' words came back as zeros
pub blank : (work cells : List ℕ) (t : Table) (g : Counts) → t.at + table_end cells ≤ t.end → t.end ≤ length work → g.nodes ≤ length cells → (from end : ℕ) → from ≡ t.at + values_at cells → end ≡ from + g.nodes → (zs : List ℕ)
    → zs ≡ replicate (length (take (end - from) (drop from work))) 0 → Blank work (put from (end - from) zs work) cells t g
blank work cells t g room fits few from end f e zs z =
    let l : end ≤ length work = omega arith in
    record {
      long = zeros_long from end g.nodes work zs e l z;
      ahead = λ i h. zeros-before from end g.nodes work zs e l z i (omega (arith, f));
      zeros = λ r h. ap (λ (k : ℕ). get_or (put from (end - from) zs work) (k + r) 0) (sym f) ∙ zeros_there from end g.nodes work zs e l z r h;
    }

module _ (bytes work words cells : List ℕ) (c : Catalog) (l : Lifted) (t : Table) (st : Store) (g : Counts) where
  -- there are no more nodes than cells
  pub lying_few : (P : Pack) (h : Graph) → Lying bytes work words cells c l t st g P h → g.nodes ≤ length cells
  lying_few P h L = omega (arith, nodes_few cells (table_in t work) g L.shows.laid, L.shows.laid.fits)

  module _ (blanked : List ℕ) (B : Blank work blanked cells t g) where
    -- then all lies as reading back asks it, with no value
    pub lies_blank : (P : Pack) (h : Graph) → Lying bytes work words cells c l t st g P h → Lies bytes blanked words cells c l t st g P h []
    unfolding value_of
    lies_blank P h L =
        let wide : length (table_in t work) ≡ t.end - t.at = table_long t work (omega (arith, L.room)) L.fits in
        let wide' : length (table_in t blanked) ≡ t.end - t.at = table_long t blanked (omega (arith, L.room)) (omega (arith, L.fits, B.long)) in
        let word : (i : ℕ) → i < values_at cells → get_or (table_in t blanked) i 0 ≡ get_or (table_in t work) i 0 =
        λ i a. table_at t blanked i (omega (arith, L.room)) ∙ B.ahead (t.at + i) (omega arith) ∙ sym (table_at t work i (omega (arith, L.room))) in
        record {
          lifts = lifts_on bytes work words c l st blanked B.long (λ j a. B.ahead j (omega (arith, L.apart))) L.lifts;
          reads = reads_on bytes work blanked c (laid_same bytes work words c l st L.lifts.laid blanked B.long (λ j a. B.ahead j (omega (arith, L.apart, L.lifts.laid.fits)))) L.lifts.laid.held.cataloged P L.reads;
          proper = L.proper;
          apart = L.apart;
          room = L.room;
          fits = omega (arith, L.fits, B.long);
          stands = record {
            shows = shows_rows cells (table_in t work) (table_in t blanked) g h (record { long = wide' ∙ sym wide; rows = λ i a. word i (omega arith) }) L.shows;
            inner = L.inner;
            ends = L.ends;
            few = L.few;
            values = λ r a.
                let q : t.at + (values_at cells + r) ≡ t.at + values_at cells + r = omega arith in
                table_at t blanked (values_at cells + r) (omega (arith, L.room, lying_few P h L)) ∙ ap (λ (k : ℕ). get_or blanked k 0) q ∙ B.zeros r a;
          };
          below = λ r n e. never (cc);
        }

    -- all are numbered, so none is fixed
    none-fixed : Grounded true l
    none-fixed e = never (cc)

    -- nothing read back yet
    abbrev none_read : Resolving
    none_read = resolving (numbered_as [] (nodes words st)) []

    module _ (cleared : List ℕ) (C : Clears blanked cleared cells t g) where
      -- so it is held
      back_holds : (P : Pack) (h : Graph) → Lying bytes work words cells c l t st g P h → Holding bytes cleared words cells c l t st g 0 true P h [] none_read
      back_holds P h L = C.holding bytes words c l st true P h [] (lies_blank P h L) none-fixed

      -- and may be read back
      pub back_ready : Standing bytes work words cells c l t st g → Ready bytes cleared words cells c l t st g 0 true
      back_ready S = record { pack = S.pack; graph = S.graph; values = []; state = none_read; holding = back_holds S.pack S.graph S.lying }

      module _ (x : ℕ) (work' words' : List ℕ) (long : length words' ≡ length words) where
        -- there is no room
        pub back_short : Answers bytes cleared words work' words' cells c l t st g 0 true x None → Backs bytes work words words' cells c l t st g x (Err (record { code = 8; place = 2 }))
        unfolding read_back ended
        back_short A P h L = (tt, sym (rw (lt-leb _ _ (A.1 P h [] none_read (back_holds P h L)), ended)))

        -- the pattern was read
        pub back_read : (p : Pattern) (st' : Store) (n : ℕ) → Answers bytes cleared words work' words' cells c l t st g 0 true x (Some (p, st', n)) → Backs bytes work words words' cells c l t st g x (Ok (p, st', n, g.used))
        unfolding read_back ended part
        back_read p st' n A P h L =
            let y = A.2 P h [] none_read (back_holds P h L) in
            let o : Numbered = y.0.state in
            let H = y.1 in
            let stored = H.lies.lifts.laid.index in
            let same : o.store ≡ nodes words' st' = H.says.store in
            let fit : length (pattern_words o.store) ≤ length words = omega (arith, ap (λ (s : List Node). length (pattern_words s)) same, begins_long (nodes words' st') words' stored.placed.begins, long) in
            let few : g.nodes ≤ length cells = lying_few P h L in
            let wide : table_end cells ≤ length (table_in t work') = omega (arith, table_long t work' (omega (arith, L.room)) H.lies.fits, L.room) in
            let most = numbers-most cells (table_in t work') words' g st' n y.0 wide few H.says in
            let many : length o.numbering ≡ n = ap length H.says.numbering ∙ length_part (numbers_at cells) n (table_in t work') (omega arith) in
            let e : ended (length words) (cells_of h) (resolved_as (p.0 ∷ []) o) ≡ done p.0 o.store (length o.numbering) (cells_of h) = rw (le-leb _ _ fit, ended) in
            let f : done p.0 o.store (length o.numbering) (cells_of h) ≡ done p.0 (nodes words' st') n g.used = rw (same, many, cells_shown cells (table_in t work) g h L.shows) in
            ((index_in work' l, stored), sym (ap (ended (length words) (cells_of h)) y.2 ∙ e ∙ f))
