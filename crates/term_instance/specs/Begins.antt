-- The test from its start to its end: two memos without entries and one pair, then the turns.
use Rattle.std.specs.Prelude.{Some, None}
use Rattle.std.specs.Prelude.{◌≡◌, ℕ, suc, ◌+◌, ◌*◌, ◌≤◌, ◌<◌, length, get_or, set}
use Rattle.std.proofs.Common.{sym, subst, ◌∙◌, arith}
use Rattle.std.proofs.Math.Path.{ap}
use mathlib.Core.List.{List, [], ◌∷◌}
use Rattle.definition.specs.Pack.{Pack, no_node}
use Rattle.definition.specs.Store.{below}
use Rattle.definition.specs.Verdict.{value_of}
use Rattle.definition.specs.Graph.{Pair}
use Rattle.base.specs.Outside.{Outside, outside_none, outside_then, outside_wider, outside_set}
use Rattle.pack_tables.specs.Catalog.{records_of}
use Rattle.pack_tables.specs.declared.catalog.Catalog.{Catalog}
use Rattle.pack_read.specs.Reads.{Reads, length-nodes}
use Rattle.pack_read.specs.Held.{Proper}
use Rattle.theory.specs.Walks.Ahead.{beside}
use Rattle.theory.specs.Walks.Valuing.{total, left-most}
use Rattle.theory.specs.Walks.Matching.{matching, matches_left}
use Rattle.theory.specs.Walks.Matched.{Leads, leads_first}
use Rattle.store.specs.Stored.{nodes}
use Rattle.memo.specs.Recall.{Remembers}
use Rattle.memo.specs.Lent.{lent, lent-before, lent-behind, Clears, recall-before, recall-behind}
use Rattle.store.specs.declared.nodes.Store.{Store}
use Rattle.memo.specs.declared.memo.Memo.{Memo}
use Rattle.term_instance.specs.declared.tables.Instance.{Instance}
use Rattle.base.specs.Pairs.{pairs_in, pairs_more}
use Rattle.term_instance.specs.Held.{Given, Kept, Memos, given_reads, given_on, below-words}
use Rattle.term_instance.specs.Takes.{Left, Ready, TakesPair}
use Rattle.term_instance.specs.Matches.{Matches, left_stop, left-done, Going, going_reads}

module _ (bytes work words : List ℕ) (c : Catalog) (l : Instance) (st : Store) (seen values : Memo) (H : Given bytes work words c l st seen values) (p n : ℕ) (lp : p < length (nodes words st)) (ln : n < length (records_of work c 3)) where
  -- a store with a pattern has words, and arguments of all nodes have room
  room : suc (total (λ x. below (get_or (nodes words st) x no_node)) (length (nodes words st))) ≤ st.used
  room = omega (arith, lp, below-words (nodes words st) (length (nodes words st)) (omega arith), H.stored.placed.used)

  module _ (mid : List ℕ) (fresh : Memo) (A : Clears work mid l.seen l.values fresh) where
    -- the other memo can be cleared
    pub second-placed : (l.values ≤ l.end) × (l.end ≤ length mid) × Remembers (lent l.values l.end mid) values
    second-placed = (H.order, omega (arith, H.fits, A.outside.long), rw (lent-behind l.seen l.values work mid A.outside l.values l.end H.order (omega arith) H.fits) H.values-kept)

    module _ (next : List ℕ) (bare : Memo) (B : Clears mid next l.values l.end bare) where
      -- the pair has room
      pub first-room : l.pairs + 2 * 0 + 1 < length next
      first-room = omega (arith, room, H.pairs, H.table, H.order, H.fits, A.outside.long, B.outside.long)

      module _ (first : List ℕ) (W : first ≡ set (set next (l.pairs + 2 * 0) p) (l.pairs + 2 * 0 + 1) n) where
        -- what the pair's words leave
        pair_outside : Outside l.pairs l.seen next first
        pair_outside =
            let i : ℕ = l.pairs + 2 * 0 in
            rw W (outside_then l.pairs l.seen next (set next i p) (set (set next i p) (i + 1) n)
            (outside_set l.pairs l.seen next i p (omega arith) (omega (arith, room, H.pairs)))
            (outside_set l.pairs l.seen (set next i p) (i + 1) n (omega arith) (omega (arith, room, H.pairs))))

        -- the tables stand one behind the other
        wide : l.pairs ≤ l.seen
        wide = omega (arith, H.pairs)

        -- and so
        wider : l.seen ≤ l.values
        wider = omega (arith, H.table)

        -- what the start leaves
        pub first-kept : Kept l fresh bare work first
        first-kept =
            let lm = A.outside.long in
            let ln = B.outside.long in
            let s1 = lent-before l.values l.end mid next B.outside l.seen l.values wider (omega arith) (omega (arith, H.order, H.fits)) in
            let s2 = lent-behind l.pairs l.seen next first pair_outside l.seen l.values wider (omega arith) (omega (arith, H.order, H.fits)) in
            let v2 = lent-behind l.pairs l.seen next first pair_outside l.values l.end H.order wider (omega (arith, H.fits)) in
            record {
              outside = outside_then l.pairs l.end work mid first (outside_wider l.seen l.values l.pairs l.end work mid wide H.order A.outside)
                  (outside_then l.pairs l.end mid next first (outside_wider l.values l.end l.pairs l.end mid next (omega (arith, wide, wider)) (omega arith) B.outside)
                  (outside_wider l.pairs l.seen l.pairs l.end next first (omega arith) (omega (arith, wider, H.order)) pair_outside));
              seen-kept = rw (s2, s1) A.remembers;
              values-kept = rw v2 B.remembers;
            }

        -- no values
        first_memos : Memos first l fresh bare [] []
        unfolding value_of
        first_memos =
            let lm = A.outside.long in
            let ln = B.outside.long in
            record {
              seen_are = λ q.
                  recall-behind l.pairs l.seen next first pair_outside l.seen l.values wider (omega arith) (omega (arith, H.order, H.fits)) fresh q
                  ∙ recall-before l.values l.end mid next B.outside l.seen l.values wider (omega arith) (omega (arith, H.order, H.fits)) fresh q ∙ A.empty q;
              values_are = λ k. recall-behind l.pairs l.seen next first pair_outside l.values l.end H.order wider (omega (arith, H.fits)) bare k ∙ B.empty k;
            }

        -- one pair
        first_pairs : pairs_in l.pairs first 1 ≡ beside p n ∷ []
        unfolding pairs_in
        first_pairs = ap (λ (w : List ℕ). pairs_in l.pairs w 1) W ∙ pairs_more l.pairs next 0 p n first-room

        -- it gives the whole
        first-left : (P : Pack) → Reads bytes (records_of work c) P → Proper P → Left P first words l st fresh bare p n 1 [] []
        first-left P R G =
            let s = nodes words st in
            let there : n < length P.nodes = omega (arith, ln, length-nodes bytes (records_of work c) P R) in
            let e = sym first_pairs in
            record {
              memos = first_memos;
              leads = subst (λ (ps : List Pair). Leads P s (length s) p n (matching ps [] [])) e (leads_first P s G.good G.once H.patterns.earlier (length s) p n (omega arith) there lp);
              there = there;
              most = subst (λ (ps : List Pair). matches_left s (length s) (matching ps [] []) ≤ st.used) e (omega (arith, room, left-most (λ x. below (get_or s x no_node)) (length s) []));
            }

        -- the same pack is read
        first_reads : (P : Pack) → Reads bytes (records_of work c) P → Reads bytes (records_of first c) P
        first_reads P R = given_reads bytes work words c l st seen values H l.pairs l.end first (omega arith) first-kept.outside P R

        -- the pair can be taken
        pub first_ready : Ready bytes first words c l st fresh bare 0
        first_ready = record {
          given = given_on bytes work words c l st seen values H first fresh bare first-kept;
          pattern = p;
          closed = n;
          was = [];
          bindings = [];
          left = first-left H.held.pack H.held.reads H.held.proper;
        }

        -- nothing was written since
        pub first_stays : Kept l fresh bare first first
        first_stays = record { outside = outside_none _ _ _; seen-kept = first-kept.seen-kept; values-kept = first-kept.values-kept }

        -- all turns were taken
        pub matches_done : (work' : List ℕ) → Going bytes first work' words c l st fresh bare 0 → Matches bytes work work' words c l st p n (Some (fresh, bare))
        matches_done work' G = (
          record { outside = outside_then l.pairs l.end work first work' first-kept.outside G.kept.outside; seen-kept = G.kept.seen-kept; values-kept = G.kept.values-kept },
          λ P R g.
              let t = G.state P (first_reads P R) g p n [] [] (first-left P R g) in
              left-done P g work' words l st fresh bare H.patterns p n t.0 t.1 t.2,
        )

        -- one differs
        pub matches_differs : (now' work' : List ℕ) (top : ℕ) → Going bytes first now' words c l st fresh bare (suc top) → TakesPair bytes now' work' words c l st fresh bare top None → Matches bytes work work' words c l st p n None
        matches_differs now' work' top G M = (
          outside_then l.pairs l.end work first work' first-kept.outside (outside_then l.pairs l.end first now' work' G.kept.outside M.0.outside),
          λ P R g.
              let t = G.state P (first_reads P R) g p n [] [] (first-left P R g) in
              left_stop P g now' words l st fresh bare H.patterns p n top t.0 t.1 t.2 (M.1 P (going_reads bytes first now' words c l st fresh bare top first_ready G P (first_reads P R)) t.0 t.1 t.2.memos),
        )
