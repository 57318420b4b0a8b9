-- The turns together: what is left gives the whole, and with each turn less is left.
use Rattle.std.specs.Prelude.{Some, None}
use Rattle.std.specs.Prelude.{◌≡◌, ℕ, suc, ◌+◌, ◌*◌, ◌-◌, ◌≤◌, ◌<◌, length, set}
use Rattle.std.proofs.Common.{sym, subst, ◌∙◌, arith}
use Rattle.std.proofs.Math.Path.{ap}
use mathlib.Core.List.{List, [], ◌∷◌}
use Rattle.std.proofs.Math.Option.{Option, none, some}
use Rattle.definition.specs.Pack.{Pack}
use Rattle.definition.specs.Good.{Below}
use Rattle.definition.specs.Verdict.{Bound}
use Rattle.definition.specs.Graph.{Graph, Pair, vertex}
use Rattle.definition.specs.Analysis.{valued}
use Rattle.term_values.specs.Words.{values_end, table_in, Stands, Framed, Values, Says, stands_pair, table-room, framed_same, values_on}
use Rattle.base.specs.Outside.{outside_none, outside_then}
use Rattle.pack_tables.specs.Catalog.{records_of}
use Rattle.pack_tables.specs.declared.catalog.Catalog.{Catalog}
use Rattle.pack_read.specs.Reads.{Reads, length-nodes}
use Rattle.pack_read.specs.Held.{OfHeld, reads_on}
use Rattle.theory.specs.Walks.Ahead.{beside, lefts, rights}
use Rattle.theory.specs.Walks.Valuing.{valuing, pairs_left, total-cells, left-most}
use Rattle.graph.specs.declared.graph.Graph.{Graph as Counts}
use Rattle.graph.specs.Cells.{rows_end}
use Rattle.base.specs.Pairs.{pairs_in, pairs_more}
use Rattle.graph.specs.Pushes.{cells_shown}
use Rattle.graph.specs.Inner.{many-nodes}
use Rattle.term_values.specs.declared.values.Valued.{Valued}
use Rattle.term_values.specs.declared.fix.Fixed.{Fixed}
use Rattle.term_values.specs.declared.fix.Fixed.TheVariants.{Done, Differs}
use Rattle.term_values.specs.Stores.{PutsPair}
use Rattle.term_values.specs.Takes.{Left, Ready, Takes}
use Rattle.term_values.specs.Turns.{left_in_lent, left_on, left_stop, left-done}

-- what fixing answers: the values that there are then, or that there are none; they are those of `valued`, of whatever pack, graph and values were held
abbrev pub Fixes : (bytes work work' words : List ℕ) (c : Catalog) (l : Valued) (s : Counts) (x n : ℕ) → Fixed → Type 0
Fixes bytes work work' words c l s x n Done =
    Framed words l work work' × Says bytes work words c l s (λ P h vs. (ws : List Bound) × (valued (suc (length h)) P h (x ∷ []) (n ∷ []) vs ≡ some ws) × Stands words (table_in l work') s h ws)
Fixes bytes work work' words c l s x n Differs = Framed words l work work' × Says bytes work words c l s (λ P h vs. valued (suc (length h)) P h (x ∷ []) (n ∷ []) vs ≡ none)

-- ---- the turns together
pub record Going (bytes before work words : List ℕ) (c : Catalog) (l : Valued) (s : Counts) (top : ℕ) : Type 0 where
  pub framed : Framed words l before work
  pub state : OfHeld bytes before c (λ P. (h : Graph) (vs : List Bound) (o : Option (List Bound)) → Left P words (table_in l before) s h vs 1 o → (ws : List Bound) × Left P words (table_in l work) s h ws top o)

-- no turn yet
pub going_none : (bytes before words : List ℕ) (c : Catalog) (l : Valued) (s : Counts) → Going bytes before before words c l s 1
going_none bytes before words c l s = record { framed = outside_none l.at (l.at + values_end words) before; state = λ P R p h vs o L. (vs, L) }

-- the last of some pairs
pub going_at : (bytes before work words : List ℕ) (c : Catalog) (l : Valued) (s : Counts) (top : ℕ) → 0 < top → Going bytes before work words c l s top → Going bytes before work words c l s (suc (top - 1))
going_at bytes before work words c l s top h G = let e : top ≡ suc (top - 1) = omega arith in subst (λ (k : ℕ). Going bytes before work words c l s k) e G

module _ (bytes before work words : List ℕ) (c : Catalog) (l : Valued) (s : Counts) (top : ℕ) (B : Ready bytes before words c l s 0) (G : Going bytes before work words c l s (suc top)) where
  -- the same pack is read
  going_reads : (P : Pack) → Reads bytes (records_of before c) P → Reads bytes (records_of work c) P
  going_reads P R = reads_on bytes before work c (framed_same words l before work c B.values.apart G.framed) B.values.held.cataloged P R

  -- what stands at the start comes to what is left now
  going_left : (ws : List Bound) × Left B.values.held.pack words (table_in l work) s B.values.graph ws (suc top) B.whole
  going_left = let H = B.values in G.state H.held.pack H.held.reads H.held.proper H.graph H.values B.whole B.left

  -- the next pair can be taken
  pub going_ready : Ready bytes work words c l s top
  going_ready =
      let H = B.values in
      let H' = values_on bytes before work words c l s H G.framed going_left.0 going_left.1.stands in
      record {
        values = record {
          held = record { cataloged = H'.held.cataloged; pack = H.held.pack; reads = going_reads H.held.pack H.held.reads; proper = H.held.proper };
          apart = H.apart;
          placed = H'.placed;
          graph = H.graph;
          values = going_left.0;
          stands = going_left.1.stands;
        };
        whole = B.whole;
        left = going_left.1;
      }

  -- a turn more
  module _ (work' : List ℕ) (more : ℕ) (M : Takes bytes work work' words c l s top (Some more)) where
    -- what is left still gives the whole
    pub going_on : Going bytes before work' words c l s more
    going_on = record {
      framed = outside_then l.at (l.at + values_end words) before work work' G.framed M.0;
      state = λ P R p h vs o L.
          let t = G.state P R p h vs o L in
          let m = M.1 P (going_reads P R) p h t.0 t.1.stands in
          (m.0, (left_on P words (table_in l work) s h t.0 top o t.1 p (table_in l work') more m.0 m.1 m.2).0);
    }

    -- and less is left
    pub going_less : more + left_in_lent words (table_in l work') s < suc top + left_in_lent words (table_in l work) s
    going_less =
        let H = B.values in
        let P = H.held.pack in
        let t = going_left in
        let m = M.1 P (going_reads P H.held.reads) H.held.proper H.graph t.0 t.1.stands in
        (left_on P words (table_in l work) s H.graph t.0 top B.whole t.1 H.held.proper (table_in l work') more m.0 m.1 m.2).1

-- ---- the first pair
module _ (bytes work words : List ℕ) (c : Catalog) (l : Valued) (s : Counts) (x n : ℕ) (H : Values bytes work words c l s) (lx : x < s.nodes) (ln : n < length (records_of work c 3)) (first : List ℕ) (W : PutsPair words work first l 0 x n) where
  -- it stands alone
  first_pairs : pairs_in (rows_end words) (table_in l first) 1 ≡ beside x n ∷ []
  unfolding pairs_in
  first_pairs = ap (λ (t : List ℕ). pairs_in (rows_end words) t 1) W.0 ∙ pairs_more (rows_end words) (table_in l work) 0 x n (omega (arith, table-room words work l H.placed))

  -- what was held is held still
  first_stands : (h : Graph) (vs : List Bound) → Stands words (table_in l work) s h vs → Stands words (table_in l first) s h vs
  first_stands h vs S =
      let i : ℕ = rows_end words + 2 * 0 in
      let a = stands_pair words (table_in l work) s h vs S i x (omega arith) (omega arith) in
      let b = stands_pair words (set (table_in l work) i x) s h vs a (i + 1) n (omega arith) (omega arith) in
      subst (λ (t : List ℕ). Stands words t s h vs) (sym W.0) b

  -- it gives the whole
  first-left : (P : Pack) → Reads bytes (records_of work c) P → (h : Graph) (vs : List Bound) → Stands words (table_in l work) s h vs → Left P words (table_in l first) s h vs 1 (valued (suc (length h)) P h (x ∷ []) (n ∷ []) vs)
  first-left P R h vs S =
      let e = sym first_pairs in
      let many = many-nodes words (table_in l work) s h S.shows in
      record {
        stands = first_stands h vs S;
        nodes = subst (λ (ps : List Pair). Below (length h) (lefts ps)) e (omega (arith, lx, many), tt);
        grounds = subst (λ (ps : List Pair). Below (length P.nodes) (rights ps)) e (omega (arith, ln, length-nodes bytes (records_of work c) P R), tt);
        rest = ap (λ (ps : List Pair). valued (suc (length h)) P h (lefts ps) (rights ps) vs) first_pairs;
        most = subst (λ (ps : List Pair). pairs_left h (length h) (valuing ps vs) ≤ length words + 1) e
            (omega (arith, left-most (λ x. (vertex h x).args) (length h) vs, total-cells h, cells_shown words (table_in l work) s h S.shows, S.shows.laid.fits));
      }

  -- the same pack is read
  first_reads : (P : Pack) → Reads bytes (records_of work c) P → Reads bytes (records_of first c) P
  first_reads P R = reads_on bytes work first c (framed_same words l work first c H.apart W.1) H.held.cataloged P R

  -- it can be taken
  pub first_ready : Ready bytes first words c l s 0
  first_ready =
      let H' = values_on bytes work first words c l s H W.1 H.values (first_stands H.graph H.values H.stands) in
      record {
        values = record {
          held = record { cataloged = H'.held.cataloged; pack = H.held.pack; reads = first_reads H.held.pack H.held.reads; proper = H.held.proper };
          apart = H.apart;
          placed = H'.placed;
          graph = H.graph;
          values = H.values;
          stands = first_stands H.graph H.values H.stands;
        };
        whole = valued (suc (length H.graph)) H.held.pack H.graph (x ∷ []) (n ∷ []) H.values;
        left = first-left H.held.pack H.held.reads H.graph H.values H.stands;
      }

  -- all turns were taken
  pub fixes_done : (work' : List ℕ) → Going bytes first work' words c l s 0 → Fixes bytes work work' words c l s x n Done
  fixes_done work' G = (
    outside_then l.at (l.at + values_end words) work first work' W.1 G.framed,
    λ P R p h vs S.
        let o = valued (suc (length h)) P h (x ∷ []) (n ∷ []) vs in
        let t = G.state P (first_reads P R) p h vs o (first-left P R h vs S) in
        (t.0, left-done P words (table_in l work') s h t.0 o t.1, t.1.stands),
  )

  -- one differs
  pub fixes_differs : (mid work' : List ℕ) (top : ℕ) → Going bytes first mid words c l s (suc top) → Takes bytes mid work' words c l s top None → Fixes bytes work work' words c l s x n Differs
  fixes_differs mid work' top G M = (
    outside_then l.at (l.at + values_end words) work first work' W.1 (outside_then l.at (l.at + values_end words) first mid work' G.framed M.0),
    λ P R p h vs S.
        let o = valued (suc (length h)) P h (x ∷ []) (n ∷ []) vs in
        let t = G.state P (first_reads P R) p h vs o (first-left P R h vs S) in
        left_stop P words (table_in l mid) s h t.0 top o t.1 (M.1 P (going_reads bytes first mid words c l s top first_ready G P (first_reads P R)) p h t.0 t.1.stands),
  )
