-- Arguments side by side are put on the worklist, the first ones on top.
use Rattle.std.specs.Prelude.{◌≡◌, refl, List, ◌∷◌, ℕ, suc, ◌+◌, ◌*◌, ◌-◌, ◌≤◌, ◌<◌, length, get_or, set, take}
use Rattle.std.proofs.Common.{sym, ap, ap₂, subst, ◌∙◌, arith}
use Rattle.std.proofs.Math.Option.{some}
use Rattle.definition.specs.Pack.{Pack, node_of}
use Rattle.definition.specs.Graph.{Pair, vertex}
use Rattle.term_values.specs.Words.{values_end, table_in, Stands, Framed, Values, Says, stands_pair, table-room, framed_same, values_on}
use Rattle.base.specs.Outside.{outside_none, outside_then}
use Rattle.pack_tables.specs.Catalog.{records_of, Cataloged}
use Rattle.pack_tables.specs.Place.{Place}
use Rattle.pack_tables.specs.SameTables.{end_of, same-records}
use Rattle.pack_tables.specs.declared.catalog.Catalog.{Catalog}
use Rattle.pack_read.specs.Reads.{Reads}
use Rattle.pack_read.specs.Says.{Readable, OfPack}
use Rattle.pack_read.specs.Held.{reads_on}
use Rattle.theory.specs.Walks.Ahead.{beside, ahead, ahead-turn, ahead-all, ahead_none}
use Rattle.graph.specs.declared.graph.Graph.{Graph as Counts}
use Rattle.graph.specs.Cells.{start_in, rows_end}
use Rattle.graph.specs.Nodes.{ArityOf, ArgumentOf, argument_there}
use Rattle.base.specs.Pairs.{pairs_in, pairs_more}
use Rattle.term_values.specs.declared.values.Valued.{Valued}
use Rattle.term_values.specs.Stores.{PutsPair}

-- as many nodes are recorded where nothing ahead of the table has changed
pub ground_on : (bytes work work' words : List ℕ) (c : Catalog) (l : Valued) (n : ℕ) → Cataloged bytes work c → end_of c ≤ l.at → Framed words l work work' → n < length (records_of work c 3) → n < length (records_of work' c 3)
ground_on bytes work work' words c l n C h A m = omega (arith, m, ap (λ (ps : List Place). length ps) (same-records work work' c (framed_same words l work work' c h A) C.fits 3 (omega arith)))

-- ---- `push_arguments`: what it asks, and promises
pub record Pushable (bytes work words : List ℕ) (c : Catalog) (l : Valued) (s : Counts) (top r n k : ℕ) : Type 0 where
  pub values : Values bytes work words c l s
  pub node : r < s.nodes
  pub closed : n < length (records_of work c 3)
  pub arity : ArityOf words (table_in l work) s r k
  pub many : OfPack bytes work c (λ P. length (node_of P n).args) k
  pub room : top + k ≤ length words + 1

-- the arguments of r and n stand ahead of the pairs, and what is held is held still
abbrev pub Pushes : (bytes work work' words : List ℕ) (c : Catalog) (l : Valued) (s : Counts) (top r n m : ℕ) → Type 0
Pushes bytes work work' words c l s top r n m =
    Framed words l work work'
    × Says bytes work words c l s (λ P h vs. Stands words (table_in l work') s h vs
    × (ahead (vertex h r).args (node_of P n).args (pairs_in (rows_end words) (table_in l work) top) ≡ some (pairs_in (rows_end words) (table_in l work') m)))

-- with i arguments still to be put there, what is left gives the whole
pub record Pushing (bytes before work words : List ℕ) (c : Catalog) (l : Valued) (s : Counts) (top r n k on i : ℕ) : Type 0 where
  pub low : i ≤ k
  pub count : on + i ≡ top + k
  pub framed : Framed words l before work
  pub rest : Says bytes before words c l s (λ P h vs. Stands words (table_in l work) s h vs
      × (ahead (take i (vertex h r).args) (take i (node_of P n).args) (pairs_in (rows_end words) (table_in l work) on) ≡ ahead (vertex h r).args (node_of P n).args (pairs_in (rows_end words) (table_in l before) top)))

module _ (bytes before words : List ℕ) (c : Catalog) (l : Valued) (s : Counts) (top r n k : ℕ) (Q : Pushable bytes before words c l s top r n k) where
  -- none was put there
  pub pushing_none : Pushing bytes before before words c l s top r n k top k
  pushing_none = record {
    low = omega arith;
    count = refl;
    framed = outside_none l.at (l.at + values_end words) before;
    rest = λ P R p h vs S. (S, ahead-all (vertex h r).args (node_of P n).args k (pairs_in (rows_end words) (table_in l before) top) (sym (Q.arity h S.shows)) (sym (Q.many P R)));
  }

  module _ (work : List ℕ) (on i : ℕ) (K : Pushing bytes before work words c l s top r n k on i) where
    -- what is held now
    pub pushing_stands : Stands words (table_in l work) s Q.values.graph Q.values.values
    pushing_stands = let H = Q.values in (K.rest H.held.pack H.held.reads H.held.proper H.graph H.values H.stands).0

    -- in work
    pub pushing_values : Values bytes work words c l s
    pushing_values = values_on bytes before work words c l s Q.values K.framed Q.values.values pushing_stands

    -- the same pack is read
    pub reads_now : (P : Pack) → Reads bytes (records_of before c) P → Reads bytes (records_of work c) P
    reads_now P R = reads_on bytes before work c (framed_same words l before work c Q.values.apart K.framed) Q.values.held.cataloged P R

    -- as it is read
    abbrev pub pushing_readable : Readable bytes work c
    pushing_readable = record { cataloged = pushing_values.held.cataloged; pack = Q.values.held.pack; reads = reads_now Q.values.held.pack Q.values.held.reads }

    -- n is a ground node still
    pub pushing_ground : n < length (records_of work c 3)
    pushing_ground = ground_on bytes before work words c l n Q.values.held.cataloged Q.values.apart K.framed Q.closed

    module _ (more : 0 < i) where
      -- the last argument that is left, of either
      pub pushing_argument : start_in (table_in l work) r + 1 + (i - 1) < start_in (table_in l work) (r + 1)
      pushing_argument =
          let H = Q.values in
          argument_there words (table_in l work) s H.graph pushing_stands.shows r Q.node (i - 1) (omega (arith, Q.arity H.graph H.stands.shows, K.low))

      -- of the ground node
      pub pushing_beside : i - 1 < length (node_of Q.values.held.pack n).args
      pushing_beside = let H = Q.values.held in omega (arith, Q.many H.pack H.reads, K.low)

      -- it has room
      pub pushing_room : on ≤ length words
      pushing_room = omega (arith, K.count, Q.room)

      -- it is put there
      pub pushing_more : (x m : ℕ) → ArgumentOf words (table_in l work) s r (i - 1) x → OfPack bytes work c (λ P. get_or (node_of P n).args (i - 1) 0) m → (work' : List ℕ) → PutsPair words work work' l on x m
          → Pushing bytes before work' words c l s top r n k (on + 1) (i - 1)
      pushing_more x m A B work' W =
          let table : List ℕ = table_in l work in
          let at : ℕ = rows_end words + 2 * on in
          record {
            low = omega (arith, K.low);
            count = omega (arith, K.count);
            framed = outside_then l.at (l.at + values_end words) before work work' K.framed W.1;
            rest = λ P R p h vs S.
                let xs : List ℕ = (vertex h r).args in
                let ns : List ℕ = (node_of P n).args in
                let w : List Pair = pairs_in (rows_end words) table on in
                let t = K.rest P R p h vs S in
                let first = stands_pair words table s h vs t.0 at x (omega arith) (omega (arith, pushing_room)) in
                let second = stands_pair words (set table at x) s h vs first (at + 1) m (omega arith) (omega (arith, pushing_room)) in
                let e : on + 1 ≡ suc on = omega arith in
                let f : suc (i - 1) ≡ i = omega arith in
                let long : rows_end words + 2 * on + 1 < length table = omega (arith, table-room words work l pushing_values.placed, pushing_room) in (
                  subst (λ (u : List ℕ). Stands words u s h vs) (sym W.0) second,
                  ap (λ (u : List ℕ). ahead (take (i - 1) xs) (take (i - 1) ns) (pairs_in (rows_end words) u (on + 1))) W.0
                      ∙ ap (λ (v : List Pair). ahead (take (i - 1) xs) (take (i - 1) ns) v)
                      (ap (pairs_in (rows_end words) (set (set table at x) (at + 1) m)) e ∙ pairs_more (rows_end words) table on x m (omega (arith, long)) ∙ ap₂ (λ (a b : ℕ). beside a b ∷ w) (A h t.0.shows) (B P (reads_now P R)))
                      ∙ ahead-turn xs ns (i - 1) w (omega (arith, Q.arity h S.shows, K.low)) (omega (arith, Q.many P R, K.low))
                      ∙ ap (λ (j : ℕ). ahead (take j xs) (take j ns) w) f
                      ∙ t.1,
                );
          }

    -- all were put there
    pub pushing_all : i ≤ 0 → Pushes bytes before work words c l s top r n on
    pushing_all z = (
      K.framed,
      λ P R p h vs S.
          let t = K.rest P R p h vs S in
          let e : 0 ≡ i = omega arith in
          (t.0, sym t.1 ∙ ap (λ (j : ℕ). ahead (take j (vertex h r).args) (take j (node_of P n).args) (pairs_in (rows_end words) (table_in l work) on)) (sym e) ∙ ahead_none (vertex h r).args (node_of P n).args (pairs_in (rows_end words) (table_in l work) on)),
    )
