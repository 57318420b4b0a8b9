-- Between two steps of building, and behind the last.
use Rattle.std.specs.Prelude.{Option as Optional, Some, None}
use Rattle.std.specs.Prelude.{◌≡◌, refl, List, ℕ, ◌+◌, ◌<◌, length}
use Rattle.std.proofs.Common.{sym, ap, ◌∙◌, arith}
use Rattle.definition.specs.Pack.{Pack}
use Rattle.definition.specs.Verdict.{Bound}
use Rattle.definition.specs.Store.{pattern_words}
use Rattle.emission.specs.Patterns.{BuiltAll}
use Rattle.base.specs.Outside.{Outside, outside_none, outside_then}
use Rattle.pack_tables.specs.Catalog.{records_of}
use Rattle.pack_tables.specs.SameTables.{Same}
use Rattle.pack_read.specs.Reads.{Reads}
use Rattle.pack_read.specs.Held.{held_on, reads_on}
use Rattle.store.specs.Stored.{Stored, nodes}
use Rattle.store.specs.declared.nodes.Store.{Store}
use Rattle.memo.specs.Lent.{lent}
use Rattle.emit_maps.specs.Map.{Mapped, mapped_same}
use Rattle.emit_match.specs.declared.places.Matching.{Matching}
use Rattle.emit_premises.specs.Open.{Opened, whole}
use Rattle.emit_premises.specs.Amid.{Amid, to_come}
use Rattle.emit_premises.specs.Turned.{Goes, OfBuilding, Site, Asked, Turned, Leaves}
use Rattle.emit_premises.specs.Ended.{Ended, Rests}
use Rattle.emit_premises.specs.declared.building.Building.{Building}
use Rattle.emit_premises.specs.declared.turn.Turn.{Turn}
use Rattle.emit_premises.specs.declared.turn.Turn.TheVariants.{Next, Full, Lacks}
use Rattle.emit_premises.specs.declared.build.Built.TheVariants.{All, Lacks as Misses}

-- what stays where only the store's index is written
module _ (bytes work words : List ℕ) (m : Matching) (st : Store) (S : Site bytes work words m st) (work' : List ℕ) (O : Outside m.index m.end work work') where
  -- the pack's tables
  pub site_same : Same work work' m.catalog
  site_same = record { long = O.long; words = λ i l. O.ahead i (omega (arith, S.tables)) }

  -- the pack
  pub site_reads : (P : Pack) → Reads bytes (records_of work m.catalog) P → Reads bytes (records_of work' m.catalog) P
  site_reads P R = reads_on bytes work work' m.catalog site_same S.held.cataloged P R

  -- the values
  pub site_values : (bs : List Bound) → Mapped work m.values 64 bs → Mapped work' m.values 64 bs
  site_values bs M = mapped_same work work' m.values 64 bs M (λ k l. O.behind (m.values + k) (omega (arith, S.behind)))

  -- all of it, with the patterns that the store now has
  abbrev pub site_on : (words' : List ℕ) (st' : Store) → Stored (lent m.index m.end work') words' st' → Site bytes work' words' m st'
  site_on words' st' T = record {
    held = held_on bytes work work' m.catalog site_same S.held;
    stored = T;
    tables = S.tables;
    order = S.order;
    behind = S.behind;
    room = omega (arith, S.room, O.long);
  }

-- with the symbols now open, as much is to come as at first
pub record Going (bytes work work' words words' stack stack' : List ℕ) (m : Matching) (r : ℕ) (b b' : Building) : Type 0 where
  pub outside : Outside m.index m.end work work'
  pub stored : Stored (lent m.index m.end work') words' b'.store
  pub long : length words' ≡ length words
  pub high : length stack' ≡ length stack
  pub rest : OfBuilding bytes work stack m.catalog m.values r b (λ P bs f fs. (g : Opened) × (gs : List Opened) × Amid P r stack' b' g gs × (whole g gs bs (nodes words' b'.store) ≡ whole f fs bs (nodes words b.store)))

module _ (bytes work words stack : List ℕ) (m : Matching) (r vars : ℕ) (b : Building) (A : Asked bytes work words stack m r vars b) where
  -- ahead of the first
  pub going_none : Going bytes work work words words stack stack m r b b
  going_none = record { outside = outside_none m.index m.end work; stored = A.site.stored; long = refl; high = refl; rest = λ P R Q l bs M f fs N. (f, fs, N, refl) }

  module _ (work' words' stack' : List ℕ) (b' : Building) (K : Going bytes work work' words words' stack stack' m r b b') where
    -- a step can be asked for
    pub going_asked : Asked bytes work' words' stack' m r vars b'
    going_asked =
        let H = A.site.held in
        let g = K.rest H.pack H.reads H.proper A.rule A.values A.mapped A.inner A.outer A.amid in
        record {
          site = site_on bytes work words m b.store A.site work' K.outside words' b'.store K.stored;
          long = K.high ∙ A.long;
          rule = A.rule;
          variables = A.variables;
          inner = g.0;
          outer = g.1;
          amid = g.2;
          values = A.values;
          mapped = site_values bytes work words m b.store A.site work' K.outside A.values A.mapped;
        }

    module _ (work'' words'' stack'' : List ℕ) (t : Optional Turn) (T : Turned bytes work' words' words'' stack' stack'' m r b' t) (L : Leaves work' work'' words'' m b' t) where
      -- what it comes to, from the first on
      went : OfBuilding bytes work stack m.catalog m.values r b (λ P bs f fs. (g : Opened) × (gs : List Opened) × (whole g gs bs (nodes words' b'.store) ≡ whole f fs bs (nodes words b.store)) × Goes P r bs words' words'' stack' stack'' b' g gs t)
      went P R Q l bs M f fs N =
          let g = K.rest P R Q l bs M f fs N in
          let S = A.site in
          (g.0, g.1, g.3, T P (site_reads bytes work words m b.store S work' K.outside P R) Q l bs (site_values bytes work words m b.store S work' K.outside bs M) g.0 g.1 g.2)

      -- only the store's index was written since
      pub went_outside : Outside m.index m.end work work''
      went_outside = outside_then m.index m.end work work' work'' K.outside L.0

    module _ (work'' words'' stack'' : List ℕ) where
      -- there is less to come
      pub going_less : (b'' : Building) → Turned bytes work' words' words'' stack' stack'' m r b' (Some (Next b'')) → Leaves work' work'' words'' m b' (Some (Next b'')) → to_come b'' < to_come b'
      going_less b'' T L =
          let H = A.site.held in
          (went work'' words'' stack'' (Some (Next b'')) T L H.pack H.reads H.proper A.rule A.values A.mapped A.inner A.outer A.amid).3.4

      -- a step more
      pub going_more : (b'' : Building) → length words'' ≡ length words' → length stack'' ≡ length stack' → Turned bytes work' words' words'' stack' stack'' m r b' (Some (Next b'')) → Leaves work' work'' words'' m b' (Some (Next b''))
          → Going bytes work work'' words words'' stack stack'' m r b b''
      going_more b'' e h T L = record {
        outside = went_outside work'' words'' stack'' (Some (Next b'')) T L;
        stored = L.1;
        long = e ∙ K.long;
        high = h ∙ K.high;
        rest = λ P R Q l bs M f fs N. let g = went work'' words'' stack'' (Some (Next b'')) T L P R Q l bs M f fs N in (g.3.0, g.3.1, g.3.2, sym g.3.3 ∙ g.2);
      }

      -- all are built
      pub going_full : Turned bytes work' words' words'' stack' stack'' m r b' (Some Full) → Leaves work' work'' words'' m b' (Some Full) → Ended bytes work words words'' stack stack'' m r b (Some (All b'.store)) × Rests work work'' words'' m (Some (All b'.store))
      going_full T L = (
        (λ P R Q l bs M f fs N. let g = went work'' words'' stack'' (Some Full) T L P R Q l bs M f fs N in (g.3.0, sym g.2 ∙ g.3.1, g.3.2, g.3.3)),
        (went_outside work'' words'' stack'' (Some Full) T L, L.1),
      )

      -- a variable has no value
      pub going_lacks : Turned bytes work' words' words'' stack' stack'' m r b' (Some Lacks) → Leaves work' work'' words'' m b' (Some Lacks) → Ended bytes work words words'' stack stack'' m r b (Some (Misses b'.store)) × Rests work work'' words'' m (Some (Misses b'.store))
      going_lacks T L = ((λ P R Q l bs M f fs N. let g = went work'' words'' stack'' (Some Lacks) T L P R Q l bs M f fs N in sym g.2 ∙ g.3), (went_outside work'' words'' stack'' (Some Lacks) T L, L.1))

      -- there is no room
      pub going_short : Turned bytes work' words' words'' stack' stack'' m r b' None → Leaves work' work'' words'' m b' None → Ended bytes work words words'' stack stack'' m r b None × Rests work work'' words'' m None
      going_short T L = (
        (λ P R Q l bs M f fs N.
            let g = went work'' words'' stack'' None T L P R Q l bs M f fs N in
            omega (arith, g.3, K.long, ap (λ (o : BuiltAll). length (pattern_words o.store)) g.2)),
        (went_outside work'' words'' stack'' None T L, tt),
      )
