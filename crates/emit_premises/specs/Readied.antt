-- What a state that the buffers hold gives to matching a rule and to building its premises.
use Rattle.std.proofs.Common.{ap, arith}
use Rattle.std.specs.Prelude.{List, ℕ, ◌+◌, ◌<◌, length}
use Rattle.definition.specs.Pack.{prop}
use Rattle.emission.specs.State.{Emitter}
use Rattle.base.specs.Outside.{outside_wider}
use Rattle.store.specs.Stored.{nodes}
use Rattle.emit_theory.specs.Stores.{SortedStore}
use Rattle.emit_theory.specs.Search.Proving.{Has}
use Rattle.emit_match.specs.Places.{Given, Stays, stays_outside}
use Rattle.emit_state.specs.Places.{Small, small_places, matching_of, walk_at, scratch_end, values_at, pending_at}
use Rattle.emit_state.specs.Holding.{lends, World, Holding, Ready}
use Rattle.emit_state.specs.Frame.{holding_scratch}
use Rattle.emit_state.specs.declared.places.Places.{Places}
use Rattle.emit_state.specs.declared.standing.Standing.{Standing}
use Rattle.emit_premises.specs.Turned.{Site}

module _ (pack work words proof : List ℕ) (l : Places) (m : Standing) (w : World) (e : Emitter) (R : Ready (lends pack work words proof) l m w e) where
  -- all places are small
  pub ready_small : Small l
  ready_small = small_places work l R.holding.laid

  -- the store is well sorted
  pub ready_sorted : SortedStore w.setting.pack (nodes words m.store)
  ready_sorted = rw R.holding.nodes_are R.sound.sorted

  -- a rule can be matched
  abbrev pub ready_given : Given pack work words (matching_of l m.store)
  ready_given =
      let H = R.holding in
      let L = H.laid in
      record {
        held = record { cataloged = H.cataloged; pack = w.setting.pack; reads = H.reads; proper = H.proper };
        sorted = ready_sorted;
        order = omega arith;
        stored = H.stored;
        tables = omega (arith, L.tables, L.index);
        behind = omega (arith, L.index);
        laid = record { apart = omega arith; room = omega (arith, L.within) };
      }

  -- a judgment is a pattern
  pub ready_pattern : (j : ℕ) → Has w.setting e prop j → j < length (nodes words m.store)
  ready_pattern j h = omega (arith, ap length R.holding.nodes_are, h.stored)

  -- and there is room for it
  pub ready_room : (j : ℕ) → Has w.setting e prop j → j < l.room
  ready_room j h = let H = R.holding in let n = ap length H.nodes_are in omega (arith, h.stored, H.stored.ranged.half, H.stored.ranged.most, H.room_is)

  -- once a rule was matched
  module _ (work₁ : List ℕ) (Y : Stays (matching_of l m.store) work work₁) where
    -- the same state is held
    pub ready_matched : Holding (lends pack work₁ words proof) l m w e
    ready_matched =
        holding_scratch (lends pack work words proof) l m w e R.holding work₁
        (outside_wider (values_at l) (pending_at l + 256) (walk_at l) (scratch_end l) work work₁ (omega arith) (omega arith) (stays_outside (matching_of l m.store) work work₁ Y))

    -- its premises can be built
    abbrev pub ready_site : Site pack work₁ words (matching_of l m.store) m.store
    ready_site =
        let H = ready_matched in
        let L = H.laid in
        record {
          held = record { cataloged = H.cataloged; pack = w.setting.pack; reads = H.reads; proper = H.proper };
          stored = H.stored;
          tables = L.tables;
          order = omega arith;
          behind = omega (arith, L.index);
          room = omega (arith, L.within);
        }
