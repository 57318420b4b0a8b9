-- One turn as the code takes it, for the pack, graph, values and state that there are.
use Rattle.std.specs.Prelude.{Some, None}
use Rattle.std.specs.Prelude.{◌≡◌, refl, Bool, true, false, List, ℕ, suc, ◌+◌, ◌*◌, ◌≤◌, ◌<◌, eqb, ltb, length, get_or}
use Rattle.std.proofs.Common.{sym, ap, ap₂, ◌∙◌, subst, arith}
use Rattle.definition.specs.Test.{◌and◌}
use Rattle.definition.specs.Store.{nothing}
use Rattle.theory.specs.Walks.Machine.{Walking}
use Rattle.theory.specs.Walks.Resolving.{Resolving}
use Rattle.store.specs.Stored.{nodes, written}
use Rattle.store.specs.Table.{begins_written}
use Rattle.store.specs.declared.nodes.Store.{Store}
use Rattle.base.specs.declared.id.Pattern.{Pattern}
use Rattle.pack_tables.specs.declared.catalog.Catalog.{Catalog}
use Rattle.term_lift.specs.Memo.{frames_same}
use Rattle.term_lift.specs.declared.lift.Lifted.{Lifted}
use Rattle.graph.specs.declared.graph.Graph.{Graph as Counts}
use Rattle.graph.specs.Cells.{rows_end}
use Rattle.term_readback.specs.declared.table.Table.{Table}
use Rattle.term_readback.specs.Words.{patterns_at, table_in, Holding}
use Rattle.term_readback.specs.Moved.{framed_none, framed_moves}
use Rattle.term_readback.specs.Asked.{Asking, CountOf}
use Rattle.term_readback.specs.Roots.{Any, Opening, Notes}
use Rattle.term_readback.specs.Stacks.{Turning, Advances, Entering, Enters}
use Rattle.term_readback.specs.Turns.{room, goes, drops_on, some_args, next-room, taken_few, turned_in, opens, finishes}

module _ (bytes work words cells : List ℕ) (c : Catalog) (l : Lifted) (t : Table) (st : Store) (g : Counts) (n : ℕ) (everyone : Bool) (top : ℕ) where
  -- the table
  abbrev table : List ℕ
  table = table_in t work

  -- the root of the frame on top
  abbrev x : ℕ
  x = get_or table (rows_end cells + 2 * top) 0

  -- its count
  abbrev taken : ℕ
  taken = get_or table (rows_end cells + 2 * top + 1) 0

  module _ (T : Turning bytes work words cells c l t st g n everyone top) where
    -- the frame's words stand in the table
    pub turning_there : (t.at + (rows_end cells + 2 * top + 1) < t.end) × (t.end ≤ length work)
    turning_there =
        let L = T.running.holding.lies in
        (omega (arith, (room bytes work words cells c l t st g n everyone top T.pack T.graph T.sane T.values T.state T.running).0, L.room), L.fits)

    -- the cells are few
    pub turning_small : length cells < nothing
    turning_small = T.running.holding.lies.stands.shows.laid.small

    -- there is room for the frame
    pub turning_top : suc top ≤ length cells
    turning_top = (room bytes work words cells c l t st g n everyone top T.pack T.graph T.sane T.values T.state T.running).0

    -- its root is a node
    pub turning_node : (x < g.nodes) × (x < length cells)
    turning_node =
        let r = room bytes work words cells c l t st g n everyone top T.pack T.graph T.sane T.values T.state T.running in
        let y = (goes bytes work words cells c l t st g n everyone top T.pack T.graph T.sane T.values T.state T.running).0 in
        (omega (arith, r.2), omega (arith, r.1, r.2))

    -- its word stands in the table
    pub turning_word : t.at + (patterns_at cells + x) < t.end
    turning_word = omega (arith, turning_node.1, T.running.holding.lies.room)

    -- it may be asked for
    abbrev pub turning_asking : Asking cells work t g x
    turning_asking =
        let L = T.running.holding.lies in
        record { graph = T.graph; graphed = record { room = L.room; fits = L.fits; shows = L.stands.shows; inner = L.stands.inner; few = L.stands.few }; node = turning_node.0 }

    -- the words are those of the store
    still : words ≡ written (nodes words st) words
    still = begins_written (nodes words st) words T.running.holding.lies.lifts.laid.index.placed.begins

    module _ (b : Bool) (e : b ≡ (eqb taken 0 and ltb 0 (get_or table (patterns_at cells + x) 0))) where
      -- the frame is dropped
      pub turn_passed : b ≡ true → Advances bytes work words work words cells c l t st g n everyone top (Some (top, st, n))
      turn_passed q = (
        framed_none cells work l t,
        still,
        λ P h C vs s R.
            let w = drops_on bytes work words cells c l t st g n everyone top P h C vs s R b e q in
            (subst (λ (u : Resolving). Holding bytes work words cells c l t st g n everyone P h vs u) (sym (ap (λ (v : Walking Resolving). v.state) w)) R.holding, sym (ap (λ (v : Walking Resolving). v.stack) w)),
      )

      -- it is not
      module _ (q : b ≡ false) (k : ℕ) (N : CountOf cells work t g x k) where
        -- an argument's root may get a frame
        pub turn-entering : taken < k → Entering cells work t g top x taken
        turn-entering m = record {
          arguing = record { asking = turning_asking; some = some_args bytes work words cells c l t st g n everyone top T.pack T.graph T.sane T.values T.state T.running b e q k N m };
          is = refl;
          room = next-room bytes work words cells c l t st g n everyone top T.pack T.graph T.sane T.values T.state T.running b e q k N m;
          small = taken_few bytes work words cells c l t st g n everyone top T.pack T.graph T.sane T.values T.state T.running b e q k N m;
        }

        -- it has one
        pub turn_entered : (m : taken < k) (work' : List ℕ) → Enters cells work work' t g top x taken → Advances bytes work words work' words cells c l t st g n everyone top (Some ((top + 2), st, n))
        turn_entered m work' E = (
          framed_moves bytes work words cells c l t st g work' E.moves T.pack T.graph T.values T.running.holding.lies,
          still,
          λ P h C vs s R. turned_in bytes work words cells c l t st g n everyone top P h C vs s R b e q k N m work' E,
        )

        -- none is left
        module _ (m : k ≤ taken) where
          -- the root may be read back
          pub turn-opening : Opening bytes work words cells c l t st g n everyone x Any
          turn-opening = record { pack = T.pack; graph = T.graph; values = T.values; state = T.state; holding = T.running.holding; opened = opens bytes work words cells c l t st g n everyone top T.pack T.graph T.sane T.values T.state T.running b e q k N m; asked = tt }

          module _ (work' words' : List ℕ) where
            -- there is no room for it
            pub turn_short : Notes bytes work words work' words' cells c l t st g n everyone x None → Advances bytes work words work' words' cells c l t st g n everyone top None
            turn_short S = (S.0, λ P h C vs s R. rw (finishes bytes work words cells c l t st g n everyone top P h C vs s R b e q k N m) (S.1 P h vs s R.holding (opens bytes work words cells c l t st g n everyone top P h C vs s R b e q k N m)))

            -- it was
            pub turn_finished : (p : Pattern) (st' : Store) (n' : ℕ) → Notes bytes work words work' words' cells c l t st g n everyone x (Some (p, st', n')) → Advances bytes work words work' words' cells c l t st g n everyone top (Some (top, st', n'))
            turn_finished p st' n' S = (
              S.0,
              S.1,
              λ P h C vs s R.
                  let y = S.2 P h vs s R.holding (opens bytes work words cells c l t st g n everyone top P h C vs s R b e q k N m) in
                  let w = finishes bytes work words cells c l t st g n everyone top P h C vs s R b e q k N m in (
                    subst (λ (u : Resolving). Holding bytes work' words' cells c l t st' g n' everyone P h vs u) (sym (ap (λ (v : Walking Resolving). v.state) w)) y.0,
                    frames_same table (table_in t work') (rows_end cells) top (λ i a z. y.1 i a (omega (arith, turning_top))) ∙ sym (ap (λ (v : Walking Resolving). v.stack) w),
                  ),
            )

    -- ---- the frame's root and count as they were read
    module _ (y u : ℕ) (ey : y ≡ x) (eu : u ≡ taken) where
      -- the root is a node
      pub at-node : (y < g.nodes) × (y < length cells)
      at-node = (omega (arith, turning_node.0), omega (arith, turning_node.1))

      -- its word stands in the table
      pub at-word : t.at + (patterns_at cells + y) < t.end
      at-word = omega (arith, turning_word)

      -- it may be asked for
      pub at_asking : Asking cells work t g y
      at_asking = subst (λ (z : ℕ). Asking cells work t g z) (sym ey) turning_asking

      module _ (b : Bool) (e : b ≡ (eqb u 0 and ltb 0 (get_or table (patterns_at cells + y) 0))) where
        -- whether the frame is dropped
        told : b ≡ (eqb taken 0 and ltb 0 (get_or table (patterns_at cells + x) 0))
        told = e ∙ ap₂ (λ (z v : ℕ). eqb v 0 and ltb 0 (get_or table (patterns_at cells + z) 0)) ey eu

        -- it is
        pub at_passed : b ≡ true → Advances bytes work words work words cells c l t st g n everyone top (Some (top, st, n))
        at_passed q = turn_passed b told q

        module _ (q : b ≡ false) (k : ℕ) (N : CountOf cells work t g y k) where
          -- of that root
          counted : CountOf cells work t g x k
          counted = subst (λ (z : ℕ). CountOf cells work t g z k) ey N

          -- an argument's root may get a frame
          pub at-entering : u < k → Entering cells work t g top y u
          at-entering m = subst (λ (z : ℕ). Entering cells work t g top z u) (sym ey) (subst (λ (v : ℕ). Entering cells work t g top x v) (sym eu) (turn-entering b told q k counted (omega (arith, eu))))

          -- it has one
          pub at_entered : u < k → (work' : List ℕ) → Enters cells work work' t g top y u → Advances bytes work words work' words cells c l t st g n everyone top (Some ((top + 2), st, n))
          at_entered m work' E = turn_entered b told q k counted (omega (arith, eu)) work' (subst (λ (z : ℕ). Enters cells work work' t g top z taken) ey (subst (λ (v : ℕ). Enters cells work work' t g top y v) eu E))

          -- none is left
          module _ (m : k ≤ u) where
            -- few enough were taken
            few : k ≤ taken
            few = omega (arith, eu)

            -- the root may be read back
            pub at-opening : Opening bytes work words cells c l t st g n everyone y Any
            at-opening = subst (λ (z : ℕ). Opening bytes work words cells c l t st g n everyone z Any) (sym ey) (turn-opening b told q k counted few)

            -- there is no room for it
            pub at_short : (work' words' : List ℕ) → Notes bytes work words work' words' cells c l t st g n everyone y None → Advances bytes work words work' words' cells c l t st g n everyone top None
            at_short work' words' S = turn_short b told q k counted few work' words' (subst (λ (z : ℕ). Notes bytes work words work' words' cells c l t st g n everyone z None) ey S)

            -- it was
            pub at_finished : (work' words' : List ℕ) (p : Pattern) (st' : Store) (n' : ℕ) → Notes bytes work words work' words' cells c l t st g n everyone y (Some (p, st', n')) → Advances bytes work words work' words' cells c l t st g n everyone top (Some (top, st', n'))
            at_finished work' words' p st' n' S = turn_finished b told q k counted few work' words' p st' n' (subst (λ (z : ℕ). Notes bytes work words work' words' cells c l t st g n everyone z (Some (p, st', n'))) ey S)
