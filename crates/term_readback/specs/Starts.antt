-- The first frame on the stack: what the loop comes to from there is what is answered from the start.
use Rattle.std.specs.Prelude.{Some, None}
use Rattle.std.specs.Prelude.{◌≡◌, Bool, List, [], ◌∷◌, ℕ, suc, ◌<◌, length}
use Rattle.std.proofs.Common.{sym, ap, ◌∙◌, subst, arith}
use Rattle.definition.specs.Pack.{Node, Pack}
use Rattle.definition.specs.Verdict.{Bound}
use Rattle.definition.specs.Store.{pattern_words}
use Rattle.definition.specs.Graph.{Graph}
use Rattle.definition.specs.Analysis.{Resolved, copied, resolve}
use Rattle.theory.specs.Walks.Walk.{walk}
use Rattle.theory.specs.Walks.Machine.{Frame, left, left-new, left-none}
use Rattle.theory.specs.Walks.WalkReady.{sound_new}
use Rattle.theory.specs.Walks.Levels.{arg_roots, rank_of, rank_most, roots_fall, roots_inside}
use Rattle.theory.specs.Walks.Reading.{resolved_as}
use Rattle.theory.specs.Walks.Resolving.{Resolving, is_read_whole, read_root, read_made, read_others, walk-resolve}
use Rattle.store.specs.Stored.{nodes}
use Rattle.store.specs.Table.{begins_written}
use Rattle.store.specs.declared.nodes.Store.{Store}
use Rattle.base.specs.declared.id.Pattern.{Pattern}
use Rattle.pack_tables.specs.declared.catalog.Catalog.{Catalog}
use Rattle.term_lift.specs.declared.lift.Lifted.{Lifted}
use Rattle.graph.specs.declared.graph.Graph.{Graph as Counts}
use Rattle.term_readback.specs.declared.table.Table.{Table}
use Rattle.term_readback.specs.Words.{table_in, Holding, Ready, Framed}
use Rattle.term_readback.specs.Moved.{framed_none, framed_then, framed_moves, holding_moves}
use Rattle.term_readback.specs.Asked.{Asking, graph_long}
use Rattle.term_readback.specs.Stacks.{Going, Begins, Answers}
use Rattle.term_readback.specs.Runs.{sane_of, Walks, Shorts, Reads}

module _ (bytes work words cells : List ℕ) (c : Catalog) (l : Lifted) (t : Table) (st : Store) (g : Counts) (n : ℕ) (everyone : Bool) (x : ℕ) (K : Ready bytes work words cells c l t st g n everyone) (h₀ : x < g.nodes) where
  -- the node may be asked for
  pub first_asking : Asking cells work t g x
  first_asking =
      let L = K.holding.lies in
      record { graph = K.graph; graphed = record { room = L.room; fits = L.fits; shows = L.stands.shows; inner = L.stands.inner; few = L.stands.few }; node = h₀ }

  module _ (first : List ℕ) (r : ℕ) (B : Begins cells work first t g x r) where
    -- all is as it was
    held : (P : Pack) (h : Graph) (vs : List Bound) (s : Resolving) → Holding bytes work words cells c l t st g n everyone P h vs s → Holding bytes first words cells c l t st g n everyone P h vs s
    held = holding_moves bytes work words cells c l t st g first B.moves n everyone

    -- the loop may start
    pub first_ready : Ready bytes first words cells c l t st g n everyone
    first_ready = record { pack = K.pack; graph = K.graph; values = K.values; state = K.state; holding = held K.pack K.graph K.values K.state K.holding }

    -- its rank is that of a root
    first-rank : (P : Pack) (h : Graph) (vs : List Bound) (s : Resolving) → Holding bytes work words cells c l t st g n everyone P h vs s → rank_of h r < length h
    first-rank P h vs s H =
        let S = H.lies.stands in
        subst (λ (y : ℕ). rank_of h y < length h) (sym (B.is h S.shows)) (rank_most h S.shows.like.forest S.inner S.ends x (omega (arith, graph_long cells (table_in t work) g h S.shows)))

    -- so too for what is held
    pub first_low : rank_of first_ready.graph r < length first_ready.graph
    unfolding first_ready
    first_low = first-rank K.pack K.graph K.values K.state K.holding

    -- what is left of it is the walk
    pub first_walks : Walks bytes first words first words cells c l t st st g n n everyone r 1
    first_walks = record {
      framed = framed_none cells first l t;
      are = begins_written (nodes words st) words K.holding.lies.lifts.laid.index.placed.begins;
      each = λ P h vs s₀ H₀ b.
          let C = sane_of bytes first words cells c l t st g n everyone P h vs s₀ H₀ in
          let m = graph_long cells (table_in t first) g h H₀.lies.stands.shows in
          record {
            state = s₀;
            running = record {
              holding = H₀;
              going = subst (λ (fs : List Frame). Going P h C vs everyone fs s₀) (sym B.frames) (record {
                stacked = (omega arith, omega (arith, b));
                sound = sound_new (arg_roots h) is_read_whole (read_root P h vs everyone) (read_made P h vs everyone) (read_others P h vs everyone) (rank_of h) (roots_fall h C.forest C.inner C.ends) (length h) (roots_inside h C.forest C.inner C.ends) r s₀ (omega (arith, B.node));
              });
            };
            whole = ap (λ (fs : List Frame). left (arg_roots h) is_read_whole (read_root P h vs everyone) (length h) fs s₀) B.frames ∙ left-new (arg_roots h) is_read_whole (read_root P h vs everyone) (length h) r [] s₀
                ∙ left-none (arg_roots h) is_read_whole (read_root P h vs everyone) (length h) (walk (arg_roots h) is_read_whole (read_root P h vs everyone) (length h) (r ∷ []) s₀);
          };
    }

    -- only rows and the stack were written for it
    first_framed : Framed cells work first l t
    first_framed = framed_moves bytes work words cells c l t st g first B.moves K.pack K.graph K.values K.holding.lies

    -- what the walk gives is the definition's
    first_is : (P : Pack) (h : Graph) (vs : List Bound) (s : Resolving) → Holding bytes work words cells c l t st g n everyone P h vs s
        → let u = walk (arg_roots h) is_read_whole (read_root P h vs everyone) (length h) (r ∷ []) s in resolve (suc (length h)) P h vs everyone (x ∷ []) s.state ≡ resolved_as (copied u.memo r ∷ []) u.state
    first_is P h vs s H =
        let S = H.lies.stands in
        (walk-resolve P h vs everyone S.shows.like.forest S.inner S.ends x s (omega (arith, graph_long cells (table_in t work) g h S.shows)) H.right).1
        ∙ ap (λ (y : ℕ). let u = walk (arg_roots h) is_read_whole (read_root P h vs everyone) (length h) (y ∷ []) s in resolved_as (copied u.memo y ∷ []) u.state) (sym (B.is h S.shows))

    -- there is no room
    pub first_short : (work' words' : List ℕ) → Shorts bytes first words work' cells c l t st g n everyone r → Answers bytes work words work' words' cells c l t st g n everyone x None
    first_short work' words' A = (
      framed_then cells work first work' l t first_framed A.0,
      λ P h vs s H. subst (λ (a : List Node). length words < length (pattern_words a)) (sym (ap (λ (o : Resolved). o.state.store) (first_is P h vs s H))) (A.1 P h vs s (held P h vs s H) (first-rank P h vs s H)),
    )

    -- the pattern was read
    pub first_done : (work' words' : List ℕ) (st' : Store) (n' : ℕ) (p : Pattern) → Reads bytes first words work' words' cells c l t st st' g n n' everyone r p.0 → Answers bytes work words work' words' cells c l t st g n everyone x (Some (p, st', n'))
    first_done work' words' st' n' p A = (
      framed_then cells work first work' l t first_framed A.0,
      A.1,
      λ P h vs s H.
          let y = A.2 P h vs s (held P h vs s H) (first-rank P h vs s H) in
          (y.0, y.1, first_is P h vs s H ∙ ap (λ (u : Resolving). resolved_as (copied u.memo r ∷ []) u.state) (sym y.2) ∙ ap (λ (a : ℕ). resolved_as (a ∷ []) y.0.state) y.3),
    )
