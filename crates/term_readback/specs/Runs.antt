-- The loop: what is left of the stack gives the whole walk, and so what `resolve` of the node gives.
use Rattle.std.specs.Prelude.{Some, None}
use Rattle.std.specs.Prelude.{◌≡◌, Bool, true, ℕ, suc, ◌+◌, ◌*◌, ◌-◌, ◌≤◌, ◌<◌, length, get_or}
use Rattle.std.proofs.Math.Path.{sym, subst}
use Rattle.std.proofs.Common.{ap, ◌∙◌, arith}
use mathlib.Core.List.{List, [], ◌∷◌}
use Rattle.definition.specs.Pack.{Node, Pack}
use Rattle.definition.specs.Verdict.{Bound}
use Rattle.definition.specs.Store.{pattern_words}
use Rattle.definition.specs.Graph.{Graph}
use Rattle.definition.specs.Analysis.{copied}
use Rattle.theory.specs.Patterns.Interned.{Grows}
use Rattle.theory.specs.Walks.Walk.{walk}
use Rattle.theory.specs.Walks.Machine.{Frame, frame, Walking, left, left-none, turns_left, turn-kept, Kept}
use Rattle.theory.specs.Walks.WalkReady.{Sound}
use Rattle.theory.specs.Walks.Levels.{arg_roots, rank_of, roots_fall, roots_inside}
use Rattle.theory.specs.Walks.Resolving.{Resolving, is_read_whole, read_root, read_made, read_others, walked, read_going}
use Rattle.base.specs.Part.{part_at}
use Rattle.store.specs.Stored.{nodes, written}
use Rattle.store.specs.declared.nodes.Store.{Store}
use Rattle.base.specs.declared.id.Pattern.{Pattern}
use Rattle.pack_tables.specs.declared.catalog.Catalog.{Catalog}
use Rattle.term_lift.specs.Lifts.{frames_in}
use Rattle.term_lift.specs.Runs.{written_again, words-grow}
use Rattle.term_lift.specs.declared.lift.Lifted.{Lifted}
use Rattle.graph.specs.declared.graph.Graph.{Graph as Counts}
use Rattle.graph.specs.Cells.{rows_end}
use Rattle.term_readback.specs.declared.table.Table.{Table}
use Rattle.term_readback.specs.Words.{patterns_at, table_in, Holding, Ready, Framed}
use Rattle.term_readback.specs.Moved.{nodes-most, framed_then}
use Rattle.term_readback.specs.Asked.{graph_long}
use Rattle.term_readback.specs.Given.{copied-word, read_word}
use Rattle.term_readback.specs.Stacks.{Sane, frames_of, Going, Running, Turning, turn_of, Advances}
use Rattle.term_readback.specs.Measure.{turns_in, turns_of}
use Rattle.term_readback.specs.Grown.{left_grows, turn_grows}

-- the graph that is held has no circles
abbrev pub sane_of : (bytes work words cells : List ℕ) (c : Catalog) (l : Lifted) (t : Table) (st : Store) (g : Counts) (n : ℕ) (everyone : Bool) (P : Pack) (h : Graph) (vs : List Bound) (s : Resolving) → Holding bytes work words cells c l t st g n everyone P h vs s → Sane h
sane_of bytes work words cells c l t st g n everyone P h vs s H = record { forest = H.lies.stands.shows.like.forest; inner = H.lies.stands.inner; ends = H.lies.stands.ends }

-- in the midst of the loop, for one pack, graph, values and state at the start: a state now, and what is left gives the walk of the root
pub record Walking-on (bytes work words cells : List ℕ) (c : Catalog) (l : Lifted) (t : Table) (st : Store) (g : Counts) (n : ℕ) (everyone : Bool) (r top : ℕ) (P : Pack) (h : Graph) (C : Sane h) (vs : List Bound) (s₀ : Resolving) : Type 0 where
  pub state : Resolving
  pub running : Running bytes work words cells c l t st g n everyone P h C vs state top
  pub whole : left (arg_roots h) is_read_whole (read_root P h vs everyone) (length h) (frames_of cells t work top) state ≡ walk (arg_roots h) is_read_whole (read_root P h vs everyone) (length h) (r ∷ []) s₀

-- for each
pub record Walks (bytes work₀ words₀ work words cells : List ℕ) (c : Catalog) (l : Lifted) (t : Table) (st₀ st : Store) (g : Counts) (n₀ n : ℕ) (everyone : Bool) (r top : ℕ) : Type 0 where
  pub framed : Framed cells work₀ work l t
  pub are : words ≡ written (nodes words st) words₀
  pub each : (P : Pack) (h : Graph) (vs : List Bound) (s₀ : Resolving) (H₀ : Holding bytes work₀ words₀ cells c l t st₀ g n₀ everyone P h vs s₀) → rank_of h r < length h
      → Walking-on bytes work words cells c l t st g n everyone r top P h (sane_of bytes work₀ words₀ cells c l t st₀ g n₀ everyone P h vs s₀ H₀) vs s₀

-- the walk needs more words than there are
abbrev pub Shorts : List ℕ → List ℕ → List ℕ → List ℕ → List ℕ → Catalog → Lifted → Table → Store → Counts → ℕ → Bool → ℕ → Type 0
Shorts bytes work₀ words₀ work cells c l t st₀ g n₀ everyone r =
    Framed cells work₀ work l t
    × ((P : Pack) (h : Graph) (vs : List Bound) (s₀ : Resolving) → Holding bytes work₀ words₀ cells c l t st₀ g n₀ everyone P h vs s₀ → rank_of h r < length h
    → length words₀ < length (pattern_words (walk (arg_roots h) is_read_whole (read_root P h vs everyone) (length h) (r ∷ []) s₀).state.store))

-- the state is the walk's, and p what it has read the root back as
abbrev pub Reads : List ℕ → List ℕ → List ℕ → List ℕ → List ℕ → List ℕ → Catalog → Lifted → Table → Store → Store → Counts → ℕ → ℕ → Bool → ℕ → ℕ → Type 0
Reads bytes work₀ words₀ work words cells c l t st₀ st g n₀ n everyone r p =
    Framed cells work₀ work l t
    × (words ≡ written (nodes words st) words₀)
    × ((P : Pack) (h : Graph) (vs : List Bound) (s₀ : Resolving) → Holding bytes work₀ words₀ cells c l t st₀ g n₀ everyone P h vs s₀ → rank_of h r < length h
    → (s : Resolving) × Holding bytes work words cells c l t st g n everyone P h vs s × (s ≡ walk (arg_roots h) is_read_whole (read_root P h vs everyone) (length h) (r ∷ []) s₀) × (copied s.memo r ≡ p))

module _ (bytes work₀ words₀ cells : List ℕ) (c : Catalog) (l : Lifted) (t : Table) (st₀ : Store) (g : Counts) (n₀ : ℕ) (everyone : Bool) (r : ℕ) (F : Ready bytes work₀ words₀ cells c l t st₀ g n₀ everyone) (low : rank_of F.graph r < length F.graph) where
  module _ (work words : List ℕ) (st : Store) (n top : ℕ) (W : Walks bytes work₀ words₀ work words cells c l t st₀ st g n₀ n everyone r (suc top)) where
    -- there is a frame to turn on
    pub walks_turning : Turning bytes work words cells c l t st g n everyone top
    walks_turning = record {
      pack = F.pack;
      graph = F.graph;
      sane = sane_of bytes work₀ words₀ cells c l t st₀ g n₀ everyone F.pack F.graph F.values F.state F.holding;
      values = F.values;
      state = (W.each F.pack F.graph F.values F.state F.holding low).state;
      running = (W.each F.pack F.graph F.values F.state F.holding low).running;
    }

    -- the turn, for each
    module _ (P : Pack) (h : Graph) (C : Sane h) (vs : List Bound) (s : Resolving) (R : Running bytes work words cells c l t st g n everyone P h C vs s (suc top)) where
      -- the stack
      abbrev fs : List Frame
      fs = frames_of cells t work (suc top)

      -- the machine after it
      abbrev w : Walking Resolving
      w = turn_of P h vs everyone fs s

      -- what is left stays, in one turn less
      turn_on : Kept (arg_roots h) is_read_whole (read_root P h vs everyone) (rank_of h) (roots_fall h C.forest C.inner C.ends) (length h) fs s w
      unfolding frames_in turn_of
      turn_on = turn-kept (arg_roots h) is_read_whole (read_root P h vs everyone) (rank_of h) (roots_fall h C.forest C.inner C.ends) (length h) (frame (get_or (table_in t work) (rows_end cells + 2 * top) 0) (get_or (table_in t work) (rows_end cells + 2 * top + 1) 0)) (frames_of cells t work top) s R.going.stacked

      -- the stack stays sound
      turn_sound : Sound (arg_roots h) is_read_whole (read_root P h vs everyone) (read_made P h vs everyone) (read_others P h vs everyone) (rank_of h) (roots_fall h C.forest C.inner C.ends) (length h) (roots_inside h C.forest C.inner C.ends) w.state w.stack
      unfolding frames_in turn_of
      turn_sound = (read_going P h vs everyone C.forest C.inner C.ends (length h) (frame (get_or (table_in t work) (rows_end cells + 2 * top) 0) (get_or (table_in t work) (rows_end cells + 2 * top + 1) 0)) (frames_of cells t work top) s R.going.stacked R.going.sound R.holding.right).0

      -- the store only grows
      turn_more : Grows (nodes words st) w.state.state.store
      unfolding frames_in turn_of
      turn_more = subst (λ (a : List Node). Grows a w.state.state.store) R.holding.says.store (turn_grows P h vs everyone (frame (get_or (table_in t work) (rows_end cells + 2 * top) 0) (get_or (table_in t work) (rows_end cells + 2 * top + 1) 0)) (frames_of cells t work top) s)

    -- one turn more
    module _ (work' words' : List ℕ) (k : ℕ) (st' : Store) (n' : ℕ) (A : Advances bytes work words work' words' cells c l t st g n everyone top (Some (k, st', n'))) where
      -- the stack goes on
      going_on : (P : Pack) (h : Graph) (C : Sane h) (vs : List Bound) (s : Resolving) (R : Running bytes work words cells c l t st g n everyone P h C vs s (suc top)) → Running bytes work' words' cells c l t st' g n' everyone P h C vs (w P h C vs s R).state k
      going_on P h C vs s R =
          let a = A.2 P h C vs s R in
          record {
            holding = a.0;
            going = subst (λ (gs : List Frame). Going P h C vs everyone gs (w P h C vs s R).state) (sym a.1) (record { stacked = (turn_on P h C vs s R).stacked; sound = turn_sound P h C vs s R });
          }

      -- the loop goes on
      pub walks_on : Walks bytes work₀ words₀ work' words' cells c l t st₀ st' g n₀ n' everyone r k
      walks_on = record {
        framed = framed_then cells work₀ work work' l t W.framed A.0;
        are =
            let T = walks_turning in
            let x : Grows (nodes words st) (nodes words' st') = subst (λ (a : List Node). Grows (nodes words st) a) (going_on T.pack T.graph T.sane T.values T.state T.running).holding.says.store (turn_more T.pack T.graph T.sane T.values T.state T.running) in
            A.1 ∙ ap (written (nodes words' st')) W.are ∙ written_again (nodes words st) (nodes words' st') words₀ x;
        each = λ P h vs s₀ H₀ b.
            let C = sane_of bytes work₀ words₀ cells c l t st₀ g n₀ everyone P h vs s₀ H₀ in
            let E = W.each P h vs s₀ H₀ b in
            let R = E.running in
            record {
              state = (w P h C vs E.state R).state;
              running = going_on P h C vs E.state R;
              whole = ap (λ (gs : List Frame). left (arg_roots h) is_read_whole (read_root P h vs everyone) (length h) gs (w P h C vs E.state R).state) (A.2 P h C vs E.state R).1 ∙ (turn_on P h C vs E.state R).result ∙ E.whole;
            };
      }

      -- with a turn less to go
      pub walks_less : turns_in cells (table_in t work') g k < turns_in cells (table_in t work) g (suc top)
      walks_less =
          let T = walks_turning in
          let P = T.pack in
          let h = T.graph in
          let R = T.running in
          let a = A.2 P h T.sane T.values T.state R in
          let u = w P h T.sane T.values T.state R in
          let x = turns_of cells (table_in t work) words g st n everyone P h T.values T.state (suc top) R.holding.lies.stands.shows R.holding.lies.stands.inner R.holding.says in
          let y = turns_of cells (table_in t work') words' g st' n' everyone P h T.values u.state k a.0.lies.stands.shows a.0.lies.stands.inner a.0.says
          ∙ ap (λ (gs : List Frame). turns_left (arg_roots h) is_read_whole (read_root P h T.values everyone) (length h) gs u.state) a.1 in
          omega (arith, x, y, (turn_on P h T.sane T.values T.state R).measure)

    -- there is no room for a node
    pub walks_short : (work' words' : List ℕ) → length words ≡ length words₀ → Advances bytes work words work' words' cells c l t st g n everyone top None → Shorts bytes work₀ words₀ work' cells c l t st₀ g n₀ everyone r
    walks_short work' words' e A = (
      framed_then cells work₀ work work' l t W.framed A.0,
      λ P h vs s₀ H₀ b.
          let C = sane_of bytes work₀ words₀ cells c l t st₀ g n₀ everyone P h vs s₀ H₀ in
          let E = W.each P h vs s₀ H₀ b in
          let R = E.running in
          let u = w P h C vs E.state R in
          let y = words-grow u.state.state.store (left (arg_roots h) is_read_whole (read_root P h vs everyone) (length h) u.stack u.state).state.store (left_grows P h vs everyone (length h) u.stack u.state) in
          let m = ap (λ (v : Resolving). length (pattern_words v.state.store)) ((turn_on P h C vs E.state R).result ∙ E.whole) in
          omega (arith, A.1 P h C vs E.state R, y, m, e),
    )

  -- no frame is left
  module _ (work words : List ℕ) (st : Store) (n : ℕ) (W : Walks bytes work₀ words₀ work words cells c l t st₀ st g n₀ n everyone r 0) where
    module _ (P : Pack) (h : Graph) (vs : List Bound) (s₀ : Resolving) (H₀ : Holding bytes work₀ words₀ cells c l t st₀ g n₀ everyone P h vs s₀) (b : rank_of h r < length h) (d : r < length h) where
      -- the state now
      abbrev s : Resolving
      s = (W.each P h vs s₀ H₀ b).state

      -- the graph is sane
      abbrev C : Sane h
      C = sane_of bytes work₀ words₀ cells c l t st₀ g n₀ everyone P h vs s₀ H₀

      -- the state is the walk's
      ended : s ≡ walk (arg_roots h) is_read_whole (read_root P h vs everyone) (length h) (r ∷ []) s₀
      unfolding frames_in
      ended = sym (left-none (arg_roots h) is_read_whole (read_root P h vs everyone) (length h) s) ∙ (W.each P h vs s₀ H₀ b).whole

      -- the root is a node
      inside : r < g.nodes
      inside = omega (arith, graph_long cells (table_in t work₀) g h H₀.lies.stands.shows)

      -- it was read back
      is_read : is_read_whole s r ≡ true
      is_read =
          let k = (walked P h vs everyone (rank_of h) (roots_fall h C.forest C.inner C.ends) (length h) (length h) (r ∷ []) s₀ (omega (arith, b), tt) (b, tt) H₀.right).knows.0 in
          ap (λ (u : Resolving). is_read_whole u r) ended ∙ k

      -- so its word says something
      word_some : 0 < get_or (table_in t work) (patterns_at cells + r) 0
      word_some = omega (arith, read_word cells (table_in t work) words g st n s (W.each P h vs s₀ H₀ b).running.holding.says r is_read, part_at (patterns_at cells) g.nodes (table_in t work) r inside)

    -- the word of the root stands in the table
    pub done_there : r < g.nodes → (t.at + (patterns_at cells + r) < t.end) × (t.end ≤ length work)
    done_there d =
        let L = F.holding.lies in
        (omega (arith, nodes-most cells (table_in t work₀) g F.graph F.values L.stands, L.room), omega (arith, L.fits, W.framed.long))

    -- and says something
    pub done_some : r < g.nodes → (v : ℕ) → v ≡ get_or (table_in t work) (patterns_at cells + r) 0 → 0 < v
    done_some d v e = omega (arith, word_some F.pack F.graph F.values F.state F.holding low (omega (arith, graph_long cells (table_in t work₀) g F.graph F.holding.lies.stands.shows)))

    -- the pattern is the walk's
    pub walks_done : r < g.nodes → (v : ℕ) → v ≡ get_or (table_in t work) (patterns_at cells + r) 0 → (p : Pattern) → p.0 ≡ v - 1 → Reads bytes work₀ words₀ work words cells c l t st₀ st g n₀ n everyone r p.0
    walks_done d v e p i = (
      W.framed,
      W.are,
      λ P h vs s₀ H₀ b.
          let k : r < length h = omega (arith, graph_long cells (table_in t work₀) g h H₀.lies.stands.shows) in
          let H = (W.each P h vs s₀ H₀ b).running.holding in
          (s P h vs s₀ H₀ b k, H, ended P h vs s₀ H₀ b k, copied-word cells (table_in t work) words g st n (s P h vs s₀ H₀ b k) H.says r d ∙ sym (i ∙ ap (λ (a : ℕ). a - 1) e)),
    )

-- where a frame is on the stack
pub walks_at : (bytes work₀ words₀ work words cells : List ℕ) (c : Catalog) (l : Lifted) (t : Table) (st₀ st : Store) (g : Counts) (n₀ n : ℕ) (everyone : Bool) (r top : ℕ) → 0 < top
    → Walks bytes work₀ words₀ work words cells c l t st₀ st g n₀ n everyone r top → Walks bytes work₀ words₀ work words cells c l t st₀ st g n₀ n everyone r (suc (top - 1))
walks_at bytes work₀ words₀ work words cells c l t st₀ st g n₀ n everyone r top h W = let e : top ≡ suc (top - 1) = omega arith in subst (λ (k : ℕ). Walks bytes work₀ words₀ work words cells c l t st₀ st g n₀ n everyone r k) e W

-- the same of the turns left
pub turns_at : (cells table : List ℕ) (g : Counts) (k top : ℕ) → 0 < top → k < turns_in cells table g (suc (top - 1)) → k < turns_in cells table g top
turns_at cells table g k top h u = let e : suc (top - 1) ≡ top = omega arith in subst (λ (j : ℕ). k < turns_in cells table g j) e u

-- where none is
pub walks_none : (bytes work₀ words₀ work words cells : List ℕ) (c : Catalog) (l : Lifted) (t : Table) (st₀ st : Store) (g : Counts) (n₀ n : ℕ) (everyone : Bool) (r top : ℕ) → top ≤ 0
    → Walks bytes work₀ words₀ work words cells c l t st₀ st g n₀ n everyone r top → Walks bytes work₀ words₀ work words cells c l t st₀ st g n₀ n everyone r 0
walks_none bytes work₀ words₀ work words cells c l t st₀ st g n₀ n everyone r top h W = let e : top ≡ 0 = omega arith in subst (λ (k : ℕ). Walks bytes work₀ words₀ work words cells c l t st₀ st g n₀ n everyone r k) e W
