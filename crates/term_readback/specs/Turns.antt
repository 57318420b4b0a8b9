-- One turn on the stack: what each way of it leaves.
use Rattle.std.specs.Prelude.{◌≡◌, refl, Bool, List, [], ◌∷◌, ℕ, suc, ◌+◌, ◌*◌, ◌≤◌, ◌<◌, ltb, get_or}
use Rattle.std.proofs.Common.{sym, ◌∙◌, subst, arith}
use Rattle.std.proofs.Math.Path.{ap}
use Rattle.std.proofs.Math.Bool.{true, false}
use Rattle.std.proofs.Math.Option.{Option, none, some}
use borrow.Author.Tests.{lt-ltb, le-ltb}
use Rattle.std.proofs.Math.Dec.{eqb}
use Rattle.std.proofs.Math.ListN.{length}
use Rattle.std.proofs.lemmas.List.{length-map}
use Rattle.definition.specs.Test.{is, see, never, tests, ◌and◌}
use Rattle.definition.specs.Pack.{Pack}
use Rattle.definition.specs.Verdict.{Bound, value_of}
use Rattle.definition.specs.Graph.{Graph, vertex, root, is_var}
use Rattle.definition.specs.Classes.{is_some}
use Rattle.definition.proofs.Laws.Grow.{map_at}
use Rattle.theory.specs.Walks.Walk.{Known}
use Rattle.theory.specs.Walks.Machine.{Frame, frame, Walking, walking, turn, height, turn-kept}
use Rattle.theory.specs.Walks.Memo.{has}
use Rattle.theory.specs.Walks.Levels.{arg_roots, roots_variable, roots_applied, rank_of, roots_fall}
use Rattle.theory.specs.Walks.Resolving.{Resolving, is_read_whole, read_root}
use Rattle.base.specs.Word.{word_of}
use Rattle.base.specs.Part.{part_at}
use Rattle.store.specs.declared.nodes.Store.{Store}
use Rattle.pack_tables.specs.declared.catalog.Catalog.{Catalog}
use Rattle.term_lift.specs.Lifts.{frames_in}
use Rattle.term_lift.specs.Turns.{length_frames}
use Rattle.term_lift.specs.declared.lift.Lifted.{Lifted}
use Rattle.graph.specs.declared.graph.Graph.{Graph as Counts}
use Rattle.graph.specs.Cells.{rows_end}
use Rattle.term_readback.specs.declared.table.Table.{Table}
use Rattle.term_readback.specs.Words.{patterns_at, table_in, marks_in, Says, Holding}
use Rattle.term_readback.specs.Moved.{nodes-most, holding_moves}
use Rattle.term_readback.specs.Asked.{CountOf, graph_long}
use Rattle.term_readback.specs.Roots.{Open}
use Rattle.term_readback.specs.Stacks.{Sane, frames_of, Running, turn_of, Enters}

-- whether a root was read back, by its word
pub read_mark : (cells table words : List ℕ) (g : Counts) (st : Store) (n : ℕ) (s : Resolving) → Says cells table words g st n s → (x : ℕ) → is_read_whole s x ≡ ltb 0 (get_or (marks_in cells table g) x 0)
unfolding is_read_whole has is_some
read_mark cells table words g st n s S x = said (value_of x s.memo) ∙ ap (ltb 0) (S.memo x)
  where
    said : (o : Option ℕ) → is_some o ≡ ltb 0 (word_of o)
    said none = refl
    said (some p) = sym (lt-ltb 0 (suc p) (omega arith))

-- where the root at each place was read back, each was
known_each : (s : Resolving) (xs : List ℕ) → ((j : ℕ) → j < length xs → is_read_whole s (get_or xs j 0) ≡ true) → Known is_read_whole s xs
known_each s [] h = tt
known_each s (x ∷ xs) h = (h 0 (omega arith), known_each s xs (λ j b. h (suc j) (omega arith)))

-- a node whose rank is that of a root is one
rank-none : (h : Graph) (x : ℕ) → rank_of h x < length h → (vertex h x).link ≡ none
unfolding rank_of
rank-none h x l = elim (see (vertex h x).link) [
  | is none e ↦ e
  | is (some y) e ↦ let q : rank_of h x ≡ length h = rw (e, rank_of) in absurd (omega arith)
]

-- where both do not pass and the first does, the second does not
and_second : (a b : Bool) → a ≡ true → a and b ≡ false → b ≡ false
unfolding ◌and◌
and_second true b p e = e
and_second false b p e = never (cc)

module _ (bytes work words cells : List ℕ) (c : Catalog) (l : Lifted) (t : Table) (st : Store) (g : Counts) (n : ℕ) (everyone : Bool) (top : ℕ) where
  -- the table
  abbrev table : List ℕ
  table = table_in t work

  -- the root of the frame on top
  abbrev x : ℕ
  x = get_or table (rows_end cells + 2 * top) 0

  -- its count
  abbrev taken : ℕ
  taken = get_or table (rows_end cells + 2 * top + 1) 0

  module _ (P : Pack) (h : Graph) (C : Sane h) (vs : List Bound) (s : Resolving) (R : Running bytes work words cells c l t st g n everyone P h C vs s (suc top)) where
    -- the frames below it
    abbrev fs : List Frame
    fs = frames_of cells t work top

    -- there are no more frames than nodes
    few_frames : suc top ≤ length h
    few_frames =
        let k = height (arg_roots h) is_read_whole (read_root P h vs everyone) (rank_of h) (roots_fall h C.forest C.inner C.ends) 0 (length h) (frames_of cells t work (suc top)) R.going.stacked in
        omega (arith, length_frames table (rows_end cells) (suc top))

    -- nor than cells
    pub room : (suc top ≤ length cells) × (g.nodes ≤ length cells) × (length h ≡ g.nodes)
    room =
        let m = nodes-most cells table g h vs R.holding.lies.stands in
        let k = graph_long cells table g h R.holding.lies.stands.shows in
        (omega (arith, few_frames), m, k)

    -- what is known of the frame
    pub goes : (x < length h) × (0 < taken → is_read_whole s x ≡ false) × ((j : ℕ) → j < taken → is_read_whole s (get_or (arg_roots h x) j 0) ≡ true)
    unfolding frames_in
    goes = let f = R.going.sound.0 in (f.given, f.unknown, f.ready)

    -- it is a root's
    is_root : (vertex h x).link ≡ none
    unfolding frames_in
    is_root =
        let k = height (arg_roots h) is_read_whole (read_root P h vs everyone) (rank_of h) (roots_fall h C.forest C.inner C.ends) (suc (rank_of h x)) (length h) fs R.going.stacked.1 in
        rank-none h x (omega arith)

    -- whether it was read back
    seen : is_read_whole s x ≡ ltb 0 (get_or table (patterns_at cells + x) 0)
    seen = read_mark cells table words g st n s R.holding.says x ∙ ap (ltb 0) (part_at (patterns_at cells) g.nodes table x (omega (arith, goes.0, room.2)))

    module _ (b : Bool) (e : b ≡ (eqb taken 0 and ltb 0 (get_or table (patterns_at cells + x) 0))) where
      -- whether its frame is dropped
      drops : eqb taken 0 and is_read_whole s x ≡ b
      drops = ap (λ (y : Bool). eqb taken 0 and y) seen ∙ sym e

      -- it is
      pub drops_on : b ≡ true → turn_of P h vs everyone (frames_of cells t work (suc top)) s ≡ walking fs s
      unfolding turn_of turn frames_in
      drops_on q = let d : eqb taken 0 and is_read_whole s x ≡ true = drops ∙ q in rw (d, turn)

      -- it is not
      module _ (q : b ≡ false) (k : ℕ) (N : CountOf cells work t g x k) where
        -- the root was not read back
        unread : is_read_whole s x ≡ false
        unread = elim (see (eqb taken 0)) [
          | is true z ↦ and_second (eqb taken 0) (is_read_whole s x) z (drops ∙ q)
          | is false z ↦ goes.1 (omega tests)
        ]

        -- as many arguments' roots
        many : k ≡ length (arg_roots h x)
        many = N h R.holding.lies.stands.shows

        -- an argument is left
        module _ (m : taken < k) where
          -- so it is an application
          applied : is_var (vertex h x) ≡ false
          applied = elim (see (is_var (vertex h x))) [
            | is false v ↦ v
            | is true v ↦ absurd (omega (arith, many, ap length (roots_variable h x v)))
          ]

          -- with so many arguments
          pub some_args : taken < length (vertex h x).args
          some_args = omega (arith, many, ap length (roots_applied h x applied), length-map (vertex h x).args (root h))

          -- the argument's root
          next-root : get_or (arg_roots h x) taken 0 ≡ root h (get_or (vertex h x).args taken 0)
          next-root = ap (λ (ys : List ℕ). get_or ys taken 0) (roots_applied h x applied) ∙ map_at (root h) (vertex h x).args taken some_args

          -- the machine gives it a frame
          enters : turn_of P h vs everyone (frames_of cells t work (suc top)) s ≡ walking (frame (get_or (arg_roots h x) taken 0) 0 ∷ frame x (suc taken) ∷ fs) s
          unfolding turn_of turn frames_in
          enters =
              let d : eqb taken 0 and is_read_whole s x ≡ false = drops ∙ q in
              let z = lt-ltb taken (length (arg_roots h x)) (omega (arith, many)) in
              rw (d, z, turn)

          -- there is room for it
          pub next-room : suc top < length cells
          unfolding frames_in turn_of
          next-room =
              let K = turn-kept (arg_roots h) is_read_whole (read_root P h vs everyone) (rank_of h) (roots_fall h C.forest C.inner C.ends) (length h) (frame x taken) fs s R.going.stacked in
              let w = turn_of P h vs everyone (frames_of cells t work (suc top)) s in
              let y = height (arg_roots h) is_read_whole (read_root P h vs everyone) (rank_of h) (roots_fall h C.forest C.inner C.ends) 0 (length h) w.stack K.stacked in
              omega (arith, ap (λ (v : Walking Resolving). length v.stack) enters, length_frames table (rows_end cells) top, room.1, room.2)

          -- few arguments were taken
          pub taken_few : taken < 16
          taken_few = omega (arith, some_args, R.holding.lies.stands.few x goes.0)

          -- it has one
          pub turned_in : (work' : List ℕ) → Enters cells work work' t g top x taken
              → Holding bytes work' words cells c l t st g n everyone P h vs (turn_of P h vs everyone (frames_of cells t work (suc top)) s).state × (frames_of cells t work' (top + 2) ≡ (turn_of P h vs everyone (frames_of cells t work (suc top)) s).stack)
          turned_in work' E =
              let two : top + 2 ≡ suc (suc top) = omega arith in
              let H = holding_moves bytes work words cells c l t st g work' E.moves n everyone P h vs s R.holding in (
                subst (λ (u : Resolving). Holding bytes work' words cells c l t st g n everyone P h vs u) (sym (ap (λ (w : Walking Resolving). w.state) enters)) H,
                ap (frames_of cells t work') two ∙ E.frames h R.holding.lies.stands.shows ∙ ap (λ (y : ℕ). frame y 0 ∷ frame x (suc taken) ∷ fs) (sym next-root) ∙ sym (ap (λ (w : Walking Resolving). w.stack) enters),
              )

        -- none is left
        module _ (m : k ≤ taken) where
          -- the root may be read back
          pub opens : Open h s x
          opens = record { node = goes.0; root = is_root; unread = unread; ripe = known_each s (arg_roots h x) (λ j y. goes.2 j (omega (arith, many))) }

          -- the machine does
          pub finishes : turn_of P h vs everyone (frames_of cells t work (suc top)) s ≡ walking fs (read_root P h vs everyone x s)
          unfolding turn_of turn frames_in
          finishes =
              let d : eqb taken 0 and is_read_whole s x ≡ false = drops ∙ q in
              let z = le-ltb taken (length (arg_roots h x)) (omega (arith, many)) in
              rw (d, z, turn)
