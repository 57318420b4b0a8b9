-- The loop of lifting: what is left of the stack gives the whole walk, and so what `lift` of the node's tree gives.
use Rattle.std.specs.Prelude.{Option, Some, None}
use Rattle.std.specs.Prelude.{◌≡◌, refl, List, [], ◌∷◌, ◌++◌, map, ℕ, suc, ◌+◌, ◌*◌, ◌-◌, ◌≤◌, ◌<◌, length, set, drop}
use Rattle.std.proofs.Math.Path.{sym, ap, ap₂, subst}
use Rattle.std.proofs.Common.{◌∙◌, ltb-true, length-append, drop-drop}
use native.Mathlib.Omega.{arith}
use Rattle.std.proofs.Math.ListN.{get_or, length-set}
use Rattle.std.proofs.Math.Seq.{get_or-set_same, get_or-set_other, drop-append-add}
use Rattle.definition.specs.Pack.{Node, Pack, node_of}
use Rattle.definition.specs.Tree.{tree_of}
use Rattle.definition.specs.Store.{Stored as Placing, pattern_words}
use Rattle.definition.specs.Analysis.{copied, lift}
use Rattle.theory.specs.Patterns.Interned.{Grows, with}
use Rattle.theory.specs.Walks.Again.{stored}
use Rattle.theory.specs.Walks.Walk.{walk}
use Rattle.theory.specs.Walks.Machine.{Frame, frame, Walking, left, left-new, left-none, turns_left, Stacked, turn-kept, Kept}
use Rattle.theory.specs.Walks.WalkReady.{Waiting, Sound, sound_new}
use Rattle.theory.specs.Walks.Lifting.{Lifting, args_of, is_lifted, over, lift_node, Right, lift_made, lift_others, args_fall, args_inside, walked, walk_lifts, lift_going}
use Rattle.base.specs.Outside.{outside_none, outside_then}
use Rattle.base.specs.Part.{part-set-behind, part-set-before}
use Rattle.store.specs.Words.{words_append}
use Rattle.store.specs.Stored.{Stored, nodes, written}
use Rattle.store.specs.Table.{begins_written}
use Rattle.store.specs.declared.nodes.Store.{Store}
use Rattle.base.specs.declared.id.Pattern.{Pattern}
use Rattle.pack_tables.specs.Place.{body_at}
use Rattle.pack_tables.specs.Catalog.{records_of}
use Rattle.pack_tables.specs.SameTables.{Same}
use Rattle.pack_tables.specs.declared.catalog.Catalog.{Catalog}
use Rattle.pack_read.specs.Body.{node_in}
use Rattle.pack_read.specs.Reads.{Reads, length-nodes}
use Rattle.pack_read.specs.Held.{Proper, OfHeld, reads_on, reads_back}
use Rattle.term_lift.specs.Alike.{Alike, alike_self, alike_then, alike_known, alike_copied, left_alike, turns_alike, left_grows, turn_grows}
use Rattle.term_lift.specs.Lifts.{stack_at, index_at, index_in, lifted_in, frames_in, Laid, Lifts, Apart, Going, Running, turn_in, Advances, Answers}
use Rattle.term_lift.specs.Memo.{lifted_word, copied-word, lifted_same}
use Rattle.term_lift.specs.Nodes.{laid_same, laid_on}
use Rattle.term_lift.specs.declared.lift.Lifted.{Lifted}

-- ---- what holds of one lifting holds of one like it
-- a frame below the top waits
waits_alike : (P : Pack) (p : Proper P) (s t : Lifting) → Alike s t → (y : ℕ) (fs : List Frame)
    → Waiting (args_of P) is_lifted (lift_node P) (lift_made P) (lift_others P) (λ n. n) (args_fall P p.good) (length P.nodes) (args_inside P p.good) t y fs
    → Waiting (args_of P) is_lifted (lift_node P) (lift_made P) (lift_others P) (λ n. n) (args_fall P p.good) (length P.nodes) (args_inside P p.good) s y fs
waits_alike P p s t a y [] w = tt
waits_alike P p s t a y (f ∷ fs) w =
    let v = w.0 in (
      record { given = v.given; unknown = alike_known s t a f.node ∙ v.unknown; last = v.last; count = v.count; kid = v.kid; ready = λ j h. alike_known s t a (get_or (args_of P f.node) j 0) ∙ v.ready j h },
      waits_alike P p s t a f.node fs w.1,
    )

-- a stack is sound
sound_alike : (P : Pack) (p : Proper P) (s t : Lifting) → Alike s t → (fs : List Frame)
    → Sound (args_of P) is_lifted (lift_node P) (lift_made P) (lift_others P) (λ n. n) (args_fall P p.good) (length P.nodes) (args_inside P p.good) t fs
    → Sound (args_of P) is_lifted (lift_node P) (lift_made P) (lift_others P) (λ n. n) (args_fall P p.good) (length P.nodes) (args_inside P p.good) s fs
sound_alike P p s t a [] w = tt
sound_alike P p s t a (f ∷ fs) w =
    let v = w.0 in (
      record { given = v.given; unknown = λ h. alike_known s t a f.node ∙ v.unknown h; ready = λ j h. alike_known s t a (get_or (args_of P f.node) j 0) ∙ v.ready j h },
      waits_alike P p s t a f.node fs w.1,
    )

-- a memo is right
right_alike : (P : Pack) (s t : Lifting) → Alike s t → Right P t → Right P s
right_alike P s t a r n q v = let e = a.store in rw e (r n q (sym (a.memo n) ∙ v))

-- ---- the words of a store written over those of one that it grew from
pub written_again : (s t : List Node) (words : List ℕ) → Grows s t → written t (written s words) ≡ written t words
unfolding written
written_again s t words (with more e) =
    let a : List ℕ = pattern_words s in
    let b : List ℕ = pattern_words more in
    let f : pattern_words t ≡ a ++ b = ap pattern_words e ∙ words_append s more in
    let g : length (pattern_words t) ≡ length a + length b = ap length f ∙ length-append a b in
    let d : drop (length (pattern_words t)) (a ++ drop (length a) words) ≡ drop (length (pattern_words t)) words =
    ap (λ (k : ℕ). drop k (a ++ drop (length a) words)) g ∙ drop-append-add a (drop (length a) words) (length b) ∙ drop-drop (length b) (length a) words ∙ ap (λ (k : ℕ). drop k words) (sym g) in
    ap (λ (ws : List ℕ). pattern_words t ++ ws) d

-- they are no fewer
pub words-grow : (s t : List Node) → Grows s t → length (pattern_words s) ≤ length (pattern_words t)
words-grow s t (with more e) = omega (arith, ap length (ap pattern_words e ∙ words_append s more), length-append (pattern_words s) (pattern_words more))

-- ---- how many turns are left
-- a pack with these nodes alone
abbrev pub bare : List Node → Pack
bare ns = record { sorts = []; symbols = []; rules = []; nodes = ns; steps = []; goals = []; results = []; cuts = []; abstracts = [] }

-- for these nodes
unfoldable pub turns_of : List Node → ℕ → List Frame → Lifting → ℕ
unfolding turns_left is_lifted lift_node node_of
turns_of ns d fs s = turns_left (args_of (bare ns)) is_lifted (lift_node (bare ns)) d fs s

-- for those that the tables hold
unfoldable pub turns_in : List ℕ → List ℕ → List ℕ → Catalog → Lifted → Store → ℕ → ℕ
unfolding turns_of node_in records_of frames_in lifted_in
turns_in bytes work words c l st top = turns_of (map (λ p. node_in (body_at bytes p)) (records_of work c 3)) l.nodes (frames_in work (stack_at l) top) (lifted_in work words l st)

-- the other things of a pack do not matter
turns-bare : (P : Pack) (d : ℕ) (fs : List Frame) (s : Lifting) → turns_of P.nodes d fs s ≡ turns_left (args_of P) is_lifted (lift_node P) d fs s
unfolding turns_of node_of lift_node over
turns-bare P d fs s = refl

-- so it is the walk's measure, of each pack held
turns-held : (bytes work words : List ℕ) (c : Catalog) (l : Lifted) (st : Store) (top : ℕ) (P : Pack) → Reads bytes (records_of work c) P
    → turns_in bytes work words c l st top ≡ turns_left (args_of P) is_lifted (lift_node P) l.nodes (frames_in work (stack_at l) top) (lifted_in work words l st)
unfolding turns_in
turns-held bytes work words c l st top P r =
    let fs = frames_in work (stack_at l) top in
    let s = lifted_in work words l st in
    ap (λ (ns : List Node). turns_of ns l.nodes fs s) (sym r.nodes.are) ∙ turns-bare P l.nodes fs s

-- ---- in the midst of the loop: what is left gives the walk of the node
pub record Walks (bytes work₀ words₀ work words : List ℕ) (c : Catalog) (l : Lifted) (st₀ st : Store) (n top : ℕ) : Type 0 where
  pub running : Running bytes work words c l st top
  pub apart : Apart work₀ work l
  pub are : words ≡ written (nodes words st) words₀
  pub whole : OfHeld bytes work₀ c (λ P. Alike (left (args_of P) is_lifted (lift_node P) l.nodes (frames_in work (stack_at l) top) (lifted_in work words l st)) (walk (args_of P) is_lifted (lift_node P) l.nodes (n ∷ []) (lifted_in work₀ words₀ l st₀)))

-- what holds at the start
pub record Starts (bytes work₀ words₀ : List ℕ) (c : Catalog) (l : Lifted) (st₀ : Store) (n : ℕ) : Type 0 where
  pub lifts : Lifts bytes work₀ words₀ c l st₀
  pub given : n < l.nodes

module _ (bytes work₀ words₀ : List ℕ) (c : Catalog) (l : Lifted) (st₀ : Store) (n : ℕ) (F : Starts bytes work₀ words₀ c l st₀ n) where
  -- the layout at the start
  abbrev L₀ : Laid bytes work₀ words₀ c l st₀
  L₀ = F.lifts.laid

  -- the whole walk
  abbrev whole : Pack → Lifting
  whole P = walk (args_of P) is_lifted (lift_node P) l.nodes (n ∷ []) (lifted_in work₀ words₀ l st₀)

  -- the node is given in each pack held
  given₀ : (P : Pack) → Reads bytes (records_of work₀ c) P → n < length P.nodes
  given₀ P r = omega (arith, F.given, L₀.many, length-nodes bytes (records_of work₀ c) P r)

  -- it gives what the definition gives
  whole_is : (P : Pack) → Reads bytes (records_of work₀ c) P → Proper P → lift (tree_of P n) (nodes words₀ st₀) ≡ stored (copied (whole P).memo n) (whole P).store
  unfolding lifted_in
  whole_is P r p = (walk_lifts P p.good l.nodes n (lifted_in work₀ words₀ l st₀) F.given (given₀ P r) (F.lifts.right P r p)).1

  module _ (work words : List ℕ) (st : Store) (top : ℕ) (W : Walks bytes work₀ words₀ work words c l st₀ st n (suc top)) where
    -- the layout now
    abbrev L : Laid bytes work words c l st
    L = W.running.lifts.laid

    -- how deep it may go
    abbrev d : ℕ
    d = l.nodes

    -- the state
    abbrev s : Lifting
    s = lifted_in work words l st

    -- the stack
    abbrev fs : List Frame
    fs = frames_in work (stack_at l) (suc top)

    -- the turn, of each pack held
    module _ (P : Pack) (r : Reads bytes (records_of work c) P) (p : Proper P) where
      -- the machine after it
      abbrev w : Walking Lifting
      w = turn_in P work words l st top

      -- how the stack stands
      G : Going P p d fs s
      G = W.running.goes P r p

      -- what is left stays, in one turn less
      turn_on : Kept (args_of P) is_lifted (lift_node P) (λ m. m) (args_fall P p.good) d fs s w
      unfolding frames_in turn_in
      turn_on = turn-kept (args_of P) is_lifted (lift_node P) (λ m. m) (args_fall P p.good) d (frame (get_or work (stack_at l + 2 * top) 0) (get_or work (stack_at l + 2 * top + 1) 0)) (frames_in work (stack_at l) top) s G.stacked

      -- the stack stays sound and the memo right
      turn_sound : Sound (args_of P) is_lifted (lift_node P) (lift_made P) (lift_others P) (λ m. m) (args_fall P p.good) (length P.nodes) (args_inside P p.good) w.state w.stack × Right P w.state
      unfolding frames_in turn_in
      turn_sound = lift_going P p.good d (frame (get_or work (stack_at l + 2 * top) 0) (get_or work (stack_at l + 2 * top + 1) 0)) (frames_in work (stack_at l) top) s G.stacked G.sound (W.running.lifts.right P r p)

      -- the store only grows
      turn_more : Grows (nodes words st) w.state.store
      unfolding frames_in turn_in lifted_in
      turn_more = turn_grows P (frame (get_or work (stack_at l + 2 * top) 0) (get_or work (stack_at l + 2 * top + 1) 0)) (frames_in work (stack_at l) top) s

    -- the tables are those of the start
    reads₀ : (P : Pack) → Reads bytes (records_of work c) P → Reads bytes (records_of work₀ c) P
    reads₀ P r = reads_back bytes work₀ work c (laid_same bytes work₀ words₀ c l st₀ L₀ work W.apart.long W.apart.ahead) L₀.held.cataloged P r

    -- and the other way round
    reads_now : (P : Pack) → Reads bytes (records_of work₀ c) P → Reads bytes (records_of work c) P
    reads_now P r = reads_on bytes work₀ work c (laid_same bytes work₀ words₀ c l st₀ L₀ work W.apart.long W.apart.ahead) L₀.held.cataloged P r

    -- one turn more
    module _ (work' words' : List ℕ) (k : ℕ) (st' : Store) (A : Advances bytes work words work' words' c l st top (Some (k, st'))) where
      -- the state then
      abbrev s' : Lifting
      s' = lifted_in work' words' l st'

      -- the stack then
      abbrev fs' : List Frame
      fs' = frames_in work' (stack_at l) k

      -- the tables are those of before
      reads_before : (P : Pack) → Reads bytes (records_of work' c) P → Reads bytes (records_of work c) P
      reads_before P r = reads_back bytes work work' c (laid_same bytes work words c l st L work' A.1.long A.1.ahead) L.held.cataloged P r

      -- the store then
      now : (P : Pack) (q : Reads bytes (records_of work c) P) (p : Proper P) → nodes words' st' ≡ (w P q p).state.store
      unfolding lifted_in
      now P q p = (A.3 P q p).1.store

      -- the loop goes on
      pub walks_on : Walks bytes work₀ words₀ work' words' c l st₀ st' n k
      walks_on = record {
        running = record {
          lifts = record { laid = A.0; right = λ P r p. let q = reads_before P r in right_alike P s' (w P q p).state (A.3 P q p).1 (turn_sound P q p).1 };
          goes = λ P r p.
              let q = reads_before P r in
              let e = sym (A.3 P q p).0 in
              record {
                stacked = subst (λ (gs : List Frame). Stacked (args_of P) is_lifted (lift_node P) (λ m. m) (args_fall P p.good) 0 d gs) e (turn_on P q p).stacked;
                sound = subst
                    (λ (gs : List Frame). Sound (args_of P) is_lifted (lift_node P) (lift_made P) (lift_others P) (λ m. m) (args_fall P p.good) (length P.nodes) (args_inside P p.good) s' gs)
                    e
                    (sound_alike P p s' (w P q p).state (A.3 P q p).1 (w P q p).stack (turn_sound P q p).0);
              };
        };
        apart = outside_then l.at l.end work₀ work work' W.apart A.1;
        are =
            let P = L.held.pack in
            let q = L.held.reads in
            let p = L.held.proper in
            let g : Grows (nodes words st) (nodes words' st') = subst (λ (t : List Node). Grows (nodes words st) t) (sym (now P q p)) (turn_more P q p) in
            A.2 ∙ ap (written (nodes words' st')) W.are ∙ written_again (nodes words st) (nodes words' st') words₀ g;
        whole = λ P r p.
            let q = reads_now P r in
            let go : List Frame → Lifting → Lifting = left (args_of P) is_lifted (lift_node P) d in
            let a : Alike (go fs' s') (go (w P q p).stack (w P q p).state) =
            subst (λ (gs : List Frame). Alike (go gs s') (go (w P q p).stack (w P q p).state)) (sym (A.3 P q p).0) (left_alike P d (w P q p).stack s' (w P q p).state (A.3 P q p).1) in
            let b : Alike (go fs s) (whole P) = W.whole P r p in
            alike_then (go fs' s') (go fs s) (whole P) (subst (λ (t : Lifting). Alike (go fs' s') t) (turn_on P q p).result a) b;
      }

      -- with a turn less to go
      pub walks_less : turns_in bytes work' words' c l st' k < turns_in bytes work words c l st (suc top)
      walks_less =
          let P = L.held.pack in
          let q = L.held.reads in
          let p = L.held.proper in
          let count : List Frame → Lifting → ℕ = turns_left (args_of P) is_lifted (lift_node P) d in
          let S = laid_same bytes work words c l st L work' A.1.long A.1.ahead in
          let a : turns_in bytes work' words' c l st' k ≡ count (w P q p).stack (w P q p).state =
          turns-held bytes work' words' c l st' k P (reads_on bytes work work' c S L.held.cataloged P q)
          ∙ ap (λ (gs : List Frame). count gs s') (A.3 P q p).0 ∙ turns_alike P d (w P q p).stack s' (w P q p).state (A.3 P q p).1 in
          let b : turns_in bytes work words c l st (suc top) ≡ count fs s = turns-held bytes work words c l st (suc top) P q in
          omega (arith, (turn_on P q p).measure)

    -- there is no room for a node
    pub walks_short : (work' words' : List ℕ) → length words ≡ length words₀ → Advances bytes work words work' words' c l st top None → Answers bytes work₀ words₀ work' words' c l st₀ n None
    walks_short work' words' e A = (
      λ P r p.
          let q = reads_now P r in
          let go : List Frame → Lifting → Lifting = left (args_of P) is_lifted (lift_node P) d in
          let g = words-grow (w P q p).state.store (go (w P q p).stack (w P q p).state).store (left_grows P d (w P q p).stack (w P q p).state) in
          let f : (go (w P q p).stack (w P q p).state).store ≡ (lift (tree_of P n) (nodes words₀ st₀)).store =
          ap (λ (t : Lifting). t.store) (turn_on P q p).result ∙ (W.whole P r p).store ∙ ap (λ (x : Placing). x.store) (sym (whole_is P r p)) in
          omega (arith, A.1 P q p, ap (λ (t : List Node). length (pattern_words t)) f),
      outside_then l.at l.end work₀ work work' W.apart A.0,
    )

  -- no frame is left
  module _ (work words : List ℕ) (st : Store) (W : Walks bytes work₀ words₀ work words c l st₀ st n 0) where
    -- the state is the walk's
    ended : (P : Pack) → Reads bytes (records_of work₀ c) P → Proper P → Alike (lifted_in work words l st) (whole P)
    unfolding frames_in
    ended P r p = subst (λ (t : Lifting). Alike t (whole P)) (left-none (args_of P) is_lifted (lift_node P) l.nodes (lifted_in work words l st)) (W.whole P r p)

    -- the node is lifted
    pub walks_lifted : 0 < get_or work (l.at + n) 0
    walks_lifted =
        let P = L₀.held.pack in
        let r = L₀.held.reads in
        let p = L₀.held.proper in
        let k = (walked P p.good l.nodes (n ∷ []) (lifted_in work₀ words₀ l st₀) (F.given, tt) (given₀ P r, tt) (F.lifts.right P r p)).knows.0 in
        ltb-true 0 (get_or work (l.at + n) 0) (sym (lifted_word work words l st n F.given) ∙ alike_known (lifted_in work words l st) (whole P) (ended P r p) n ∙ k)

    -- its pattern is the definition's
    pub walks_done : (q : Pattern) → q.0 ≡ get_or work (l.at + n) 0 - 1 → Answers bytes work₀ words₀ work words c l st₀ n (Some (q, st))
    unfolding lifted_in
    walks_done q e = (
      W.running.lifts,
      λ P r p.
          let a = ended P r p in
          whole_is P r p ∙ ap₂ stored (sym (alike_copied (lifted_in work words l st) (whole P) a n) ∙ copied-word work words l st n F.given ∙ sym e) (sym a.store),
      W.are,
      W.apart,
    )

-- where a frame is on the stack
pub walks_at : (bytes work₀ words₀ work words : List ℕ) (c : Catalog) (l : Lifted) (st₀ st : Store) (n top : ℕ) → 0 < top → Walks bytes work₀ words₀ work words c l st₀ st n top → Walks bytes work₀ words₀ work words c l st₀ st n (suc (top - 1))
walks_at bytes work₀ words₀ work words c l st₀ st n top h W = let e : top ≡ suc (top - 1) = omega arith in subst (λ (k : ℕ). Walks bytes work₀ words₀ work words c l st₀ st n k) e W

-- the same of the turns left
pub turns_at : (bytes work words : List ℕ) (c : Catalog) (l : Lifted) (st : Store) (k top : ℕ) → 0 < top → k < turns_in bytes work words c l st (suc (top - 1)) → k < turns_in bytes work words c l st top
turns_at bytes work words c l st k top h t = let e : suc (top - 1) ≡ top = omega arith in subst (λ (j : ℕ). k < turns_in bytes work words c l st j) e t

-- where none is
pub walks_none : (bytes work₀ words₀ work words : List ℕ) (c : Catalog) (l : Lifted) (st₀ st : Store) (n top : ℕ) → top ≤ 0 → Walks bytes work₀ words₀ work words c l st₀ st n top → Walks bytes work₀ words₀ work words c l st₀ st n 0
walks_none bytes work₀ words₀ work words c l st₀ st n top h W = let e : top ≡ 0 = omega arith in subst (λ (k : ℕ). Walks bytes work₀ words₀ work words c l st₀ st n k) e W

-- ---- the first frame
module _ (bytes work words : List ℕ) (c : Catalog) (l : Lifted) (st : Store) (n : ℕ) (T : Lifts bytes work words c l st) (h : n < l.nodes) where
  -- where it stands
  abbrev base : ℕ
  base = l.at + l.nodes

  -- the words with it
  abbrev first : List ℕ
  first = set (set work base n) (base + 1) 0

  -- there is room for it
  pub first-room : base + 1 < length work
  first-room = omega (arith, T.laid.fits, T.laid.inside)

  -- nothing is longer or shorter
  first_long : length first ≡ length work
  first_long = simp length-set

  -- no other word has changed
  first-other : (i : ℕ) → (i ≡ base → ⊥) → (i ≡ base + 1 → ⊥) → get_or first i 0 ≡ get_or work i 0
  first-other i p q = get_or-set_other (set work base n) (base + 1) i 0 0 q ∙ get_or-set_other work base i n 0 p

  -- none ahead
  first-ahead : (i : ℕ) → i < l.at → get_or first i 0 ≡ get_or work i 0
  first-ahead i p = first-other i (λ e. absurd (omega arith)) (λ e. absurd (omega arith))

  -- none outside
  pub first_apart : Apart work first l
  first_apart = record { long = first_long; ahead = first-ahead; behind = λ i p. first-other i (λ e. absurd (omega (arith, T.laid.fits))) (λ e. absurd (omega (arith, T.laid.fits))) }

  -- the state is as it was
  first-state : lifted_in first words l st ≡ lifted_in work words l st
  first-state = lifted_same work first words l st (part-set-behind l.at l.nodes (set work base n) (base + 1) 0 (omega arith) ∙ part-set-behind l.at l.nodes work base n (omega arith))

  -- and the index
  first_index : index_in first l ≡ index_in work l
  first_index =
      part-set-before (index_at l) (l.end - index_at l) (set work base n) (base + 1) 0 (omega arith) ∙ part-set-before (index_at l) (l.end - index_at l) work base n (omega arith)

  -- and the pack's tables
  first-same : Same work first c
  first-same = laid_same bytes work words c l st T.laid first first_long first-ahead

  -- the loop may start
  pub first_starts : Starts bytes first words c l st n
  first_starts = record {
    lifts = record {
      laid = laid_on bytes work words c l st T.laid first words st first_long first-ahead (subst (λ (xs : List ℕ). Stored xs words st) (sym first_index) T.laid.index);
      right = λ P r p. subst (Right P) (sym first-state) (T.right P (reads_back bytes work first c first-same T.laid.held.cataloged P r) p);
    };
    given = h;
  }

  -- the stack has this frame alone
  first_frames : frames_in first (stack_at l) 1 ≡ frame n 0 ∷ []
  unfolding frames_in
  first_frames =
      let x : base + 2 * 0 ≡ base = omega arith in
      let y : base + 2 * 0 + 1 ≡ base + 1 = omega arith in
      let a : get_or first (base + 2 * 0) 0 ≡ n = ap (λ (i : ℕ). get_or first i 0) x ∙ get_or-set_other (set work base n) (base + 1) base 0 0 (λ e. absurd (omega arith)) ∙ get_or-set_same work base n 0 (omega (arith, first-room)) in
      let b : get_or first (base + 2 * 0 + 1) 0 ≡ 0 = ap (λ (i : ℕ). get_or first i 0) y ∙ get_or-set_same (set work base n) (base + 1) 0 0 (omega (arith, first-room, length-set work base n)) in
      ap₂ (λ (i j : ℕ). frame i j ∷ []) a b

  -- what is left of it is the walk
  pub first_walks : Walks bytes first words first words c l st st n 1
  first_walks = record {
    running = record {
      lifts = first_starts.lifts;
      goes = λ P r p.
          let s = lifted_in first words l st in
          let g = given₀ bytes first words c l st n first_starts P r in
          let G : Going P p l.nodes (frame n 0 ∷ []) s = record {
            stacked = (omega arith, omega arith);
            sound = sound_new (args_of P) is_lifted (lift_node P) (lift_made P) (lift_others P) (λ m. m) (args_fall P p.good) (length P.nodes) (args_inside P p.good) n s g;
          } in
          subst (λ (fs : List Frame). Going P p l.nodes fs s) (sym first_frames) G;
    };
    apart = outside_none l.at l.end first;
    are = begins_written (nodes words st) words T.laid.index.placed.begins;
    whole = λ P r p.
        let s = lifted_in first words l st in
        let t = walk (args_of P) is_lifted (lift_node P) l.nodes (n ∷ []) s in
        let e = ap (λ (fs : List Frame). left (args_of P) is_lifted (lift_node P) l.nodes fs s) first_frames ∙ left-new (args_of P) is_lifted (lift_node P) l.nodes n [] s ∙ left-none (args_of P) is_lifted (lift_node P) l.nodes t in
        subst (λ (u : Lifting). Alike u t) (sym e) (alike_self t);
  }

  -- what is answered from then on is answered from the start
  pub first_answers : (work' words' : List ℕ) (r : Option (Pattern × Store)) → Answers bytes first words work' words' c l st n r → Answers bytes work words work' words' c l st n r
  first_answers work' words' (Some (q, st')) A = (
    A.0,
    λ P r p. A.1 P (reads_on bytes work first c first-same T.laid.held.cataloged P r) p,
    A.2,
    outside_then l.at l.end work first work' first_apart A.3,
  )
  first_answers work' words' None A = (λ P r p. A.0 P (reads_on bytes work first c first-same T.laid.held.cataloged P r) p, outside_then l.at l.end work first work' first_apart A.1)

  -- the pattern is read where no frame is left
  pub first_done : (work' words' : List ℕ) (st' : Store) → Walks bytes first words work' words' c l st st' n 0 → (q : Pattern) → q.0 ≡ get_or work' (l.at + n) 0 - 1 → Answers bytes work words work' words' c l st n (Some (q, st'))
  first_done work' words' st' W q e = first_answers work' words' (Some (q, st')) (walks_done bytes first words c l st n first_starts work' words' st' W q e)
