-- One turn on the stack: what is asked for it, and what each way of it leaves.
use Rattle.std.specs.Prelude.{Some, None}
use Rattle.std.specs.Prelude.{◌≡◌, refl, Bool, false, ltb, set}
use Rattle.std.proofs.Common.{sym, ◌∙◌, subst, add-one, length-set, get_or-set_same, get_or-set_other}
use Rattle.std.proofs.Math.Path.{ap, ap₂}
use Rattle.std.proofs.Math.Bool.{true}
use mathlib.Core.List.{List, ◌∷◌}
use Prim.Native.Nat.{ℕ, zero, suc, ◌+◌, ◌*◌, ◌-◌, ◌≤◌, ◌<◌}
use native.Mathlib.Omega.{arith}
use borrow.Author.Tests.{lt-ltb, le-ltb, ltb-true}
use Rattle.std.proofs.Math.Dec.{eqb}
use Rattle.std.proofs.Math.ListN.{length, get_or}
use Rattle.definition.specs.Test.{◌and◌}
use Rattle.definition.specs.Pack.{Pack}
use Rattle.theory.specs.Walks.Machine.{frame, Walking, walking, turn, height, turn-kept}
use Rattle.theory.specs.Walks.Lifting.{Lifting, args_of, is_lifted, lift_node, args_fall}
use Rattle.base.specs.Outside.{outside_none}
use Rattle.base.specs.Part.{part-set-behind, part-set-before}
use Rattle.store.specs.Stored.{Stored, nodes, written}
use Rattle.store.specs.Table.{begins_written}
use Rattle.store.specs.declared.nodes.Store.{Store}
use Rattle.base.specs.declared.id.Pattern.{Pattern}
use Rattle.pack_tables.specs.Catalog.{records_of}
use Rattle.pack_tables.specs.declared.catalog.Catalog.{Catalog}
use Rattle.pack_read.specs.Reads.{Reads, length-nodes}
use Rattle.pack_read.specs.Says.{OfPack}
use Rattle.pack_read.specs.Held.{Proper, Held}
use Rattle.term_lift.specs.Alike.{Alike, alike_self}
use Rattle.term_lift.specs.Lifts.{stack_at, index_at, marks, index_in, lifted_in, frames_in, Laid, Ripe, Finishes, Running, turn_in, Advances}
use Rattle.term_lift.specs.Memo.{lifted_word, lifted_same, frames_same}
use Rattle.term_lift.specs.Keys.{arguments_few, argument_given}
use Rattle.term_lift.specs.Nodes.{laid_on}
use Rattle.term_lift.specs.declared.lift.Lifted.{Lifted}

-- as many frames as are counted
pub length_frames : (work : List ℕ) (a k : ℕ) → length (frames_in work a k) ≡ k
unfolding frames_in
length_frames work a zero = refl
length_frames work a (suc k) = ap suc (length_frames work a k)

module _ (bytes work words : List ℕ) (c : Catalog) (l : Lifted) (st : Store) (top : ℕ) (R : Running bytes work words c l st (suc top)) where
  -- the layout
  abbrev L : Laid bytes work words c l st
  L = R.lifts.laid

  -- the pack held
  abbrev H : Held bytes work c
  H = L.held

  -- the frame on top
  abbrev at : ℕ
  at = l.at + l.nodes + 2 * top

  -- its node
  abbrev n : ℕ
  n = get_or work at 0

  -- its count
  abbrev taken : ℕ
  taken = get_or work (at + 1) 0

  -- of the pack that is held
  many : (P : Pack) → Reads bytes (records_of work c) P → l.nodes ≡ length P.nodes
  many P r = L.many ∙ sym (length-nodes bytes (records_of work c) P r)

  -- there is room for the frame
  pub turn-room : suc top ≤ l.nodes
  turn-room =
      let G = R.goes H.pack H.reads H.proper in
      let h = height (args_of H.pack) is_lifted (lift_node H.pack) (λ m. m) (args_fall H.pack H.proper.good) 0 l.nodes (frames_in work (stack_at l) (suc top)) G.stacked in
      omega (arith, length_frames work (stack_at l) (suc top))

  -- its words are there
  pub turn_inside : at + 1 < length work
  turn_inside = omega (arith, turn-room, L.fits, L.inside)

  -- what is known of the frame
  goes : (P : Pack) → Reads bytes (records_of work c) P → (p : Proper P) → (n < length P.nodes) × ((j : ℕ) → j < taken → is_lifted (lifted_in work words l st) (get_or (args_of P n) j 0) ≡ true)
  unfolding frames_in
  goes P r p = let s = (R.goes P r p).sound.0 in (s.given, s.ready)

  -- its node is given
  pub turn-given : n < l.nodes
  turn-given = omega (arith, (goes H.pack H.reads H.proper).0, many H.pack H.reads)

  -- and recorded
  pub turn_recorded : n < length (records_of work c 3)
  turn_recorded = omega (arith, turn-given, L.many)

  -- whether its node is lifted
  seen : (b : Bool) → b ≡ (eqb taken 0 and ltb 0 (get_or work (l.at + n) 0)) → eqb taken 0 and is_lifted (lifted_in work words l st) n ≡ b
  seen b e = ap (λ (x : Bool). eqb taken 0 and x) (lifted_word work words l st n turn-given) ∙ sym e

  -- the words are those of the store
  still : words ≡ written (nodes words st) words
  still = begins_written (nodes words st) words L.index.placed.begins

  -- it is dropped
  pub turn_passed : (b : Bool) → b ≡ (eqb taken 0 and ltb 0 (get_or work (l.at + n) 0)) → b ≡ true → Advances bytes work words work words c l st top (Some (top, st))
  unfolding turn_in turn frames_in
  turn_passed b e t =
      let s : eqb taken 0 and is_lifted (lifted_in work words l st) n ≡ true = seen b e ∙ t in
      (L, outside_none l.at l.end work, still, λ P r p. (rw (s, turn), rw (s, turn) (alike_self (lifted_in work words l st))))

  -- it stays
  module _ (b : Bool) (e : b ≡ (eqb taken 0 and ltb 0 (get_or work (l.at + n) 0))) (f : b ≡ false) (k : ℕ) (g : OfPack bytes work c (λ P. length (args_of P n)) k) where
    -- its node is open
    kept_on : eqb taken 0 and is_lifted (lifted_in work words l st) n ≡ false
    kept_on = seen b e ∙ f

    -- an argument is left
    module _ (h : taken < k) where
      -- in the pack held
      pub turn-left : taken < length (args_of H.pack n)
      turn-left = omega (arith, g H.pack H.reads)

      -- of few
      pub turn_small : taken < 16
      turn_small = omega (arith, turn-left, arguments_few H.pack H.proper n (goes H.pack H.reads H.proper).0)

      -- the machine gives it a frame
      enters : (P : Pack) → Reads bytes (records_of work c) P
          → turn_in P work words l st top ≡ walking (frame (get_or (args_of P n) taken 0) 0 ∷ frame n (suc taken) ∷ frames_in work (stack_at l) top) (lifted_in work words l st)
      unfolding turn_in turn frames_in
      enters P r = let t = lt-ltb taken (length (args_of P n)) (omega (arith, g P r)) in rw (kept_on, t, turn)

      -- there is room for its frame
      more_room : suc (suc top) ≤ l.nodes
      unfolding turn_in frames_in
      more_room =
          let P = H.pack in
          let p = H.proper in
          let K = turn-kept (args_of P) is_lifted (lift_node P) (λ m. m) (args_fall P p.good) l.nodes (frame n taken) (frames_in work (stack_at l) top) (lifted_in work words l st) (R.goes P H.reads p).stacked in
          let w = turn_in P work words l st top in
          let t = height (args_of P) is_lifted (lift_node P) (λ m. m) (args_fall P p.good) 0 l.nodes w.stack K.stacked in
          omega (arith, ap (λ (v : Walking Lifting). length v.stack) (enters P H.reads), length_frames work (stack_at l) top)

      -- its words are there
      pub turn-above : at + 3 < length work
      turn-above = omega (arith, more_room, L.fits, L.inside)

      module _ (a : ℕ) (i : OfPack bytes work c (λ P. get_or (args_of P n) taken 0) a) where
        -- the words with the new frame
        abbrev above : List ℕ
        above = set (set (set work (at + 1) (taken + 1)) (at + 2) a) (at + 3) 0

        -- nothing is longer or shorter
        above_long : length above ≡ length work
        above_long = simp length-set

        -- no other word has changed
        above_other : (j : ℕ) → (j ≡ at + 1 → ⊥) → (j ≡ at + 2 → ⊥) → (j ≡ at + 3 → ⊥) → get_or above j 0 ≡ get_or work j 0
        above_other j p q r =
            get_or-set_other (set (set work (at + 1) (taken + 1)) (at + 2) a) (at + 3) j 0 0 r
            ∙ get_or-set_other (set work (at + 1) (taken + 1)) (at + 2) j a 0 q
            ∙ get_or-set_other work (at + 1) j (taken + 1) 0 p

        -- none below
        above-under : (j : ℕ) → j ≤ at → get_or above j 0 ≡ get_or work j 0
        above-under j q = above_other j (λ x. absurd (omega arith)) (λ x. absurd (omega arith)) (λ x. absurd (omega arith))

        -- none above
        above-over : (j : ℕ) → at + 3 < j → get_or above j 0 ≡ get_or work j 0
        above-over j q = above_other j (λ x. absurd (omega arith)) (λ x. absurd (omega arith)) (λ x. absurd (omega arith))

        -- the two frames on top
        above-taken : get_or above (at + 1) 0 ≡ suc taken
        above-taken =
            get_or-set_other (set (set work (at + 1) (taken + 1)) (at + 2) a) (at + 3) (at + 1) 0 0 (λ x. absurd (omega arith))
            ∙ get_or-set_other (set work (at + 1) (taken + 1)) (at + 2) (at + 1) a 0 (λ x. absurd (omega arith))
            ∙ get_or-set_same work (at + 1) (taken + 1) 0 (omega (arith, turn-above))
            ∙ add-one taken

        -- the new one's node
        above-node : get_or above (at + 2) 0 ≡ a
        above-node =
            get_or-set_other (set (set work (at + 1) (taken + 1)) (at + 2) a) (at + 3) (at + 2) 0 0 (λ x. absurd (omega arith))
            ∙ get_or-set_same (set work (at + 1) (taken + 1)) (at + 2) a 0 (omega (arith, turn-above, length-set work (at + 1) (taken + 1)))

        -- and its count
        above_new : get_or above (at + 3) 0 ≡ 0
        above_new = get_or-set_same (set (set work (at + 1) (taken + 1)) (at + 2) a) (at + 3) 0 0 (omega (arith, turn-above, length-set work (at + 1) (taken + 1), length-set (set work (at + 1) (taken + 1)) (at + 2) a))

        -- the stack is the machine's
        above_frames : frames_in above (stack_at l) (suc (suc top)) ≡ frame a 0 ∷ frame n (suc taken) ∷ frames_in work (stack_at l) top
        unfolding frames_in
        above_frames =
            let x : stack_at l + 2 * suc top ≡ at + 2 = omega arith in
            let y : stack_at l + 2 * suc top + 1 ≡ at + 3 = omega arith in
            let fs = frames_same work above (stack_at l) top (λ j p q. above-under j (omega arith)) in
            let u : frame (get_or above (stack_at l + 2 * suc top) 0) (get_or above (stack_at l + 2 * suc top + 1) 0) ≡ frame a 0 = ap₂ frame (ap (λ (j : ℕ). get_or above j 0) x ∙ above-node) (ap (λ (j : ℕ). get_or above j 0) y ∙ above_new) in
            let v : frame (get_or above at 0) (get_or above (at + 1) 0) ≡ frame n (suc taken) = ap₂ frame (above-under at (omega arith)) above-taken in
            ap₂ ◌∷◌ u (ap₂ ◌∷◌ v fs)

        -- the nodes' words and the index are as they were
        above-marks : marks above l ≡ marks work l
        above-marks =
            part-set-behind l.at l.nodes (set (set work (at + 1) (taken + 1)) (at + 2) a) (at + 3) 0 (omega arith)
            ∙ part-set-behind l.at l.nodes (set work (at + 1) (taken + 1)) (at + 2) a (omega arith)
            ∙ part-set-behind l.at l.nodes work (at + 1) (taken + 1) (omega arith)

        -- and the index
        above_index : index_in above l ≡ index_in work l
        above_index =
            part-set-before (index_at l) (l.end - index_at l) (set (set work (at + 1) (taken + 1)) (at + 2) a) (at + 3) 0 (omega (arith, more_room))
            ∙ part-set-before (index_at l) (l.end - index_at l) (set work (at + 1) (taken + 1)) (at + 2) a (omega (arith, more_room))
            ∙ part-set-before (index_at l) (l.end - index_at l) work (at + 1) (taken + 1) (omega (arith, more_room))

        -- the argument gets a frame
        pub turn_entered : Advances bytes work words above words c l st top (Some ((top + 2), st))
        turn_entered =
            let two : top + 2 ≡ suc (suc top) = omega arith in
            let ahead : (j : ℕ) → j < l.at → get_or above j 0 ≡ get_or work j 0 = λ j q. above-under j (omega arith) in (
              laid_on bytes work words c l st L above words st above_long ahead (subst (λ (xs : List ℕ). Stored xs words st) (sym above_index) L.index),
              record { long = above_long; ahead = ahead; behind = λ j q. above-over j (omega (arith, more_room, L.fits)) },
              still,
              λ P r p.
                  let w = enters P r in (
                    ap (frames_in above (stack_at l)) two ∙ above_frames ∙ ap (λ (m : ℕ). frame m 0 ∷ frame n (suc taken) ∷ frames_in work (stack_at l) top) (i P r) ∙ ap (λ (v : Walking Lifting). v.stack) (sym w),
                    rw w (subst (λ (s : Lifting). Alike s (lifted_in work words l st)) (sym (lifted_same work above words l st above-marks)) (alike_self (lifted_in work words l st))),
                  ),
            )

    -- none is left
    module _ (h : k ≤ taken) where
      -- the machine lifts the node
      finishes : (P : Pack) → Reads bytes (records_of work c) P → turn_in P work words l st top ≡ walking (frames_in work (stack_at l) top) (lift_node P n (lifted_in work words l st))
      unfolding turn_in turn frames_in
      finishes P r = let t = le-ltb taken (length (args_of P n)) (omega (arith, g P r)) in rw (kept_on, t, turn)

      -- its arguments are lifted
      pub turn_ripe : Ripe bytes work c l n
      turn_ripe = record {
        held = H;
        many = L.many;
        inside = omega (arith, L.fits, L.inside);
        given = turn-given;
        ripe = λ P r p j q.
            let x = argument_given P p n j (goes P r p).0 q in
            let y : get_or (args_of P n) j 0 < l.nodes = omega (arith, many P r) in
            ltb-true 0 _ (sym (lifted_word work words l st (get_or (args_of P n) j 0) y) ∙ (goes P r p).1 j (omega (arith, g P r)));
      }

      -- the node is lifted
      pub turn_finished : (work' words' : List ℕ) (q : Pattern) (st' : Store) → Finishes bytes work words work' words' c l st n (Some (q, st')) → Advances bytes work words work' words' c l st top (Some (top, st'))
      turn_finished work' words' q st' F = (
        F.0,
        F.1,
        F.3,
        λ P r p.
            let w = finishes P r in (
              frames_same work work' (stack_at l) top (λ j x y. F.2 j x (omega (arith, turn-room))) ∙ ap (λ (v : Walking Lifting). v.stack) (sym w),
              rw w (F.4 P r p),
            ),
      )

      -- there is no room for it
      pub turn_short : (work' words' : List ℕ) → Finishes bytes work words work' words' c l st n None → Advances bytes work words work' words' c l st top None
      turn_short work' words' F = (F.0, λ P r p. rw (finishes P r) (F.1 P r p))
