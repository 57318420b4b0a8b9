-- One turn on the stack: what is asked for it, and what each way of it leaves.
use Rattle.std.specs.Prelude.{◌≡◌, refl, Bool}
use Rattle.std.proofs.Math.Path.{sym, ap, ap₂, subst}
use Rattle.std.proofs.Common.{◌∙◌}
use Rattle.std.proofs.Math.Bool.{true, false}
use mathlib.Core.List.{List, [], ◌∷◌}
use Prim.Native.Nat.{ℕ, zero, suc, ◌+◌, ◌*◌, ◌/◌, ◌≤◌, ◌<◌}
use Rattle.std.proofs.Math.Numerals.{add-one}
use native.Mathlib.Omega.{arith}
use borrow.Author.Tests.{lt-ltb, le-ltb}
use Rattle.std.proofs.Math.Dec.{eqb}
use Rattle.std.proofs.Math.ListN.{length, get_or, set, length-set}
use Rattle.std.proofs.Math.Seq.{get_or-set_same, get_or-set_other}
use Rattle.definition.specs.Test.{◌and◌}
use Rattle.definition.specs.Pack.{Node, no_node}
use Rattle.definition.specs.Analysis.{Copy}
use Rattle.definition.specs.Classes.{is_some}
use Rattle.theory.specs.Copies.Parts.{kids_in, kids_fall, kids_inside}
use Rattle.theory.specs.Walks.Walk.{Known}
use Rattle.theory.specs.Walks.Machine.{Frame, frame, Walking, walking, turn, Stacked, height, turn-kept}
use Rattle.theory.specs.Walks.WalkReady.{Sound, turn_going}
use Rattle.theory.specs.Walks.CopyWalk.{is_copied, copy_at, copy-made, copy-others}
use Rattle.base.specs.Outside.{Outside, outside_then, outside_set}
use Rattle.store.specs.Words.{key_of}
use Rattle.store.specs.Stored.{nodes}
use Rattle.memo.specs.Recall.{recall}
use Rattle.store.specs.declared.nodes.Store.{Store}
use Rattle.memo.specs.declared.memo.Memo.{Memo}
use Rattle.term_copy.specs.declared.node.Copying.{Copying}
use Rattle.term_copy.specs.Places.{table_in, value_in}
use Rattle.theory.specs.Copies.Terms.{Patterns}
use Rattle.graph.specs.Cells.{marks_in}
use Rattle.term_copy.specs.Held.{Holding, frames_in, Going}
use Rattle.term_copy.specs.Steps.{Key}
use Rattle.term_copy.specs.Frames.{turn_of}
use Rattle.term_copy.specs.Grown.{nodes-most, memo_room, key-copied, copied_is}
use Rattle.graph.specs.declared.graph.Graph.{Graph as Counts}

-- ---- the frames
-- as many as are counted
pub length_frames : (work : List ℕ) (a k : ℕ) → length (frames_in work a k) ≡ k
unfolding frames_in
length_frames work a zero = refl
length_frames work a (suc k) = ap suc (length_frames work a k)

-- where their words are as they were, they are
pub frames_same : (work work' : List ℕ) (a k : ℕ) → ((i : ℕ) → a ≤ i → i < a + 2 * k → get_or work' i 0 ≡ get_or work i 0) → frames_in work' a k ≡ frames_in work a k
unfolding frames_in
frames_same work work' a zero h = refl
frames_same work work' a (suc k) h =
    ap₂ ◌∷◌ (ap₂ frame (h (a + 2 * k) (omega arith) (omega arith)) (h (a + 2 * k + 1) (omega arith) (omega arith))) (frames_same work work' a k (λ i l m. h i l (omega arith)))

-- a frame that takes one more, and a new one above it
module _ (work : List ℕ) (a top q taken : ℕ) where
  -- the words then
  abbrev pub entering : List ℕ
  entering = set (set (set work (a + 2 * top + 1) (taken + 1)) (a + 2 * top + 2) q) (a + 2 * top + 3) 0

  -- what they leave
  pub entering_outside : (b : ℕ) → a + 2 * top + 3 < b → Outside a b work entering
  entering_outside b h =
      let one = set work (a + 2 * top + 1) (taken + 1) in
      let two = set one (a + 2 * top + 2) q in
      outside_then a b work two entering
      (outside_then a b work one two (outside_set a b work (a + 2 * top + 1) (taken + 1) (omega arith) (omega arith)) (outside_set a b one (a + 2 * top + 2) q (omega arith) (omega arith)))
      (outside_set a b two (a + 2 * top + 3) 0 (omega arith) (omega arith))

  -- the frames then
  pub entering_frames : a + 2 * top + 3 < length work → frames_in entering a (suc (suc top)) ≡ frame q 0 ∷ frame (get_or work (a + 2 * top) 0) (suc taken) ∷ frames_in work a top
  unfolding frames_in
  entering_frames h =
      let at = a + 2 * top in
      let one = set work (at + 1) (taken + 1) in
      let two = set one (at + 2) q in
      let l1 = length-set work (at + 1) (taken + 1) in
      let l2 = length-set one (at + 2) q in
      let e2 : a + 2 * suc top ≡ at + 2 = omega arith in
      let e3 : a + 2 * suc top + 1 ≡ at + 3 = omega arith in
      let w2 : get_or entering (at + 2) 0 ≡ q = get_or-set_other two (at + 3) (at + 2) 0 0 (λ e. absurd (omega arith)) ∙ get_or-set_same one (at + 2) q 0 (omega arith) in
      let w3 : get_or entering (at + 3) 0 ≡ 0 = get_or-set_same two (at + 3) 0 0 (omega arith) in
      let w0 : get_or entering at 0 ≡ get_or work at 0 =
      get_or-set_other two (at + 3) at 0 0 (λ e. absurd (omega arith)) ∙ get_or-set_other one (at + 2) at q 0 (λ e. absurd (omega arith)) ∙ get_or-set_other work (at + 1) at (taken + 1) 0 (λ e. absurd (omega arith)) in
      let w1 : get_or entering (at + 1) 0 ≡ suc taken =
      get_or-set_other two (at + 3) (at + 1) 0 0 (λ e. absurd (omega arith)) ∙ get_or-set_other one (at + 2) (at + 1) q 0 (λ e. absurd (omega arith)) ∙ get_or-set_same work (at + 1) (taken + 1) 0 (omega arith) ∙ add-one taken in
      let rest : frames_in entering a top ≡ frames_in work a top = frames_same work entering a top (λ i l m.
      get_or-set_other two (at + 3) i 0 0 (λ e. absurd (omega arith)) ∙ get_or-set_other one (at + 2) i q 0 (λ e. absurd (omega arith)) ∙ get_or-set_other work (at + 1) i (taken + 1) 0 (λ e. absurd (omega arith))) in
      ap₂ ◌∷◌ (ap₂ frame (ap (λ (i : ℕ). get_or entering i 0) e2 ∙ w2) (ap (λ (i : ℕ). get_or entering i 0) e3 ∙ w3)) (ap₂ ◌∷◌ (ap₂ frame w0 w1) rest)

-- where the node at each place is known, each node is
known-all : (c : Copy) (xs : List ℕ) → ((j : ℕ) → j < length xs → is_copied c (get_or xs j 0) ≡ true) → Known is_copied c xs
known-all c [] h = tt
known-all c (x ∷ xs) h = (h 0 (omega arith), known-all c xs (λ j b. h (suc j) (omega arith)))

-- ---- a turn on the frame above `top` others
module _ (work words cells₀ flex : List ℕ) (l : Copying) (st : Store) (memo : Memo) (g : Counts) (top : ℕ) where
  -- the store's nodes
  abbrev pub s : List Node
  s = nodes words st

  -- where the frame stands
  abbrev pub at : ℕ
  at = l.walk + 2 * top

  -- its pattern
  abbrev pub p : ℕ
  p = get_or work at 0

  -- how many arguments it has taken
  abbrev pub taken : ℕ
  taken = get_or work (at + 1) 0

  -- its node
  abbrev pub n : Node
  n = get_or s p no_node

  module _ (P : Patterns s) (c : Copy) (G : Going work words cells₀ flex l st memo P g (suc top) c) where
    -- what is held
    abbrev H : Holding work words cells₀ flex l st memo g c
    H = G.holds

    -- there is room for the frame
    pub turn-room : suc top ≤ length words / 2
    turn-room =
        let h = height (kids_in s) is_copied (copy_at s (marks_in flex)) (λ m. m) (kids_fall s P.earlier) 0 (length s) (frames_in work l.walk (suc top)) G.stacked in
        omega (arith, length_frames work l.walk (suc top), nodes-most _ words st H.stored)

    -- its words are within
    pub turn_inside : at + 1 < length work
    turn_inside = omega (arith, turn-room, H.room.stack, H.apart.marks, H.apart.rows)

    -- its node is one
    pub turn-given : p < length s
    unfolding frames_in
    turn-given = G.sound.0.given

    -- the memo has a place for it
    pub turn-known : p < length (recall (table_in work l) memo)
    turn-known = omega (arith, turn-given, memo_room work words cells₀ flex l st memo H.apart H.room H.stored)

    -- its key is as copying asks
    pub turn-key : Key work l memo (key_of n)
    turn-key = key-copied work words cells₀ flex l st memo P H.apart H.room H.stored p turn-given

    -- the arguments that were taken are copied
    ready : (j : ℕ) → j < taken → is_copied c (get_or (kids_in s p) j 0) ≡ true
    unfolding frames_in
    ready = G.sound.0.ready

    -- what is held after it is a walk's, if it is the machine's
    pub going_on : (work' cells' : List ℕ) (g' : Counts) (k : ℕ) (fs : List Frame) (d : Copy) → turn_of work words flex l st (suc top) c ≡ walking fs d → Holding work' words cells' flex l st memo g' d → frames_in work' l.walk k ≡ fs
        → Going work' words cells' flex l st memo P g' k (turn_of work words flex l st (suc top) c).state × (frames_in work' l.walk k ≡ (turn_of work words flex l st (suc top) c).stack)
    unfolding frames_in
    going_on work' cells' g' k fs d e h f =
        let E = P.earlier in
        let W = turn_of work words flex l st (suc top) c in
        let q : frames_in work' l.walk k ≡ W.stack = f ∙ sym (ap (λ (v : Walking Copy). v.stack) e) in
        let K = turn-kept (kids_in s) is_copied (copy_at s (marks_in flex)) (λ m. m) (kids_fall s E) (length s) (frame p taken) (frames_in work l.walk top) c G.stacked in
        let T = turn_going (kids_in s) is_copied (copy_at s (marks_in flex)) (copy-made s (marks_in flex)) (copy-others s (marks_in flex)) (λ m. m) (kids_fall s E) (length s) (kids_inside s E) (λ _. Unit {0}) (λ x t a b i j. tt) (length s) (frame p taken) (frames_in work l.walk top) c G.stacked G.sound tt in (
          record {
            holds = subst (λ (b : Copy). Holding work' words cells' flex l st memo g' b) (sym (ap (λ (v : Walking Copy). v.state) e)) h;
            stacked = subst (λ (fs : List Frame). Stacked (kids_in s) is_copied (copy_at s (marks_in flex)) (λ m. m) (kids_fall s E) 0 (length s) fs) (sym q) K.stacked;
            sound = subst (λ (fs : List Frame). Sound (kids_in s) is_copied (copy_at s (marks_in flex)) (copy-made s (marks_in flex)) (copy-others s (marks_in flex)) (λ m. m) (kids_fall s E) (length s) (kids_inside s E) W.state fs) (sym q) T.0;
          },
          q,
        )

    -- whether it is dropped
    pub seen : (b : Bool) → b ≡ (eqb taken 0 and is_some (value_in work l memo p)) → eqb taken 0 and is_copied c p ≡ b
    seen b e = ap (λ (x : Bool). eqb taken 0 and x) (copied_is work words cells₀ flex l st memo g c H p) ∙ sym e

    -- then the machine drops it
    pub dropped : (b : Bool) → b ≡ (eqb taken 0 and is_some (value_in work l memo p)) → b ≡ true → turn_of work words flex l st (suc top) c ≡ walking (frames_in work l.walk top) c
    unfolding frames_in turn
    dropped b e t = let f : eqb taken 0 and is_copied c p ≡ true = seen b e ∙ t in rw (f, turn)

    -- it stays
    module _ (b : Bool) (e : b ≡ (eqb taken 0 and is_some (value_in work l memo p))) (f : b ≡ false) where
      -- the machine enters its next argument
      pub entered : taken < length (kids_in s p) → turn_of work words flex l st (suc top) c ≡ walking (frame (get_or (kids_in s p) taken 0) 0 ∷ frame p (suc taken) ∷ frames_in work l.walk top) c
      unfolding frames_in turn
      entered h = let x : eqb taken 0 and is_copied c p ≡ false = seen b e ∙ f in let y = lt-ltb taken (length (kids_in s p)) h in rw (x, y, turn)

      -- or copies its node
      pub finished : length (kids_in s p) ≤ taken → turn_of work words flex l st (suc top) c ≡ walking (frames_in work l.walk top) (copy_at s (marks_in flex) p c)
      unfolding frames_in turn
      finished h = let x : eqb taken 0 and is_copied c p ≡ false = seen b e ∙ f in let y = le-ltb taken (length (kids_in s p)) h in rw (x, y, turn)

      -- there is room for one frame more
      pub entered_room : taken < length (kids_in s p) → suc (suc top) ≤ length words / 2
      unfolding frames_in
      entered_room h =
          let W = turn_of work words flex l st (suc top) c in
          let K = turn-kept (kids_in s) is_copied (copy_at s (marks_in flex)) (λ m. m) (kids_fall s P.earlier) (length s) (frame p taken) (frames_in work l.walk top) c G.stacked in
          let t = height (kids_in s) is_copied (copy_at s (marks_in flex)) (λ m. m) (kids_fall s P.earlier) 0 (length s) W.stack K.stacked in
          let many : length W.stack ≡ suc (suc (length (frames_in work l.walk top))) = ap (λ (v : Walking Copy). length v.stack) (entered h) in
          omega (arith, many, length_frames work l.walk top, nodes-most _ words st H.stored)

      -- whose arguments are copied
      pub all_known : length (kids_in s p) ≤ taken → Known is_copied c (kids_in s p)
      all_known h = known-all c (kids_in s p) (λ j k. ready j (omega arith))
