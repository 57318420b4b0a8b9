-- The memoised post-order walk by an explicit stack: each turn keeps what is left to do, which is the walk, and the stack stays low.
use Rattle.std.specs.Prelude.{◌≡◌, Bool, eqb, ltb, length}
use Rattle.std.proofs.Math.Path.{refl, ap}
use Rattle.std.proofs.Common.{sym, ◌∙◌, eqb-true, ltb-true, ltb-false, eq-eqb}
use Rattle.std.proofs.Math.Bool.{true, false}
use mathlib.Core.List.{List, [], ◌∷◌, ◌++◌}
use Prim.Native.Nat.{ℕ, zero, suc, ◌+◌, ◌*◌, ◌<◌, ◌≤◌}
use native.Mathlib.Omega.{arith}
use Rattle.std.proofs.Math.ListN.{get_or, drop, drop_of_length-le}
use Rattle.std.proofs.Math.Seq.{drop-cons}
use Rattle.definition.specs.Test.{is, see, never, ◌and◌, and_parts}
use Rattle.theory.specs.Walks.Walk.{Under, under_at, walk, effort, walk_none, effort-none, walk-known, effort-known, walk_then, effort_then, walk_open, effort_open}

-- a node on the stack, and how many of its kids were taken
pub record Frame : Type 0 where
  pub node : ℕ
  pub taken : ℕ

-- the frame of a node and a count
abbrev pub frame : ℕ → ℕ → Frame
frame x i = record { node = x; taken = i }

-- the machine: its stack, the top first, and the state
pub record Walking (S : Type 0) : Type 0 where
  pub stack : List Frame
  pub state : S

-- the machine with a stack and a state
abbrev pub walking : {S : Type 0} → List Frame → S → Walking S
walking fs s = record { stack = fs; state = s }

-- where both do not pass and the first does, the second does not
and_false : (a b : Bool) → a ≡ true → a and b ≡ false → b ≡ false
unfolding ◌and◌
and_false true b p e = e
and_false false b p e = never (cc)

-- what stands below a node, whether a node has its result, and how it gets it when all below it have theirs
module _ {S : Type 0} (kids : ℕ → List ℕ) (known : S → ℕ → Bool) (finish : ℕ → S → S) where
  -- one turn: a known node's frame is dropped; else the next kid gets a frame on top; else the node is finished. Whether a node is
  -- known is asked only when its frame is new: one load for a frame in place of one for each kid, and so walk and machine agree
  -- whatever becomes known below. A kid that is known gets a frame too: the loop has one place that asks.
  unfoldable pub turn : List Frame → S → Walking S
  unfolding ◌and◌
  turn [] s = walking [] s
  turn (f ∷ fs) s =
      elim (eqb f.taken 0 and known s f.node) [
        | true ↦ walking fs s
        | false ↦
            elim (ltb f.taken (length (kids f.node))) [
              | true ↦ walking (frame (get_or (kids f.node) f.taken 0) 0 ∷ frame f.node (suc f.taken) ∷ fs) s
              | false ↦ walking fs (finish f.node s)
            ]
      ]

  -- so many turns; on the empty stack nothing moves
  unfoldable pub turns : ℕ → List Frame → S → Walking S
  unfolding turn
  turns zero fs s = walking fs s
  turns (suc k) fs s = let w = turn fs s in turns k w.stack w.state

  -- a frame that a turn does not drop as known: if it is new, its node is not known
  abbrev pub Open : ℕ → ℕ → S → Type 0
  Open x i s = i ≡ 0 → known s x ≡ false

  -- the ways of a turn
  pub data Turned (x i : ℕ) (fs : List Frame) (s : S) : Walking S → Type 0 where
    passed : i ≡ 0 → known s x ≡ true → Turned x i fs s (walking fs s)
    entered : Open x i s → i < length (kids x) → Turned x i fs s (walking (frame (get_or (kids x) i 0) 0 ∷ frame x (suc i) ∷ fs) s)
    finished : Open x i s → length (kids x) ≤ i → Turned x i fs s (walking fs (finish x s))

  -- every turn on a frame goes one of these ways
  pub turned : (x i : ℕ) (fs : List Frame) (s : S) → Turned x i fs s (turn (frame x i ∷ fs) s)
  unfolding turn
  turned x i fs s = elim (see (eqb i 0 and known s x)) [
    | is true p ↦ let q = and_parts (eqb i 0) (known s x) p in rw (p, turn) (passed (eqb-true i 0 q.0) q.1)
    | is false p ↦
        let o : Open x i s = λ z. and_false (eqb i 0) (known s x) (eq-eqb i 0 z) p in
        elim (see (ltb i (length (kids x)))) [
          | is true q ↦ rw (p, q, turn) (entered o (ltb-true _ _ q))
          | is false q ↦ rw (p, q, turn) (finished o (ltb-false _ _ q))
        ]
  ]

  -- what stands below the frames does not matter to a turn
  turn-over : (f : Frame) (fs gs : List Frame) (s : S) → turn (f ∷ fs ++ gs) s ≡ walking ((turn (f ∷ fs) s).stack ++ gs) (turn (f ∷ fs) s).state
  unfolding turn
  turn-over f fs gs s = elim (see (eqb f.taken 0 and known s f.node)) [
    | is true p ↦ rw (p, turn)
    | is false p ↦ elim (see (ltb f.taken (length (kids f.node)))) [
      | is true q ↦ rw (p, q, turn)
      | is false q ↦ rw (p, q, turn)
    ]
  ]

  -- what is left to do for a frame: a new one's node is walked, else the kids not yet taken, and it is finished
  unfoldable pub frame_left : ℕ → ℕ → ℕ → S → S
  unfolding walk
  frame_left d x zero s = walk kids known finish d (x ∷ []) s
  frame_left d x (suc i) s = finish x (walk kids known finish d (drop (suc i) (kids x)) s)

  -- what the stack still gives
  unfoldable pub left : ℕ → List Frame → S → S
  unfolding frame_left
  left d [] s = s
  left d (f ∷ fs) s = left d fs (frame_left d f.node f.taken s)

  -- a new frame on top gives the walk of its node
  pub left-new : (d x : ℕ) (fs : List Frame) (s : S) → left d (frame x 0 ∷ fs) s ≡ left d fs (walk kids known finish d (x ∷ []) s)
  unfolding left
  left-new d x fs s = refl

  -- an empty stack gives the state
  pub left-none : (d : ℕ) (s : S) → left d [] s ≡ s
  unfolding left
  left-none d s = refl

  -- how many turns are left for a frame: for each kid taken, here or below, one that takes it and one that drops its frame; and one more
  unfoldable pub frame_turns : ℕ → ℕ → ℕ → S → ℕ
  unfolding effort
  frame_turns d x zero s = suc (2 * effort kids known finish d (x ∷ []) s)
  frame_turns d x (suc i) s = let ys = drop (suc i) (kids x) in suc (2 * (length ys + effort kids known finish d ys s))

  -- how many turns are left: the measure of the loop
  unfoldable pub turns_left : ℕ → List Frame → S → ℕ
  unfolding frame_turns frame_left
  turns_left d [] s = 0
  turns_left d (f ∷ fs) s = frame_turns d f.node f.taken s + turns_left d fs (frame_left d f.node f.taken s)

  -- ranks that fall from a node to its kids
  module _ (rank : ℕ → ℕ) (falls : (x : ℕ) → Under rank (rank x) (kids x)) where
    -- ranks rise from the top down, from b on, and stay below d
    abbrev pub Stacked : ℕ → ℕ → List Frame → Type 0
    Stacked b d [] = b ≤ d
    Stacked b d (f ∷ fs) = (b ≤ rank f.node) × Stacked (suc (rank f.node)) d fs

    -- so there are no more frames than ranks
    pub height : (b d : ℕ) (fs : List Frame) → Stacked b d fs → length fs + b ≤ d
    height b d [] st = omega arith
    height b d (f ∷ fs) st = let h = height (suc (rank f.node)) d fs st.1 in omega (arith, st.0)

    -- from a lower rank on
    stacked_less : (a b d : ℕ) (fs : List Frame) → a ≤ b → Stacked b d fs → Stacked a d fs
    stacked_less a b d [] h st = omega arith
    stacked_less a b d (f ∷ fs) h st = (omega (arith, st.0), st.1)

    -- what is left for an open frame: the kids not yet taken, then its node
    left_open : (d x i : ℕ) (s : S) → rank x < d → Open x i s → frame_left d x i s ≡ finish x (walk kids known finish d (drop i (kids x)) s)
    unfolding frame_left
    left_open d x zero s h o = walk_open kids known finish rank falls d x s h (o refl)
    left_open d x (suc i) s h o = refl

    -- how many turns are left for an open frame
    turns_open : (d x i : ℕ) (s : S) → rank x < d → Open x i s
        → frame_turns d x i s ≡ suc (2 * (length (drop i (kids x)) + effort kids known finish d (drop i (kids x)) s))
    unfolding frame_turns
    turns_open d x zero s h o = let e = effort_open kids known finish rank falls d x s h (o refl) in omega arith
    turns_open d x (suc i) s h o = refl

    -- what a turn keeps, and what falls
    pub record Kept (d : ℕ) (fs : List Frame) (s : S) (w : Walking S) : Type 0 where
      pub result : left d w.stack w.state ≡ left d fs s
      pub measure : suc (turns_left d w.stack w.state) ≡ turns_left d fs s
      pub stacked : Stacked 0 d w.stack

    -- whichever way the turn goes
    kept : (d x i : ℕ) (fs : List Frame) (s : S) (w : Walking S) → Stacked 0 d (frame x i ∷ fs) → Turned x i fs s w → Kept d (frame x i ∷ fs) s w
    unfolding left turns_left
    kept d x i fs s _ st (passed z k) =
        let e : frame_left d x i s ≡ s = rw z (walk-known kids known finish d x s k) in
        let f : frame_turns d x i s ≡ suc (2 * effort kids known finish d (x ∷ []) s) = rw z in
        let g = effort-known kids known finish d x s k in
        let m = ap (turns_left d fs) e in
        record { result = ap (left d fs) (sym e); measure = omega arith; stacked = stacked_less 0 (suc (rank x)) d fs (omega arith) st.1 }
    kept d x i fs s _ st (entered o h) =
        let y = get_or (kids x) i 0 in
        let ys = drop (suc i) (kids x) in
        let t = height (suc (rank x)) d fs st.1 in
        let r : rank x < d = omega arith in
        let c : drop i (kids x) ≡ y ∷ ys = drop-cons (kids x) i 0 h in
        let e : frame_left d x i s ≡ finish x (walk kids known finish d ys (walk kids known finish d (y ∷ []) s)) =
        left_open d x i s r o ∙ ap (λ l. finish x (walk kids known finish d l s)) c ∙ ap (finish x) (walk_then kids known finish d y ys s) in
        let a : frame_turns d x i s ≡ suc (2 * (suc (length ys) + effort kids known finish d (y ∷ ys) s)) =
        turns_open d x i s r o ∙ ap (λ (l : List ℕ). suc (2 * (length l + effort kids known finish d l s))) c in
        let b = effort_then kids known finish d y ys s in
        let m = ap (turns_left d fs) e in
        let q = under_at rank (rank x) (kids x) i (falls x) h in
        record { result = ap (left d fs) (sym e); measure = omega arith; stacked = (omega arith, (omega arith, st.1)) }
    kept d x i fs s _ st (finished o h) =
        let t = height (suc (rank x)) d fs st.1 in
        let r : rank x < d = omega arith in
        let c : drop i (kids x) ≡ [] = drop_of_length-le (kids x) h in
        let e : frame_left d x i s ≡ finish x s =
        left_open d x i s r o ∙ ap (λ l. finish x (walk kids known finish d l s)) c ∙ ap (finish x) (walk_none kids known finish d s) in
        let a : frame_turns d x i s ≡ suc (2 * (0 + effort kids known finish d [] s)) =
        turns_open d x i s r o ∙ ap (λ (l : List ℕ). suc (2 * (length l + effort kids known finish d l s))) c in
        let b = effort-none kids known finish d s in
        let m = ap (turns_left d fs) e in
        record { result = ap (left d fs) (sym e); measure = omega arith; stacked = stacked_less 0 (suc (rank x)) d fs (omega arith) st.1 }

    -- one turn: what is left gives the same, one turn less is left, and the stack stays low
    pub turn-kept : (d : ℕ) (f : Frame) (fs : List Frame) (s : S) → Stacked 0 d (f ∷ fs) → Kept d (f ∷ fs) s (turn (f ∷ fs) s)
    turn-kept d f fs s st = kept d f.node f.taken fs s (turn (f ∷ fs) s) st (turned f.node f.taken fs s)

    -- frames give what is left of them in the turns left for them, whatever stands below
    pub reach : (k d : ℕ) (fs gs : List Frame) (s : S) → Stacked 0 d fs → turns_left d fs s ≡ k → turns k (fs ++ gs) s ≡ walking gs (left d fs s)
    unfolding turns left turns_left
    reach zero d [] gs s st e = refl
    reach zero d (f ∷ fs) gs s st e = absurd (omega (arith, (turn-kept d f fs s st).measure))
    reach (suc k) d [] gs s st e = absurd (omega arith)
    reach (suc k) d (f ∷ fs) gs s st e =
        let w = turn (f ∷ fs) s in
        let K = turn-kept d f fs s st in
        let ih = reach k d w.stack gs w.state K.stacked (omega (arith, K.measure)) in
        ap (λ (v : Walking S). turns k v.stack v.state) (turn-over f fs gs s) ∙ ih ∙ ap (walking gs) K.result

    -- the machine gives what the walk gives: a new frame on top is gone, and its node walked, in one turn and two for each kid of a node finished
    pub agreement : (d x : ℕ) (gs : List Frame) (s : S) → rank x < d
        → turns (suc (2 * effort kids known finish d (x ∷ []) s)) (frame x 0 ∷ gs) s ≡ walking gs (walk kids known finish d (x ∷ []) s)
    unfolding left turns_left
    agreement d x gs s h = reach (suc (2 * effort kids known finish d (x ∷ []) s)) d (frame x 0 ∷ []) gs s (omega arith, omega arith) (omega arith)

    -- the stack stays low over any number of turns
    pub turns-stacked : (k d : ℕ) (fs : List Frame) (s : S) → Stacked 0 d fs → Stacked 0 d (turns k fs s).stack
    unfolding turns turn
    turns-stacked zero d fs s st = st
    turns-stacked (suc k) d [] s st = turns-stacked k d [] s st
    turns-stacked (suc k) d (f ∷ fs) s st = let w = turn (f ∷ fs) s in turns-stacked k d w.stack w.state (turn-kept d f fs s st).stacked

    -- a walk of x never has more frames than the rank of x and one
    pub low : (k x : ℕ) (s : S) → length (turns k (frame x 0 ∷ []) s).stack ≤ suc (rank x)
    low k x s =
        let h = height 0 (suc (rank x)) (turns k (frame x 0 ∷ []) s).stack (turns-stacked k (suc (rank x)) (frame x 0 ∷ []) s (omega arith, omega arith)) in
        omega arith
