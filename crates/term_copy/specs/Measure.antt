-- How many turns a walk has left at most, by what is known and what the frames have taken; and that walks let a state grow.
use Rattle.std.specs.Prelude.{◌≡◌, Bool, eqb, get_or}
use Rattle.std.proofs.Math.Path.{refl, sym}
use Rattle.std.proofs.Common.{ap, ◌∙◌}
use Rattle.std.proofs.Math.Bool.{true, false}
use mathlib.Core.List.{List, [], ◌∷◌}
use Prim.Native.Nat.{ℕ, zero, suc, ◌+◌, ◌*◌, ◌-◌, ◌≤◌, ◌<◌}
use native.Mathlib.Omega.{arith}
use Rattle.std.proofs.Math.Decide.{ℕ_discrete}
use Rattle.std.proofs.Math.ListN.{length, drop}
use Rattle.definition.specs.Test.{is, see, tests}
use Rattle.definition.specs.Good.{Below}
use Rattle.theory.specs.Walks.Walk.{Under, visit, walk}
use Rattle.theory.specs.Walks.Machine.{Frame, frame, Walking, turn, Turned, passed, entered, finished, turned, frame_left, left, Stacked, turn-kept}
use Rattle.theory.specs.Walks.WalkOnce.{unfinished, unfinished_less}
use Rattle.theory.specs.Walks.WalkReady.{Sound, Waiting, turn_going}

-- how many kids the frames have taken
unfoldable pub took : (ℕ → List ℕ) → List Frame → ℕ
took kids [] = 0
took kids (f ∷ fs) = length (kids f.node) - (length (kids f.node) - f.taken) + took kids fs

-- numbers fall: as a frame is dropped, as one takes a kid, as one is finished
less_passed : (u t a f : ℕ) → a ≡ 0 → 2 * (u - t) + f < 2 * (u - (a + t)) + suc f
less_passed u t a f e = let q : a + t ≡ t = omega arith in let r : u - (a + t) ≡ u - t = ap (λ (i : ℕ). u - i) q in omega (arith, r)

-- as one takes a kid
less_entered : (u t a b z f : ℕ) → b ≡ suc a → z ≡ 0 → z + (b + t) ≤ u → 2 * (u - (z + (b + t))) + suc (suc f) < 2 * (u - (a + t)) + suc f
less_entered u t a b z f e d h = omega arith

-- as one is finished
less_finished : (u v k t a f : ℕ) → a ≡ k → k + v ≡ u → 2 * (v - t) + f < 2 * (u - (a + t)) + suc f
less_finished u v k t a f e d = let q : u - (a + t) ≡ v - t = omega arith in omega (arith, q)

module _ {S : Type 0} (kids : ℕ → List ℕ) (known : S → ℕ → Bool) where
  -- what two states know alike is unfinished alike
  pub unfinished-same : {T : Type 0} (known' : T → ℕ → Bool) (s : S) (t : T) → ((x : ℕ) → known s x ≡ known' t x) → (n : ℕ) → unfinished kids known n s ≡ unfinished kids known' n t
  unfolding unfinished
  unfinished-same known' s t e zero = refl
  unfinished-same known' s t e (suc n) =
      let ih = unfinished-same known' s t e n in
      elim (see (known s n)) [
        | is true k ↦ let j = sym (e n) ∙ k in rw (k, j, unfinished) ih
        | is false k ↦ let j = sym (e n) ∙ k in rw (k, j, unfinished) (omega arith)
      ]

  -- a node that is not known
  unfinished_self : (x : ℕ) (s : S) → known s x ≡ false → unfinished kids known (suc x) s ≡ length (kids x) + unfinished kids known x s
  unfolding unfinished
  unfinished_self x s k = rw (k, unfinished)

  -- among one node more no less is unfinished
  unfinished-next : (x : ℕ) (s : S) → unfinished kids known x s ≤ unfinished kids known (suc x) s
  unfolding unfinished
  unfinished-next x s = elim (see (known s x)) [ is true k ↦ rw (k, unfinished) (omega arith) | is false k ↦ rw (k, unfinished) (omega arith) ]

  -- among more nodes more is unfinished
  unfinished-up : (a b : ℕ) (s : S) → a ≤ b → unfinished kids known a s ≤ unfinished kids known b s
  unfinished-up a zero s h = let e : a ≡ 0 = omega arith in omega (arith, ap (λ (i : ℕ). unfinished kids known i s) e)
  unfinished-up a (suc b) s h = elim (ℕ_discrete a (suc b)) [
    | yes e ↦ omega (arith, ap (λ (i : ℕ). unfinished kids known i s) e)
    | no d ↦ omega (arith, unfinished-up a b s (omega (arith, d)), unfinished-next b s)
  ]

  -- a frame that has taken is one of a node not known
  abbrev Opened : S → List Frame → Type 0
  Opened s [] = Unit {0}
  Opened s (f ∷ fs) = (0 < f.taken → known s f.node ≡ false) × Opened s fs

  module _ (finish : ℕ → S → S)
      (made : (x : ℕ) (s : S) → known (finish x s) x ≡ true)
      (others : (x y : ℕ) (s : S) → (x ≡ y → ⊥) → known (finish x s) y ≡ known s y)
      (falls : (x : ℕ) → Under (λ n. n) x (kids x))
      (n : ℕ) (inside : (x : ℕ) → x < n → Below n (kids x)) where
    -- no more was taken than is unfinished
    took_few : (b d : ℕ) (s : S) (fs : List Frame) → Stacked kids known finish (λ m. m) falls b d fs → Opened s fs → took kids fs + unfinished kids known b s ≤ unfinished kids known d s
    unfolding took
    took_few b d s [] st o = omega (arith, unfinished-up b d s st)
    took_few b d s (f ∷ fs) st o =
        let x = f.node in
        let ih = took_few (suc x) d s fs st.1 o.1 in
        let up = unfinished-up b x s st.0 in
        let k = length (kids x) in
        elim (see (eqb f.taken 0)) [
          | is true e ↦ let z : f.taken ≡ 0 = omega tests in omega (arith, ih, up, unfinished-next x s)
          | is false e ↦ let u = unfinished_self x s (o.0 (omega tests)) in omega (arith, ih, up, u)
        ]

    -- frames that wait are such frames
    waiting-opened : (s : S) (y : ℕ) (fs : List Frame) → Waiting kids known finish made others (λ m. m) falls n inside s y fs → Opened s fs
    waiting-opened s y [] w = tt
    waiting-opened s y (f ∷ fs) w = (λ _. w.0.unknown, waiting-opened s f.node fs w.1)

    -- so are those of a sound stack
    opened : (s : S) (fs : List Frame) → Sound kids known finish made others (λ m. m) falls n inside s fs → Opened s fs
    opened s [] so = tt
    opened s (f ∷ fs) so = (so.0.unknown, waiting-opened s f.node fs so.1)

    -- at most so many turns are left
    abbrev pub most : List Frame → S → ℕ
    most fs s = 2 * (unfinished kids known n s - took kids fs) + length fs

    -- whichever way the turn goes
    less : (x i : ℕ) (fs : List Frame) (s : S) (w : Walking S) → Sound kids known finish made others (λ m. m) falls n inside s (frame x i ∷ fs)
        → took kids w.stack ≤ unfinished kids known n w.state → Turned kids known finish x i fs s w → most w.stack w.state < most (frame x i ∷ fs) s
    unfolding took
    less x i fs s _ so h (passed z k) =
        let k = length (kids x) in
        less_passed (unfinished kids known n s) (took kids fs) (k - (k - i)) (length fs) (omega arith)
    less x i fs s _ so h (entered o l) =
        let k = length (kids x) in
        let j = length (kids (get_or (kids x) i 0)) in
        less_entered (unfinished kids known n s) (took kids fs) (k - (k - i)) (k - (k - suc i)) (j - (j - 0)) (length fs) (omega arith) (omega arith) h
    less x i fs s _ so h (finished o l) =
        let u : known s x ≡ false = elim (see (eqb i 0)) [ is true e ↦ o (omega tests) | is false e ↦ so.0.unknown (omega tests) ] in
        let a = unfinished_less kids known x s (finish x s) (made x s) (λ y d. others x y s d) n so.0.given u in
        let k = length (kids x) in
        less_finished (unfinished kids known n s) (unfinished kids known n (finish x s)) k (took kids fs) (k - (k - i)) (length fs) (omega arith) a

    -- each turn leaves fewer
    pub turn_less : (f : Frame) (fs : List Frame) (s : S) → Stacked kids known finish (λ m. m) falls 0 n (f ∷ fs) → Sound kids known finish made others (λ m. m) falls n inside s (f ∷ fs)
        → let w = turn kids known finish (f ∷ fs) s in most w.stack w.state < most (f ∷ fs) s
    unfolding unfinished
    turn_less f fs s st so =
        let w = turn kids known finish (f ∷ fs) s in
        let K = turn-kept kids known finish (λ m. m) falls n f fs s st in
        let T = turn_going kids known finish made others (λ m. m) falls n inside (λ _. Unit {0}) (λ x t a b c d. tt) n f fs s st so tt in
        let t = took_few 0 n w.state w.stack K.stacked (opened w.state w.stack T.0) in
        less f.node f.taken fs s w so (omega (arith, t)) (turned kids known finish f.node f.taken fs s)

-- ---- what finishing lets grow, a walk does
module _ {S : Type 0} (kids : ℕ → List ℕ) (known : S → ℕ → Bool) (finish : ℕ → S → S) (size : S → ℕ) (more : (x : ℕ) (s : S) → size s ≤ size (finish x s)) where
  -- whatever nodes it walks
  walk_grows : (d : ℕ) (xs : List ℕ) (s : S) → size s ≤ size (walk kids known finish d xs s)
  unfolding walk
  walk_grows zero [] s = omega arith
  walk_grows zero (x ∷ xs) s = omega arith
  walk_grows (suc d) [] s = omega arith
  walk_grows (suc d) (x ∷ xs) s =
      let t = visit kids known finish (λ ys r. walk kids known finish d ys r) x s in
      let first : size s ≤ size t = elim (see (known s x)) [
        | is true k ↦ rw (k, visit) (omega arith)
        | is false k ↦ rw (k, visit) (omega (arith, walk_grows d (kids x) s, more x (walk kids known finish d (kids x) s)))
      ] in
      omega (arith, first, walk_grows (suc d) xs t)

  -- and so does what is left of a frame
  frame_grows : (d x i : ℕ) (s : S) → size s ≤ size (frame_left kids known finish d x i s)
  unfolding frame_left
  frame_grows d x zero s = walk_grows d (x ∷ []) s
  frame_grows d x (suc i) s = let ys = drop (suc i) (kids x) in omega (arith, walk_grows d ys s, more x (walk kids known finish d ys s))

  -- and so does what is left of a stack
  pub left_grows : (d : ℕ) (fs : List Frame) (s : S) → size s ≤ size (left kids known finish d fs s)
  unfolding left
  left_grows d [] s = omega arith
  left_grows d (f ∷ fs) s = let t = frame_left kids known finish d f.node f.taken s in omega (arith, frame_grows d f.node f.taken s, left_grows d fs t)
