-- While the machine of a walk runs: a node is finished when it is not known and all its kids are; so what that keeps, each turn keeps.
use Rattle.std.specs.Prelude.{◌≡◌, refl, Bool, true, false, List, [], ◌∷◌, ℕ, suc, ◌<◌, eqb, length, get_or}
use Rattle.std.proofs.Common.{ap, ◌∙◌, arith}
use Rattle.definition.specs.Test.{is, see, tests}
use Rattle.definition.specs.Good.{Below}
use Rattle.theory.specs.Walks.Walk.{Under, under_at, below-under, Known}
use Rattle.theory.specs.Walks.Machine.{Frame, frame, Walking, turn, Turned, passed, entered, finished, turned, Open, Stacked}
use Rattle.theory.specs.Walks.WalkOnce.{finish_keeps}

-- where the node at each place is known, each node is
known-all : {S : Type 0} (known : S → ℕ → Bool) (s : S) (xs : List ℕ) → ((j : ℕ) → j < length xs → known s (get_or xs j 0) ≡ true) → Known known s xs
known-all known s [] h = tt
known-all known s (x ∷ xs) h = (h 0 (omega arith), known-all known s xs (λ j b. h (suc j) (omega arith)))

-- a walk that finishes each node at most once, among nodes below n
module _ {S : Type 0} (kids : ℕ → List ℕ) (known : S → ℕ → Bool) (finish : ℕ → S → S)
    (made : (x : ℕ) (s : S) → known (finish x s) x ≡ true)
    (others : (x y : ℕ) (s : S) → (x ≡ y → ⊥) → known (finish x s) y ≡ known s y)
    (rank : ℕ → ℕ) (falls : (x : ℕ) → Under rank (rank x) (kids x))
    (n : ℕ) (inside : (x : ℕ) → x < n → Below n (kids x)) where
  -- the first i kids of x are known
  abbrev pub Ready : S → ℕ → ℕ → Type 0
  Ready s x i = (j : ℕ) → j < i → known s (get_or (kids x) j 0) ≡ true

  -- a frame whose last kid taken is y, which is still walked
  pub record Waits (s : S) (y : ℕ) (f : Frame) : Type 0 where
    pub given : f.node < n
    pub unknown : known s f.node ≡ false
    pub last : ℕ
    pub count : f.taken ≡ suc last
    pub kid : get_or (kids f.node) last 0 ≡ y
    pub ready : Ready s f.node last

  -- each frame waits for the one above it
  abbrev pub Waiting : S → ℕ → List Frame → Type 0
  Waiting s y [] = Unit {0}
  Waiting s y (f ∷ fs) = Waits s y f × Waiting s f.node fs

  -- the top frame: the kids taken are known, and the node is not once one was taken
  pub record Goes (s : S) (f : Frame) : Type 0 where
    pub given : f.node < n
    pub unknown : 0 < f.taken → known s f.node ≡ false
    pub ready : Ready s f.node f.taken

  -- a stack as the machine has it
  abbrev pub Sound : S → List Frame → Type 0
  Sound s [] = Unit {0}
  Sound s (f ∷ fs) = Goes s f × Waiting s f.node fs

  -- a new frame alone
  pub sound_new : (x : ℕ) (s : S) → x < n → Sound s (frame x 0 ∷ [])
  sound_new x s h = (record { given = h; unknown = λ p. absurd (omega arith); ready = λ j p. absurd (omega arith) }, tt)

  -- what waits for a node that is known goes on
  sound_next : (s : S) (y : ℕ) (fs : List Frame) → known s y ≡ true → Waiting s y fs → Sound s fs
  sound_next s y [] k w = tt
  sound_next s y (f ∷ fs) k w =
      let v = w.0 in (
        record {
          given = v.given;
          unknown = λ p. v.unknown;
          ready = λ j p. elim (see (eqb j v.last)) [
            | is true e ↦ let q : j ≡ v.last = omega tests in ap (λ (i : ℕ). known s (get_or (kids f.node) i 0)) q ∙ ap (known s) v.kid ∙ k
            | is false e ↦ v.ready j (omega (tests, v.count))
          ];
        },
        w.1,
      )

  -- what waits still waits when a node of lower rank is finished
  waiting-finish : (x : ℕ) (s : S) (b d y : ℕ) (fs : List Frame) → rank x < b → Stacked kids known finish rank falls b d fs → Waiting s y fs → Waiting (finish x s) y fs
  waiting-finish x s b d y [] h st w = tt
  waiting-finish x s b d y (f ∷ fs) h st w =
      let v = w.0 in (
        record {
          given = v.given;
          unknown = others x f.node s (λ e. absurd (omega (arith, st.0, ap rank e))) ∙ v.unknown;
          last = v.last;
          count = v.count;
          kid = v.kid;
          ready = λ j p. finish_keeps kids known finish made others x (get_or (kids f.node) j 0) s (v.ready j p);
        },
        waiting-finish x s (suc (rank f.node)) d f.node fs (omega (arith, st.0)) st.1 w.1,
      )

  -- the node of an open frame on top is not known
  unknown_open : (x i : ℕ) (s : S) → Goes s (frame x i) → Open kids known finish x i s → known s x ≡ false
  unknown_open x i s g o = elim (see (eqb i 0)) [
    | is true e ↦ o (omega tests)
    | is false e ↦ g.unknown (omega tests)
  ]

  -- what a turn keeps of the stack; and of the state, whatever finishing keeps of it for a node that is not known with all kids known
  module _ (I : S → Type 0) (step : (x : ℕ) (s : S) → x < n → known s x ≡ false → Known known s (kids x) → I s → I (finish x s)) where
    -- whichever way the turn goes
    going : (d x i : ℕ) (fs : List Frame) (s : S) (w : Walking S) → Stacked kids known finish rank falls 0 d (frame x i ∷ fs) → Sound s (frame x i ∷ fs) → I s
        → Turned kids known finish x i fs s w → Sound w.state w.stack × I w.state
    going d x i fs s _ st so a (passed z k) = (sound_next s x fs k so.1, a)
    going d x i fs s _ st so a (entered o h) =
        let g = so.0 in
        let u = unknown_open x i s g o in
        let y = get_or (kids x) i 0 in (
          (
            (sound_new y s (under_at (λ y. y) n (kids x) i (below-under n (kids x) (inside x g.given)) h)).0,
            (record { given = g.given; unknown = u; last = i; count = refl; kid = refl; ready = g.ready }, so.1),
          ),
          a,
        )
    going d x i fs s _ st so a (finished o h) =
        let g = so.0 in
        let u = unknown_open x i s g o in
        let all = known-all known s (kids x) (λ j p. g.ready j (omega arith)) in (
          sound_next (finish x s) x fs (made x s) (waiting-finish x s (suc (rank x)) d x fs (omega arith) st.1 so.1),
          step x s g.given u all a,
        )

    -- for every turn on a frame
    pub turn_going : (d : ℕ) (f : Frame) (fs : List Frame) (s : S) → Stacked kids known finish rank falls 0 d (f ∷ fs) → Sound s (f ∷ fs) → I s
        → let w = turn kids known finish (f ∷ fs) s in Sound w.state w.stack × I w.state
    turn_going d f fs s st so a =
        going d f.node f.taken fs s (turn kids known finish (f ∷ fs) s) st so a (turned kids known finish f.node f.taken fs s)
