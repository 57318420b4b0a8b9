-- What the nodes' words say of each node, and what the stack's say of each frame.
use Rattle.std.specs.Prelude.{◌≡◌, Bool, false, List, [], ◌∷◌, eqb, get_or}
use Rattle.std.proofs.Math.Path.{refl, sym, ap}
use Rattle.std.proofs.Common.{◌∙◌, eq-eqb, ne_eqb, lt-ltb}
use Rattle.std.proofs.Math.Option.{Option, none, some}
use Prim.Native.Nat.{ℕ, zero, suc, ◌+◌, ◌*◌, ◌-◌, ◌≤◌, ◌<◌}
use native.Mathlib.Omega.{arith}
use Rattle.std.proofs.Math.Dec.{ltb}
use Rattle.definition.specs.Test.{is, see, ◌and◌}
use Rattle.definition.specs.Verdict.{value_of}
use Rattle.definition.specs.Analysis.{copied}
use Rattle.definition.specs.Classes.{is_some}
use Rattle.theory.specs.Walks.Lifting.{lifting, is_lifted}
use Rattle.base.specs.Part.{part_at}
use Rattle.store.specs.Stored.{nodes}
use Rattle.store.specs.declared.nodes.Store.{Store}
use Rattle.term_lift.specs.Lifts.{marks, memo_from, lifted_in, frames_in}
use Rattle.term_lift.specs.declared.lift.Lifted.{Lifted}

-- what a word says
abbrev pub said : ℕ → Option ℕ
said zero = none
said (suc p) = some p

-- nothing is said of the nodes before the first
value_before : (i : ℕ) (ws : List ℕ) (n : ℕ) → n < i → value_of n (memo_from i ws) ≡ none
unfolding memo_from value_of
value_before i [] n h = refl
value_before i (zero ∷ ws) n h = value_before (suc i) ws n (omega arith)
value_before i (suc p ∷ ws) n h = rw (ne_eqb i n (λ e. absurd (omega arith)), value_of) (value_before (suc i) ws n (omega arith))

-- of each other what its word says
value-from : (i : ℕ) (ws : List ℕ) (n : ℕ) → value_of (i + n) (memo_from i ws) ≡ said (get_or ws n 0)
unfolding memo_from value_of
value-from i [] n = refl
value-from i (zero ∷ ws) zero = value_before (suc i) ws (i + 0) (omega arith)
value-from i (zero ∷ ws) (suc n) = let e : i + suc n ≡ suc i + n = omega arith in ap (λ (k : ℕ). value_of k (memo_from (suc i) ws)) e ∙ value-from (suc i) ws n
value-from i (suc p ∷ ws) zero = rw (eq-eqb i (i + 0) (omega arith), value_of)
value-from i (suc p ∷ ws) (suc n) =
    let e : i + suc n ≡ suc i + n = omega arith in
    rw (ne_eqb i (i + suc n) (λ q. absurd (omega arith)), value_of) (ap (λ (k : ℕ). value_of k (memo_from (suc i) ws)) e ∙ value-from (suc i) ws n)

module _ (work words : List ℕ) (l : Lifted) (st : Store) where
  -- what is said of a node
  pub value-word : (n : ℕ) → value_of n (lifted_in work words l st).memo ≡ said (get_or (marks work l) n 0)
  unfolding lifted_in
  value-word n = let e : n ≡ 0 + n = omega arith in ap (λ (k : ℕ). value_of k (memo_from 0 (marks work l))) e ∙ value-from 0 (marks work l) n

  -- what it was lifted to
  copied-mark : (n : ℕ) → copied (lifted_in work words l st).memo n ≡ get_or (marks work l) n 0 - 1
  unfolding copied
  copied-mark n = elim (see (get_or (marks work l) n 0)) [
    | is zero e ↦ rw (value-word n, e, copied)
    | is (suc p) e ↦ rw (value-word n, e, copied) (omega arith)
  ]

  -- which its word says
  pub copied-word : (n : ℕ) → n < l.nodes → copied (lifted_in work words l st).memo n ≡ get_or work (l.at + n) 0 - 1
  copied-word n h = copied-mark n ∙ ap (λ (w : ℕ). w - 1) (part_at l.at l.nodes work n h)

  -- whether it was
  pub lifted_word : (n : ℕ) → n < l.nodes → is_lifted (lifted_in work words l st) n ≡ ltb 0 (get_or work (l.at + n) 0)
  unfolding is_lifted is_some
  lifted_word n h = rw (value-word n, part_at l.at l.nodes work n h) (at (get_or work (l.at + n) 0))
    where
      at : (w : ℕ) → is_some (said w) ≡ ltb 0 w
      at zero = refl
      at (suc w) = sym (lt-ltb 0 (suc w) (omega arith))

-- words written behind the nodes' say the same of them
pub lifted_same : (work work' words : List ℕ) (l : Lifted) (st : Store) → marks work' l ≡ marks work l → lifted_in work' words l st ≡ lifted_in work words l st
unfolding lifted_in
lifted_same work work' words l st e = ap (λ (ws : List ℕ). lifting (nodes words st) (memo_from 0 ws)) e

-- the frames below a place are as their words
pub frames_same : (work work' : List ℕ) (a k : ℕ) → ((i : ℕ) → a ≤ i → i < a + 2 * k → get_or work' i 0 ≡ get_or work i 0) → frames_in work' a k ≡ frames_in work a k
unfolding frames_in
frames_same work work' a zero h = refl
frames_same work work' a (suc k) h =
    let n = h (a + 2 * k) (omega arith) (omega arith) in
    let t = h (a + 2 * k + 1) (omega arith) (omega arith) in
    let fs = frames_same work work' a k (λ i p q. h i p (omega arith)) in
    rw (n, t, fs)

-- ---- whether a frame is dropped
-- not one that is not new
pub dropped_not : (taken : ℕ) (b : Bool) → (taken ≡ 0 → ⊥) → false ≡ (eqb taken 0 and b)
unfolding ◌and◌
dropped_not taken b h = rw (ne_eqb taken 0 h, ◌and◌)

-- a new one if its node is lifted
pub dropped_new : (taken : ℕ) (b : Bool) → taken ≡ 0 → b ≡ (eqb taken 0 and b)
unfolding ◌and◌
dropped_new taken b h = rw (eq-eqb taken 0 h, ◌and◌)
