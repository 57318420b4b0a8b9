-- A probe table over any keys. A slot is 0 where it is free and i + 1 where it holds key i. A key stands at its hash's slot or behind it
-- with no free slot between, so a search from the hash on ends at the key or, if it is new, at a free slot. Hashes are that much below
-- the number of slots that a search never has to go round.
use Rattle.std.specs.Prelude.{◌≡◌, refl, List, [], ◌∷◌, ℕ, zero, suc, ◌+◌, ◌-◌, ◌≤◌, ◌<◌, length, get_or, set, drop, replicate}
use Rattle.std.proofs.Common.{sym, ap, ◌∙◌, suc-le-suc, not-suc-le-zero, le_of_suc-le-suc, suc-ne-zero, add-one, arith, length-set, length-drop, get_or-set_same, get_or-set_other, get_or-drop}
use Rattle.std.proofs.Math.Decide.{dec_lt, ℕ_discrete}
use Rattle.std.proofs.lemmas.List.{length-replicate, get_or-replicate}

-- how many slots are taken
unfoldable pub taken : List ℕ → ℕ
taken [] = 0
taken (zero ∷ xs) = taken xs
taken (suc n ∷ xs) = suc (taken xs)

-- the slots from h up to s are taken
abbrev pub Full : List ℕ → ℕ → ℕ → Type 0
Full slots h s = (t : ℕ) → h ≤ t → t < s → 0 < get_or slots t 0

-- a walk from h on has come to slot s, and passed no free one
pub record Ran (slots : List ℕ) (h s : ℕ) : Type 0 where
  pub from : h ≤ s
  pub inside : s < length slots
  pub full : Full slots h s

-- key i stands at h or behind it, with no free slot between
pub record Reached (slots : List ℕ) (h i : ℕ) : Type 0 where
  pub slot : ℕ
  pub ran : Ran slots h slot
  pub holds : get_or slots slot 0 ≡ i + 1

module _ {K : Type 0} (hash : K → ℕ) where
  -- the slots hold the keys key 0 .. key (n - 1), no two alike
  pub record Table (slots : List ℕ) (key : ℕ → K) (n : ℕ) : Type 0 where
    pub count : taken slots ≡ n
    pub ids : (s : ℕ) → s < length slots → get_or slots s 0 ≤ n
    pub reach : (i : ℕ) → i < n → Reached slots (hash (key i)) i
    pub once : (i j : ℕ) → i < n → j < n → key i ≡ key j → i ≡ j

-- a search for k from h on has come to s: what it passed was taken, and not by k
pub record Passed {K : Type 0} (slots : List ℕ) (key : ℕ → K) (k : K) (h s : ℕ) : Type 0 where
  pub ran : Ran slots h s
  pub other : (t i : ℕ) → h ≤ t → t < s → get_or slots t 0 ≡ i + 1 → key i ≡ k → ⊥

-- ---- free slots, by counting
taken-drop : (h : ℕ) (xs : List ℕ) → taken (drop h xs) ≤ taken xs
unfolding taken
taken-drop zero xs = omega arith
taken-drop (suc h) [] = omega arith
taken-drop (suc h) (zero ∷ xs) = taken-drop h xs
taken-drop (suc h) (suc n ∷ xs) = omega (arith, taken-drop h xs)

first-free : (xs : List ℕ) → taken xs < length xs → (f : ℕ) × (f < length xs) × (get_or xs f 0 ≡ 0)
unfolding taken
first-free [] l = absurd (not-suc-le-zero l)
first-free (zero ∷ xs) l = (0, omega arith, refl)
first-free (suc n ∷ xs) l = let r = first-free xs (le_of_suc-le-suc l) in (suc r.0, suc-le-suc r.1, r.2)

-- some slot from h on is free
abbrev Stops : List ℕ → ℕ → Type 0
Stops slots h = (f : ℕ) × (h ≤ f) × (f < length slots) × (get_or slots f 0 ≡ 0)

stops : (h : ℕ) (xs : List ℕ) → h + taken xs < length xs → Stops xs h
stops h xs l =
    let r = first-free (drop h xs) (omega (arith, taken-drop h xs, length-drop h xs)) in
    (h + r.0, omega arith, omega (arith, length-drop h xs, r.1), sym (get_or-drop h xs r.0 0) ∙ r.2)

taken-set : (xs : List ℕ) (f v : ℕ) → f < length xs → get_or xs f 0 ≡ 0 → taken (set xs f (suc v)) ≡ suc (taken xs)
unfolding taken
taken-set [] f v l e = absurd (not-suc-le-zero l)
taken-set (zero ∷ xs) zero v l e = refl
taken-set (suc n ∷ xs) zero v l e = absurd (suc-ne-zero n e)
taken-set (zero ∷ xs) (suc f) v l e = taken-set xs f v (le_of_suc-le-suc l) e
taken-set (suc n ∷ xs) (suc f) v l e = ap suc (taken-set xs f v (le_of_suc-le-suc l) e)

taken_none : (c : ℕ) → taken (replicate c 0) ≡ 0
unfolding taken
taken_none zero = refl
taken_none (suc c) = taken_none c

-- ---- a walk, and a search
-- it starts at h
pub ran-none : (slots : List ℕ) (h : ℕ) → h + taken slots < length slots → Ran slots h h
ran-none slots h l = record { from = omega arith; inside = omega arith; full = λ t a b. absurd (omega arith) }

-- it goes on where a slot is taken; there is a slot to go on to
pub ran-more : (slots : List ℕ) (h s : ℕ) → h + taken slots < length slots → Ran slots h s → 0 < get_or slots s 0 → Ran slots h (s + 1)
ran-more slots h s l R p = record { from = omega (arith, R.from); inside = inside_at (stops h slots l) (dec_lt (s + 1) (length slots)); full = λ t a b. full_at t a (ℕ_discrete t s) b }
  where
    full_at : (t : ℕ) → h ≤ t → Dec (t ≡ s) → t < s + 1 → 0 < get_or slots t 0
    full_at t a (yes e) b = rw e p
    full_at t a (no d) b = R.full t a (omega arith)

    inside_at : Stops slots h → Dec (s + 1 < length slots) → s + 1 < length slots
    inside_at f (yes l) = l
    inside_at f (no d) =
        let z : 0 < get_or slots f.0 0 = full_at f.0 f.1 (ℕ_discrete f.0 s) (omega (arith, f.2, R.inside)) in
        omega (arith, f.3)

module _ {K : Type 0} (slots : List ℕ) (key : ℕ → K) (k : K) (h : ℕ) (l : h + taken slots < length slots) where
  pub passed_none : Passed slots key k h h
  passed_none = record { ran = ran-none slots h l; other = λ t i a b. absurd (omega arith) }

  -- a search goes on where another key stands
  pub passed_more : (s : ℕ) → Passed slots key k h s → 0 < get_or slots s 0 → (key (get_or slots s 0 - 1) ≡ k → ⊥) → Passed slots key k h (s + 1)
  passed_more s S p n = record { ran = ran-more slots h s l S.ran p; other = λ t i a b e q. other_at t i a (ℕ_discrete t s) b e q }
    where
      other_at : (t i : ℕ) → h ≤ t → Dec (t ≡ s) → t < s + 1 → get_or slots t 0 ≡ i + 1 → key i ≡ k → ⊥
      other_at t i a (yes e) b f q =
          let g : get_or slots s 0 ≡ i + 1 = rw e at f in
          let j : get_or slots s 0 - 1 ≡ i = omega arith in
          n (rw j q)
      other_at t i a (no d) b f q = S.other t i a (omega arith) f q

-- ---- what a search finds, and how the table grows
module _ {K : Type 0} (hash : K → ℕ) (slots : List ℕ) (key : ℕ → K) (n : ℕ) (T : Table hash slots key n) (k : K) (s : ℕ) (S : Passed slots key k (hash k) s) (free : get_or slots s 0 ≡ 0) where
  -- a search that ends at a free slot: no key is k
  pub absent : (i : ℕ) → i < n → key i ≡ k → ⊥
  absent i l e = at_slot (dec_lt R.slot s) (dec_lt s R.slot)
    where
      R : Reached slots (hash (key i)) i
      R = T.reach i l

      same_hash : hash (key i) ≡ hash k
      same_hash = ap hash e

      at_slot : Dec (R.slot < s) → Dec (s < R.slot) → ⊥
      at_slot (yes a) d = S.other R.slot i (omega (arith, R.ran.from, same_hash)) a R.holds e
      at_slot (no a) (yes b) = let z : 0 < get_or slots s 0 = R.ran.full s (omega (arith, S.ran.from, same_hash)) b in omega (arith, free)
      at_slot (no a) (no b) =
          let q : R.slot ≡ s = omega arith in
          let z : get_or slots s 0 ≡ i + 1 = rw q at R.holds in
          omega (arith, free)

  -- the key is put there as key n
  pub grown : (key' : ℕ → K) → ((i : ℕ) → i < n → key' i ≡ key i) → key' n ≡ k → Table hash (set slots s (n + 1)) key' (n + 1)
  grown key' old new = record {
    count = rw (add-one n) (taken-set slots s n S.ran.inside free ∙ ap suc T.count);
    ids = λ t l. ids_at t (simp length-set at l) (ℕ_discrete t s);
    reach = λ i l. reach_at i l (ℕ_discrete i n);
    once = λ i j l m e. once_at i j l m e (ℕ_discrete i n) (ℕ_discrete j n);
  }
    where
      ids_at : (t : ℕ) → t < length slots → Dec (t ≡ s) → get_or (set slots s (n + 1)) t 0 ≤ n + 1
      ids_at t l (yes e) = rw (e, get_or-set_same slots s (n + 1) 0 S.ran.inside) (omega arith)
      ids_at t l (no d) = rw (get_or-set_other slots s t (n + 1) 0 d) (omega (arith, T.ids t l))

      full_at : (t : ℕ) → Dec (t ≡ s) → 0 < get_or slots t 0 → 0 < get_or (set slots s (n + 1)) t 0
      full_at t (yes e) p = rw (e, get_or-set_same slots s (n + 1) 0 S.ran.inside) (omega arith)
      full_at t (no d) p = rw (get_or-set_other slots s t (n + 1) 0 d) p

      ran_still : (h t : ℕ) → Ran slots h t → Ran (set slots s (n + 1)) h t
      ran_still h t R = record { from = R.from; inside = simp length-set R.inside; full = λ u a b. full_at u (ℕ_discrete u s) (R.full u a b) }

      reach_at : (i : ℕ) → i < n + 1 → Dec (i ≡ n) → Reached (set slots s (n + 1)) (hash (key' i)) i
      reach_at i l (yes e) = rw (e, new) (record {
        slot = s;
        ran = ran_still (hash k) s S.ran;
        holds = get_or-set_same slots s (n + 1) 0 S.ran.inside;
      })
      reach_at i l (no d) = rw (old i (omega arith)) (
          let R = T.reach i (omega arith) in
          let q : R.slot ≡ s → ⊥ = λ e. let z : get_or slots s 0 ≡ i + 1 = rw e at R.holds in omega (arith, free) in
          record {
            slot = R.slot;
            ran = ran_still (hash (key i)) R.slot R.ran;
            holds = get_or-set_other slots s R.slot (n + 1) 0 q ∙ R.holds;
          })

      once_at : (i j : ℕ) → i < n + 1 → j < n + 1 → key' i ≡ key' j → Dec (i ≡ n) → Dec (j ≡ n) → i ≡ j
      once_at i j l m e (yes p) (yes q) = omega arith
      once_at i j l m e (yes p) (no q) = absurd (absent j (omega arith) (sym (old j (omega arith)) ∙ sym e ∙ ap key' p ∙ new))
      once_at i j l m e (no p) (yes q) = absurd (absent i (omega arith) (sym (old i (omega arith)) ∙ e ∙ ap key' q ∙ new))
      once_at i j l m e (no p) (no q) = T.once i j (omega arith) (omega arith) (sym (old i (omega arith)) ∙ e ∙ old j (omega arith))

-- the table without keys
pub table_empty : {K : Type 0} (hash : K → ℕ) (c : ℕ) (key : ℕ → K) → Table hash (replicate c 0) key 0
table_empty hash c key = record {
  count = taken_none c;
  ids = λ s l. rw (get_or-replicate {A = ℕ} c s 0 0 (simp length-replicate at l)) (omega arith);
  reach = λ i l. absurd (not-suc-le-zero l);
  once = λ i j l m e. absurd (not-suc-le-zero l);
}

-- only the keys below n count
pub table_same : {K : Type 0} (hash : K → ℕ) (slots : List ℕ) (key key' : ℕ → K) (n : ℕ) → Table hash slots key n → ((i : ℕ) → i < n → key' i ≡ key i) → Table hash slots key' n
table_same hash slots key key' n T old = record {
  count = T.count;
  ids = T.ids;
  reach = λ i l. rw (old i l) (T.reach i l);
  once = λ i j l m e. T.once i j l m (sym (old i l) ∙ e ∙ old j m);
}
