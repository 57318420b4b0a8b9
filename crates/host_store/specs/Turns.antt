-- What the functions owe to each other, and the laws of a turn: what is left of the run gives the whole.
use Rattle.std.specs.Prelude.{Option, Some, None}
use Rattle.std.specs.Prelude.{◌≡◌, refl, true, false, ℕ, zero, suc, ◌+◌, ◌-◌, ◌*◌, ◌/◌, ◌≤◌, ◌<◌, min, leb, ltb, get_or, drop, set, replicate}
use Rattle.std.proofs.Math.Path.{sym, ap}
use Rattle.std.proofs.Common.{ap₂, ◌∙◌, lt-ltb, le-ltb, le-leb, leb-true, leb-false, ltb-false, length-drop, length-take, drop_of_length-le, take_all, drop-cons, drop-drop, length-take-le}
use mathlib.Core.List.{List, [], ◌∷◌, ◌++◌, append_assoc, append-nil}
use Rattle.std.proofs.Math.Option.{none, some}
use Rattle.std.proofs.Math.Numerals.{add-one}
use native.Mathlib.Omega.{arith}
use Rattle.std.proofs.Math.Decide.{dec_lt}
use Rattle.std.proofs.lemmas.Bool.{lt-leb}
use Rattle.std.proofs.Math.ListN.{length, take, length-set}
use Rattle.std.proofs.Math.Seq.{take-suc-set}
use Rattle.definition.specs.Test.{is, see, never}
use Rattle.definition.specs.Pack.{Node}
use Rattle.definition.specs.Store.{place_of, intern, pattern_words, nodes_in, nothing}
use Rattle.definition.specs.Answer.{padded, padded-none}
use Rattle.buffer.specs.Zero.{filled, zeroed}
use Rattle.store.specs.Words.{node_with, length_more, begins_take, begins_long}
use Rattle.store.specs.Stored.{Stored, Enough, nodes}
use Rattle.store.specs.declared.nodes.Store.{Store}
use Rattle.host_store.specs.declared.Turn.{Turn}
use Rattle.host_store.specs.declared.Turn.TheVariants.{Next, End, Full}
use Rattle.host_store.specs.Tried.{All, intern_all, Left, leaves, refused, unfit, ended, tried}

-- ---- reading
-- where the node at a place ends
abbrev pub end_of : List ℕ → ℕ → ℕ
end_of from at = min (at + 2 + get_or from at 0) (length from)

-- its head and arguments
abbrev pub key_at : List ℕ → ℕ → ℕ → List ℕ
key_at from at end = take (end - (at + 1)) (drop (at + 1) from)

-- past the end there is nothing to take or to drop
cut-take : (n m : ℕ) (ws : List ℕ) → m ≡ min n (length ws) → take n ws ≡ take m ws
cut-take n m ws e = elim (dec_lt n (length ws)) [
  | yes h ↦ let q : n ≡ m = omega arith in ap (λ (k : ℕ). take k ws) q
  | no h ↦ take_all n ws (omega arith) ∙ sym (take_all m ws (omega arith))
]

cut-drop : (n m : ℕ) (ws : List ℕ) → m ≡ min n (length ws) → drop n ws ≡ drop m ws
cut-drop n m ws e = elim (dec_lt n (length ws)) [
  | yes h ↦ let q : n ≡ m = omega arith in ap (λ (k : ℕ). drop k ws) q
  | no h ↦
      let a : length ws ≤ n = omega arith in
      let b : length ws ≤ m = omega arith in
      drop_of_length-le ws a ∙ sym (drop_of_length-le ws b)
]

-- a count, a head and behind them arguments, as many of them as there are
first-node : (k n m h : ℕ) (ws : List ℕ) → m ≡ min n (length ws) → nodes_in (suc k) (n ∷ h ∷ ws) ≡ node_with (take (suc m) (h ∷ ws)) ∷ nodes_in k (drop m ws)
unfolding nodes_in node_with
first-node k n m h ws e =
    let t : take n ws ≡ take m ws = cut-take n m ws e in
    let d : drop n ws ≡ drop m ws = cut-drop n m ws e in
    rw (t, d)

-- the node at a place, and what follows it
pub nodes-next : (from : List ℕ) (at k : ℕ) → at + 1 < length from → nodes_in (suc k) (drop at from) ≡ node_with (key_at from at (end_of from at)) ∷ nodes_in k (drop (end_of from at) from)
nodes-next from at k h =
    let n : ℕ = get_or from at 0 in
    let ws : List ℕ = drop (at + 2) from in
    let end : ℕ = min (at + 2 + n) (length from) in
    let m : ℕ = end - (at + 2) in
    let l : length ws ≡ length from - (at + 2) = length-drop (at + 2) from in
    let p : suc (at + 1) ≡ at + 2 = omega arith in
    let q : suc m ≡ end - (at + 1) = omega arith in
    let r : at + 2 + m ≡ end = omega arith in
    let h₂ : ℕ = get_or from (at + 1) 0 in
    let tail : drop (at + 1) from ≡ h₂ ∷ ws = drop-cons from (at + 1) 0 h ∙ ap (λ (j : ℕ). h₂ ∷ drop j from) p in
    let all : drop at from ≡ n ∷ h₂ ∷ ws = drop-cons from at 0 (omega arith) ∙ ap (λ (j : ℕ). n ∷ drop j from) (sym (add-one at)) ∙ ap (λ (l : List ℕ). n ∷ l) tail in
    let key : take (suc m) (h₂ ∷ ws) ≡ key_at from at end = ap (λ (l : List ℕ). take (suc m) l) (sym tail) ∙ ap (λ (j : ℕ). take j (drop (at + 1) from)) q in
    let rest : drop m ws ≡ drop end from = drop-drop m (at + 2) from ∙ ap (λ (j : ℕ). drop j from) r in
    ap (nodes_in (suc k)) all ∙ first-node k n m h₂ ws (omega arith) ∙ ap₂ (λ (x : List ℕ) (y : List ℕ). node_with x ∷ nodes_in k y) key rest

-- a node has its head at least
pub some_key : (from : List ℕ) (at end : ℕ) → at + 1 < length from → end ≡ end_of from at → 0 < length (key_at from at end)
some_key from at end h e = omega (arith, length-take (end - (at + 1)) (drop (at + 1) from), length-drop (at + 1) from)

-- fewer than two words are no node
few_words : (k : ℕ) (ws : List ℕ) → length ws ≤ 1 → nodes_in k ws ≡ []
unfolding nodes_in
few_words zero ws h = refl
few_words (suc k) [] h = refl
few_words (suc k) (x ∷ []) h = refl
few_words (suc k) (x ∷ y ∷ ws) h = absurd (omega arith)

pub nodes-none : (from : List ℕ) (at k : ℕ) → length from ≤ at + 1 → nodes_in k (drop at from) ≡ []
nodes-none from at k h = few_words k (drop at from) (omega (arith, length-drop at from))

-- ---- interning
-- the store only grows, and so do its words
intern_grows : (s : List Node) (n : Node) → length (pattern_words s) ≤ length (pattern_words (intern s n).store)
unfolding intern
intern_grows s n = elim (see (place_of n s 0)) [
  | is (some i) e ↦ rw (e, intern) (omega arith)
  | is none e ↦ rw (e, intern) (omega (arith, length_more s n))
]

pub all_grows : (s ns : List Node) → length (pattern_words s) ≤ length (pattern_words (intern_all s ns).store)
unfolding intern_all
all_grows s [] = omega arith
all_grows s (n ∷ ns) = omega (arith, intern_grows s n, all_grows (intern s n).store ns)

-- the run over all that is read
unfoldable pub whole : List ℕ → ℕ → All
whole from k = intern_all [] (nodes_in k from)

-- i nodes are interned, s is their store, and what follows is at `at`: the rest of the run gives the whole
pub record Halfway (from numbers : List ℕ) (s : List Node) (at i : ℕ) : Type 0 where
  pub within : at ≤ length from
  pub filled : i ≤ length numbers
  pub numbers_are : take i numbers ++ (intern_all s (nodes_in (length numbers - i) (drop at from))).numbers ≡ (whole from (length numbers)).numbers
  pub store_is : (intern_all s (nodes_in (length numbers - i) (drop at from))).store ≡ (whole from (length numbers)).store

-- the first n numbers are all, and so is the store
pub record Whole (from numbers : List ℕ) (s : List Node) (n : ℕ) : Type 0 where
  pub filled : n ≤ length numbers
  pub numbers_are : take n numbers ≡ (whole from (length numbers)).numbers
  pub store_is : s ≡ (whole from (length numbers)).store

-- what is left after the run
abbrev pub Ran : List ℕ → List ℕ → List ℕ → List ℕ → Option (Store × ℕ) → Type 0
Ran from index words numbers (Some (st, n)) = Stored index words st × Whole from numbers (nodes words st) n
Ran from index words numbers None = length words < length (pattern_words (whole from (length numbers)).store)

-- and after a turn
abbrev pub Turned : List ℕ → List ℕ → List ℕ → List ℕ → Store → ℕ → Turn → Type 0
Turned from index words numbers st i (Next st' end) = Stored index words st' × Halfway from numbers (nodes words st') end (i + 1)
Turned from index words numbers st i End = Ran from index words numbers (Some (st, i))
Turned from index words numbers st i Full = Ran from index words numbers None

-- ---- turns
pub begun : (from numbers : List ℕ) → Halfway from numbers [] 0 0
unfolding whole
begun from numbers =
    let e : length numbers - 0 ≡ length numbers = omega arith in
    record { within = omega arith; filled = omega arith; numbers_are = rw e; store_is = rw e }

module _ (from numbers : List ℕ) (s : List Node) (at i : ℕ) (H : Halfway from numbers s at i) where
  -- nothing is left
  pub over : nodes_in (length numbers - i) (drop at from) ≡ [] → Whole from numbers s i
  unfolding intern_all
  over e = record {
    filled = H.filled;
    numbers_are = sym (append-nil (take i numbers)) ∙ ap (λ (ns : List Node). take i numbers ++ (intern_all s ns).numbers) (sym e) ∙ H.numbers_are;
    store_is = ap (λ (ns : List Node). (intern_all s ns).store) (sym e) ∙ H.store_is;
  }

  pub over_read : length from ≤ at + 1 → Whole from numbers s i
  over_read h = over (nodes-none from at (length numbers - i) h)

  pub over-filled : length numbers ≤ i → Whole from numbers s i
  unfolding nodes_in
  over-filled h = let e : length numbers - i ≡ 0 = omega arith in over (ap (λ (k : ℕ). nodes_in k (drop at from)) e)

  -- one node more
  module _ (more : i < length numbers) (two : at + 1 < length from) where
    left_is : nodes_in (length numbers - i) (drop at from) ≡ node_with (key_at from at (end_of from at)) ∷ nodes_in (length numbers - (i + 1)) (drop (end_of from at) from)
    left_is = let e : length numbers - i ≡ suc (length numbers - (i + 1)) = omega arith in ap (λ (k : ℕ). nodes_in k (drop at from)) e ∙ nodes-next from at (length numbers - (i + 1)) two

    pub turned : (end v : ℕ) (t : List Node) → end ≡ end_of from at → v ≡ (intern s (node_with (key_at from at end))).number → t ≡ (intern s (node_with (key_at from at end))).store
        → Halfway from (set numbers i v) t end (i + 1)
    unfolding intern_all
    turned end v t e n q =
        let l : length (set numbers i v) ≡ length numbers = length-set numbers i v in
        let m : Node = node_with (key_at from at (end_of from at)) in
        let v-is : v ≡ (intern s m).number = n ∙ ap (λ (j : ℕ). (intern s (node_with (key_at from at j))).number) e in
        let t-is : t ≡ (intern s m).store = q ∙ ap (λ (j : ℕ). (intern s (node_with (key_at from at j))).store) e in
        let N = ap (λ (ms : List Node). take i numbers ++ (intern_all s ms).numbers) (sym left_is) ∙ H.numbers_are in
        let S = ap (λ (ms : List Node). (intern_all s ms).store) (sym left_is) ∙ H.store_is in
        record {
          within = omega arith;
          filled = rw l (omega arith);
          numbers_are = rw (l, e, t-is, add-one i, take-suc-set numbers i v more, append_assoc, v-is) (rw (add-one i) at N);
          store_is = rw (l, e, t-is) S;
        }

    pub full : (end k : ℕ) → end ≡ end_of from at → k < length (pattern_words (intern s (node_with (key_at from at end))).store) → k < length (pattern_words (whole from (length numbers)).store)
    unfolding intern_all
    full end k e h =
        let m : Node = node_with (key_at from at (end_of from at)) in
        let S = ap (λ (ms : List Node). (intern_all s ms).store) (sym left_is) ∙ H.store_is in
        let g = all_grows (intern s m).store (nodes_in (length numbers - (i + 1)) (drop (end_of from at) from)) in
        let h' : k < length (pattern_words (intern s m).store) = rw e at h in
        rw (sym S) (omega arith)

-- ---- the lengths
pub unfit_long : (index words : ℕ) → nothing ≤ words → unfit index words ≡ true
unfolding unfit
unfit_long index words h = rw (le-leb nothing words h)

pub unfit_index : (index words : ℕ) → words < nothing → unfit index words ≡ ltb index (4 * (words / 2) + 1)
unfolding unfit
unfit_index index words h = rw (lt-leb nothing words h)

pub fit : (index words : List ℕ) → unfit (length index) (length words) ≡ false → Enough index words
fit index words e = elim (see (leb nothing (length words))) [
  | is true t ↦ never (let z : true ≡ false = sym (unfit_long (length index) (length words) (leb-true _ _ t)) ∙ e in cc)
  | is false t ↦
      let small : length words < nothing = leb-false _ _ t in
      let f : ltb (length index) (4 * (length words / 2) + 1) ≡ false = sym (unfit_index (length index) (length words) small) ∙ e in
      record { small = small; wide = ltb-false _ _ f }
]

-- ---- what is left
pub cleared : (code : ℕ) (index words numbers index' words' numbers' : List ℕ) → index' ≡ replicate (length index) 0 → words' ≡ replicate (length words) 0 → numbers' ≡ replicate (length numbers) 0
    → ◌≡◌ {A = Left} (record { answer = record { code = code; nodes = 0 }; index = index'; words = words'; numbers = numbers' }) (refused code (length index) (length words) (length numbers))
unfolding refused leaves
cleared code index words numbers index' words' numbers' i w n =
    let w₂ : words' ≡ padded (length words) [] = w ∙ sym (padded-none (length words)) in
    let n₂ : numbers' ≡ padded (length numbers) [] = n ∙ sym (padded-none (length numbers)) in
    λ x. record { answer = record { code = code; nodes = 0 }; index = i x; words = w₂ x; numbers = n₂ x }

-- zeros behind the first n
padded-first : (n : ℕ) (xs : List ℕ) → n ≤ length xs → zeroed n xs ≡ padded (length xs) (take n xs)
unfolding filled padded
padded-first n xs h = rw (length-take-le n xs h)

pub finished : (index words numbers : List ℕ) (st : Store) (n : ℕ) → Stored index words st → n ≤ length numbers → (nodes-len used : ℕ) → nodes-len ≡ length (nodes words st) → used ≡ length (pattern_words (nodes words st))
    → (index' words' numbers' : List ℕ) → index' ≡ replicate (length index) 0 → words' ≡ zeroed used words → numbers' ≡ zeroed n numbers
    → ◌≡◌ {A = Left} (record { answer = record { code = 0; nodes = nodes-len }; index = index'; words = words'; numbers = numbers' }) (leaves 0 (length (nodes words st)) (pattern_words (nodes words st)) (take n numbers) (length index) (length words) (length numbers))
unfolding leaves
finished index words numbers st n S h k used k-is used-is index' words' numbers' i w m =
    let B = S.placed.begins in
    let w₂ : words' ≡ padded (length words) (pattern_words (nodes words st)) =
    w ∙ ap (λ (u : ℕ). zeroed u words) used-is ∙ padded-first (length (pattern_words (nodes words st))) words (begins_long (nodes words st) words B) ∙ ap (padded (length words)) (begins_take (nodes words st) words B) in
    let m₂ : numbers' ≡ padded (length numbers) (take n numbers) = m ∙ padded-first n numbers h in
    λ x. record { answer = record { code = 0; nodes = k-is x }; index = i x; words = w₂ x; numbers = m₂ x }

-- ---- the whole call
pub tried-unfit : (from : List ℕ) (index words numbers : ℕ) → unfit index words ≡ true → refused 2 index words numbers ≡ tried from index words numbers
unfolding tried
tried-unfit from index words numbers e = rw (e, tried)

tried_fit : (from : List ℕ) (index words numbers : ℕ) → unfit index words ≡ false → ended (whole from numbers) index words numbers ≡ tried from index words numbers
unfolding tried whole
tried_fit from index words numbers e = rw (e, tried)

module _ (from : List ℕ) (index words numbers : ℕ) (fits : unfit index words ≡ false) (index' words' numbers' : List ℕ) (i : length index' ≡ index) (w : length words' ≡ words) (n : length numbers' ≡ numbers) where
  pub tried_short : Ran from index' words' numbers' None → refused 8 (length index') (length words') (length numbers') ≡ tried from index words numbers
  unfolding ended
  tried_short h =
      let more : words < length (pattern_words (whole from numbers).store) = rw (w, n) at h in
      let e : refused 8 index words numbers ≡ ended (whole from numbers) index words numbers = rw (lt-ltb _ _ more, ended) in
      rw (i, w, n) (e ∙ tried_fit from index words numbers fits)

  pub tried-done : (st : Store) (k : ℕ) → Ran from index' words' numbers' (Some (st, k))
      → leaves 0 (length (nodes words' st)) (pattern_words (nodes words' st)) (take k numbers') (length index') (length words') (length numbers') ≡ tried from index words numbers
  unfolding ended
  tried-done st k R =
      let r : All = whole from numbers in
      let l = begins_long (nodes words' st) words' R.0.placed.begins in
      let S : nodes words' st ≡ r.store = R.1.store_is ∙ ap (λ (m : ℕ). (whole from m).store) n in
      let N : take k numbers' ≡ r.numbers = R.1.numbers_are ∙ ap (λ (m : ℕ). (whole from m).numbers) n in
      let room : length (pattern_words r.store) ≤ words = omega (arith, ap (λ (s : List Node). length (pattern_words s)) S) in
      let e : leaves 0 (length r.store) (pattern_words r.store) r.numbers index words numbers ≡ ended r index words numbers = rw (le-ltb _ _ room, ended) in
      rw (S, N, i, w, n) (e ∙ tried_fit from index words numbers fits)
