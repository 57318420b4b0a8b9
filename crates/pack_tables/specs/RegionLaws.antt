-- The laws of a region: what a record more leaves as it was, and what a search finds.
use Rattle.std.specs.Prelude.{Some, None, Ok, Err}
use Rattle.std.specs.Prelude.{◌≡◌, Bool, true, false, not, get_or}
use Rattle.std.proofs.Common.{sym, ◌∙◌, subst}
use Rattle.std.proofs.Math.Path.{ap}
use mathlib.Core.List.{List, [], ◌∷◌, ◌++◌}
use Prim.Native.Nat.{ℕ, ◌+◌, ◌-◌, ◌*◌, ◌≤◌, ◌<◌}
use native.Mathlib.Omega.{arith}
use Rattle.std.proofs.Math.Decide.{ℕ_discrete}
use Rattle.std.proofs.Math.ListN.{length, set, replicate, length-set, length-replicate}
use Rattle.std.proofs.Math.Seq.{get_or-set_same, get_or-set_other}
use Rattle.definition.specs.Test.{same, same_true, never}
use Rattle.base.specs.Part.{put, part_at, length_part, part-set, part-set-before, part-put, put-before, length-put}
use Rattle.base.specs.Same.{same_false}
use Rattle.base.specs.Hash.{hash_of}
use Rattle.base.specs.Listed.{listed, listed_more, length-listed, listed_at, listed_same}
use Rattle.base.specs.Probe.{taken, grown, absent, table_empty}
use Rattle.pack_tables.specs.Place.{Place, no_place, key_at, Framed}
use Rattle.pack_tables.specs.Region.{size_for, count_in, place_in, places, hashes_for, slots_in, Kept, Keyed, Finds, Enters, Searching, Probed, appended, Appending, Entering, Emptied}
use Rattle.pack_tables.specs.declared.region.Entered.TheVariants.{New}

pub length-places : (r : List ℕ) → length (places r) ≡ count_in r
unfolding places
length-places r = length-listed (place_in r) (count_in r)

pub places-at : (r : List ℕ) (i : ℕ) → i < count_in r → get_or (places r) i no_place ≡ place_in r i
unfolding places
places-at r i h = listed_at (place_in r) (count_in r) i no_place h

-- a place is known by its two numbers
same_place : (p q : Place) → p.at ≡ q.at → p.from ≡ q.from → p ≡ q
same_place p q e f = λ i. record { at = e i; from = f i }

-- ---- the slots
pub length-slots : (bytes r : List ℕ) (cap : ℕ) → Kept bytes r cap → length (slots_in r cap) ≡ 3 * cap + 1
unfolding slots_in
length-slots bytes r cap K = length_part (2 * cap + 1) (3 * cap + 1) r (omega (arith, K.long))

pub slot_at : (bytes r : List ℕ) (cap t : ℕ) → t < 3 * cap + 1 → get_or (slots_in r cap) t 0 ≡ get_or r (2 * cap + 1 + t) 0
unfolding slots_in
slot_at bytes r cap t h = part_at (2 * cap + 1) (3 * cap + 1) r t h

module _ (bytes slots r : List ℕ) (cap h : ℕ) (key : List ℕ) (S : Searching bytes slots r cap h key) where
  pub search_ends : h + taken slots < length slots
  search_ends = rw S.slots_are (omega (arith, length-slots bytes r cap S.keyed.kept, S.keyed.table.count, S.keyed.kept.few, S.below))

  pub search_id : (t : ℕ) → t < length slots → get_or slots t 0 ≤ count_in r
  search_id t l = rw S.slots_are (S.keyed.table.ids t (rw S.slots_are at l))

pub unlike : (xs key : List ℕ) (r : Bool) → r ≡ same xs key → r ≡ false → xs ≡ key → ⊥
unlike xs key r e f = same_false xs key (sym e ∙ f)

pub alike : (xs key : List ℕ) (r : Bool) → r ≡ same xs key → r ≡ true → xs ≡ key
alike xs key r e f = same_true xs key (sym e ∙ f)

-- what a search finds
module _ (bytes r : List ℕ) (cap : ℕ) (key : List ℕ) (K : Keyed bytes r cap) where
  pub found : (t : ℕ) → Probed bytes (slots_in r cap) r (hash_of (hashes_for cap) key) key (Ok t)
      → (t < 3 * cap + 1) × (0 < get_or r (2 * cap + 1 + t) 0) × Finds bytes r key (Some (get_or r (2 * cap + 1 + t) 0 - 1))
  found t F =
      let l : t < 3 * cap + 1 = omega (arith, F.0, length-slots bytes r cap K.kept) in
      let e = slot_at bytes r cap t l in
      let i : ℕ = get_or r (2 * cap + 1 + t) 0 - 1 in
      let k : i < count_in r = omega (arith, K.table.ids t F.0, F.1) in
      (l, omega (arith, F.1), (omega (arith, length-places r), ap (key_at bytes) (places-at r i k) ∙ rw e at F.2))

  pub nowhere : (t : ℕ) → Probed bytes (slots_in r cap) r (hash_of (hashes_for cap) key) key (Err t) → Finds bytes r key None
  nowhere t F i h e =
      let k : i < count_in r = omega (arith, length-places r) in
      absent (hash_of (hashes_for cap)) (slots_in r cap) (λ j. key_at bytes (place_in r j)) (count_in r) K.table key t F.0 F.1 i k (ap (key_at bytes) (sym (places-at r i k)) ∙ e)

-- ---- a record more
module _ (r : List ℕ) (cap at from : ℕ) (A : Appending r cap at from) where
  abbrev n : ℕ
  n = count_in r

  abbrev r' : List ℕ
  r' = set (set (set r (2 * n + 1) at) (2 * n + 2) from) 0 (n + 1)

  pub length-appended : length (appended r at from) ≡ length r
  unfolding appended
  length-appended = length-set (set (set r (2 * n + 1) at) (2 * n + 2) from) 0 (n + 1) ∙ length-set (set r (2 * n + 1) at) (2 * n + 2) from ∙ length-set r (2 * n + 1) at

  pub count-appended : count_in (appended r at from) ≡ n + 1
  unfolding appended
  count-appended =
      get_or-set_same (set (set r (2 * n + 1) at) (2 * n + 2) from) 0 (n + 1) 0
      (omega (arith, A.long, length-set (set r (2 * n + 1) at) (2 * n + 2) from, length-set r (2 * n + 1) at))

  -- a cell that is not written
  other_cell : (i : ℕ) → (i ≡ 0 → ⊥) → (i ≡ 2 * n + 1 → ⊥) → (i ≡ 2 * n + 2 → ⊥) → get_or r' i 0 ≡ get_or r i 0
  other_cell i a b c =
      get_or-set_other (set (set r (2 * n + 1) at) (2 * n + 2) from) 0 i (n + 1) 0 a ∙ get_or-set_other (set r (2 * n + 1) at) (2 * n + 2) i from 0 c ∙ get_or-set_other r (2 * n + 1) i at 0 b

  pub place-old : (i : ℕ) → i < n → place_in (appended r at from) i ≡ place_in r i
  unfolding appended
  place-old i h = same_place (place_in r' i) (place_in r i) (other_cell (2 * i + 1) (λ e. omega arith) (λ e. omega arith) (λ e. omega arith)) (other_cell (2 * i + 2) (λ e. omega arith) (λ e. omega arith) (λ e. omega arith))

  pub place-new : place_in (appended r at from) n ≡ record { at = at; from = from }
  unfolding appended
  place-new =
      same_place (place_in r' n) (record { at = at; from = from })
      (get_or-set_other (set (set r (2 * n + 1) at) (2 * n + 2) from) 0 (2 * n + 1) (n + 1) 0 (omega arith)
      ∙ get_or-set_other (set r (2 * n + 1) at) (2 * n + 2) (2 * n + 1) from 0 (omega arith)
      ∙ get_or-set_same r (2 * n + 1) at 0 (omega (arith, A.long, A.room)))
      (get_or-set_other (set (set r (2 * n + 1) at) (2 * n + 2) from) 0 (2 * n + 2) (n + 1) 0 (omega arith)
      ∙ get_or-set_same (set r (2 * n + 1) at) (2 * n + 2) from 0 (omega (arith, A.long, A.room, length-set r (2 * n + 1) at)))

  pub slots-appended : slots_in (appended r at from) cap ≡ slots_in r cap
  unfolding appended slots_in
  slots-appended =
      part-set-before (2 * cap + 1) (3 * cap + 1) (set (set r (2 * n + 1) at) (2 * n + 2) from) 0 (n + 1) (omega arith)
      ∙ part-set-before (2 * cap + 1) (3 * cap + 1) (set r (2 * n + 1) at) (2 * n + 2) from (omega (arith, A.room))
      ∙ part-set-before (2 * cap + 1) (3 * cap + 1) r (2 * n + 1) at (omega (arith, A.room))

  pub places-appended : places (appended r at from) ≡ places r ++ (record { at = at; from = from } ∷ [])
  unfolding places
  places-appended =
      ap (listed (place_in (appended r at from))) count-appended ∙ listed_more (place_in (appended r at from)) n
      ∙ ap (λ (ps : List Place). ps ++ (place_in (appended r at from) n ∷ [])) (listed_same (place_in (appended r at from)) (place_in r) n place-old)
      ∙ ap (λ (p : Place). listed (place_in r) n ++ (p ∷ [])) place-new

  pub kept-appended : (bytes : List ℕ) → Kept bytes r cap → Framed bytes (record { at = at; from = from }) → Kept bytes (appended r at from) cap
  kept-appended bytes K F = record {
    long = length-appended ∙ K.long;
    few = omega (arith, count-appended, A.room);
    small = K.small;
    framed = λ i h. framed_at i (omega (arith, count-appended)) (ℕ_discrete i n);
  }
    where
      framed_at : (i : ℕ) → i < n + 1 → Dec (i ≡ n) → Framed bytes (place_in (appended r at from) i)
      framed_at i h (yes e) = subst (λ (p : Place). Framed bytes p) (sym (ap (place_in (appended r at from)) e ∙ place-new)) F
      framed_at i h (no d) = subst (λ (p : Place). Framed bytes p) (sym (place-old i (omega arith))) (K.framed i (omega arith))

-- ---- a store among the slots
module _ (bytes r : List ℕ) (cap t v : ℕ) (K : Kept bytes r cap) (h : t < 3 * cap + 1) where
  abbrev s' : List ℕ
  s' = set r (2 * cap + 1 + t) v

  pub count-slot : count_in (set r (2 * cap + 1 + t) v) ≡ count_in r
  count-slot = get_or-set_other r (2 * cap + 1 + t) 0 v 0 (omega arith)

  pub place-slot : (i : ℕ) → i < cap → place_in (set r (2 * cap + 1 + t) v) i ≡ place_in r i
  place-slot i k = same_place (place_in s' i) (place_in r i) (get_or-set_other r (2 * cap + 1 + t) (2 * i + 1) v 0 (omega arith)) (get_or-set_other r (2 * cap + 1 + t) (2 * i + 2) v 0 (omega arith))

  pub places-slot : places (set r (2 * cap + 1 + t) v) ≡ places r
  unfolding places
  places-slot = ap (listed (place_in s')) count-slot ∙ listed_same (place_in s') (place_in r) (count_in r) (λ i k. place-slot i (omega (arith, K.few)))

  pub slots-slot : slots_in (set r (2 * cap + 1 + t) v) cap ≡ set (slots_in r cap) t v
  unfolding slots_in
  slots-slot = part-set (2 * cap + 1) (3 * cap + 1) r t v h

  pub kept_slot : Kept bytes (set r (2 * cap + 1 + t) v) cap
  kept_slot = record {
    long = length-set r (2 * cap + 1 + t) v ∙ K.long;
    few = omega (arith, count-slot, K.few);
    small = K.small;
    framed = λ i k. subst (λ (p : Place). Framed bytes p) (sym (place-slot i (omega (arith, count-slot, K.few)))) (K.framed i (omega (arith, count-slot)));
  }

-- ---- what `enter` leaves
pub entering : (bytes r : List ℕ) (cap : ℕ) (p : Place) → Kept bytes r cap → Entering bytes r cap p → Appending r cap p.at p.from
entering bytes r cap p K E = record {
  long = K.long;
  room = E.room;
  small = K.small;
  at-fits = omega (arith, E.framed.starts, E.framed.ends, E.framed.whole, E.short);
  from-fits = omega (arith, E.framed.ends, E.framed.whole, E.short);
}

pub entered : (bytes r : List ℕ) (cap : ℕ) (p : Place) (t : ℕ) → Keyed bytes r cap → Entering bytes r cap p → Probed bytes (slots_in r cap) r (hash_of (hashes_for cap) (key_at bytes p)) (key_at bytes p) (Err t)
    → Enters bytes r (set (appended r p.at p.from) (2 * cap + 1 + t) (count_in r + 1)) cap p New
entered bytes r cap p t K E F =
    let A = entering bytes r cap p K.kept E in
    let n : ℕ = count_in r in
    let q : List ℕ = appended r p.at p.from in
    let Q = kept-appended r cap p.at p.from A bytes K.kept E.framed in
    let l : t < 3 * cap + 1 = omega (arith, F.0.ran.inside, length-slots bytes r cap K.kept) in
    let s : List ℕ = set q (2 * cap + 1 + t) (n + 1) in
    let c : count_in s ≡ n + 1 = count-slot bytes q cap t (n + 1) Q l ∙ count-appended r cap p.at p.from A in
    let old : (i : ℕ) → i < n → key_at bytes (place_in s i) ≡ key_at bytes (place_in r i) =
    λ i h. ap (key_at bytes) (place-slot bytes q cap t (n + 1) Q l i (omega (arith, E.room)) ∙ place-old r cap p.at p.from A i h) in
    let new : key_at bytes (place_in s n) ≡ key_at bytes p = ap (key_at bytes) (place-slot bytes q cap t (n + 1) Q l n E.room ∙ place-new r cap p.at p.from A) in
    let slots_are : slots_in s cap ≡ set (slots_in r cap) t (n + 1) =
    slots-slot bytes q cap t (n + 1) Q l ∙ ap (λ (xs : List ℕ). set xs t (n + 1)) (slots-appended r cap p.at p.from A) in
    let T = grown (hash_of (hashes_for cap)) (slots_in r cap) (λ i. key_at bytes (place_in r i)) n K.table (key_at bytes p) t F.0 F.1 (λ i. key_at bytes (place_in s i)) old new in (
      nowhere bytes r cap (key_at bytes p) K t F,
      places-slot bytes q cap t (n + 1) Q l ∙ places-appended r cap p.at p.from A,
      record { kept = kept_slot bytes q cap t (n + 1) Q l; table = rw (slots_are, c) T },
    )

-- ---- a region without records
module _ (r : List ℕ) (cap : ℕ) (long : length r ≡ size_for cap) (small : cap < 1073741824) where
  emptied : (q : List ℕ) (keys : Bool) → length q ≡ length r → count_in q ≡ 0 → (keys ≡ true → slots_in q cap ≡ replicate (3 * cap + 1) 0) → Emptied q cap keys
  unfolding places listed
  emptied q keys l z e = record { none = ap (listed (place_in q)) z; kept = kept; keyed = λ t bytes. record { kept = kept bytes; table = rw (e t, z) (table_empty (hash_of (hashes_for cap)) (3 * cap + 1) (λ i. key_at bytes (place_in q i))) } }
    where
      kept : (bytes : List ℕ) → Kept bytes q cap
      kept bytes = record { long = l ∙ long; few = omega arith; small = small; framed = λ i h. absurd (omega arith) }

  -- the count alone
  pub uncounted : (keys : Bool) → not keys ≡ true → Emptied (set r 0 0) cap keys
  uncounted keys f = emptied (set r 0 0) keys (length-set r 0 0) (get_or-set_same r 0 0 0 (omega arith)) (λ t. never (let z : false ≡ true = sym (ap not t) ∙ f in cc))

  -- and the slots
  pub cleared : (keys : Bool) → Emptied (put (2 * cap + 1) (3 * cap + 1) (replicate (3 * cap + 1) 0) (set r 0 0)) cap keys
  unfolding slots_in
  cleared keys =
      let q : List ℕ = set r 0 0 in
      let a : ℕ = 2 * cap + 1 in
      let k : ℕ = 3 * cap + 1 in
      let zs : List ℕ = replicate k 0 in
      let m : length q ≡ length r = length-set r 0 0 in
      let fits : a + k ≤ length q = omega arith in
      let l : length zs ≡ k = length-replicate k 0 in
      emptied (put a k zs q) keys (length-put a k q fits zs l ∙ m) (put-before a k q fits zs l 0 (omega arith) ∙ get_or-set_same r 0 0 0 (omega arith)) (λ t. part-put a k q fits zs l)
