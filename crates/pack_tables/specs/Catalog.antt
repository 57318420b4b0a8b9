-- The regions of all kinds together.
use Rattle.std.specs.Prelude.{Option, Some, None}
use Rattle.std.specs.Prelude.{◌≡◌, Bool, true, false, not, List, [], ◌∷◌, ◌++◌, ℕ, suc, ◌+◌, ◌-◌, ◌*◌, ◌≤◌, ◌<◌, eqb, ltb, length, get_or, set, take, drop}
use Rattle.std.proofs.Math.Path.{refl, ap, ap₂}
use Rattle.std.proofs.Common.{sym, ◌∙◌, subst, mul-le-mul_right, arith, lt-ltb, le-ltb, ne_eqb, length-set}
use Rattle.std.proofs.Math.Decide.{ℕ_discrete, dec_lt}
use Rattle.definition.specs.Test.{◌and◌, never}
use Rattle.base.specs.Outside.{Outside, outside_none, outside_then, outside_wider, outside_put}
use Rattle.base.specs.Part.{part, put, part_at, part-set-behind, part-lent, put-lent, put-part, length_part, part-put, part-put-before, part-put-behind, length-put}
use Rattle.pack_tables.specs.Place.{Place, no_place, key_at, Framed}
use Rattle.pack_tables.specs.Region.{size_for, count_in, place_in, places, Kept, Keyed, Finds, Enters, Entering, Emptied}
use Rattle.pack_tables.specs.RegionLaws.{length-places, places-at}
use Rattle.pack_tables.specs.declared.region.Entered.{Entered}
use Rattle.pack_tables.specs.declared.region.Entered.TheVariants.{New, Old}
use Rattle.pack_tables.specs.declared.catalog.Catalog.{Catalog}

-- for how many records of a kind there is room: of sorts, symbols and rules (kinds 0 to 2) a pack has at most 256, 4,096 and 4,096
unfoldable pub cap_of : Catalog → ℕ → ℕ
cap_of c k = elim (ltb k 3) [ true ↦ elim (ltb 4097 c.cap) [ true ↦ 4097 | false ↦ c.cap ] | false ↦ c.cap ]

-- where the region of a kind starts, and the region: a prefix of the kind's place, which has room for `c.cap` records
abbrev pub start_of : Catalog → ℕ → ℕ
start_of c k = c.at + k * size_for c.cap

unfoldable pub region_of : List ℕ → Catalog → ℕ → List ℕ
region_of work c k = part (start_of c k) (size_for (cap_of c k)) work

-- the records of a kind
unfoldable pub records_of : List ℕ → Catalog → ℕ → List Place
unfolding region_of
records_of work c k = places (region_of work c k)

-- steps, cuts and the abstract record have no keys
abbrev pub keyed_kind : ℕ → Bool
keyed_kind k = not (eqb k 4) and not (eqb k 7) and not (eqb k 8)

-- where it is neither of two, the third is left to test
pub keyed_but : (k : ℕ) → (k ≡ 4 → ⊥) → (k ≡ 7 → ⊥) → keyed_kind k ≡ not (eqb k 8)
unfolding ◌and◌
keyed_but k a b = rw (ne_eqb k 4 a, ne_eqb k 7 b)

-- there is room for the regions of nine kinds
pub record Fits (work : List ℕ) (c : Catalog) : Type 0 where
  pub small : c.cap < 1073741824
  pub fits : c.at + 9 * size_for c.cap ≤ length work

-- work holds the records of all kinds
pub record Cataloged (bytes work : List ℕ) (c : Catalog) : Type 0 where
  pub fits : Fits work c
  pub kept : (k : ℕ) → k < 9 → Kept bytes (region_of work c k) (cap_of c k)
  pub keyed : (k : ℕ) → k < 9 → keyed_kind k ≡ true → Keyed bytes (region_of work c k) (cap_of c k)

-- the other kinds' records are as they were
abbrev pub OthersKept : List ℕ → List ℕ → Catalog → ℕ → Type 0
OthersKept work work' c k = (j : ℕ) → j < 9 → (j ≡ k → ⊥) → records_of work' c j ≡ records_of work c j

-- what stands before the regions and behind them is as it was
abbrev pub Beside : List ℕ → List ℕ → Catalog → Type 0
Beside work work' c = Outside c.at (c.at + 9 * size_for c.cap) work work'

-- one record more of a kind
pub record More (bytes work work' : List ℕ) (c : Catalog) (k : ℕ) (p : Place) : Type 0 where
  pub more : records_of work' c k ≡ records_of work c k ++ (p ∷ [])
  pub others : OthersKept work work' c k
  pub outside : Beside work work' c
  pub cataloged : Cataloged bytes work' c

abbrev pub FindsIn : List ℕ → List Place → List ℕ → Type 0
FindsIn bytes ps key = (i : ℕ) × (i < length ps) × (key_at bytes (get_or ps i no_place) ≡ key)

-- what `enter` answers
abbrev pub EntersIn : List ℕ → List ℕ → List ℕ → Catalog → ℕ → Place → Entered → Type 0
EntersIn bytes work work' c k p New = (FindsIn bytes (records_of work c k) (key_at bytes p) → ⊥) × More bytes work work' c k p
EntersIn bytes work work' c k p Old = FindsIn bytes (records_of work c k) (key_at bytes p) × (work' ≡ work)

-- ---- for how many records there is room
pub cap_all : (c : Catalog) (k : ℕ) → 3 ≤ k → cap_of c k ≡ c.cap
unfolding cap_of
cap_all c k h = rw (le-ltb k 3 h, cap_of)

pub cap_own : (c : Catalog) (k : ℕ) → k < 3 → c.cap ≤ 4097 → cap_of c k ≡ c.cap
unfolding cap_of
cap_own c k h l = rw (lt-ltb k 3 h, le-ltb 4097 c.cap l, cap_of)

pub cap_least : (c : Catalog) (k : ℕ) → k < 3 → 4097 < c.cap → cap_of c k ≡ 4097
unfolding cap_of
cap_least c k h l = rw (lt-ltb k 3 h, lt-ltb 4097 c.cap l, cap_of)

-- the catalog's number, or the limit
cap_either : (Q : ℕ → Type 0) (c : Catalog) (k : ℕ) → Q c.cap → (k < 3 → 4097 < c.cap → Q 4097) → Q (cap_of c k)
cap_either Q c k own least = elim (dec_lt k 3) [
  | yes h ↦ elim (dec_lt 4097 c.cap) [ yes l ↦ subst Q (sym (cap_least c k h l)) (least h l) | no l ↦ subst Q (sym (cap_own c k h (omega arith))) own ]
  | no h ↦ subst Q (sym (cap_all c k (omega arith))) own
]

-- of no kind for more than the catalog says
pub cap_most : (c : Catalog) (k : ℕ) → cap_of c k ≤ c.cap
cap_most c k = cap_either (λ n. n ≤ c.cap) c k (omega arith) (λ h l. omega arith)

-- for one more, if the catalog has room and of a kind with a limit there are few
pub cap_room : (c : Catalog) (k n : ℕ) → n < c.cap → (k < 3 → n < 4097) → n < cap_of c k
cap_room c k n room few = cap_either (λ m. n < m) c k room (λ h l. few h)

-- ---- where the regions stand
pub region_inside : (c : Catalog) (k : ℕ) → k < 9 → start_of c k + size_for (cap_of c k) ≤ c.at + 9 * size_for c.cap
region_inside c k h =
    let l : suc k ≤ 9 = h in
    let m : suc k * size_for c.cap ≤ 9 * size_for c.cap = mul-le-mul_right (size_for c.cap) l in
    omega (arith, cap_most c k)

regions_apart : (c : Catalog) (j k : ℕ) → j < k → start_of c j + size_for (cap_of c j) ≤ start_of c k
regions_apart c j k h =
    let m : suc j * size_for c.cap ≤ k * size_for c.cap = mul-le-mul_right (size_for c.cap) h in
    omega (arith, cap_most c j)

-- ---- a region that was lent and came back
module _ (work : List ℕ) (c : Catalog) (F : Fits work c) (k : ℕ) (h : k < 9) (r : List ℕ) (long : length r ≡ size_for (cap_of c k)) where
  abbrev n : ℕ
  n = size_for (cap_of c k)

  abbrev work' : List ℕ
  work' = put (start_of c k) n r work

  inside : start_of c k + n ≤ length work
  inside = omega (arith, region_inside c k h, F.fits)

  put-fits : Fits work' c
  put-fits = record { small = F.small; fits = omega (arith, F.fits, length-put (start_of c k) n work inside r long) }

  put_outside : Beside work work' c
  put_outside = outside_wider (start_of c k) (start_of c k + n) c.at (c.at + 9 * size_for c.cap) work work' (omega arith) (omega (arith, region_inside c k h)) (outside_put (start_of c k) n work r inside long)

  region_same : region_of work' c k ≡ r
  unfolding region_of
  region_same = part-put (start_of c k) n work inside r long

  region_other : (j : ℕ) → j < 9 → (j ≡ k → ⊥) → region_of work' c j ≡ region_of work c j
  unfolding region_of
  region_other j l d = elim (dec_lt j k) [
    | yes b ↦ part-put-before (start_of c k) n work inside r long (start_of c j) (size_for (cap_of c j)) (regions_apart c j k b)
    | no b ↦
        part-put-behind (start_of c k) n work inside r long (start_of c j) (size_for (cap_of c j)) (regions_apart c k j (omega (arith, d)))
        (omega (arith, region_inside c j l, F.fits))
  ]

  -- what holds of the region and of the others holds of all
  put_each : (Q : List ℕ → ℕ → Type 0) (j : ℕ) → j < 9 → Q r k → ((j ≡ k → ⊥) → Q (region_of work c j) j) → Q (region_of work' c j) j
  put_each Q j l own other = elim (ℕ_discrete j k) [
    | yes e ↦ subst (λ (i : ℕ). Q (region_of work' c i) i) (sym e) (subst (λ (x : List ℕ). Q x k) (sym region_same) own)
    | no d ↦ subst (λ (x : List ℕ). Q x j) (sym (region_other j l d)) (other d)
  ]

-- so the records of all kinds are there
module _ (bytes work : List ℕ) (c : Catalog) (C : Cataloged bytes work c) (k : ℕ) (h : k < 9) (r : List ℕ) (K : Kept bytes r (cap_of c k)) (T : keyed_kind k ≡ true → Keyed bytes r (cap_of c k)) where
  abbrev back : List ℕ
  back = put (start_of c k) (size_for (cap_of c k)) r work

  put_cataloged : Cataloged bytes back c
  put_cataloged = record {
    fits = put-fits work c C.fits k h r K.long;
    kept = λ j l. put_each work c C.fits k h r K.long (λ x i. Kept bytes x (cap_of c i)) j l K (λ d. C.kept j l);
    keyed = λ j l. put_each work c C.fits k h r K.long (λ x i. keyed_kind i ≡ true → Keyed bytes x (cap_of c i)) j l T (λ d. C.keyed j l);
  }

  put-more : (p : Place) → places r ≡ records_of work c k ++ (p ∷ []) → More bytes work back c k p
  unfolding records_of
  put-more p e = record {
    more = ap places (region_same work c C.fits k h r K.long) ∙ e;
    others = λ j l d. ap places (region_other work c C.fits k h r K.long j l d);
    outside = put_outside work c C.fits k h r K.long;
    cataloged = put_cataloged;
  }

-- a region's length
pub length_region : (work : List ℕ) (c : Catalog) (k : ℕ) → Fits work c → k < 9 → length (region_of work c k) ≡ size_for (cap_of c k)
unfolding region_of
length_region work c k F h = length_part (start_of c k) (size_for (cap_of c k)) work (omega (arith, region_inside c k h, F.fits))

-- a word of a region in the whole
pub region_at : (work : List ℕ) (c : Catalog) (k i : ℕ) → i < size_for (cap_of c k) → get_or (region_of work c k) i 0 ≡ get_or work (start_of c k + i) 0
unfolding region_of
region_at work c k i h = part_at (start_of c k) (size_for (cap_of c k)) work i h

pub length-records : (work : List ℕ) (c : Catalog) (k : ℕ) → length (records_of work c k) ≡ count_in (region_of work c k)
unfolding records_of
length-records work c k = length-places (region_of work c k)

pub records-at : (work : List ℕ) (c : Catalog) (k i : ℕ) → i < length (records_of work c k) → get_or (records_of work c k) i no_place ≡ place_in (region_of work c k) i
unfolding records_of
records-at work c k i h = places-at (region_of work c k) i (omega (arith, length-places (region_of work c k)))

-- no more records of a kind than there is room for
pub records_few : (bytes work : List ℕ) (c : Catalog) (k : ℕ) → Cataloged bytes work c → k < 9 → length (records_of work c k) ≤ c.cap
records_few bytes work c k C l = omega (arith, length-records work c k, (C.kept k l).few, cap_most c k)

-- each record is framed
pub record_framed : (bytes work : List ℕ) (c : Catalog) (k i : ℕ) → Cataloged bytes work c → k < 9 → i < length (records_of work c k) → Framed bytes (get_or (records_of work c k) i no_place)
record_framed bytes work c k i C h l =
    subst (λ (p : Place). Framed bytes p) (sym (records-at work c k i l)) ((C.kept k h).framed i (omega (arith, length-records work c k)))

put_region : (work : List ℕ) (c : Catalog) (k : ℕ) → start_of c k + size_for (cap_of c k) ≤ length work → put (start_of c k) (size_for (cap_of c k)) (region_of work c k) work ≡ work
unfolding region_of
put_region work c k f = put-part (start_of c k) (size_for (cap_of c k)) work f

-- what a region's `enter` says of the whole
pub entered_in : (bytes work : List ℕ) (c : Catalog) (C : Cataloged bytes work c) (k : ℕ) (h : k < 9) (r : List ℕ) (p : Place) (e : Entered)
    → Enters bytes (region_of work c k) r (cap_of c k) p e → EntersIn bytes work (put (start_of c k) (size_for (cap_of c k)) r work) c k p e
unfolding records_of
entered_in bytes work c C k h r p New E =
    (λ f. E.0 f.0 f.1 f.2, put-more bytes work c C k h r E.2.kept (λ q. E.2) p E.1)
entered_in bytes work c C k h r p Old E =
    let f : start_of c k + size_for (cap_of c k) ≤ length work = omega (arith, region_inside c k h, C.fits.fits) in
    ((E.0.0, E.0.1.0, E.0.1.1), ap (λ (x : List ℕ). put (start_of c k) (size_for (cap_of c k)) x work) E.1 ∙ put_region work c k f)

-- what `find` answers
abbrev pub SoughtIn : List ℕ → List Place → List ℕ → Option ℕ → Type 0
SoughtIn bytes ps key (Some i) = (i < length ps) × (key_at bytes (get_or ps i no_place) ≡ key)
SoughtIn bytes ps key None = FindsIn bytes ps key → ⊥

-- a framed record, and room for it
pub record EnteringIn (bytes work : List ℕ) (c : Catalog) (k : ℕ) (p : Place) : Type 0 where
  pub cataloged : Cataloged bytes work c
  pub kind : k < 9
  pub framed : Framed bytes p
  pub room : length (records_of work c k) < cap_of c k
  pub short : length bytes < 4294967296

pub entering_in : (bytes work : List ℕ) (c : Catalog) (k : ℕ) (p : Place) → EnteringIn bytes work c k p → Entering bytes (region_of work c k) (cap_of c k) p
entering_in bytes work c k p E = record { framed = E.framed; room = omega (arith, E.room, length-records work c k); short = E.short }

-- no records, whatever the pack is, and nothing else has changed
pub record Cleared (before work : List ℕ) (c : Catalog) : Type 0 where
  pub none : (k : ℕ) → k < 9 → records_of work c k ≡ []
  pub cataloged : (bytes : List ℕ) → Cataloged bytes work c
  pub outside : Beside before work c

-- the regions below k are without records, and nothing else has changed
pub record Clearing (before work : List ℕ) (c : Catalog) (k : ℕ) : Type 0 where
  pub fits : Fits work c
  pub emptied : (j : ℕ) → j < k → Emptied (region_of work c j) (cap_of c j) (keyed_kind j)
  pub outside : Beside before work c

pub clearing_none : (work : List ℕ) (c : Catalog) → Fits work c → Clearing work work c 0
clearing_none work c F = record { fits = F; emptied = λ j h. absurd (omega arith); outside = outside_none c.at (c.at + 9 * size_for c.cap) work }

clearing_more : (before work : List ℕ) (c : Catalog) (k : ℕ) (r : List ℕ) → k < 9 → Clearing before work c k → Emptied r (cap_of c k) (keyed_kind k) → Clearing before (put (start_of c k) (size_for (cap_of c k)) r work) c (k + 1)
clearing_more before work c k r h C E =
    let long : length r ≡ size_for (cap_of c k) = (E.kept []).long in
    record {
      fits = put-fits work c C.fits k h r long;
      emptied = λ j l. put_each work c C.fits k h r long (λ x i. Emptied x (cap_of c i) (keyed_kind i)) j (omega arith) E (λ d. C.emptied j (omega (arith, d)));
      outside = outside_then c.at (c.at + 9 * size_for c.cap) before work (put (start_of c k) (size_for (cap_of c k)) r work) C.outside (put_outside work c C.fits k h r long);
    }

pub all-cleared : (before work : List ℕ) (c : Catalog) → Clearing before work c 9 → Cleared before work c
unfolding records_of
all-cleared before work c C = record {
  none = λ k h. (C.emptied k h).none;
  cataloged = λ bytes. record { fits = C.fits; kept = λ k h. (C.emptied k h).kept bytes; keyed = λ k h e. (C.emptied k h).keyed e bytes };
  outside = C.outside;
}

-- ---- a region lent as `work[a..a + n]`
module _ (work : List ℕ) (c : Catalog) (k a m : ℕ) (e : a ≡ start_of c k) (f : m ≡ cap_of c k) where
  lent_region : take (a + size_for m - a) (drop a work) ≡ region_of work c k
  unfolding region_of
  lent_region = part-lent a (a + size_for m) (size_for m) work refl ∙ ap₂ (λ (x y : ℕ). part x (size_for y) work) e f

  pub lent-put : (r : List ℕ) → put a (a + size_for m - a) r work ≡ put (start_of c k) (size_for (cap_of c k)) r work
  lent-put r = put-lent a (a + size_for m) (size_for m) work r r refl refl ∙ ap₂ (λ (x y : ℕ). put x (size_for y) r work) e f

  -- what holds of the region holds of what is lent, and the other way
  pub lent : (Q : List ℕ → ℕ → Type 0) → Q (region_of work c k) (cap_of c k) → Q (take (a + size_for m - a) (drop a work)) m
  lent Q q = subst (λ (y : ℕ). Q (take (a + size_for m - a) (drop a work)) y) (sym f) (subst (λ (x : List ℕ). Q x (cap_of c k)) (sym lent_region) q)

  pub unlent : (Q : List ℕ → ℕ → Type 0) → Q (take (a + size_for m - a) (drop a work)) m → Q (region_of work c k) (cap_of c k)
  unlent Q q = subst (λ (x : List ℕ). Q x (cap_of c k)) lent_region (subst (λ (y : ℕ). Q (take (a + size_for m - a) (drop a work)) y) f q)

  pub lent_inside : Fits work c → k < 9 → a + size_for m ≤ length work
  lent_inside F h = omega (arith, region_inside c k h, F.fits)

  -- one region more is without records
  pub clearing_lent : (before r : List ℕ) (keys : Bool) → keys ≡ keyed_kind k → k < 9 → Clearing before work c k → Emptied r m keys → Clearing before (put a (a + size_for m - a) r work) c (k + 1)
  clearing_lent before r keys g h C E =
      subst (λ (w : List ℕ). Clearing before w c (k + 1)) (sym (lent-put r))
      (clearing_more before work c k r h C (subst (λ (b : Bool). Emptied r (cap_of c k) b) g (subst (λ (y : ℕ). Emptied r y keys) f E)))

pub sought_in : (bytes work : List ℕ) (c : Catalog) (k : ℕ) (key : List ℕ) (s : Option ℕ) → Finds bytes (region_of work c k) key s → SoughtIn bytes (records_of work c k) key s
unfolding records_of
sought_in bytes work c k key (Some i) F = F
sought_in bytes work c k key None F = λ f. F f.0 f.1 f.2

pub pushed_in : (bytes work : List ℕ) (c : Catalog) (C : Cataloged bytes work c) (k : ℕ) (h : k < 9) (r : List ℕ) (p : Place) → keyed_kind k ≡ false → places r ≡ places (region_of work c k) ++ (p ∷ []) → Kept bytes r (cap_of c k)
    → More bytes work (put (start_of c k) (size_for (cap_of c k)) r work) c k p
unfolding records_of
pushed_in bytes work c C k h r p q e K = put-more bytes work c C k h r K (λ t. never (let z : true ≡ false = sym t ∙ q in cc)) p e

-- ---- a store behind the regions
module _ (bytes work : List ℕ) (c : Catalog) (C : Cataloged bytes work c) (i v : ℕ) (h : c.at + 9 * size_for c.cap ≤ i) where
  region_set : (k : ℕ) → k < 9 → region_of (set work i v) c k ≡ region_of work c k
  unfolding region_of
  region_set k l = part-set-behind (start_of c k) (size_for (cap_of c k)) work i v (omega (arith, region_inside c k l))

  pub records-set : (k : ℕ) → k < 9 → records_of (set work i v) c k ≡ records_of work c k
  unfolding records_of
  records-set k l = ap places (region_set k l)

  pub cataloged_set : Cataloged bytes (set work i v) c
  cataloged_set = record {
    fits = record { small = C.fits.small; fits = rw (length-set work i v) C.fits.fits };
    kept = λ k l. subst (λ (r : List ℕ). Kept bytes r (cap_of c k)) (sym (region_set k l)) (C.kept k l);
    keyed = λ k l e. subst (λ (r : List ℕ). Keyed bytes r (cap_of c k)) (sym (region_set k l)) (C.keyed k l e);
  }
