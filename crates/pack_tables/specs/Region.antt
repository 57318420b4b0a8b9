-- A region of work for the records of one kind: how many there are, where each stands, and a probe table of their keys.
use Rattle.std.specs.Prelude.{Option, Some, None, Result, Ok, Err}
use Rattle.std.specs.Prelude.{◌≡◌, Bool, true, List, [], ◌∷◌, ◌++◌, ℕ, ◌+◌, ◌-◌, ◌*◌, ◌≤◌, ◌<◌, length, get_or, set}
use Rattle.base.specs.Part.{part}
use Rattle.base.specs.Hash.{hash_of}
use Rattle.base.specs.Listed.{listed}
use Rattle.base.specs.Probe.{Table, Passed}
use Rattle.pack_tables.specs.Place.{Place, no_place, key_at, Framed}
use Rattle.pack_tables.specs.declared.region.Entered.{Entered}
use Rattle.pack_tables.specs.declared.region.Entered.TheVariants.{New, Old}

-- words for so many records: a count, two words a record, the slots
abbrev pub size_for : ℕ → ℕ
size_for cap = 5 * cap + 2

abbrev pub count_in : List ℕ → ℕ
count_in r = get_or r 0 0

abbrev pub place_in : List ℕ → ℕ → Place
place_in r i = record { at = get_or r (2 * i + 1) 0; from = get_or r (2 * i + 2) 0 }

-- the records of the kind
unfoldable pub places : List ℕ → List Place
places r = listed (place_in r) (count_in r)

abbrev pub hashes_for : ℕ → ℕ
hashes_for cap = 2 * cap + 1

unfoldable pub slots_in : List ℕ → ℕ → List ℕ
slots_in r cap = part (2 * cap + 1) (3 * cap + 1) r

-- the region's records are framed by the pack
pub record Kept (bytes r : List ℕ) (cap : ℕ) : Type 0 where
  pub long : length r ≡ size_for cap
  pub few : count_in r ≤ cap
  pub small : cap < 1073741824
  pub framed : (i : ℕ) → i < count_in r → Framed bytes (place_in r i)

-- and found by their keys, no two alike
pub record Keyed (bytes r : List ℕ) (cap : ℕ) : Type 0 where
  pub kept : Kept bytes r cap
  pub table : Table (hash_of (hashes_for cap)) (slots_in r cap) (λ i. key_at bytes (place_in r i)) (count_in r)

-- what `find` answers: the record of this key, or that none has it
abbrev pub Finds : List ℕ → List ℕ → List ℕ → Option ℕ → Type 0
Finds bytes r key (Some i) = (i < length (places r)) × (key_at bytes (get_or (places r) i no_place) ≡ key)
Finds bytes r key None = (i : ℕ) → i < length (places r) → key_at bytes (get_or (places r) i no_place) ≡ key → ⊥

-- what `enter` answers: the record is put behind the others, or one of them has its key and nothing is written
abbrev pub Enters : List ℕ → List ℕ → List ℕ → ℕ → Place → Entered → Type 0
Enters bytes r r' cap p New = Finds bytes r (key_at bytes p) None × (places r' ≡ places r ++ (p ∷ [])) × Keyed bytes r' cap
Enters bytes r r' cap p Old = ((i : ℕ) × Finds bytes r (key_at bytes p) (Some i)) × (r' ≡ r)

-- ---- between the region's own functions
pub record Searching (bytes slots r : List ℕ) (cap h : ℕ) (key : List ℕ) : Type 0 where
  pub keyed : Keyed bytes r cap
  pub slots_are : slots ≡ slots_in r cap
  pub hash_is : h ≡ hash_of (hashes_for cap) key
  pub below : h < hashes_for cap

abbrev pub Probed : List ℕ → List ℕ → List ℕ → ℕ → List ℕ → Result ℕ ℕ → Type 0
Probed bytes slots r h key (Ok t) = (t < length slots) × (0 < get_or slots t 0) × (key_at bytes (place_in r (get_or slots t 0 - 1)) ≡ key)
Probed bytes slots r h key (Err t) = Passed slots (λ i. key_at bytes (place_in r i)) key h t × (get_or slots t 0 ≡ 0)

-- the region with a record more, but for the slots
unfoldable pub appended : List ℕ → ℕ → ℕ → List ℕ
appended r at from = set (set (set r (2 * count_in r + 1) at) (2 * count_in r + 2) from) 0 (count_in r + 1)

-- there is room for a record more
pub record Appending (r : List ℕ) (cap at from : ℕ) : Type 0 where
  pub long : length r ≡ size_for cap
  pub room : count_in r < cap
  pub small : cap < 1073741824
  pub at-fits : at < 4294967296
  pub from-fits : from < 4294967296

-- the record is framed, and there is room for it
pub record Entering (bytes r : List ℕ) (cap : ℕ) (p : Place) : Type 0 where
  pub framed : Framed bytes p
  pub room : count_in r < cap
  pub short : length bytes < 4294967296

-- a region without records, whatever the pack is, and with free slots if its kind has keys
pub record Emptied (r : List ℕ) (cap : ℕ) (keys : Bool) : Type 0 where
  pub none : places r ≡ []
  pub kept : (bytes : List ℕ) → Kept bytes r cap
  pub keyed : keys ≡ true → (bytes : List ℕ) → Keyed bytes r cap
