-- Where emission has its words in work, by the few numbers that code hands on.
use Rattle.std.specs.Prelude.{◌≡◌, List, ℕ, ◌+◌, ◌*◌, ◌≤◌, ◌<◌, length, get_or}
use Rattle.std.proofs.Common.{arith}
use Rattle.memo.specs.Lent.{lent}
use Rattle.memo.specs.declared.memo.Memo.{Memo}
use Rattle.pack_tables.specs.SameTables.{end_of}
use Rattle.store.specs.declared.nodes.Store.{Store}
use Rattle.emit_chains.specs.declared.chain.Chains.{Chains}
use Rattle.emit_maps.specs.declared.maps.Maps.{Maps}
use Rattle.emit_match.specs.declared.places.Matching.{Matching}
use Rattle.emit_state.specs.declared.places.Places.{Places}

abbrev pub maps_of : Places → Maps
maps_of l = record { at = l.at; room = l.room }

abbrev pub index_end : Places → ℕ
index_end l = l.index + 4 * l.room + 1

abbrev pub failed_at : Places → ℕ
failed_at l = l.at + 9 * l.room

-- where the failures end, and what was put for L starts
abbrev pub replaced_at : Places → ℕ
replaced_at l = l.at + 11 * l.room

-- where that ends: a word has its stamp
abbrev pub stamp_at : Places → ℕ
stamp_at l = l.at + 13 * l.room

abbrev pub walk_at : Places → ℕ
walk_at l = l.at + 13 * l.room + 1

abbrev pub values_at : Places → ℕ
values_at l = l.at + 15 * l.room + 1

abbrev pub pending_at : Places → ℕ
pending_at l = values_at l + 64

-- where what is written for the moment ends: the walk's stack, values and patterns that wait
abbrev pub scratch_end : Places → ℕ
scratch_end l = pending_at l + 256

-- the chains, a word for each record of a kind that the tables have room for
abbrev pub rules_of : Places → Chains
rules_of l =
    let n = l.hand.catalog.cap in
    record { first = pending_at l + 256; keys = n; next = pending_at l + 256 + n; items = n }

abbrev pub constructors_of : Places → Chains
constructors_of l =
    let n = l.hand.catalog.cap in
    record { first = pending_at l + 256 + 2 * n; keys = n; next = pending_at l + 256 + 2 * n + n; items = n }

abbrev pub places_end : Places → ℕ
places_end l = pending_at l + 256 + 4 * l.hand.catalog.cap

-- where a rule is matched
abbrev pub matching_of : Places → Store → Matching
matching_of l st = record { catalog = l.hand.catalog; store = st; index = l.index; end = index_end l; values = values_at l; stack = pending_at l }

-- all places are far below what a number can say
abbrev pub Small : Places → Type 0
Small l = (index_end l ≤ 1073741824) × (places_end l ≤ 1073741824)

-- the store's index, as it is lent
abbrev pub index_in : List ℕ → Places → List ℕ
index_in work l = lent l.index (index_end l) work

-- the words of the failures, as they are lent
abbrev pub failed_in : List ℕ → Places → List ℕ
failed_in work l = lent (failed_at l) (replaced_at l) work

-- the words of what was put for L, and its memo
abbrev pub replaced_in : List ℕ → Places → List ℕ
replaced_in work l = lent (replaced_at l) (stamp_at l) work

abbrev pub replacing : List ℕ → Places → Memo
replacing work l = record { stamp = get_or work (stamp_at l) 0 }

-- one behind the other behind the pack's tables, in work
pub record Laid (work : List ℕ) (l : Places) : Type 0 where
  pub tables : end_of l.hand.catalog ≤ l.index
  pub index : index_end l ≤ l.at
  pub within : places_end l ≤ length work
  pub small : length work ≤ 1073741824

-- such places can be reckoned with
pub small_places : (work : List ℕ) (l : Places) → Laid work l → Small l
small_places work l L = (omega (arith, L.index, L.within, L.small), omega (arith, L.within, L.small))

-- the words from a up to e are as they were
abbrev pub SameIn : ℕ → ℕ → List ℕ → List ℕ → Type 0
SameIn a e work work' = (i : ℕ) → a ≤ i → i < e → get_or work' i 0 ≡ get_or work i 0

-- the words that are not emission's are those of xs: ahead of the store's index, between it and the maps, and behind all
pub record Beyond (l : Places) (xs work : List ℕ) : Type 0 where
  pub long : length work ≡ length xs
  pub ahead : SameIn 0 l.index xs work
  pub between : SameIn (index_end l) l.at xs work
  pub behind : SameIn (places_end l) (length xs) xs work
