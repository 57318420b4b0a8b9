-- `enter` meets its contract.
use Rattle.std.specs.Prelude.{Result, Err}
use mathlib.Core.Path.{◌≡◌, refl, sym, subst}
use mathlib.Core.List.{List}
use Prim.Native.Nat.{ℕ, ◌+◌, ◌*◌, ◌-◌, ◌<◌}
use native.Mathlib.Omega.{arith}
use lib.ListN.{set, take, drop}
use Rattle.base.specs.Part.{part}
use Rattle.base.specs.Hash.{hash_of}
use Rattle.pack_tables.specs.Place.{key_at, end_of}
use Rattle.pack_tables.specs.Region.{slots_in, hashes_for, count_in, Keyed, Probed, Enters, appended}
use Rattle.pack_tables.specs.RegionLaws.{found, entering, entered, length-slots, count-appended}
use Rattle.pack_tables.specs.declared.region.Entered.TheVariants.{New}
use Rattle.pack_tables.proofs.region.enter.Goals as goal

-- the slot is one of the region's
inside : (bytes r : List ℕ) (cap t h : ℕ) (key : List ℕ) → Keyed bytes r cap → Probed bytes (slots_in r cap) r h key (Err t) → t < 3 * cap + 1
inside bytes r cap t h key K P = omega (arith, P.0.ran.inside, length-slots bytes r cap K.kept)

-- the key that was searched for is the record's
same_key : (bytes r : List ℕ) (cap at from e : ℕ) (s : Result ℕ ℕ) → e ≡ end_of bytes at → Probed bytes (slots_in r cap) r (hash_of (hashes_for cap) (take (e - from) (drop from bytes))) (take (e - from) (drop from bytes)) s
    → Probed bytes (slots_in r cap) r (hash_of (hashes_for cap) (key_at bytes (record { at = at; from = from }))) (key_at bytes (record { at = at; from = from })) s
unfolding key_at part
same_key bytes r cap at from e s q P = subst (λ (x : ℕ). Probed bytes (slots_in r cap) r (hash_of (hashes_for cap) (take (x - from) (drop from bytes))) (take (x - from) (drop from bytes)) s) q P

pub end_of-end-requires : goal.end_of-end-requires
end_of-end-requires c = let F = c.requires.1.framed in omega (arith, F.starts, F.ends, F.whole)

pub slice_bounds-search-count : goal.slice_bounds-search-count
slice_bounds-search-count c = let F = c.requires.1.framed in omega (arith, F.ends, c.end_of-end.ensures)

pub slice_bounds-search-start : goal.slice_bounds-search-start
slice_bounds-search-start c = let F = c.requires.1.framed in omega (arith, F.ends, c.end_of-end.ensures)

pub slice_bounds-search-end : goal.slice_bounds-search-end
slice_bounds-search-end c = let F = c.requires.1.framed in omega (arith, F.whole, c.end_of-end.ensures)

pub search-requires : goal.search-requires
search-requires c = c.requires.0

pub returns-in_default : goal.returns-in_default
returns-in_default c =
    let a = c.args in
    let P = same_key a.pack.now a.region.now a.cap a.at a.from c.end_of-end.result c.search.result c.end_of-end.ensures c.search.ensures in
    ((_, (found _ _ _ _ c.requires.0 _ (rw c.in_default.is at P)).2), refl)

pub append-requires : goal.append-requires
append-requires c = entering _ _ _ _ c.requires.0.kept c.requires.1

pub overflow_add-region : goal.overflow_add-region
overflow_add-region c =
    let t = inside _ _ _ _ _ _ c.requires.0 c.in-Err.ensures in
    omega (arith, t, c.requires.0.kept.small)

pub offset_bounds-region-a : goal.offset_bounds-region-a
offset_bounds-region-a c =
    let t = inside _ _ _ _ _ _ c.requires.0 c.in-Err.ensures in
    omega (arith, t, c.requires.0.kept.small)

pub bounds-region-a : goal.bounds-region-a
bounds-region-a c =
    let t = inside _ _ _ _ _ _ c.requires.0 c.in-Err.ensures in
    omega (arith, t, c.requires.0.kept.long, c.append.auto.region)

pub returns : goal.returns
returns c =
    let a = c.args in
    let t : ℕ = c.in-Err.s in
    let P = same_key a.pack.now a.region.now a.cap a.at a.from c.end_of-end.result c.search.result c.end_of-end.ensures c.search.ensures in
    let E = entered a.pack.now a.region.now a.cap (record { at = a.at; from = a.from }) t c.requires.0 c.requires.1 (rw c.in-Err.is at P) in
    let A = entering a.pack.now a.region.now a.cap (record { at = a.at; from = a.from }) c.requires.0.kept c.requires.1 in
    let n = count-appended a.region.now a.cap a.at a.from A in
    subst (λ (l : List ℕ). Enters a.pack.now a.region.now (set l (2 * a.cap + 1 + t) (count_in l)) a.cap (record { at = a.at; from = a.from }) New) (sym c.append.ensures)
    (subst (λ (k : ℕ). Enters a.pack.now a.region.now (set (appended a.region.now a.at a.from) (2 * a.cap + 1 + t) k) a.cap (record { at = a.at; from = a.from }) New) (sym n) E)
