-- What a record's header says.
use Rattle.std.specs.Prelude.{Option, Some, None}
use Rattle.std.specs.Prelude.{◌≡◌, refl, Bool, true, false, List, ℕ, ◌+◌, ◌-◌, ◌≤◌, ◌<◌, leb, length, take, drop}
use Rattle.std.proofs.Common.{◌∙◌, arith, le-leb, length-drop, drop-drop, take_all}
use Rattle.std.proofs.lemmas.Bool.{lt-leb}
use Rattle.definition.specs.Test.{◌and◌}
use Rattle.definition.specs.Little.{le}
use Rattle.definition.specs.Frame.{Checked, good, bad, record_of, ◌>>=◌, right}
use Rattle.definition.specs.Parse.{kinds}
use Rattle.pack_tables.specs.Name.{and_false}
use Rattle.pack_tables.specs.Row.{le-drop}
use Rattle.pack_tables.specs.declared.header.Header.{Header}

-- the record at the start of s is good, of kind k, with a body that ends at e; or it is bad
abbrev pub HeadsFirst : List ℕ → ℕ → Option Header → Type 0
HeadsFirst s last (Some h) = (record_of kinds last s ≡ good (record { kind = h.kind; body = take (h.end - 6) (drop 6 s) })) × (6 ≤ h.end) × (h.end ≤ length s) × (h.end ≡ 6 + le 4 s 0)
HeadsFirst s last None = record_of kinds last s ≡ bad

-- a good one of kind k stands at `at`, with a body that ends at e
abbrev pub Heads : List ℕ → ℕ → ℕ → ℕ → ℕ → Type 0
Heads s at last k e =
    (record_of kinds last (drop at s) ≡ good (record { kind = k; body = take (e - (at + 6)) (drop (at + 6) s) }))
    × (at + 6 ≤ e) × (e ≤ length s) × (e ≡ at + 6 + le 4 s at)

-- all that is there from `at` on
pub lent-tail : (s : List ℕ) (at : ℕ) → take (length s - at) (drop at s) ≡ drop at s
lent-tail s at = take_all (length s - at) (drop at s) (omega (arith, length-drop at s))

-- the first of the tail from there on
pub heads_tail : (s : List ℕ) (at last k e : ℕ) → at ≤ length s → HeadsFirst (drop at s) last (Some (record { kind = k; end = e })) → Heads s at last k (at + e)
heads_tail s at last k e l H =
    let n : at + 0 ≡ at = omega arith in
    let f : le 4 (drop at s) 0 ≡ le 4 s at = le-drop 4 at s 0 ∙ rw n in
    let m : at + e - (at + 6) ≡ e - 6 = omega arith in
    (rw m (rw (drop-drop 6 at s) at H.0), omega (arith, H.1), omega (arith, H.2, length-drop at s), omega (arith, H.3, f))

-- what is bad behind a test is bad
right_bad : {B : Type 0} (t : Bool) (f : Unit {0} → Checked B) → f tt ≡ bad → right t >>= f ≡ bad
unfolding ◌>>=◌ right
right_bad true f e = e
right_bad false f e = refl

-- a test that fails is bad
right_no : {B : Type 0} (t : Bool) (f : Unit {0} → Checked B) → t ≡ false → right t >>= f ≡ bad
unfolding ◌>>=◌ right
right_no t f e = rw e

-- a test that passes leaves the rest
right_yes : {B : Type 0} (t : Bool) (f : Unit {0} → Checked B) → t ≡ true → right t >>= f ≡ f tt
unfolding ◌>>=◌ right
right_yes t f e = rw e

-- too few bytes for a header
pub cut_bad : (s : List ℕ) (last : ℕ) → length s < 6 → record_of kinds last s ≡ bad
unfolding record_of
cut_bad s last h = right_no _ _ (lt-leb 6 (length s) h)

-- too few for the body
pub short_bad : (s : List ℕ) (last : ℕ) → 6 ≤ length s → length s - 6 < le 4 s 0 → record_of kinds last s ≡ bad
unfolding record_of
short_bad s last l h = right_bad _ _ (right_no _ _ (lt-leb (6 + le 4 s 0) (length s) (omega arith)))

-- a kind below the first
pub low_bad : (s : List ℕ) (last : ℕ) → le 2 s 4 < 1 → record_of kinds last s ≡ bad
unfolding record_of kinds ◌and◌
low_bad s last h = right_bad _ _ (right_bad _ _ (right_no _ _ (rw (lt-leb 1 (le 2 s 4) h, ◌and◌))))

-- a kind above the last
pub high_bad : (s : List ℕ) (last : ℕ) → 9 < le 2 s 4 → record_of kinds last s ≡ bad
unfolding record_of kinds
high_bad s last h = right_bad _ _ (right_bad _ _ (right_no _ _ (rw (lt-leb (le 2 s 4) 9 h) (and_false (leb 1 (le 2 s 4))))))

-- a kind that falls
pub falls_bad : (s : List ℕ) (last : ℕ) → le 2 s 4 < last → record_of kinds last s ≡ bad
unfolding record_of kinds
falls_bad s last h = right_bad _ _ (right_bad _ _ (right_bad _ _ (right_no _ _ (lt-leb last (le 2 s 4) h))))

-- none of these: a good record
pub whole_good : (s : List ℕ) (last : ℕ) → 6 + le 4 s 0 ≤ length s → 1 ≤ le 2 s 4 → le 2 s 4 ≤ 9 → last ≤ le 2 s 4 → record_of kinds last s ≡ good (record { kind = le 2 s 4; body = take (6 + le 4 s 0 - 6) (drop 6 s) })
unfolding record_of kinds ◌and◌
whole_good s last h low high follows =
    let m : 6 + le 4 s 0 - 6 ≡ le 4 s 0 = omega arith in
    right_yes _ _ (le-leb 6 (length s) (omega arith))
    ∙ right_yes _ _ (le-leb (6 + le 4 s 0) (length s) (omega arith))
    ∙ right_yes _ _ (rw (le-leb 1 (le 2 s 4) low, ◌and◌) (le-leb (le 2 s 4) 9 high))
    ∙ right_yes _ _ (le-leb last (le 2 s 4) follows)
    ∙ rw m
