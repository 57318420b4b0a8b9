-- Numbers in a record's body are numbers in the pack.
use Rattle.std.specs.Prelude.{◌≡◌, refl, List, ℕ, zero, suc, ◌+◌, ◌*◌, ◌-◌, ◌≤◌, ◌<◌, length, get_or, drop}
use Rattle.std.proofs.Common.{sym, ap, ◌∙◌, arith, get_or-take}
use Rattle.std.proofs.Math.Path.{ap₂}
use Rattle.std.proofs.Math.ListN.{take}
use Rattle.definition.specs.Little.{le}
use Rattle.definition.specs.Theory.{words}
use Rattle.base.specs.Part.{part, length_part}
use Rattle.pack_tables.specs.Row.{le-drop, word_at}
use Rattle.pack_tables.specs.Place.{Place, no_place, body_at, end_of, key_at, Framed}
use Rattle.pack_tables.specs.Catalog.{records_of, Cataloged, record_framed}
use Rattle.pack_tables.specs.declared.catalog.Catalog.{Catalog}
use Rattle.pack_read.specs.Body.{body_of}

-- a number in the first m bytes
pub le-take : (n m : ℕ) (s : List ℕ) (i : ℕ) → i + n ≤ m → le n (take m s) i ≡ le n s i
unfolding le
le-take zero m s i h = refl
le-take (suc n) m s i h = rw (get_or-take m s i 0 (omega arith), le-take n m s (i + 1) (omega arith))

-- a number in a part
pub le-part : (n a m : ℕ) (s : List ℕ) (i : ℕ) → i + n ≤ m → le n (part a m s) i ≡ le n s (a + i)
unfolding part
le-part n a m s i h = le-take n m (drop a s) i h ∙ le-drop n a s i

-- word i of the n that start at k
pub word-from : (k n i : ℕ) (s : List ℕ) → i < n → get_or (words n (drop k s)) i 0 ≡ le 4 s (k + 4 * i)
word-from k n i s h = word_at n i (drop k s) h ∙ le-drop 4 k s (4 * i)

-- ---- the body of a framed record
pub length-body : (bytes : List ℕ) (p : Place) → Framed bytes p → length (body_at bytes p) ≡ le 4 bytes p.at
unfolding body_at end_of
length-body bytes p F = length_part (p.at + 6) (le 4 bytes p.at) bytes F.whole

pub body_inside : (bytes : List ℕ) (p : Place) → Framed bytes p → p.at + 6 + length (body_at bytes p) ≤ length bytes
unfolding end_of
body_inside bytes p F = rw (length-body bytes p F) F.whole

pub body-le : (bytes : List ℕ) (p : Place) (n i : ℕ) → Framed bytes p → i + n ≤ length (body_at bytes p) → le n (body_at bytes p) i ≡ le n bytes (p.at + 6 + i)
unfolding body_at
body-le bytes p n i F h = le-part n (p.at + 6) (le 4 bytes p.at) bytes i (omega (arith, length-body bytes p F))

-- ---- the same of record i of a kind
module _ (bytes work : List ℕ) (c : Catalog) (k i : ℕ) (C : Cataloged bytes work c) (h : k < 9) (l : i < length (records_of work c k)) where
  abbrev place : Place
  place = get_or (records_of work c k) i no_place

  pub record_inside : place.at + 6 + length (body_of bytes (records_of work c k) i) ≤ length bytes
  record_inside = body_inside bytes place (record_framed bytes work c k i C h l)

  pub record_long : (at : ℕ) → at ≡ place.at → le 4 bytes at ≡ length (body_of bytes (records_of work c k) i)
  record_long at e = ap (le 4 bytes) e ∙ sym (length-body bytes place (record_framed bytes work c k i C h l))

  pub record_le : (n off at : ℕ) → at ≡ place.at → off + n ≤ length (body_of bytes (records_of work c k) i) → le n bytes (at + 6 + off) ≡ le n (body_of bytes (records_of work c k) i) off
  record_le n off at e m = ap (λ (x : ℕ). le n bytes (x + 6 + off)) e ∙ sym (body-le bytes place n off (record_framed bytes work c k i C h l) m)

  pub record_end : (at end : ℕ) → at ≡ place.at → end ≡ end_of bytes at → end ≡ end_of bytes place.at
  record_end at end e f = f ∙ ap (end_of bytes) e

  pub record_key : (from end : ℕ) → from ≡ place.from → end ≡ end_of bytes place.at → take (end - from) (drop from bytes) ≡ key_at bytes place
  unfolding key_at part
  record_key from end e f = ap₂ (λ (x y : ℕ). take (y - x) (drop x bytes)) e f
