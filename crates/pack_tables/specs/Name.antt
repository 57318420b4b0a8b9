-- Names, byte by byte.
use Rattle.std.specs.Prelude.{◌≡◌, refl, Bool, true, false, not, List, [], ◌∷◌, ℕ, zero, suc, ◌+◌, ◌≤◌, ◌<◌, eqb, leb, length, get_or, drop}
use Rattle.std.specs.Bool.{MatchBool}
use Rattle.std.specs.List.{AllWithin, HoldsAt}
use Rattle.std.proofs.Common.{sym, arith, add-one, le-leb, eq-eqb, ne_eqb, drop_of_length-le, drop-cons}
use Rattle.std.proofs.lemmas.Bool.{lt-leb}
use Rattle.definition.specs.Test.{never, ◌and◌, all}
use Rattle.definition.specs.Theory.{name_byte, is_name}

-- a test that fails at its end
pub and_false : (a : Bool) → a and false ≡ false
unfolding ◌and◌
and_false true = refl
and_false false = refl

-- a test that passes at its end
pub and_true : (a : Bool) → a and true ≡ a
unfolding ◌and◌
and_true true = refl
and_true false = refl

-- what is too low is no byte of a name
pub low_no : (b : ℕ) → b < 33 → name_byte b ≡ false
unfolding name_byte
low_no b h = rw (lt-leb 33 b h, ◌and◌)

-- nor is what is too high
pub high_no : (b : ℕ) → 126 < b → name_byte b ≡ false
unfolding name_byte
high_no b h = rw (lt-leb b 126 h, and_false (leb 33 b), ◌and◌)

-- nor an opening bracket
pub open_no : (b : ℕ) → b ≡ 40 → name_byte b ≡ false
unfolding name_byte
open_no b h = rw (eq-eqb b 40 h, and_false (leb 33 b and leb b 126), ◌and◌)

-- anything else is one unless it is a closing bracket
pub byte_is : (b : ℕ) → 33 ≤ b → b ≤ 126 → (b ≡ 40 → ⊥) → name_byte b ≡ not (eqb b 41)
unfolding name_byte
byte_is b h k n = rw (le-leb 33 b h, le-leb b 126 k, ne_eqb b 40 n, ◌and◌)

-- one turn: a byte that passes leaves the rest to be tested
pub bytes-turn : (i : ℕ) (s : List ℕ) → i < length s → (r : Bool) → r ≡ name_byte (get_or s i 0) → not r ≡ false → all name_byte (drop (i + 1) s) ≡ all name_byte (drop i s)
unfolding all
bytes-turn i s l true e n = rw (drop-cons s i 0 l, all, ← e, ◌and◌, add-one i)
bytes-turn i s l false e n = never (cc)

-- another byte ends it
pub bytes_stop : (i : ℕ) (s : List ℕ) → i < length s → (r : Bool) → r ≡ name_byte (get_or s i 0) → not r ≡ true → all name_byte (drop i s) ≡ false
unfolding all
bytes_stop i s l true e n = never (cc)
bytes_stop i s l false e n = rw (drop-cons s i 0 l, all, ← e, ◌and◌)

-- so does the end of the name
pub bytes-end : (i : ℕ) (s : List ℕ) → length s ≤ i → all name_byte (drop i s) ≡ true
unfolding all
bytes-end i s l = rw (drop_of_length-le s l)

-- bytes that all pass
all-pass : (xs : List ℕ) → ((k : ℕ) → k < length xs → name_byte (get_or xs k 0) ≡ true) → all name_byte xs ≡ true
unfolding all
all-pass [] f = refl
all-pass (x ∷ xs) f = let p : name_byte x ≡ true = f 0 (omega arith) in rw (all, p, ◌and◌) (all-pass xs (λ k l. f (suc k) (omega arith)))

-- one that does not
one-stops : (xs : List ℕ) (k : ℕ) → k < length xs → name_byte (get_or xs k 0) ≡ false → all name_byte xs ≡ false
unfolding all
one-stops [] k l e = absurd (omega arith)
one-stops (x ∷ xs) zero l e = let p : name_byte x ≡ false = e in rw (all, p, ◌and◌)
one-stops (x ∷ xs) (suc k) l e = rw (all, one-stops xs k (omega arith) e) (and_false (name_byte x))

-- the test of all bytes at once
pub bytes-tested : (s : List ℕ) (r : Bool) → MatchBool r (AllWithin (λ b. name_byte b ≡ true) s 0 (length s)) ((k : ℕ) × (k < length s) × HoldsAt (λ b. name_byte b ≡ false) s k) → r ≡ all name_byte s
bytes-tested s true m = sym (all-pass s (λ k l. m k 0 (omega arith) l))
bytes-tested s false m = sym (one-stops s m.0 m.1 (m.2 0))

-- nothing is no name
pub none_no : (s : List ℕ) → length s < 1 → is_name s ≡ false
unfolding is_name
none_no s l = rw (lt-leb 1 (length s) l, ◌and◌)

-- nor is what is too long
pub long_no : (s : List ℕ) → 64 < length s → is_name s ≡ false
unfolding is_name
long_no s l = rw (lt-leb (length s) 64 l, and_false (leb 1 (length s)), ◌and◌)

-- nor what starts with a question mark
pub mark_no : (s : List ℕ) → get_or s 0 0 ≡ 63 → is_name s ≡ false
unfolding is_name
mark_no s e = rw (eq-eqb (get_or s 0 0) 63 e) (and_false (leb 1 (length s) and leb (length s) 64 and all name_byte s))

-- anything else is one if its bytes are
pub name_is : (s : List ℕ) → 1 ≤ length s → length s ≤ 64 → (get_or s 0 0 ≡ 63 → ⊥) → is_name s ≡ all name_byte s
unfolding is_name
name_is s l m e = rw (le-leb 1 (length s) l, le-leb (length s) 64 m, ne_eqb (get_or s 0 0) 63 e, ◌and◌) (and_true (all name_byte s))

-- a test that code negates
pub denied : (b t : Bool) → b ≡ t → not b ≡ true → t ≡ false
denied true t e n = never (cc)
denied false t e n = sym e

pub not_denied : (b t : Bool) → b ≡ t → not b ≡ false → t ≡ true
not_denied true t e n = sym e
not_denied false t e n = never (cc)
