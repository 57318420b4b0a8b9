-- The lines that list the records of a pack.
use Rattle.std.specs.Prelude.{Option, Some, None}
use Rattle.std.specs.Prelude.{true, false, ◌≡◌, refl, List, [], ◌∷◌, ◌++◌, ℕ, zero, suc, ◌+◌, ◌-◌, ◌<◌, ◌≤◌, leb, ltb, length}
use Rattle.std.proofs.Common.{ap, ◌∙◌, arith, le-leb, lt-ltb, le-ltb}
use Rattle.std.proofs.Math.Decide.{dec_le, dec_lt}
use Rattle.std.proofs.lemmas.Bool.{lt-leb}
use Rattle.std.proofs.lemmas.Option.{none-some, same_Some}
use Rattle.definition.specs.Decimal.{decimal}
use Rattle.definition.specs.Little.{le}

-- the record at a place: 4 bytes of length, 2 of kind, and the body
unfoldable pub record_at : List ℕ → ℕ → Option (ℕ × ℕ)
record_at s at =
    elim (ltb (length s - at) 6) [
      | true ↦ None
      | false ↦ elim (ltb (length s - (at + 6)) (le 4 s at)) [ true ↦ None | false ↦ Some (le 2 s (at + 4), le 4 s at) ]
    ]

-- a number and the byte behind it
unfoldable pub field : ℕ → ℕ → List ℕ
field n last = decimal n ++ (last ∷ [])

-- offset, kind and body length, with blanks between, and a newline
unfoldable pub line : ℕ → ℕ → ℕ → List ℕ
unfolding field
line offset kind n = field offset 32 ++ (field kind 32 ++ field n 10)

-- offset, a blank, `cut` and a newline
unfoldable pub cut_line : ℕ → List ℕ
unfolding field
cut_line offset = field offset 32 ++ (99 ∷ 117 ∷ 116 ∷ 10 ∷ [])

-- the lines of the records from a place on, of which there are at most f
unfoldable pub lines_from : ℕ → List ℕ → ℕ → List ℕ
unfolding record_at line cut_line
lines_from zero s at = []
lines_from (suc f) s at =
    elim (leb (length s) at) [
      | true ↦ []
      | false ↦ elim (record_at s at) [ None ↦ cut_line at | Some (kind, n) ↦ line at kind n ++ lines_from f s (at + 6 + n) ]
    ]

-- the lines of a whole pack
unfoldable pub lines : List ℕ → List ℕ
unfolding lines_from
lines s = lines_from (length s) s 0

-- a value with its equation, to take cases of
data Is (r : Option (ℕ × ℕ)) : Type 0 where
  is : (q : Option (ℕ × ℕ)) → r ≡ q → Is r

-- a whole record ends within its pack
pub whole-fits : (s : List ℕ) (at kind n : ℕ) → at ≤ length s → record_at s at ≡ Some (kind, n) → at + 6 + n ≤ length s
unfolding record_at
whole-fits s at kind n h e = elim (dec_lt (length s - at) 6) [
  | yes a ↦ absurd (none-some (kind, n) (rw (lt-ltb (length s - at) 6 a, record_at) at e))
  | no a ↦ elim (dec_lt (length s - (at + 6)) (le 4 s at)) [
    | yes b ↦ absurd (none-some (kind, n) (rw (le-ltb (length s - at) 6 (omega arith), lt-ltb (length s - (at + 6)) (le 4 s at) b, record_at) at e))
    | no b ↦
        let z : ◌≡◌ {A = ℕ × ℕ} (le 2 s (at + 4), le 4 s at) (kind, n) = same_Some _ _ (rw (le-ltb (length s - at) 6 (omega arith), le-ltb (length s - (at + 6)) (le 4 s at) (omega arith), record_at) at e) in
        let o : le 4 s at ≡ n = ap {A = ℕ × ℕ} (λ p. p.1) z in
        omega arith
  ]
]

-- as many as there are bytes left is enough
enough : (f g : ℕ) (s : List ℕ) (at : ℕ) → length s - at ≤ f → length s - at ≤ g → lines_from f s at ≡ lines_from g s at
unfolding lines_from
enough zero zero s at a b = refl
enough zero (suc g) s at a b = rw (le-leb (length s) at (omega arith), lines_from)
enough (suc f) zero s at a b = rw (le-leb (length s) at (omega arith), lines_from)
enough (suc f) (suc g) s at a b = elim (dec_le (length s) at) [
  | yes h ↦ rw (le-leb (length s) at h, lines_from)
  | no h ↦ elim (is (record_at s at) refl) [
    | is None p ↦ rw (lt-leb (length s) at (omega arith), p, lines_from)
    | is (Some (kind, n)) p ↦ rw (lt-leb (length s) at (omega arith), p, lines_from, enough f g s (at + 6 + n) (omega arith) (omega arith))
  ]
]

-- past the end there is no line
pub rest-none : (s : List ℕ) (at : ℕ) → length s ≤ at → lines_from (length s) s at ≡ []
unfolding lines_from
rest-none s at h = enough (length s) 0 s at (omega arith) (omega arith)

-- a cut record is the last
pub rest-cut : (s : List ℕ) (at : ℕ) → at < length s → record_at s at ≡ None → lines_from (length s) s at ≡ cut_line at
unfolding lines_from
rest-cut s at h p = enough (length s) (suc (length s)) s at (omega arith) (omega arith) ∙ rw (lt-leb (length s) at h, p, lines_from)

-- a whole record gives its line, and the records behind it follow
pub rest-whole : (s : List ℕ) (at kind n : ℕ) → at < length s → record_at s at ≡ Some (kind, n)
    → lines_from (length s) s at ≡ line at kind n ++ lines_from (length s) s (at + 6 + n)
unfolding lines_from
rest-whole s at kind n h p = enough (length s) (suc (length s)) s at (omega arith) (omega arith) ∙ rw (lt-leb (length s) at h, p, lines_from)

-- a pack of two records and a part of a third
unfoldable pub sample : List ℕ
sample = 3 ∷ 0 ∷ 0 ∷ 0 ∷ 1 ∷ 0 ∷ 78 ∷ 97 ∷ 116 ∷ 5 ∷ 0 ∷ 0 ∷ 0 ∷ 7 ∷ 0 ∷ 2 ∷ 0 ∷ 0 ∷ 0 ∷ 103 ∷ 9 ∷ 0 ∷ []

-- `0 1 3`, `9 7 5`, `20 cut`
sample-lines : lines sample ≡ 48 ∷ 32 ∷ 49 ∷ 32 ∷ 51 ∷ 10 ∷ 57 ∷ 32 ∷ 55 ∷ 32 ∷ 53 ∷ 10 ∷ 50 ∷ 48 ∷ 32 ∷ 99 ∷ 117 ∷ 116 ∷ 10 ∷ []
unfolding lines sample decimal le
sample-lines = refl
