-- Bytes written into a lent text.
use Rattle.std.specs.Prelude.{Option, Some, None}
use Rattle.std.specs.Prelude.{true, false, ◌≡◌, refl, List, [], ◌∷◌, ◌++◌, ℕ, suc, ◌+◌, ◌/◌, ◌%◌, ◌<◌, ◌≤◌, leb, length, take, set}
use Rattle.std.proofs.Common.{sym, ap, ◌∙◌, append_assoc, add-one, arith, le-leb, length-append, lt-length-set, drop-drop, drop-cons, get_or-set_same, drop-set-lt}
use Rattle.std.proofs.Math.Decide.{dec_le}
use Rattle.std.proofs.lemmas.Bool.{lt-leb}
use Rattle.std.proofs.lemmas.List.{take-set-le, set_split}
use Rattle.base.specs.Part.{put, length-put, take_put}
use Rattle.definition.specs.Decimal.{decimal, decimal_few, decimal-more, length_more}

-- the text t with the bytes bs in place of those that stood at `at`
unfoldable pub over : ℕ → List ℕ → List ℕ → List ℕ
over at bs t = put at (length bs) bs t

-- what a write answers and leaves
pub record Wrote : Type 0 where
  pub answer : Option ℕ
  pub text : List ℕ

-- the bytes bs written at `at` where all of them have room, else nothing
unfoldable pub write : List ℕ → ℕ → List ℕ → Wrote
unfolding over
write t at bs =
    elim (leb (at + length bs) (length t)) [
      | true ↦ record { answer = Some (at + length bs); text = over at bs t }
      | false ↦ record { answer = None; text = t }
    ]

-- up to the end of what was written: what stood before, and the bytes
pub take-over : (at : ℕ) (bs t : List ℕ) → at ≤ length t → take (at + length bs) (over at bs t) ≡ take at t ++ bs
unfolding over
take-over at bs t h = take_put at (length bs) t bs h refl

-- the length stays
pub length_over : (at : ℕ) (bs t : List ℕ) → at + length bs ≤ length t → length (over at bs t) ≡ length t
unfolding over
length_over at bs t h = length-put at (length bs) t h bs refl

-- where all have room
pub write-fits : (t : List ℕ) (at : ℕ) (bs : List ℕ) (e : ℕ) (u : List ℕ) → e ≡ at + length bs → e ≤ length t → u ≡ over at bs t
    → ◌≡◌ {A = Wrote} (record { answer = Some e; text = u }) (write t at bs)
unfolding write
write-fits t at bs e u p h q = rw (p, q, le-leb (at + length bs) (length t) (omega arith), write)

-- where not all have room
pub write_short : (t : List ℕ) (at : ℕ) (bs : List ℕ) → length t < at + length bs → ◌≡◌ {A = Wrote} (record { answer = None; text = t }) (write t at bs)
unfolding write
write_short t at bs h = rw (lt-leb (at + length bs) (length t) h, write)

-- what an End tells
pub wrote_end : (t : List ℕ) (at : ℕ) (bs : List ℕ) (e : ℕ) (u : List ℕ) → ◌≡◌ {A = Wrote} (record { answer = Some e; text = u }) (write t at bs)
    → (e ≡ at + length bs) × (e ≤ length t) × (u ≡ over at bs t)
wrote_end t at bs e u w = elim (dec_le (at + length bs) (length t)) [
  | yes h ↦
      let v = w ∙ sym (write-fits t at bs (at + length bs) (over at bs t) refl h refl) in
      let a : Some e ≡ Some (at + length bs) = ap (λ (x : Wrote). x.answer) v in
      let p : e ≡ at + length bs = cc in
      (p, omega arith, ap (λ (x : Wrote). x.text) v)
  | no h ↦
      let a : Some e ≡ None = ap (λ (x : Wrote). x.answer) (w ∙ sym (write_short t at bs (omega arith))) in
      let z : ◌≡◌ {A = ℕ} 0 1 = cc in
      absurd (omega arith)
]

-- what a Short tells
pub wrote_short : (t : List ℕ) (at : ℕ) (bs u : List ℕ) → ◌≡◌ {A = Wrote} (record { answer = None; text = u }) (write t at bs)
    → (length t < at + length bs) × (u ≡ t)
wrote_short t at bs u w = elim (dec_le (at + length bs) (length t)) [
  | yes h ↦
      let a : None ≡ Some (at + length bs) = ap (λ (x : Wrote). x.answer) (w ∙ sym (write-fits t at bs (at + length bs) (over at bs t) refl h refl)) in
      let z : ◌≡◌ {A = ℕ} 0 1 = cc in
      absurd (omega arith)
  | no h ↦ (omega arith, ap (λ (x : Wrote). x.text) (w ∙ sym (write_short t at bs (omega arith))))
]

-- a byte stored behind the place of bs is written with them
pub over_last : (at : ℕ) (bs : List ℕ) (b : ℕ) (t : List ℕ) → at + length bs < length t → over at bs (set t (at + length bs) b) ≡ over at (bs ++ (b ∷ [])) t
unfolding over
over_last at bs b t h =
    let n = at + length bs in
    let l : n < length (set t n b) = lt-length-set t n b h in
    let e : at + length (bs ++ (b ∷ [])) ≡ suc n = simp length-append (omega arith) in
    rw (drop-drop (length bs) at, drop-drop (length (bs ++ (b ∷ []))) at, take-set-le at t n b (omega arith), drop-cons (set t n b) n 0 l, get_or-set_same t n b 0 h, drop-set-lt (suc n) t n b (omega arith), append_assoc bs, e)

-- one byte is one store
pub over-one : (at b : ℕ) (t : List ℕ) → at < length t → over at (b ∷ []) t ≡ set t at b
unfolding over
over-one at b t h = rw (drop-drop, set_split, add-one)

-- one turn of writing digits from the last one back: the last is stored, those of the tenth are left
pub decimal-turn : (at m i : ℕ) (t : List ℕ) → 10 ≤ m → i + 1 ≡ at + length (decimal m) → i < length t
    → over at (decimal (m / 10)) (set t i (48 + m % 10)) ≡ over at (decimal m) t
decimal-turn at m i t h e l =
    let f : i ≡ at + length (decimal (m / 10)) = omega (arith, length_more m h) in
    rw (f, decimal-more m h, over_last at (decimal (m / 10)) (48 + m % 10) t (omega arith))

-- the last turn stores the one digit that is left
pub decimal-end : (at m i : ℕ) (t : List ℕ) → m < 10 → i + 1 ≡ at + length (decimal m) → i < length t → set t i (48 + m) ≡ over at (decimal m) t
decimal-end at m i t h e l =
    let f : i ≡ at = omega (arith, ap length (decimal_few m h)) in
    rw (f, decimal_few m h, over-one at (48 + m) t (omega arith))
