-- A text in a lent buffer, written from its front on.
use Rattle.std.specs.Prelude.{Some, None}
use Rattle.std.specs.Prelude.{◌≡◌, refl, List, [], ◌∷◌, ◌++◌, ℕ, suc, ◌+◌, ◌/◌, ◌%◌, ◌≤◌, ◌<◌, length, get_or, take, set}
use Rattle.std.proofs.Common.{sym, ap, ◌∙◌, subst, append_assoc, append-nil, arith, length-append, take-suc}
use Rattle.std.proofs.Math.Decide.{dec_le, dec_lt}
use Rattle.definition.specs.Decimal.{decimal, decimal_few, decimal-more}
use Rattle.base.specs.Part.{put, put-none}
use Rattle.buffer.specs.Text.{Wrote, write, over, take-over, length_over, over-one, wrote_end, wrote_short}

-- the end of a text that is longer than its buffer
abbrev pub nowhere : ℕ
nowhere = 18446744073709551615

-- the text S stands in front of a buffer and ends at `at`; or it is longer than the buffer
pub record Written (text : List ℕ) (at : ℕ) (S : List ℕ) : Type 0 where
  pub whole : length S ≤ length text → (at ≡ length S) × (take (length S) text ≡ S)
  pub short : length text < length S → at ≡ nowhere

-- whatever text stood there, now the bytes s follow it; its end is no earlier
pub record Adds (text text' : List ℕ) (at : ℕ) (s : List ℕ) (r : ℕ) : Type 0 where
  pub written : (S : List ℕ) → Written text at S → Written text' r (S ++ s)
  pub on : at ≤ r

-- there is no text at first
pub written_none : (text : List ℕ) → Written text 0 []
written_none text = record { whole = λ h. (refl, refl); short = λ h. absurd (omega arith) }

-- nothing is added
pub adds_none : (text : List ℕ) (at : ℕ) → Adds text text at [] at
adds_none text at = record { written = λ S W. subst (Written text at) (sym (append-nil S)) W; on = omega arith }

-- one write after the other
pub adds_then : (t u v : List ℕ) (a b c : ℕ) (x y : List ℕ) → Adds t u a x b → Adds u v b y c → Adds t v a (x ++ y) c
adds_then t u v a b c x y A B = record { written = λ S W. subst (Written v c) (append_assoc S x y) (B.written (S ++ x) (A.written S W)); on = omega (arith, A.on, B.on) }

-- one more of some bytes
pub take_next : (s : List ℕ) (i : ℕ) → i < length s → take i s ++ (get_or s i 0 ∷ []) ≡ take (i + 1) s
take_next s i h = let e : suc i ≡ i + 1 = omega arith in sym (take-suc s i 0 h) ∙ ap (λ (n : ℕ). take n s) e

-- the same bytes by another name
pub adds_as : (t u : List ℕ) (a b : ℕ) (x y : List ℕ) → x ≡ y → Adds t u a x b → Adds t u a y b
adds_as t u a b x y e A = subst (λ (z : List ℕ). Adds t u a z b) e A

-- bytes that have room are written
pub adds-fits : (t : List ℕ) (at : ℕ) (bs : List ℕ) → 0 < length bs → at + length bs ≤ length t → length t ≤ nowhere → Adds t (over at bs t) at bs (at + length bs)
adds-fits t at bs some room small = record {
  written = λ S W. elim (dec_le (length S) (length t)) [
    | yes h ↦
        let p = W.whole h in
        let l = length-append S bs in
        let k = length_over at bs t room in
        let e : length (S ++ bs) ≡ at + length bs = omega (arith, l, p.0) in
        record {
          whole = λ q. (sym e, ap (λ (n : ℕ). take n (over at bs t)) e ∙ take-over at bs t (omega arith) ∙ ap (λ (xs : List ℕ). xs ++ bs) (ap (λ (n : ℕ). take n t) p.0 ∙ p.1));
          short = λ q. absurd (omega (arith, e, k));
        }
    | no h ↦ absurd (omega (arith, h, W.short (omega (arith, h))))
  ];
  on = omega arith;
}

-- whole bytes that stand in place of as many others
pub adds_copied : (t : List ℕ) (at n : ℕ) (bs ys : List ℕ) → n ≡ length bs → ys ≡ bs → at + length bs ≤ length t → length t ≤ nowhere → Adds t (put at n ys t) at bs (at + length bs)
unfolding over
adds_copied t at n [] ys m q room small =
    let e : put at n ys t ≡ t = rw (m, q) (put-none at t) in
    let k : at + 0 ≡ at = omega arith in
    subst (λ (u : List ℕ). Adds t u at [] (at + 0)) (sym e) (subst (λ (r : ℕ). Adds t t at [] r) (sym k) (adds_none t at))
adds_copied t at n (b ∷ bs) ys m q room small = rw (m, q) (adds-fits t at (b ∷ bs) (omega arith) room small)

-- bytes that have none are not
pub adds_short : (t : List ℕ) (at : ℕ) (bs : List ℕ) → length t < at + length bs → at ≤ nowhere → Adds t t at bs nowhere
adds_short t at bs room small = record {
  written = λ S W.
      let l = length-append S bs in
      record {
        whole = λ q. absurd (omega (arith, l, (W.whole (omega (arith, l, q))).0));
        short = λ q. refl;
      };
  on = small;
}

-- a number's digits, or whatever else is written whole or not at all
pub adds-end : (t : List ℕ) (at : ℕ) (bs : List ℕ) (e : ℕ) (u : List ℕ) → 0 < length bs → length t ≤ nowhere → ◌≡◌ {A = Wrote} (record { answer = Some e; text = u }) (write t at bs) → Adds t u at bs e
adds-end t at bs e u some small w =
    let p = wrote_end t at bs e u w in
    subst (λ (v : List ℕ). Adds t v at bs e) (sym p.2) (subst (Adds t (over at bs t) at bs) (sym p.0) (adds-fits t at bs some (omega (arith, p.0, p.1)) small))

pub adds-none-left : (t : List ℕ) (at : ℕ) (bs u : List ℕ) → at ≤ nowhere → ◌≡◌ {A = Wrote} (record { answer = None; text = u }) (write t at bs) → Adds t u at bs nowhere
adds-none-left t at bs u small w = let p = wrote_short t at bs u w in subst (λ (v : List ℕ). Adds t v at bs nowhere) (sym p.1) (adds_short t at bs p.0 small)

-- one byte
pub adds_byte : (t : List ℕ) (at b : ℕ) → at < length t → length t ≤ nowhere → Adds t (set t at b) at (b ∷ []) (at + 1)
adds_byte t at b h small = subst (λ (u : List ℕ). Adds t u at (b ∷ []) (at + 1)) (over-one at b t h) (adds-fits t at (b ∷ []) (omega arith) (omega arith) small)

-- a buffer that is full, or too short already, has no room for what is left
pub adds-over : (t u : List ℕ) (a r : ℕ) (x y : List ℕ) → Adds t u a x r → length u ≤ r → 0 < length y → a ≤ nowhere → Adds t u a (x ++ y) nowhere
adds-over t u a r x y A full more small = record {
  written = λ S W.
      let l = length-append S (x ++ y) in
      let m = length-append x y in
      let n = length-append S x in
      record {
        whole = λ q. absurd (omega (arith, l, m, n, ((A.written S W).whole (omega (arith, l, m, n, q))).0));
        short = λ q. refl;
      };
  on = small;
}

-- where a text ends that has room
pub ends-whole : (t : List ℕ) (at : ℕ) (S : List ℕ) → length t < nowhere → Written t at S → at ≤ length t → (at ≡ length S) × (take at t ≡ S)
ends-whole t at S small W h = elim (dec_le (length S) (length t)) [
  | yes k ↦ let p = W.whole k in (p.0, ap (λ (n : ℕ). take n t) p.0 ∙ p.1)
  | no k ↦ absurd (omega (arith, k, W.short (omega (arith, k))))
]

-- and one that has none
pub ends_short : (t : List ℕ) (at : ℕ) (S : List ℕ) → Written t at S → length t < at → length t < length S
ends_short t at S W h = elim (dec_le (length S) (length t)) [
  | yes k ↦ absurd (omega (arith, (W.whole k).0))
  | no k ↦ omega (arith, k)
]

-- a number has a digit at least
pub decimal_some : (n : ℕ) → 0 < length (decimal n)
decimal_some n = elim (dec_lt n 10) [
  | yes h ↦ omega (arith, ap length (decimal_few n h))
  | no h ↦ omega (arith, ap length (decimal-more n (omega (arith, h))), length-append (decimal (n / 10)) ((48 + n % 10) ∷ []))
]
