-- What is read and written back gives the same bytes: numbers, words, records, and all records of a pack.
use Rattle.std.specs.Prelude.{◌≡◌, refl, true, List, [], ◌∷◌, ◌++◌, ℕ, zero, suc, ◌+◌, ◌*◌, ◌-◌, ◌/◌, ◌%◌, ◌<◌, ◌≤◌, length, get_or, take, drop}
use Rattle.std.proofs.Common.{sym, ap, ◌∙◌, subst, append_assoc, append-nil, arith, take-append-drop, drop_of_length-le, length-drop, length-take-le, drop-cons, drop-drop}
use Rattle.std.proofs.Math.Seq.{drop-nil}
use Rattle.definition.specs.Test.{is, see, never}
use Rattle.definition.specs.Little.{le}
use Rattle.definition.specs.Frame.{Checked, good, bad, over, fine, refuse, Kinds, Record, record_of, records}
use Rattle.definition.proofs.Laws.Frame.{fine_eq, Framed, framed}
use Rattle.definition.specs.Theory.{words}
use Rattle.definition.specs.Encode.{put, put_words, put_record_of}

-- each is a byte
abbrev pub Bytes : List ℕ → Type 0
Bytes [] = Unit {0}
Bytes (b ∷ bs) = (b < 256) × Bytes bs

-- what stands at any place is a byte
pub byte_at : (s : List ℕ) (i : ℕ) → Bytes s → get_or s i 0 < 256
byte_at [] i h = omega arith
byte_at (x ∷ xs) zero h = h.0
byte_at (x ∷ xs) (suc i) h = byte_at xs i h.1

-- the first of some bytes are bytes
pub bytes_take : (n : ℕ) (s : List ℕ) → Bytes s → Bytes (take n s)
bytes_take zero s h = tt
bytes_take (suc n) [] h = tt
bytes_take (suc n) (x ∷ xs) h = (h.0, bytes_take n xs h.1)

-- the others too
pub bytes_drop : (n : ℕ) (s : List ℕ) → Bytes s → Bytes (drop n s)
bytes_drop zero s h = h
bytes_drop (suc n) [] h = tt
bytes_drop (suc n) (x ∷ xs) h = bytes_drop n xs h.1

-- the second of two runs that are bytes
bytes-second : (s t : List ℕ) → Bytes (s ++ t) → Bytes t
bytes-second [] t h = h
bytes-second (x ∷ xs) t h = bytes-second xs t h.1

-- the same, of two runs that together are known
pub bytes-behind : (s t : List ℕ) {u : List ℕ} → s ++ t ≡ u → Bytes u → Bytes t
bytes-behind s t e h = bytes-second s t (subst Bytes (sym e) h)

-- the number of n bytes, written as n bytes, with what is behind them
pub put-le : (n : ℕ) (s : List ℕ) (i : ℕ) → Bytes s → i + n ≤ length s → put n (le n s i) ++ drop (i + n) s ≡ drop i s
unfolding put le
put-le zero s i h l = let e : i + 0 ≡ i = omega arith in rw e
put-le (suc n) s i h l =
    let b = byte_at s i h in
    let low : (get_or s i 0 + 256 * le n s (i + 1)) % 256 ≡ get_or s i 0 = omega arith in
    let high : (get_or s i 0 + 256 * le n s (i + 1)) / 256 ≡ le n s (i + 1) = omega arith in
    let e : i + suc n ≡ i + 1 + n = omega arith in
    let f : i + 1 ≡ suc i = omega arith in
    rw (low, high, e) (ap (λ (r : List ℕ). get_or s i 0 ∷ r) (put-le n s (i + 1) h (omega arith) ∙ rw f) ∙ sym (drop-cons s i 0 (omega arith)))

-- a number that is that of n bytes
pub put_is : (v n : ℕ) (s : List ℕ) (i : ℕ) → v ≡ le n s i → Bytes s → i + n ≤ length s → put n v ++ drop (i + n) s ≡ drop i s
put_is v n s i e h l = ap (λ (k : ℕ). put n k ++ drop (i + n) s) e ∙ put-le n s i h l

-- one run of bytes behind another, where both are known
pub onto : (p : List ℕ) {s t u : List ℕ} → s ≡ t → p ++ t ≡ u → p ++ s ≡ u
onto p e f = ap (λ (r : List ℕ). p ++ r) e ∙ f

-- n words, written as words, with what is behind them
pub put-words : (n : ℕ) (s : List ℕ) → Bytes s → 4 * n ≤ length s → put_words (words n s) ++ drop (4 * n) s ≡ s
unfolding put_words words
put-words zero s h l = refl
put-words (suc n) s h l =
    let e : 4 * suc n ≡ 4 + 4 * n = omega arith in
    let d : length (drop 4 s) ≡ length s - 4 = length-drop 4 s in
    let rest : drop (4 * suc n) s ≡ drop (4 * n) (drop 4 s) = ap (λ (k : ℕ). drop k s) e ∙ sym (drop-drop (4 * n) 4 s) in
    append_assoc (put 4 (le 4 s 0)) (put_words (words n (drop 4 s))) (drop (4 * suc n) s)
    ∙ onto (put 4 (le 4 s 0)) (onto (put_words (words n (drop 4 s))) rest (put-words n (drop 4 s) (bytes_drop 4 s h) (omega arith))) (put-le 4 s 0 h (omega arith))

-- there are n of n words
pub length-words : (n : ℕ) (s : List ℕ) → length (words n s) ≡ n
unfolding words
length-words zero s = refl
length-words (suc n) s = ap suc (length-words n (drop 4 s))

-- n words from the place k on, with what is behind them
pub put-words-at : (k n : ℕ) (s : List ℕ) → Bytes s → k + 4 * n ≤ length s → put_words (words n (drop k s)) ++ drop (k + 4 * n) s ≡ drop k s
put-words-at k n s h l =
    let d : length (drop k s) ≡ length s - k = length-drop k s in
    onto (put_words (words n (drop k s))) (sym (drop-drop (4 * n) k s)) (put-words n (drop k s) (bytes_drop k s h) (omega arith))

-- n words from the place k on, with nothing behind them
pub put-words-end : (k n : ℕ) (s : List ℕ) → Bytes s → length s ≡ k + 4 * n → put_words (words n (drop k s)) ≡ drop k s
put-words-end k n s h l =
    let e : drop (k + 4 * n) s ≡ [] = drop_of_length-le s {i = k + 4 * n} (omega arith) in
    sym (append-nil (put_words (words n (drop k s)))) ∙ onto (put_words (words n (drop k s))) (sym e) (put-words-at k n s h (omega arith))

-- a good record's body has the length that its head says
pub body-length : (K : Kinds) (last : ℕ) (s : List ℕ) (r : Record) → Framed K last s r → length r.body ≡ le 4 s 0
body-length K last s r f =
    let d : length (drop 6 s) ≡ length s - 6 = length-drop 6 s in
    ap length f.body ∙ length-take-le (le 4 s 0) (drop 6 s) (omega (arith, f.whole, f.header))

-- a good record, written as a record, with what is behind it
pub put_record : (K : Kinds) (last : ℕ) (s : List ℕ) (r : Record) → Bytes s → record_of K last s ≡ good r
    → put_record_of r.kind r.body ++ drop (6 + length r.body) s ≡ s
unfolding put_record_of
put_record K last s r h e =
    let f = framed K last s r e in
    let n : length r.body ≡ le 4 s 0 = body-length K last s r f in
    let rest : List ℕ = drop (6 + length r.body) s in
    let after : rest ≡ drop (le 4 s 0) (drop 6 s) = ap (λ (k : ℕ). drop (6 + k) s) n ∙ sym (drop-drop (le 4 s 0) 6 s) in
    let cut = onto (take (le 4 s 0) (drop 6 s)) after (take-append-drop (le 4 s 0) (drop 6 s)) in
    let body : r.body ++ rest ≡ drop 6 s = ap (λ (b : List ℕ). b ++ rest) f.body ∙ cut in
    let kind = append_assoc (put 2 r.kind) r.body rest ∙ onto (put 2 r.kind) body (put_is r.kind 2 s 4 f.kind h f.header) in
    append_assoc (put 4 (length r.body)) (put 2 r.kind ++ r.body) rest
    ∙ onto (put 4 (length r.body)) kind (put_is (length r.body) 4 s 0 n h (omega (arith, f.header)))

-- if each record is put behind what was written before, then all bytes are in the end
pub records_out : {A : Type 0} (K : Kinds) (step : A → Record → Checked A) (out : A → List ℕ) (I : A → ℕ → Type 0)
    → ((a : A) (last : ℕ) (r : Record) (b : A) → I a last → Bytes r.body → K.known r.kind ≡ true → K.follows last r.kind ≡ true
    → step a r ≡ good b → I b r.kind × (out b ≡ out a ++ put_record_of r.kind r.body))
    → (s : List ℕ) (skip at last : ℕ) (a b : A) → I a last → Bytes s → records K step s skip at last a ≡ fine b → out b ≡ out a ++ drop skip s
unfolding records
records_out K step out I one [] skip at last a b i h e = ap out (sym (fine_eq e)) ∙ sym (rw drop-nil (append-nil (out a)))
records_out K step out I one (x ∷ xs) (suc skip) at last a b i h e = records_out K step out I one xs skip (suc at) last a b i h.1 e
records_out K step out I one (x ∷ xs) zero at last a b i h e = elim (see (record_of K last (x ∷ xs))) [
  | is bad p ↦ never (let q : refuse _ ≡ fine b = rw (p, records) at e in cc)
  | is over p ↦ never (let q : refuse _ ≡ fine b = rw (p, records) at e in cc)
  | is (good r) p ↦ elim (see (step a r)) [
    | is bad q ↦ never (let z : refuse _ ≡ fine b = rw (p, q, records) at e in cc)
    | is over q ↦ never (let z : refuse _ ≡ fine b = rw (p, q, records) at e in cc)
    | is (good c) q ↦
        let f = framed K last (x ∷ xs) r p in
        let n : ℕ = 5 + length r.body in
        let m : suc n ≡ 6 + length r.body = omega arith in
        let bytes : Bytes r.body = rw f.body (bytes_take (le 4 (x ∷ xs) 0) (drop 6 (x ∷ xs)) (bytes_drop 6 (x ∷ xs) h)) in
        let t = one a last r c i bytes f.known f.follows q in
        records_out K step out I one xs n (suc at) r.kind c b t.0 h.1 (rw (p, q, records) at e)
        ∙ ap (λ (o : List ℕ). o ++ drop n xs) t.1
        ∙ append_assoc (out a) (put_record_of r.kind r.body) (drop n xs)
        ∙ ap (λ (o : List ℕ). out a ++ o) (onto (put_record_of r.kind r.body) (ap (λ (k : ℕ). drop k (x ∷ xs)) m) (put_record K last (x ∷ xs) r h p))
  ]
]
