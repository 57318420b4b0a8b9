-- Bytes added behind those that a text already has.
use Rattle.std.specs.Prelude.{Option, Some, None}
use Rattle.std.specs.Prelude.{◌≡◌, refl, List, [], ◌∷◌, ◌++◌, ℕ, suc, ◌+◌, ◌-◌, ◌<◌, ◌≤◌, length, take, set, get_or, replicate}
use Rattle.std.proofs.Common.{sym, ap, ◌∙◌, append_assoc, add-one, arith, length-append, length-set, length-take-le, take-suc, take-suc-set, drop_at}
use Rattle.std.proofs.lemmas.List.{length-replicate, replicate-append-replicate}
use Rattle.base.specs.Part.{put-none}
use Rattle.buffer.specs.Zero.{filled, zeroed}
use Rattle.buffer.specs.Text.{Wrote, write, over, over_last, take-over, length_over, write-fits, write_short, wrote_end, wrote_short}

-- from the text t, of which `at` bytes count, to the text u with bs behind them; or that there was no room
unfoldable pub Added : List ℕ → ℕ → List ℕ → List ℕ → Option ℕ → Type 0
Added t at bs u (Some e) = (e ≡ at + length bs) × (e ≤ length u) × (take e u ≡ take at t ++ bs)
Added t at bs u None = length t < at + length bs

-- one turn of writing bytes from the last one back
pub put-turn : (at j : ℕ) (bs t : List ℕ) → 0 < j → j ≤ length bs → at + length bs ≤ length t
    → over at (take (j - 1) bs) (set t (at + (j - 1)) (get_or bs (j - 1) 0)) ≡ over at (take j bs) t
put-turn at j bs t p h r =
    let l = length-take-le (j - 1) bs (omega arith) in
    let e : suc (j - 1) ≡ j = omega arith in
    let m = over_last at (take (j - 1) bs) (get_or bs (j - 1) 0) t (omega arith) in
    (rw l at m) ∙ ap (λ (xs : List ℕ). over at xs t) (sym (take-suc bs (j - 1) 0 (omega arith)) ∙ ap (λ (k : ℕ). take k bs) e)

-- no byte is left to be written
pub put-end : (at : ℕ) (bs t : List ℕ) → over at (take 0 bs) t ≡ t
unfolding over
put-end at bs t = put-none at t

-- what a write adds
pub added_wrote : (t : List ℕ) (at : ℕ) (bs u : List ℕ) (r : Option ℕ) → ◌≡◌ {A = Wrote} (record { answer = r; text = u }) (write t at bs) → Added t at bs u r
unfolding Added
added_wrote t at bs u (Some e) w =
    let h = wrote_end t at bs e u w in
    let l : length u ≡ length t = ap length h.2 ∙ length_over at bs t (omega arith) in
    (h.0, omega arith, rw (h.0, h.2) (take-over at bs t (omega arith)))
added_wrote t at bs u None w = (wrote_short t at bs u w).0

-- a byte stored at the end
pub added_byte : (t : List ℕ) (at b : ℕ) → at < length t → Added t at (b ∷ []) (set t at b) (Some (at + 1))
unfolding Added
added_byte t at b h = (omega arith, simp length-set (omega arith), rw (add-one, take-suc-set))

-- first some, then more
pub added_then : (t : List ℕ) (at : ℕ) (bs u : List ℕ) (a : ℕ) (cs v : List ℕ) (r : Option ℕ)
    → Added t at bs u (Some a) → length u ≡ length t → Added u a cs v r → Added t at (bs ++ cs) v r
unfolding Added
added_then t at bs u a cs v (Some e) p l q =
    let n = length-append bs cs in
    (omega arith, q.1, q.2 ∙ rw (p.2, append_assoc))
added_then t at bs u a cs v None p l q = let n = length-append bs cs in omega arith

-- no room for some, no room for more
pub added_short : (t : List ℕ) (at : ℕ) (bs cs u v : List ℕ) → Added t at bs u None → Added t at (bs ++ cs) v None
unfolding Added
added_short t at bs cs u v h = let n = length-append bs cs in omega arith

-- no room for a byte at the end
pub added_full : (t : List ℕ) (at b : ℕ) (u : List ℕ) → length t ≤ at → Added t at (b ∷ []) u None
unfolding Added
added_full t at b u h = omega arith

-- the bytes that count are added to none
pub added_first : (t u : List ℕ) (at : ℕ) → at ≤ length u → Added t 0 (take at u) u (Some at)
unfolding Added
added_first t u at h = (omega (arith, length-take-le at u h), h, refl)

-- what is added to the bytes that count, if both make the whole, adds the whole to none
pub added_whole : (t₀ t : List ℕ) (at : ℕ) (bs all u : List ℕ) (r : Option ℕ)
    → at ≤ length t → length t ≡ length t₀ → take at t ++ bs ≡ all → Added t at bs u r → Added t₀ 0 all u r
added_whole t₀ t at bs all u r h l e a = rw (← e) (added_then t₀ 0 (take at t) t at bs u r (added_first t₀ t at h) l a)

-- with the first of what is left added, the others are left
pub added_left : (t u : List ℕ) (at e : ℕ) (bs cs all : List ℕ) → take at t ++ (bs ++ cs) ≡ all → Added t at bs u (Some e)
    → (e ≤ length u) × (take e u ++ cs ≡ all)
unfolding Added
added_left t u at e bs cs all p q = (q.1, rw (q.2, append_assoc) p)

-- the end lies within the text
pub added_within : (t : List ℕ) (at : ℕ) (bs u : List ℕ) (e : ℕ) → Added t at bs u (Some e) → e ≤ length u
unfolding Added
added_within t at bs u e a = a.1

-- with zeros behind it, what was added to none is what is written over zeros
pub listed : (t u v bs : List ℕ) (e : ℕ) → Added t 0 bs u (Some e) → length u ≡ length t → v ≡ zeroed e u
    → ◌≡◌ {A = Wrote} (record { answer = Some e; text = v }) (write (replicate (length t) 0) 0 bs)
unfolding Added filled over
listed t u v bs e p l z =
    let n = length-replicate {A = ℕ} (length t) 0 in
    let k : length t ≡ e + (length u - e) = omega arith in
    let d = ap (λ (m : ℕ). replicate {A = ℕ} m 0) k ∙ sym (replicate-append-replicate {A = ℕ} e (length u - e) 0) in
    let m : length bs ≡ e = omega (arith, p.0) in
    let q : zeroed e u ≡ over 0 bs (replicate (length t) 0) = rw (p.2, m, d, drop_at (replicate {A = ℕ} e 0) (replicate (length u - e) 0) e (length-replicate {A = ℕ} e 0)) in
    write-fits (replicate (length t) 0) 0 bs e v p.0 (omega arith) (z ∙ q)

-- where there was no room, zeros alone are
pub unlisted : (t u v bs : List ℕ) → Added t 0 bs u None → length u ≡ length t → v ≡ replicate (length u) 0
    → ◌≡◌ {A = Wrote} (record { answer = None; text = v }) (write (replicate (length t) 0) 0 bs)
unfolding Added
unlisted t u v bs p l e =
    let n = length-replicate {A = ℕ} (length t) 0 in
    rw (e, l) (write_short (replicate (length t) 0) 0 bs (omega arith))
