-- A word of one of the four maps is written, its place put on the trail if it was 0.
use Rattle.std.specs.Prelude.{◌≡◌, List, ℕ, ◌+◌, ◌-◌, ◌*◌, ◌≤◌, ◌<◌, length, get_or, set}
use Rattle.std.proofs.Common.{sym, ap, subst, ◌∙◌, arith, length-set, get_or-set_same, get_or-set_other}
use Rattle.std.proofs.Math.Decide.{ℕ_discrete}
use Rattle.base.specs.Outside.{Outside, outside_none, outside_then, outside_set}
use Rattle.emit_maps.specs.Map.{Laid, start, mapped_same, mapped_more, word-within, word_apart}
use Rattle.emit_maps.specs.Filled.{filled-kept, filled_more}
use Rattle.emit_maps.specs.Trail.{entry_at, Since, same, named, Trailed, Counted, Marks, fresh, again}
use Rattle.emit_maps.specs.Holds.{Enters}
use Rattle.emit_maps.specs.declared.maps.Maps.{Maps}

-- how the trail got its entry, if it did
data Pushed (work work' : List ℕ) (m : Maps) (at trail r : ℕ) : Type 0 where
  pushed : get_or work at 0 ≡ 0 → r ≡ trail + 1 → entry_at work' m trail ≡ at → Pushed work work' m at trail r
  stayed : (get_or work at 0 ≡ 0 → ⊥) → r ≡ trail → Pushed work work' m at trail r

-- what was written
record Stored (work work' : List ℕ) (m : Maps) (at v trail r : ℕ) : Type 0 where
  outside : Outside m.at (m.at + 9 * m.room) work work'
  here : get_or work' at 0 ≡ v + 1
  words : (i : ℕ) → i < m.at + 5 * m.room → (i ≡ at → ⊥) → get_or work' i 0 ≡ get_or work i 0
  earlier : (t : ℕ) → t < trail → entry_at work' m t ≡ entry_at work m t
  push : Pushed work work' m at trail r

module _ (work : List ℕ) (m : Maps) (L : Laid work m) (at v trail : ℕ) (low : m.at ≤ at) (high : at < m.at + 4 * m.room) where
  stored : (marked : List ℕ) (r : ℕ) → Marks work marked m at trail r → Stored work (set marked at (v + 1)) m at v trail r
  stored marked r (fresh z f e q) =
      let a = m.at in
      let b = m.at + 9 * m.room in
      let end = m.at + 5 * m.room + trail in
      let long : length marked ≡ length work = ap length e ∙ length-set work end at in
      let other : (i : ℕ) → (i ≡ end → ⊥) → get_or marked i 0 ≡ get_or work i 0 = λ i d. ap (λ (xs : List ℕ). get_or xs i 0) e ∙ get_or-set_other work end i at 0 d in
      let top : get_or marked end 0 ≡ at = ap (λ (xs : List ℕ). get_or xs end 0) e ∙ get_or-set_same work end at 0 (omega (arith, L.within)) in
      record {
        outside = outside_then a b work marked (set marked at (v + 1)) (subst (λ (xs : List ℕ). Outside a b work xs) (sym e) (outside_set a b work end at (omega arith) (omega arith))) (outside_set a b marked at (v + 1) low (omega arith));
        here = get_or-set_same marked at (v + 1) 0 (omega (arith, L.within));
        words = λ i l d. get_or-set_other marked at i (v + 1) 0 d ∙ other i (omega arith);
        earlier = λ t l. get_or-set_other marked at (m.at + 5 * m.room + t) (v + 1) 0 (omega arith) ∙ other (m.at + 5 * m.room + t) (omega arith);
        push = pushed z q (get_or-set_other marked at end (v + 1) 0 (omega arith) ∙ top);
      }
  stored marked r (again z e q) =
      let a = m.at in
      let b = m.at + 9 * m.room in
      let long : length marked ≡ length work = ap length e in
      let other : (i : ℕ) → get_or marked i 0 ≡ get_or work i 0 = λ i. ap (λ (xs : List ℕ). get_or xs i 0) e in
      record {
        outside = outside_then a b work marked (set marked at (v + 1)) (subst (λ (xs : List ℕ). Outside a b work xs) (sym e) (outside_none a b work)) (outside_set a b marked at (v + 1) low (omega arith));
        here = get_or-set_same marked at (v + 1) 0 (omega (arith, L.within));
        words = λ i l d. get_or-set_other marked at i (v + 1) 0 d ∙ other i;
        earlier = λ t l. get_or-set_other marked at (m.at + 5 * m.room + t) (v + 1) 0 (omega arith) ∙ other (m.at + 5 * m.room + t);
        push = stayed z q;
      }

  module _ (work' : List ℕ) (r : ℕ) (S : Stored work work' m at v trail r) where
    -- another word of the four maps is as it was
    other : (i : ℕ) → i < 4 * m.room → (i ≡ at - m.at → ⊥) → get_or work' (m.at + i) 0 ≡ get_or work (m.at + i) 0
    other i l d = S.words (m.at + i) (omega arith) (λ (e : m.at + i ≡ at). d (omega arith))

    -- the count keeps up with the trail
    stored-counted : Counted work m trail → Counted work' m r
    stored-counted C =
        let f : ℕ → ℕ = λ i. get_or work (m.at + i) 0 in
        let g : ℕ → ℕ = λ i. get_or work' (m.at + i) 0 in
        let q : m.at + (at - m.at) ≡ at = omega arith in
        let e : g (at - m.at) ≡ v + 1 = ap (λ (k : ℕ). get_or work' k 0) q ∙ S.here in
        record {
          count = elim S.push [
            | pushed z u t ↦ omega (arith, C.count, u, filled_more f g (at - m.at) v e (4 * m.room) (omega arith) (ap (λ (k : ℕ). get_or work k 0) q ∙ z) other)
            | stayed z u ↦ omega (arith, C.count, u, filled-kept f g (at - m.at) v e (4 * m.room) other)
          ];
        }

    -- the words written since then are named
    module _ (before : List ℕ) (from : ℕ) (T : Trailed before work m from trail) (z : get_or before at 0 ≡ 0) where
      -- an entry from then on is an earlier one or this one
      entry_is : (t : ℕ) → from ≤ t → t < r → (Q : ℕ → Type 0) → Q at → (t < trail → Q (entry_at work m t)) → Q (entry_at work' m t)
      entry_is t l h Q now old = elim S.push [
        | pushed y u e ↦ elim (ℕ_discrete t trail) [
          | yes i ↦ subst Q (sym (ap (λ (k : ℕ). entry_at work' m k) i ∙ e)) now
          | no d ↦ let k : t < trail = omega (arith, u) in subst Q (sym (S.earlier t k)) (old k)
        ]
        | stayed y u ↦ let k : t < trail = omega (arith, u) in subst Q (sym (S.earlier t k)) (old k)
      ]

      trail_up : trail ≤ r
      trail_up = elim S.push [ pushed y u e ↦ omega (arith, u) | stayed y u ↦ omega (arith, u) ]

      -- this word is named now, or was already
      here_since : Since before work' m from r at
      here_since = elim S.push [
        | pushed y u e ↦ named trail T.up (omega (arith, u)) e
        | stayed y u ↦ elim (T.words at low high) [
          | same e ↦ absurd (y (e ∙ z))
          | named t a b e ↦ named t a (omega (arith, trail_up)) (S.earlier t b ∙ e)
        ]
      ]

      since : (i : ℕ) → m.at ≤ i → i < m.at + 4 * m.room → Dec (i ≡ at) → Since before work' m from r i
      since i l h (yes e) = subst (λ (k : ℕ). Since before work' m from r k) (sym e) here_since
      since i l h (no d) = elim (T.words i l h) [
        | same e ↦ same (S.words i (omega arith) d ∙ e)
        | named t a b e ↦ named t a (omega (arith, trail_up)) (S.earlier t b ∙ e)
      ]

      stored_trailed : Trailed before work' m from r
      stored_trailed = record {
        up = omega (arith, T.up, trail_up);
        entries = record {
          low = λ t l h. entry_is t l h (λ k. m.at ≤ k) low (λ b. T.entries.low t l b);
          high = λ t l h. entry_is t l h (λ k. k < m.at + 4 * m.room) high (λ b. T.entries.high t l b);
        };
        zeros = λ t l h. entry_is t l h (λ k. get_or before k 0 ≡ 0) z (λ b. T.zeros t l b);
        words = λ i l h. since i l h (ℕ_discrete i at);
        earlier = λ t l. S.earlier t (omega (arith, T.up)) ∙ T.earlier t l;
      }

-- so it is an entry
entered : (work : List ℕ) (m : Maps) → Laid work m → (k p n trail : ℕ) → k < 4 → p < m.room → Counted work m trail → (marked : List ℕ) (r : ℕ) → Marks work marked m (start m k + p) trail r
    → Enters work (set marked (start m k + p) (n + 1)) m k p n trail r
entered work m L k p n trail l h C marked r M =
    let at = start m k + p in
    let high : start m k + p < m.at + 4 * m.room = word-within m 4 k p l h in
    let low : m.at ≤ start m k + p = omega arith in
    let work' = set marked (start m k + p) (n + 1) in
    let S = stored work m L at n trail low high marked r M in
    record {
      outside = S.outside;
      mapped = λ bs B. mapped_more work work' (start m k) m.room bs B p n S.here (λ q f d. S.words (start m k + q) (word-within m 5 k q (omega arith) f) (λ (e : start m k + q ≡ start m k + p). d (omega arith)));
      others = λ j f d bs B. mapped_same work work' (start m j) m.room bs B (λ q g. S.words (start m j + q) (word-within m 5 j q f g) (word_apart m j k q p d g h));
      trailed = λ before from T z. stored_trailed work m L at n trail low high work' r S before from T z;
      counted = stored-counted work m L at n trail low high work' r S C;
    }

-- at its place
pub entered_at : (work : List ℕ) (m : Maps) → Laid work m → (k p n trail : ℕ) → k < 4 → p < m.room → Counted work m trail → (at : ℕ) → at ≡ start m k + p → (marked : List ℕ) (r : ℕ)
    → Marks work marked m at trail r → Enters work (set marked at (n + 1)) m k p n trail r
entered_at work m L k p n trail l h C at e marked r M =
    subst (λ (i : ℕ). Enters work (set marked i (n + 1)) m k p n trail r) (sym e) (entered work m L k p n trail l h C marked r (subst (λ (i : ℕ). Marks work marked m i trail r) e M))
