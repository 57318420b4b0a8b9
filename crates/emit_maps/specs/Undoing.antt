-- The trail's entries taken back, the last one first.
use Rattle.std.specs.Prelude.{◌≡◌, refl, List, ℕ, suc, ◌+◌, ◌*◌, ◌≤◌, ◌<◌, get_or, set}
use Rattle.std.proofs.Common.{sym, ap, subst, ◌∙◌, arith, get_or-set_same, get_or-set_other}
use Rattle.std.proofs.Math.Decide.{ℕ_discrete}
use Rattle.base.specs.Outside.{Outside, outside_none, outside_then, outside_set}
use Rattle.emit_maps.specs.Map.{Laid, laid_on}
use Rattle.emit_maps.specs.Trail.{entry_at, Entries, same, named, Trailed, Counted, counted_on, trailed_on}
use Rattle.emit_maps.specs.Holds.{Undoes}
use Rattle.emit_maps.specs.declared.maps.Maps.{Maps}

-- a word is as it was, or an entry from i on names it
data Left (work work' : List ℕ) (m : Maps) (i to j : ℕ) : Type 0 where
  stays : get_or work' j 0 ≡ get_or work j 0 → Left work work' m i to j
  gone : (t : ℕ) → i ≤ t → t < to → entry_at work m t ≡ j → Left work work' m i to j

-- the entries from i on are taken back
pub record Undoing (work : List ℕ) (m : Maps) (from to i : ℕ) (work' : List ℕ) : Type 0 where
  pub low : from ≤ i
  pub high : i ≤ to
  pub outside : Outside m.at (m.at + 4 * m.room) work work'
  zeros : (t : ℕ) → i ≤ t → t < to → get_or work' (entry_at work m t) 0 ≡ 0
  words : (j : ℕ) → Left work work' m i to j

-- none of them yet
pub undoing_none : (work : List ℕ) (m : Maps) (from to : ℕ) → from ≤ to → Undoing work m from to to work
undoing_none work m from to l = record {
  low = l;
  high = omega arith;
  outside = outside_none m.at (m.at + 4 * m.room) work;
  zeros = λ t a b. absurd (omega arith);
  words = λ j. stays refl;
}

module _ (work : List ℕ) (m : Maps) (L : Laid work m) (from to : ℕ) (E : Entries work m from to) (j : ℕ) (work' : List ℕ) (U : Undoing work m from to j work') where
  -- the entries stand there still
  pub undoing_entry : (t : ℕ) → entry_at work' m t ≡ entry_at work m t
  undoing_entry t = U.outside.behind (m.at + 5 * m.room + t) (omega arith)

  -- one more
  module _ (i : ℕ) (e : j ≡ suc i) (l : from < j) where
    abbrev at : ℕ
    at = entry_at work m i

    inside : (m.at ≤ at) × (at < m.at + 4 * m.room)
    inside = (E.low i (omega arith) (omega (arith, U.high)), E.high i (omega arith) (omega (arith, U.high)))

    -- its word can be written
    pub undoing_next : to ≤ 4 * m.room → Laid work' m × (i < 4 * m.room) × (entry_at work' m i < m.at + 4 * m.room)
    undoing_next f = (laid_on work work' m L U.outside.long, omega (arith, U.high), omega (arith, inside.1, undoing_entry i))

    left : (k : ℕ) → Dec (k ≡ at) → Left work (set work' at 0) m i to k
    left k (yes q) = gone i (omega arith) (omega (arith, U.high)) (sym q)
    left k (no d) = elim (U.words k) [
      | stays q ↦ stays (get_or-set_other work' at k 0 0 d ∙ q)
      | gone t a b q ↦ gone t (omega arith) b q
    ]

    zero : (t : ℕ) → i ≤ t → t < to → Dec (entry_at work m t ≡ at) → get_or (set work' at 0) (entry_at work m t) 0 ≡ 0
    zero t a b (yes q) = ap (λ (k : ℕ). get_or (set work' at 0) k 0) q ∙ get_or-set_same work' at 0 0 (omega (arith, inside, U.outside.long, L.within))
    zero t a b (no d) = elim (ℕ_discrete t i) [
      | yes q ↦ absurd (d (ap (λ (k : ℕ). entry_at work m k) q))
      | no f ↦ get_or-set_other work' at (entry_at work m t) 0 0 d ∙ U.zeros t (omega arith) b
    ]

    undoing_at : Undoing work m from to i (set work' at 0)
    undoing_at = record {
      low = omega arith;
      high = omega (arith, U.high);
      outside = outside_then m.at (m.at + 4 * m.room) work work' (set work' at 0) U.outside (outside_set m.at (m.at + 4 * m.room) work' at 0 inside.0 inside.1);
      zeros = λ t a b. zero t a b (ℕ_discrete (entry_at work m t) at);
      words = λ k. left k (ℕ_discrete k at);
    }

    -- and once it is
    pub undoing_more : (work'' : List ℕ) → work'' ≡ set work' (entry_at work' m i) 0 → Undoing work m from to i work''
    undoing_more work'' q = subst (λ (xs : List ℕ). Undoing work m from to i xs) (sym (q ∙ ap (λ (k : ℕ). set work' k 0) (undoing_entry i))) undoing_at

  -- all of them
  pub undoing_all : j ≤ from → Undoes work work' m from to
  undoing_all l = record {
    outside = U.outside;
    words = λ before T i a b. elim (T.words i a b) [
      | same e ↦ elim (U.words i) [
        | stays q ↦ q ∙ e
        | gone t c d q ↦
            let f : from ≤ t = omega (arith, U.low) in
            ap (λ (k : ℕ). get_or work' k 0) (sym q) ∙ U.zeros t c d ∙ sym (ap (λ (k : ℕ). get_or before k 0) (sym q) ∙ T.zeros t f d)
      ]
      | named t c d q ↦ ap (λ (k : ℕ). get_or work' k 0) (sym q) ∙ U.zeros t (omega arith) d ∙ sym (ap (λ (k : ℕ). get_or before k 0) (sym q) ∙ T.zeros t c d)
    ];
  }

-- ---- what goes with the trail's first entries is given back too
module _ (work work' : List ℕ) (m : Maps) (from to : ℕ) (U : Undoes work work' m from to) (before : List ℕ) (T : Trailed before work m from to) where
  -- the count
  pub undone_counted : Counted before m from → Counted work' m from
  undone_counted C = counted_on before work' m (U.words before T) from C

  -- what happened since an earlier moment
  pub undone_trailed : (first : List ℕ) (begun : ℕ) → Trailed first before m begun from → Trailed first work' m begun from
  undone_trailed first begun F = trailed_on before work' m (U.words before T) first begun from (λ t l. U.outside.behind (m.at + 5 * m.room + t) (omega arith) ∙ T.earlier t l) F
