-- The hypotheses' map written alone: an entry, and its keys taken away.
use Rattle.std.specs.Prelude.{◌≡◌, refl, List, [], ◌∷◌, ℕ, ◌+◌, ◌*◌, ◌≤◌, ◌<◌, length, get_or, set}
use Rattle.std.proofs.Common.{sym, ap, ◌∙◌, arith, get_or-set_same, get_or-set_other}
use Rattle.std.proofs.Math.Decide.{ℕ_discrete}
use Rattle.definition.specs.Verdict.{Bound, value_of}
use Rattle.definition.specs.Analysis.{pairing}
use Rattle.theory.specs.Copies.Copying.{value_of_old}
use Rattle.base.specs.Outside.{Outside, outside_none, outside_then, outside_set}
use Rattle.emit_maps.specs.Map.{Laid, start, mapped_none, mapped_more, mapped_nothing}
use Rattle.emit_maps.specs.Trail.{Trailed, Counted, counted_on, trailed_on}
use Rattle.emit_maps.specs.Holds.{Supposes, Covered, without, listed, Covers, Drops}
use Rattle.emit_maps.specs.declared.maps.Maps.{Maps}

-- ---- an entry
pub supposed : (work : List ℕ) (m : Maps) → Laid work m → (p n : ℕ) → p < m.room → Supposes work (set work (start m 4 + p) (n + 1)) m p n
supposed work m L p n l = record {
  outside = outside_set (start m 4) (start m 5) work (start m 4 + p) (n + 1) (omega arith) (omega arith);
  mapped = λ bs B.
      mapped_more work (set work (start m 4 + p) (n + 1)) (start m 4) m.room bs B p n (get_or-set_same work (start m 4 + p) (n + 1) 0 (omega (arith, L.within)))
      (λ q h d. get_or-set_other work (start m 4 + p) (start m 4 + q) (n + 1) 0 (λ (e : start m 4 + q ≡ start m 4 + p). d (omega arith)));
}

-- ---- which keys there are
pub covers_none : (keys : List ℕ) (n : ℕ) → Covers keys n []
unfolding value_of
covers_none keys n = record { covered = λ p. without refl }

-- one key more goes with an entry
pub covers_more : (keys : List ℕ) (n : ℕ) (bs : List Bound) → Covers keys n bs → n < length keys → (p v : ℕ) → Covers (set keys n p) (n + 1) (pairing p v ∷ bs)
covers_more keys n bs C l p v = record { covered = λ q. key q (ℕ_discrete q p) }
  where
    key : (q : ℕ) → Dec (q ≡ p) → Covered (set keys n p) (n + 1) (pairing p v ∷ bs) q
    key q (yes e) = listed n (omega arith) (get_or-set_same keys n p 0 l ∙ sym e)
    key q (no d) = elim (C.covered q) [
      | without e ↦ without (value_of_old p v bs q d ∙ e)
      | listed t h e ↦ listed t (omega arith) (get_or-set_other keys n t p 0 (omega arith) ∙ e)
    ]

-- ---- the first i keys are taken away
-- a pattern's word is as it was, or 0
data Left (work work' : List ℕ) (m : Maps) (p : ℕ) : Type 0 where
  stays : get_or work' (start m 4 + p) 0 ≡ get_or work (start m 4 + p) 0 → Left work work' m p
  gone : get_or work' (start m 4 + p) 0 ≡ 0 → Left work work' m p

-- the words of the first i keys are 0, and nothing else has changed
pub record Dropping (work : List ℕ) (m : Maps) (keys : List ℕ) (n i : ℕ) (work' : List ℕ) : Type 0 where
  pub most : i ≤ n
  pub outside : Outside (start m 4) (start m 5) work work'
  zeros : (t : ℕ) → t < i → get_or work' (start m 4 + get_or keys t 0) 0 ≡ 0
  words : (p : ℕ) → Left work work' m p

-- none of them yet
pub dropping_none : (work : List ℕ) (m : Maps) (keys : List ℕ) (n : ℕ) → Dropping work m keys n 0 work
dropping_none work m keys n = record {
  most = omega arith;
  outside = outside_none (start m 4) (start m 5) work;
  zeros = λ t l. absurd (omega arith);
  words = λ p. stays refl;
}

module _ (work : List ℕ) (m : Maps) (L : Laid work m) (keys : List ℕ) (n i : ℕ) (work' : List ℕ) (D : Dropping work m keys n i work') where
  -- one more
  pub dropping_more : i < n → get_or keys i 0 < m.room → Dropping work m keys n (i + 1) (set work' (start m 4 + get_or keys i 0) 0)
  dropping_more l h = record {
    most = omega arith;
    outside = outside_then (start m 4) (start m 5) work work' (set work' at 0) D.outside (outside_set (start m 4) (start m 5) work' at 0 (omega arith) (omega arith));
    zeros = λ t a. zero (get_or keys t 0) (ℕ_discrete (start m 4 + get_or keys t 0) at) (λ d. elim (ℕ_discrete t i) [
      | yes e ↦ absurd (d (ap (λ (k : ℕ). start m 4 + get_or keys k 0) e))
      | no f ↦ D.zeros t (omega arith)
    ]);
    words = λ p. elim (ℕ_discrete (start m 4 + p) at) [
      | yes e ↦ gone (zero p (yes e) (λ d. absurd (d e)))
      | no d ↦ elim (D.words p) [
        | stays e ↦ stays (get_or-set_other work' at (start m 4 + p) 0 0 d ∙ e)
        | gone e ↦ gone (get_or-set_other work' at (start m 4 + p) 0 0 d ∙ e)
      ]
    ];
  }
    where
      at : ℕ
      at = start m 4 + get_or keys i 0

      zero : (p : ℕ) → Dec (start m 4 + p ≡ at) → ((start m 4 + p ≡ at → ⊥) → get_or work' (start m 4 + p) 0 ≡ 0) → get_or (set work' at 0) (start m 4 + p) 0 ≡ 0
      zero p (yes e) f = ap (λ (k : ℕ). get_or (set work' at 0) k 0) e ∙ get_or-set_same work' at 0 0 (omega (arith, D.outside.long, L.within))
      zero p (no d) f = get_or-set_other work' at (start m 4 + p) 0 0 d ∙ f d

  -- all of them
  pub dropping_all : n ≤ i → Drops work work' m keys n
  dropping_all l = record {
    outside = D.outside;
    empty = λ bs B C. mapped_none work' (start m 4) m.room (λ p h. elim (C.covered p) [
      | without e ↦ elim (D.words p) [
        | stays q ↦ q ∙ mapped_nothing work (start m 4) m.room bs B p h e
        | gone q ↦ q
      ]
      | listed t a e ↦ ap (λ (k : ℕ). get_or work' (start m 4 + k) 0) (sym e) ∙ D.zeros t (omega arith)
    ]);
  }

-- ---- the trail does not see it
module _ (work work' : List ℕ) (m : Maps) (O : Outside (start m 4) (start m 5) work work') where
  -- the count stays
  pub counted_hyps : (trail : ℕ) → Counted work m trail → Counted work' m trail
  counted_hyps trail C = counted_on work work' m (λ i l h. O.ahead i h) trail C

  -- and what happened since an earlier moment
  pub trailed_hyps : (before : List ℕ) (from to : ℕ) → Trailed before work m from to → Trailed before work' m from to
  trailed_hyps before from to T = trailed_on work work' m (λ i l h. O.ahead i h) before from to (λ t l. O.behind (m.at + 5 * m.room + t) (omega arith)) T
