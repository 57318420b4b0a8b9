-- The trail behind the maps: the places of the words that were 0 when they were written, one behind the other.
use Rattle.std.specs.Prelude.{◌≡◌, refl, List, ℕ, ◌+◌, ◌-◌, ◌*◌, ◌≤◌, ◌<◌, get_or, set}
use Rattle.std.proofs.Common.{sym, ap, ◌∙◌, arith}
use Rattle.emit_maps.specs.Filled.{filled, filled-most, filled_less, filled-same}
use Rattle.emit_maps.specs.declared.maps.Maps.{Maps}

-- entry t of the trail
abbrev pub entry_at : List ℕ → Maps → ℕ → ℕ
entry_at work m t = get_or work (m.at + 5 * m.room + t) 0

-- the entries from `from` up to `to` are places of words of the four maps
pub record Entries (work : List ℕ) (m : Maps) (from to : ℕ) : Type 0 where
  pub low : (t : ℕ) → from ≤ t → t < to → m.at ≤ entry_at work m t
  pub high : (t : ℕ) → from ≤ t → t < to → entry_at work m t < m.at + 4 * m.room

-- a word is as it was before, or one of these entries names it
pub data Since (before work : List ℕ) (m : Maps) (from to i : ℕ) : Type 0 where
  same : get_or work i 0 ≡ get_or before i 0 → Since before work m from to i
  named : (t : ℕ) → from ≤ t → t < to → entry_at work m t ≡ i → Since before work m from to i

-- what happened to the four maps since the trail had `from` entries: an entry names each word that was written, and it was 0 before
pub record Trailed (before work : List ℕ) (m : Maps) (from to : ℕ) : Type 0 where
  pub up : from ≤ to
  pub entries : Entries work m from to
  pub zeros : (t : ℕ) → from ≤ t → t < to → get_or before (entry_at work m t) 0 ≡ 0
  pub words : (i : ℕ) → m.at ≤ i → i < m.at + 4 * m.room → Since before work m from to i
  pub earlier : (t : ℕ) → t < from → entry_at work m t ≡ entry_at before m t

-- each of the `trail` entries goes with a word that is not 0
pub record Counted (work : List ℕ) (m : Maps) (trail : ℕ) : Type 0 where
  pub count : trail ≤ filled (λ i. get_or work (m.at + i) 0) (4 * m.room)

-- nothing was entered yet
pub trailed_none : (work : List ℕ) (m : Maps) (from : ℕ) → Trailed work work m from from
trailed_none work m from = record {
  up = omega arith;
  entries = record { low = λ t l h. absurd (omega arith); high = λ t l h. absurd (omega arith) };
  zeros = λ t l h. absurd (omega arith);
  words = λ i l h. same refl;
  earlier = λ t l. refl;
}

-- what is 0 was 0
pub trailed_zero : (before work : List ℕ) (m : Maps) (from to : ℕ) → Trailed before work m from to → (i : ℕ) → m.at ≤ i → i < m.at + 4 * m.room → get_or work i 0 ≡ 0 → get_or before i 0 ≡ 0
trailed_zero before work m from to T i l h z = elim (T.words i l h) [
  | same e ↦ sym e ∙ z
  | named t a b e ↦ ap (λ (j : ℕ). get_or before j 0) (sym e) ∙ T.zeros t a b
]

-- there are no more entries than the trail has words
pub counted-most : (work : List ℕ) (m : Maps) (trail : ℕ) → Counted work m trail → trail ≤ 4 * m.room
counted-most work m trail C = omega (arith, C.count, filled-most (λ i. get_or work (m.at + i) 0) (4 * m.room))

-- ---- other words were written
module _ (work work' : List ℕ) (m : Maps) (s : (i : ℕ) → m.at ≤ i → i < m.at + 4 * m.room → get_or work' i 0 ≡ get_or work i 0) where
  -- the count stays
  pub counted_on : (trail : ℕ) → Counted work m trail → Counted work' m trail
  counted_on trail C = record {
    count = omega (arith, C.count, filled-same (λ i. get_or work (m.at + i) 0) (λ i. get_or work' (m.at + i) 0) (4 * m.room) (λ i l. s (m.at + i) (omega arith) (omega arith)));
  }

  -- and what happened since then, if the entries stay
  pub trailed_on : (before : List ℕ) (from to : ℕ) → ((t : ℕ) → t < to → entry_at work' m t ≡ entry_at work m t) → Trailed before work m from to → Trailed before work' m from to
  trailed_on before from to k T = record {
    up = T.up;
    entries = record { low = λ t l h. omega (arith, k t h, T.entries.low t l h); high = λ t l h. omega (arith, k t h, T.entries.high t l h) };
    zeros = λ t l h. ap (λ (i : ℕ). get_or before i 0) (k t h) ∙ T.zeros t l h;
    words = λ i l h. elim (T.words i l h) [
      | same e ↦ same (s i l h ∙ e)
      | named t a b e ↦ named t a b (k t b ∙ e)
    ];
    earlier = λ t l. k t (omega (arith, T.up)) ∙ T.earlier t l;
  }

-- ---- a place is put on the trail if its word is 0
pub data Marks (work work' : List ℕ) (m : Maps) (at trail r : ℕ) : Type 0 where
  fresh : get_or work at 0 ≡ 0 → trail < 4 * m.room → work' ≡ set work (m.at + 5 * m.room + trail) at → r ≡ trail + 1 → Marks work work' m at trail r
  again : (get_or work at 0 ≡ 0 → ⊥) → work' ≡ work → r ≡ trail → Marks work work' m at trail r

-- there is room for it
pub marks-room : (work : List ℕ) (m : Maps) (at trail : ℕ) → Counted work m trail → m.at ≤ at → at < m.at + 4 * m.room → get_or work at 0 ≡ 0 → trail < 4 * m.room
marks-room work m at trail C l h z =
    let j : m.at + (at - m.at) ≡ at = omega arith in
    omega (arith, C.count, filled_less (λ i. get_or work (m.at + i) 0) (4 * m.room) (at - m.at) (omega arith) (ap (λ (k : ℕ). get_or work k 0) j ∙ z))
