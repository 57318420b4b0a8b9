-- What the functions over the maps leave, and the five maps together.
use Rattle.std.specs.Prelude.{Option as Optional, Some, None}
use Rattle.std.specs.Prelude.{◌≡◌, List, [], ◌∷◌, ℕ, ◌+◌, ◌*◌, ◌≤◌, ◌<◌, get_or}
use Rattle.std.proofs.Math.Option.{Option, none, some}
use Rattle.std.proofs.Common.{arith}
use Rattle.definition.specs.Verdict.{Bound, value_of}
use Rattle.definition.specs.Analysis.{pairing}
use Rattle.base.specs.Outside.{Outside}
use Rattle.emit_maps.specs.Map.{Mapped, start, mapped_same, mapped_nothing, word-within}
use Rattle.emit_maps.specs.Trail.{Trailed, Counted, trailed_zero}
use Rattle.emit_maps.specs.declared.maps.Maps.{Maps}

-- the answer as an option
abbrev pub recalled : Optional ℕ → Option ℕ
recalled (Some n) = some n
recalled None = none

-- the answer is what map k has for p
pub record Looks (work : List ℕ) (m : Maps) (k p : ℕ) (r : Optional ℕ) : Type 0 where
  pub value : (bs : List Bound) → Mapped work (start m k) m.room bs → recalled r ≡ value_of p bs

-- all maps are empty
pub record Begins (work work' : List ℕ) (m : Maps) : Type 0 where
  pub outside : Outside m.at (m.at + 5 * m.room) work work'
  pub empty : (k : ℕ) → k < 5 → Mapped work' (start m k) m.room []

-- map k has n for p, and the trail r entries
pub record Enters (work work' : List ℕ) (m : Maps) (k p n trail r : ℕ) : Type 0 where
  pub outside : Outside m.at (m.at + 9 * m.room) work work'
  pub mapped : (bs : List Bound) → Mapped work (start m k) m.room bs → Mapped work' (start m k) m.room (pairing p n ∷ bs)
  pub others : (j : ℕ) → j < 5 → (j ≡ k → ⊥) → (bs : List Bound) → Mapped work (start m j) m.room bs → Mapped work' (start m j) m.room bs
  pub trailed : (before : List ℕ) (from : ℕ) → Trailed before work m from trail → get_or before (start m k + p) 0 ≡ 0 → Trailed before work' m from r
  pub counted : Counted work' m r

-- the four maps are as they were when the trail had `from` entries
pub record Undoes (work work' : List ℕ) (m : Maps) (from to : ℕ) : Type 0 where
  pub outside : Outside m.at (m.at + 4 * m.room) work work'
  pub words : (before : List ℕ) → Trailed before work m from to → (i : ℕ) → m.at ≤ i → i < m.at + 4 * m.room → get_or work' i 0 ≡ get_or before i 0

-- the hypotheses have n for p
pub record Supposes (work work' : List ℕ) (m : Maps) (p n : ℕ) : Type 0 where
  pub outside : Outside (start m 4) (start m 5) work work'
  pub mapped : (bs : List Bound) → Mapped work (start m 4) m.room bs → Mapped work' (start m 4) m.room (pairing p n ∷ bs)

-- p has no value, or is one of the first n keys
pub data Covered (keys : List ℕ) (n : ℕ) (bs : List Bound) (p : ℕ) : Type 0 where
  without : value_of p bs ≡ none → Covered keys n bs p
  listed : (t : ℕ) → t < n → get_or keys t 0 ≡ p → Covered keys n bs p

-- the first n keys are all that the pairs have
pub record Covers (keys : List ℕ) (n : ℕ) (bs : List Bound) : Type 0 where
  pub covered : (p : ℕ) → Covered keys n bs p

-- the hypotheses have nothing for these keys
pub record Drops (work work' : List ℕ) (m : Maps) (keys : List ℕ) (n : ℕ) : Type 0 where
  pub outside : Outside (start m 4) (start m 5) work work'
  pub empty : (bs : List Bound) → Mapped work (start m 4) m.room bs → Covers keys n bs → Mapped work' (start m 4) m.room []

-- ---- the five maps together
pub record Holds (work : List ℕ) (m : Maps) (ps ds fs ns hs : List Bound) : Type 0 where
  pub proved : Mapped work (start m 0) m.room ps
  pub derived : Mapped work (start m 1) m.room ds
  pub defs : Mapped work (start m 2) m.room fs
  pub names : Mapped work (start m 3) m.room ns
  pub hyps : Mapped work (start m 4) m.room hs

-- a map whose words are as they were
pub map_on : (work work' : List ℕ) (m : Maps) (n k : ℕ) → k < n → ((i : ℕ) → m.at ≤ i → i < m.at + n * m.room → get_or work' i 0 ≡ get_or work i 0) → (bs : List Bound)
    → Mapped work (start m k) m.room bs → Mapped work' (start m k) m.room bs
map_on work work' m n k l s bs M = mapped_same work work' (start m k) m.room bs M (λ p h. s (start m k + p) (omega arith) (word-within m n k p l h))

-- a pattern without a value now had none before, as an entry asks
pub trailed_new : (before work : List ℕ) (m : Maps) (from to : ℕ) → Trailed before work m from to → (k p : ℕ) → k < 4 → p < m.room → (bs : List Bound) → Mapped work (start m k) m.room bs
    → value_of p bs ≡ none → get_or before (start m k + p) 0 ≡ 0
trailed_new before work m from to T k p l h bs M e =
    trailed_zero before work m from to T (start m k + p) (omega arith) (word-within m 4 k p l h) (mapped_nothing work (start m k) m.room bs M p h e)

-- no map has a pair
pub holds_begun : (work work' : List ℕ) (m : Maps) → Begins work work' m → Holds work' m [] [] [] [] []
holds_begun work work' m B = record {
  proved = B.empty 0 (omega arith);
  derived = B.empty 1 (omega arith);
  defs = B.empty 2 (omega arith);
  names = B.empty 3 (omega arith);
  hyps = B.empty 4 (omega arith);
}

-- words elsewhere were written
pub holds_on : (work work' : List ℕ) (m : Maps) → ((i : ℕ) → m.at ≤ i → i < m.at + 5 * m.room → get_or work' i 0 ≡ get_or work i 0) → (ps ds fs ns hs : List Bound)
    → Holds work m ps ds fs ns hs → Holds work' m ps ds fs ns hs
holds_on work work' m s ps ds fs ns hs H = record {
  proved = map_on work work' m 5 0 (omega arith) s ps H.proved;
  derived = map_on work work' m 5 1 (omega arith) s ds H.derived;
  defs = map_on work work' m 5 2 (omega arith) s fs H.defs;
  names = map_on work work' m 5 3 (omega arith) s ns H.names;
  hyps = map_on work work' m 5 4 (omega arith) s hs H.hyps;
}

module _ (work work' : List ℕ) (m : Maps) (ps ds fs ns hs : List Bound) (H : Holds work m ps ds fs ns hs) where
  module _ (p n trail r : ℕ) where
    -- a judgment's line
    pub holds_proved : Enters work work' m 0 p n trail r → Holds work' m (pairing p n ∷ ps) ds fs ns hs
    holds_proved E = record {
      proved = E.mapped ps H.proved;
      derived = E.others 1 (omega arith) (omega arith) ds H.derived;
      defs = E.others 2 (omega arith) (omega arith) fs H.defs;
      names = E.others 3 (omega arith) (omega arith) ns H.names;
      hyps = E.others 4 (omega arith) (omega arith) hs H.hyps;
    }

    -- the line of a derived one
    pub holds_derived : Enters work work' m 1 p n trail r → Holds work' m ps (pairing p n ∷ ds) fs ns hs
    holds_derived E = record {
      proved = E.others 0 (omega arith) (omega arith) ps H.proved;
      derived = E.mapped ds H.derived;
      defs = E.others 2 (omega arith) (omega arith) fs H.defs;
      names = E.others 3 (omega arith) (omega arith) ns H.names;
      hyps = E.others 4 (omega arith) (omega arith) hs H.hyps;
    }

    -- a pattern's definition
    pub holds_def : Enters work work' m 2 p n trail r → Holds work' m ps ds (pairing p n ∷ fs) ns hs
    holds_def E = record {
      proved = E.others 0 (omega arith) (omega arith) ps H.proved;
      derived = E.others 1 (omega arith) (omega arith) ds H.derived;
      defs = E.mapped fs H.defs;
      names = E.others 3 (omega arith) (omega arith) ns H.names;
      hyps = E.others 4 (omega arith) (omega arith) hs H.hyps;
    }

    -- a case variable
    pub holds_name : Enters work work' m 3 p n trail r → Holds work' m ps ds fs (pairing p n ∷ ns) hs
    holds_name E = record {
      proved = E.others 0 (omega arith) (omega arith) ps H.proved;
      derived = E.others 1 (omega arith) (omega arith) ds H.derived;
      defs = E.others 2 (omega arith) (omega arith) fs H.defs;
      names = E.mapped ns H.names;
      hyps = E.others 4 (omega arith) (omega arith) hs H.hyps;
    }

  -- the hypotheses alone were written
  holds_supposing : Outside (start m 4) (start m 5) work work' → (hs' : List Bound) → Mapped work' (start m 4) m.room hs' → Holds work' m ps ds fs ns hs'
  holds_supposing O hs' M =
      let s : (i : ℕ) → m.at ≤ i → i < m.at + 4 * m.room → get_or work' i 0 ≡ get_or work i 0 = λ i l h. O.ahead i h in
      record {
        proved = map_on work work' m 4 0 (omega arith) s ps H.proved;
        derived = map_on work work' m 4 1 (omega arith) s ds H.derived;
        defs = map_on work work' m 4 2 (omega arith) s fs H.defs;
        names = map_on work work' m 4 3 (omega arith) s ns H.names;
        hyps = M;
      }

  -- one more
  pub holds_hyp : (p n : ℕ) → Supposes work work' m p n → Holds work' m ps ds fs ns (pairing p n ∷ hs)
  holds_hyp p n S = holds_supposing S.outside (pairing p n ∷ hs) (S.mapped hs H.hyps)

  -- all of them dropped
  pub holds_dropped : (keys : List ℕ) (n : ℕ) → Drops work work' m keys n → Covers keys n hs → Holds work' m ps ds fs ns []
  holds_dropped keys n D C = holds_supposing D.outside [] (D.empty hs H.hyps C)

  -- the four maps of `before` are given back, and the hypotheses stay
  pub holds_undone : (from to : ℕ) → Undoes work work' m from to → (before : List ℕ) → Trailed before work m from to → (ps₀ ds₀ fs₀ ns₀ hs₀ : List Bound)
      → Holds before m ps₀ ds₀ fs₀ ns₀ hs₀ → Holds work' m ps₀ ds₀ fs₀ ns₀ hs
  holds_undone from to U before T ps₀ ds₀ fs₀ ns₀ hs₀ B =
      let s = U.words before T in
      record {
        proved = map_on before work' m 4 0 (omega arith) s ps₀ B.proved;
        derived = map_on before work' m 4 1 (omega arith) s ds₀ B.derived;
        defs = map_on before work' m 4 2 (omega arith) s fs₀ B.defs;
        names = map_on before work' m 4 3 (omega arith) s ns₀ B.names;
        hyps = mapped_same work work' (start m 4) m.room hs H.hyps (λ p l. U.outside.behind (start m 4 + p) (omega arith));
      }
