-- A map in work: a word for each pattern, 0 or a number and one. The five of them stand one behind the other, `room` words each.
use Rattle.std.specs.Prelude.{◌≡◌, refl, List, [], ◌∷◌, ℕ, zero, suc, ◌+◌, ◌*◌, ◌≤◌, ◌<◌, length, get_or}
use Rattle.std.proofs.Common.{sym, ap, ◌∙◌, mul-le-mul_right, add-one, arith}
use Rattle.std.proofs.Math.Option.{Option, none, some}
use Rattle.std.proofs.Math.Decide.{dec_lt, ℕ_discrete}
use Rattle.definition.specs.Test.{never}
use Rattle.definition.specs.Verdict.{Bound, value_of}
use Rattle.definition.specs.Analysis.{pairing}
use Rattle.theory.specs.Copies.Copying.{value_of_new, value_of_old}
use Rattle.emit_maps.specs.declared.maps.Maps.{Maps}

-- so many maps, so many of them that a restore gives back, and so many words a pattern with the trail's
abbrev pub many_maps : ℕ
many_maps = 5

abbrev pub restorable : ℕ
restorable = 4

abbrev pub words_each : ℕ
words_each = 9

-- an entry of the trail is a word, which can name so many places
abbrev pub places_named : ℕ
places_named = 4294967296

-- what a word says
unfoldable pub told : ℕ → Option ℕ
told zero = none
told (suc n) = some n

-- the words from `at` on say what the pairs do, the newest of a pattern
pub record Mapped (work : List ℕ) (at room : ℕ) (bs : List Bound) : Type 0 where
  pub values : (p : ℕ) → p < room → value_of p bs ≡ told (get_or work (at + p) 0)

-- a number and one
pub told_more : (w n : ℕ) → w ≡ n + 1 → told w ≡ some n
unfolding told
told_more w n e = ap told (e ∙ add-one n)

-- nothing is said by 0 alone
pub told_none : (w : ℕ) → told w ≡ none → w ≡ 0
unfolding told
told_none zero e = refl
told_none (suc n) e = never (cc)

-- no pairs, where all words are 0
pub mapped_none : (work : List ℕ) (at room : ℕ) → ((p : ℕ) → p < room → get_or work (at + p) 0 ≡ 0) → Mapped work at room []
unfolding told value_of
mapped_none work at room z = record { values = λ p l. sym (ap told (z p l)) }

module _ (work work' : List ℕ) (at room : ℕ) (bs : List Bound) (M : Mapped work at room bs) where
  -- the same words, the same pairs
  pub mapped_same : ((p : ℕ) → p < room → get_or work' (at + p) 0 ≡ get_or work (at + p) 0) → Mapped work' at room bs
  mapped_same s = record { values = λ p l. M.values p l ∙ ap told (sym (s p l)) }

  -- a pattern's word was written
  pub mapped_more : (p n : ℕ) → get_or work' (at + p) 0 ≡ n + 1 → ((q : ℕ) → q < room → (q ≡ p → ⊥) → get_or work' (at + q) 0 ≡ get_or work (at + q) 0) → Mapped work' at room (pairing p n ∷ bs)
  mapped_more p n e s = record { values = λ q l. at-word q l (ℕ_discrete q p) }
    where
      at-word : (q : ℕ) → q < room → Dec (q ≡ p) → value_of q (pairing p n ∷ bs) ≡ told (get_or work' (at + q) 0)
      at-word q l (yes i) = ap (λ (k : ℕ). value_of k (pairing p n ∷ bs)) i ∙ value_of_new p n bs ∙ sym (ap (λ (k : ℕ). told (get_or work' (at + k) 0)) i ∙ told_more (get_or work' (at + p) 0) n e)
      at-word q l (no d) = value_of_old p n bs q d ∙ M.values q l ∙ ap told (sym (s q l d))

-- a pattern without a value has the word 0
pub mapped_nothing : (work : List ℕ) (at room : ℕ) (bs : List Bound) → Mapped work at room bs → (p : ℕ) → p < room → value_of p bs ≡ none → get_or work (at + p) 0 ≡ 0
mapped_nothing work at room bs M p l e = told_none (get_or work (at + p) 0) (sym (M.values p l) ∙ e)

-- ---- where the maps stand
-- where map k starts
abbrev pub start : Maps → ℕ → ℕ
start m k = m.at + k * m.room

-- the maps and the trail stand in work, and each place is a word
pub record Laid (work : List ℕ) (m : Maps) : Type 0 where
  pub within : m.at + 9 * m.room ≤ length work
  pub small : m.at + words_each * m.room ≤ places_named

-- they stay there
pub laid_on : (work work' : List ℕ) (m : Maps) → Laid work m → length work' ≡ length work → Laid work' m
laid_on work work' m L e = record { within = omega (arith, L.within); small = L.small }

-- a word of one of the first n maps
pub word-within : (m : Maps) (n k p : ℕ) → k < n → p < m.room → start m k + p < m.at + n * m.room
word-within m n k p l h =
    let s : suc k ≤ n = l in
    let g : suc k * m.room ≤ n * m.room = mul-le-mul_right m.room s in
    omega arith

-- words of two maps are two words
pub word_apart : (m : Maps) (j k p q : ℕ) → (j ≡ k → ⊥) → p < m.room → q < m.room → start m j + p ≡ start m k + q → ⊥
word_apart m j k p q d l h e = elim (dec_lt j k) [
  | yes f ↦ let g : suc j * m.room ≤ k * m.room = mul-le-mul_right m.room f in omega arith
  | no f ↦ let f' : suc k ≤ j = omega arith in let g : suc k * m.room ≤ j * m.room = mul-le-mul_right m.room f' in omega arith
]
