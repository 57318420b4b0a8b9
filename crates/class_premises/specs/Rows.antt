-- The rows of the classes that are made, in the class buffer, and where each starts, in work.
use Rattle.std.specs.Prelude.{◌≡◌, refl, drop}
use Rattle.std.proofs.Common.{sym, ◌∙◌, length-append, get_or-drop, get_or-append-add}
use Rattle.std.proofs.Math.Path.{ap}
use mathlib.Core.List.{List, [], ◌∷◌, ◌++◌, map}
use Prim.Native.Nat.{ℕ, zero, suc, ◌+◌, ◌-◌, ◌≤◌, ◌<◌}
use native.Mathlib.Omega.{arith}
use Rattle.std.proofs.Math.Decide.{dec_lt}
use Rattle.std.proofs.Math.ListN.{length, get_or, length-map, get_or-append}
use Rattle.std.proofs.lemmas.List.{take-append-le}
use Rattle.std.proofs.Math.Seq.{take-length}
use Rattle.definition.specs.Keys.{Keyed, no_keyed}
use Rattle.definition.specs.Classes.{Class, no_class, mark, row_words}
use Rattle.base.specs.Part.{part, part_at, part_is, part_same}
use Rattle.graph.specs.Cells.{mark_in}
use Rattle.class_premises.specs.Takes.{conclusion_in, count_in, flex_in}
use Rattle.class_premises.specs.RowWords.{row_of, width_of, width, before, length-row, length-rows, width-more, rows_more, row_there, marks-back}

-- the rows of classes cs stand from `start` up to `fill`; word i from `at` on says where row i starts
pub record RowsIn (work class : List ℕ) (at start fill : ℕ) (cs : List Class) (ks : List Keyed) : Type 0 where
  pub filled : fill ≡ start + width cs
  pub fits : fill ≤ length class
  pub few : length cs ≤ length ks
  pub words : part start (width cs) class ≡ row_words cs ks
  pub places : (i : ℕ) → i < length cs → get_or work (at + i) 0 ≡ start + before cs i

-- there is none
pub rows_none : (work class : List ℕ) (at start : ℕ) (ks : List Keyed) → start ≤ length class → RowsIn work class at start start [] ks
unfolding width row_words part
rows_none work class at start ks h = record { filled = omega arith; fits = h; few = omega arith; words = refl; places = λ i l. absurd (omega arith) }

-- rows behind an earlier one take up no less room
width-take : (cs : List Class) (i : ℕ) → i < length cs → before cs i + width_of (get_or cs i no_class) ≤ width cs
unfolding width
width-take [] i h = absurd (omega arith)
width-take (c ∷ cs) zero h = omega arith
width-take (c ∷ cs) (suc i) h = omega (arith, width-take cs i (omega arith))

module _ (work class : List ℕ) (at start fill : ℕ) (cs : List Class) (ks : List Keyed) (R : RowsIn work class at start fill cs ks) (i : ℕ) (h : i < length cs) where
  -- class i
  abbrev c : Class
  c = get_or cs i no_class

  abbrev row : ℕ
  row = get_or work (at + i) 0

  -- it ends ahead of the fill
  pub row_within : get_or work (at + i) 0 + width_of (get_or cs i no_class) ≤ fill
  row_within = omega (arith, R.places i h, R.filled, width-take cs i h)

  -- a word of it
  word : (j : ℕ) → j < width_of c → get_or class (row + j) 0 ≡ get_or (row_of c (get_or ks i no_keyed).count) j 0
  word j l =
      let p = R.places i h in
      let w = width-take cs i h in
      let e : row + j ≡ start + (before cs i + j) = omega arith in
      let n = length-row c (get_or ks i no_keyed).count in
      ap (λ (m : ℕ). get_or class m 0) e
      ∙ sym (part_at start (width cs) class (before cs i + j) (omega arith))
      ∙ ap (λ (ws : List ℕ). get_or ws (before cs i + j) 0) R.words
      ∙ sym (get_or-drop (before cs i) (row_words cs ks) j 0)
      ∙ ap (λ (ws : List ℕ). get_or ws j 0) (row_there cs ks i h R.few)
      ∙ get_or-append (row_of c (get_or ks i no_keyed).count) (drop (before cs i + width_of c) (row_words cs ks)) 0 j (omega arith)

  pub row-conclusion : conclusion_in class row ≡ c.conclusion
  unfolding row_of
  row-conclusion = let e : row ≡ row + 0 = omega arith in ap (λ (m : ℕ). get_or class m 0) e ∙ word 0 (omega arith)

  pub row_count : count_in class row ≡ length c.flex
  unfolding row_of
  row_count = word 2 (omega arith)

  pub row_flex : flex_in class row ≡ map mark c.flex
  unfolding row_of
  row_flex =
      let n = length-map c.flex mark in
      ap (λ (m : ℕ). part (row + 3) m class) row_count
      ∙ part_is (row + 3) (length c.flex) class (map mark c.flex) (omega (arith, row_within, R.fits)) n
      (λ j l. let e : row + 3 + j ≡ row + (3 + j) = omega arith in ap (λ (m : ℕ). get_or class m 0) e ∙ word (3 + j) (omega arith) ∙ three j)
    where
      three : (j : ℕ) → get_or (c.conclusion ∷ (get_or ks i no_keyed).count ∷ length c.flex ∷ map mark c.flex) (3 + j) 0 ≡ get_or (map mark c.flex) j 0
      three j = let e : 3 + j ≡ suc (suc (suc j)) = omega arith in ap (λ (m : ℕ). get_or (c.conclusion ∷ (get_or ks i no_keyed).count ∷ length c.flex ∷ map mark c.flex) m 0) e

  -- its marks
  pub row-marks : map mark_in (flex_in class row) ≡ c.flex
  row-marks = ap (map mark_in) row_flex ∙ marks-back c.flex

-- ---- what stays when other words are written
pub rows_on : (work work' class class' : List ℕ) (at start fill : ℕ) (cs : List Class) (ks : List Keyed) → RowsIn work class at start fill cs ks
    → ((i : ℕ) → i < length cs → get_or work' (at + i) 0 ≡ get_or work (at + i) 0) → length class' ≡ length class → ((i : ℕ) → start ≤ i → i < fill → get_or class' i 0 ≡ get_or class i 0)
    → RowsIn work' class' at start fill cs ks
rows_on work work' class class' at start fill cs ks R p l q = record {
  filled = R.filled;
  fits = omega (arith, R.fits);
  few = R.few;
  words = part_same start (width cs) class' class (omega (arith, R.filled, R.fits)) (omega (arith, R.filled, R.fits)) (λ i h. q (start + i) (omega arith) (omega (arith, R.filled))) ∙ R.words;
  places = λ i h. p i h ∙ R.places i h;
}

-- ---- one row more, behind the others
module _ (work work' class class' : List ℕ) (at start fill : ℕ) (cs : List Class) (ks : List Keyed) (R : RowsIn work class at start fill cs ks) (c : Class) (more : length cs < length ks)
    (room : fill + width_of c ≤ length class) (long : length class' ≡ length class) (kept : (i : ℕ) → i < fill → get_or class' i 0 ≡ get_or class i 0)
    (row : (j : ℕ) → j < width_of c → get_or class' (fill + j) 0 ≡ get_or (row_of c (get_or ks (length cs) no_keyed).count) j 0)
    (places : (i : ℕ) → i < length cs → get_or work' (at + i) 0 ≡ get_or work (at + i) 0) (place : get_or work' (at + length cs) 0 ≡ fill) where
  abbrev new : List ℕ
  new = row_of c (get_or ks (length cs) no_keyed).count

  many : length (row_words cs ks) ≡ width cs
  many = length-rows cs ks R.few

  -- a word of all rows
  word_more : (j : ℕ) → j < width (cs ++ (c ∷ [])) → get_or class' (start + j) 0 ≡ get_or (row_words cs ks ++ new) j 0
  word_more j h = elim (dec_lt j (width cs)) [
    | yes l ↦
        kept (start + j) (omega (arith, R.filled)) ∙ sym (part_at start (width cs) class j l) ∙ ap (λ (ws : List ℕ). get_or ws j 0) R.words ∙ sym (get_or-append (row_words cs ks) new 0 j (omega (arith, many)))
    | no l ↦
        let d : ℕ = j - width cs in
        let e : start + j ≡ fill + d = omega (arith, R.filled, l) in
        let f : j ≡ length (row_words cs ks) + d = omega (arith, many, l) in
        ap (λ (m : ℕ). get_or class' m 0) e ∙ row d (omega (arith, width-more cs c, l)) ∙ sym (ap (λ (m : ℕ). get_or (row_words cs ks ++ new) m 0) f ∙ get_or-append-add (row_words cs ks) new d 0)
  ]

  -- an earlier row starts where it did
  before-kept : (i : ℕ) → i ≤ length cs → before (cs ++ (c ∷ [])) i ≡ before cs i
  before-kept i h = ap width (take-append-le i cs (c ∷ []) h)

  before-all : before cs (length cs) ≡ width cs
  before-all = ap width (take-length cs)

  pub rows_then : RowsIn work' class' at start (fill + width_of c) (cs ++ (c ∷ [])) ks
  rows_then =
      let w = width-more cs c in
      let l = length-append cs (c ∷ []) in
      record {
        filled = omega (arith, R.filled);
        fits = omega (arith, long, room);
        few = omega arith;
        words =
            part_is start (width (cs ++ (c ∷ []))) class' (row_words cs ks ++ new) (omega (arith, R.filled, room, long)) (length-append (row_words cs ks) new ∙ omega (arith, many, length-row c (get_or ks (length cs) no_keyed).count))
            word_more
            ∙ sym (rows_more cs ks c more);
        places = λ i h. elim (dec_lt i (length cs)) [
          | yes m ↦ places i m ∙ R.places i m ∙ ap (λ (n : ℕ). start + n) (sym (before-kept i (omega arith)))
          | no m ↦
              let e : i ≡ length cs = omega (arith, m) in
              ap (λ (n : ℕ). get_or work' (at + n) 0) e ∙ place ∙ R.filled ∙ ap (λ (n : ℕ). start + n) (sym (ap (before (cs ++ (c ∷ []))) e ∙ before-kept (length cs) (omega arith) ∙ before-all))
        ];
      }
