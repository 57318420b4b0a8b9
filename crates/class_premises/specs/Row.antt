-- A class's row as it is written: its place and its first words, then its marks.
use Rattle.std.specs.Prelude.{◌≡◌, List, ◌∷◌, map, ℕ, zero, suc, ◌+◌, ◌≤◌, ◌<◌, length, get_or, set}
use Rattle.std.proofs.Common.{ap, ◌∙◌, arith, length-set, get_or-set_same, get_or-set_other}
use Rattle.definition.specs.Classes.{Class, mark}
use Rattle.base.specs.Outside.{Outside, outside_then, outside_set}
use Rattle.class_premises.specs.declared.layout.Layout.{Layout}
use Rattle.class_premises.specs.RowWords.{row_of, width_of}

-- there is room for the row and for its place, and what is written are words
pub record Beginning (work class : List ℕ) (l : Layout) (fill i count n : ℕ) : Type 0 where
  pub place : l.rows + i < length work
  pub room : fill + 3 + n ≤ length class
  pub small : length class < 4294967296
  pub counted : count < 4294967296

-- the place is noted, and the first three words are written; no other word is
pub record Begun (work class work' class' : List ℕ) (l : Layout) (fill i conclusion count n : ℕ) : Type 0 where
  pub place : get_or work' (l.rows + i) 0 ≡ fill
  pub first : get_or class' fill 0 ≡ conclusion
  pub second : get_or class' (fill + 1) 0 ≡ count
  pub third : get_or class' (fill + 2) 0 ≡ n
  pub places : Outside (l.rows + i) (l.rows + i + 1) work work'
  pub rows : Outside fill (fill + 3) class class'

-- the four stores
pub begun : (work class : List ℕ) (l : Layout) (fill i conclusion count n : ℕ) → Beginning work class l fill i count n
    → Begun work class (set work (l.rows + i) fill) (set (set (set class fill conclusion) (fill + 1) count) (fill + 2) n) l fill i conclusion count n
begun work class l fill i conclusion count n B =
    let a = set class fill conclusion in
    let b = set a (fill + 1) count in
    let m : length a ≡ length class = length-set class fill conclusion in
    let k : length b ≡ length class = length-set a (fill + 1) count ∙ m in
    record {
      place = get_or-set_same work (l.rows + i) fill 0 B.place;
      first =
          get_or-set_other b (fill + 2) fill n 0 (λ q. omega (arith, q)) ∙ get_or-set_other a (fill + 1) fill count 0 (λ q. omega (arith, q))
          ∙ get_or-set_same class fill conclusion 0 (omega (arith, B.room));
      second = get_or-set_other b (fill + 2) (fill + 1) n 0 (λ q. omega (arith, q)) ∙ get_or-set_same a (fill + 1) count 0 (omega (arith, B.room, m));
      third = get_or-set_same b (fill + 2) n 0 (omega (arith, B.room, k));
      places = outside_set (l.rows + i) (l.rows + i + 1) work (l.rows + i) fill (omega arith) (omega arith);
      rows =
          outside_then fill (fill + 3) class a (set b (fill + 2) n) (outside_set fill (fill + 3) class fill conclusion (omega arith) (omega arith))
          (outside_then fill (fill + 3) a b (set b (fill + 2) n) (outside_set fill (fill + 3) a (fill + 1) count (omega arith) (omega arith))
          (outside_set fill (fill + 3) b (fill + 2) n (omega arith) (omega arith)));
    }

-- the row of class x stands from `fill` on, and no word ahead of it has changed
pub record Row (class class' : List ℕ) (fill : ℕ) (x : Class) (count : ℕ) : Type 0 where
  pub room : fill + width_of x ≤ length class
  pub long : length class' ≡ length class
  pub kept : (i : ℕ) → i < fill → get_or class' i 0 ≡ get_or class i 0
  pub words : (j : ℕ) → j < width_of x → get_or class' (fill + j) 0 ≡ get_or (row_of x count) j 0

-- a row that was begun, with its marks written behind its first words
pub row-marked : (work class work' class' class'' : List ℕ) (l : Layout) (fill i conclusion count n : ℕ) (x : Class) → Beginning work class l fill i count n → Begun work class work' class' l fill i conclusion count n
    → conclusion ≡ x.conclusion → n ≡ length x.flex → Outside (fill + 3) (fill + 3 + n) class' class'' → ((j : ℕ) → j < n → get_or class'' (fill + 3 + j) 0 ≡ get_or (map mark x.flex) j 0)
    → Row class class'' fill x count
unfolding row_of
row-marked work class work' class' class'' l fill i conclusion count n x R B e f O marks = record {
  room = omega (arith, R.room, f);
  long = O.long ∙ B.rows.long;
  kept = λ j h. O.ahead j (omega arith) ∙ B.rows.ahead j h;
  words = word;
}
  where
    -- word j of the row
    word : (j : ℕ) → j < width_of x → get_or class'' (fill + j) 0 ≡ get_or (x.conclusion ∷ count ∷ length x.flex ∷ map mark x.flex) j 0
    word zero h = let z : fill + 0 ≡ fill = omega arith in ap (λ (k : ℕ). get_or class'' k 0) z ∙ O.ahead fill (omega arith) ∙ B.first ∙ e
    word (suc zero) h = O.ahead (fill + 1) (omega arith) ∙ B.second
    word (suc (suc zero)) h = O.ahead (fill + 2) (omega arith) ∙ B.third ∙ f
    word (suc (suc (suc j))) h = let z : fill + suc (suc (suc j)) ≡ fill + 3 + j = omega arith in ap (λ (k : ℕ). get_or class'' k 0) z ∙ marks j (omega (arith, f))
