-- Marks that are all 1, and a row with them.
use Rattle.std.specs.Prelude.{◌≡◌, refl, true, List, [], ◌∷◌, map, ℕ, zero, suc, ◌+◌, ◌*◌, ◌≤◌, ◌<◌, length, get_or, set, take, drop, ◌-◌, replicate}
use Rattle.std.proofs.Common.{sym, subst, ap, ◌∙◌, arith, get_or-set_same, get_or-set_other}
use Rattle.std.proofs.Math.Decide.{dec_lt}
use Rattle.std.proofs.lemmas.List.{length-map, length-replicate, get_or-replicate}
use Rattle.definition.specs.Classes.{Class, mark}
use Rattle.base.specs.Part.{put, length_part, part-lent, length-put, put-before, put-at, put-behind, put-lent}
use Rattle.base.specs.Outside.{Outside, outside_none, outside_then, outside_set}
use Rattle.class_keys.specs.ClassWords.{count_in}
use Rattle.class_keys.specs.declared.classes.Keying.{Keying}
use Rattle.class_premises.specs.declared.layout.Layout.{Layout}
use Rattle.class_premises.specs.declared.building.Building.{Building}
use Rattle.class_premises.specs.Row.{Beginning, Begun, Row, row-marked}

-- the first j of n words from `at` on are 1
pub record Marked (class class' : List ℕ) (at n j : ℕ) : Type 0 where
  pub few : j ≤ n
  pub outside : Outside at (at + n) class class'
  pub ones : (i : ℕ) → i < j → get_or class' (at + i) 0 ≡ 1

-- none is
pub marked-none : (class : List ℕ) (at n : ℕ) → Marked class class at n 0
marked-none class at n = record { few = omega arith; outside = outside_none at (at + n) class; ones = λ i h. absurd (omega arith) }

-- one more is
pub marked_more : (class class' : List ℕ) (at n j : ℕ) → at + n ≤ length class → j < n → Marked class class' at n j → Marked class (set class' (at + j) 1) at n (j + 1)
marked_more class class' at n j room h M = record {
  few = omega arith;
  outside = outside_then at (at + n) class class' (set class' (at + j) 1) M.outside (outside_set at (at + n) class' (at + j) 1 (omega arith) (omega arith));
  ones = λ i l. elim (dec_lt i j) [
    | yes m ↦ get_or-set_other class' (at + j) (at + i) 1 0 (λ q. omega (arith, q, m)) ∙ M.ones i m
    | no m ↦
        let e : at + i ≡ at + j = omega (arith, m) in
        ap (λ (k : ℕ). get_or (set class' (at + j) 1) k 0) e ∙ get_or-set_same class' (at + j) 1 0 (omega (arith, M.outside.long, room))
  ];
}

-- words were lent and came back as ones: all are
pub marked_filled : (class : List ℕ) (at n : ℕ) → at + n ≤ length class → (ys : List ℕ) → ys ≡ replicate (length (take (at + n - at) (drop at class))) 1 → Marked class (put at (at + n - at) ys class) at n n
marked_filled class at n room ys y =
    let lent : length (take (at + n - at) (drop at class)) ≡ n = ap length (part-lent at (at + n) n class refl) ∙ length_part at n class room in
    let many : length ys ≡ n = ap length y ∙ length-replicate (length (take (at + n - at) (drop at class))) 1 ∙ lent in
    let e : put at (at + n - at) ys class ≡ put at n ys class = put-lent at (at + n) n class ys ys refl refl in
    subst (λ (zs : List ℕ). Marked class zs at n n) (sym e) (record {
      few = omega arith;
      outside = record { long = length-put at n class room ys many; ahead = put-before at n class room ys many; behind = put-behind at n class room ys many };
      ones = λ i h.
          put-at at n class room ys many i h ∙ ap (λ (zs : List ℕ). get_or zs i 0) y
          ∙ get_or-replicate (length (take (at + n - at) (drop at class))) i 1 0 (omega (arith, lent, h));
    })

-- the marks of variables that are all flexible
pub ones_are : (ss : List ℕ) (j : ℕ) → j < length ss → get_or (map mark (map (λ s. true) ss)) j 0 ≡ 1
unfolding mark
ones_are [] j h = absurd (omega arith)
ones_are (s ∷ ss) zero h = refl
ones_are (s ∷ ss) (suc j) h = ones_are ss j (omega arith)

-- there is room for the row, for its place, and a word for the class's steps
pub record Writing (work class : List ℕ) (k : Keying) (l : Layout) (fill i n : ℕ) : Type 0 where
  pub counted : k.at + 2 * k.cap + i < length work
  pub place : l.rows + i < length work
  pub room : fill + 3 + n ≤ length class
  pub small : length class < 4294967296

-- the row is begun, and its marks are 1
pub record Writes (work class work' class' : List ℕ) (k : Keying) (l : Layout) (fill i conclusion n : ℕ) : Type 0 where
  pub between : List ℕ
  pub beginning : Beginning work class l fill i (count_in work k i) n
  pub begun : Begun work class work' between l fill i conclusion (count_in work k i) n
  pub marked : Marked between class' (fill + 3) n n

-- both of what is at hand
abbrev pub WritingIn : List ℕ → List ℕ → Building → ℕ → ℕ → Type 0
WritingIn work class s i n = Writing work class s.keying s.layout s.fill i n

abbrev pub WritesIn : List ℕ → List ℕ → List ℕ → List ℕ → Building → ℕ → ℕ → ℕ → Type 0
WritesIn work class work' class' s i conclusion n = Writes work class work' class' s.keying s.layout s.fill i conclusion n

-- it is the row of a class whose variables are all flexible
pub writes_row : (work class work' class' : List ℕ) (k : Keying) (l : Layout) (fill i conclusion n : ℕ) (x : Class) (ss : List ℕ) → Writes work class work' class' k l fill i conclusion n → conclusion ≡ x.conclusion
    → x.flex ≡ map (λ s. true) ss → n ≡ length ss → (count : ℕ) → count_in work k i ≡ count → Row class class' fill x count
writes_row work class work' class' k l fill i conclusion n x ss W e f m count q =
    let flat : n ≡ length x.flex = m ∙ sym (ap length f ∙ length-map ss (λ s. true)) in
    let R : Row class class' fill x (count_in work k i) =
    row-marked work class work' W.between class' l fill i conclusion (count_in work k i) n x W.beginning W.begun e flat W.marked.outside
    (λ j h. W.marked.ones j h ∙ sym (ap (λ fl. get_or (map mark fl) j 0) f ∙ ones_are ss j (omega (arith, m)))) in
    rw q at R

-- the row may be begun
pub writing_begins : (work class : List ℕ) (k : Keying) (l : Layout) (fill i n count : ℕ) → Writing work class k l fill i n → count < 4294967296 → Beginning work class l fill i count n
writing_begins work class k l fill i n count W h = record { place = W.place; room = W.room; small = W.small; counted = h }

-- it is begun, then marked
pub writes : (work class work' class₁ class' : List ℕ) (k : Keying) (l : Layout) (fill i conclusion count n : ℕ) → Writing work class k l fill i n → count ≡ count_in work k i → count < 4294967296
    → Begun work class work' class₁ l fill i conclusion count n → Marked class₁ class' (fill + 3) n n → Writes work class work' class' k l fill i conclusion n
writes work class work' class₁ class' k l fill i conclusion count n W e h B M = record {
  between = class₁;
  beginning = rw e at (writing_begins work class k l fill i n count W h);
  begun = rw e at B;
  marked = M;
}
