-- The histogram's slots: one class more, and all of them.
use Rattle.std.specs.Prelude.{◌≡◌, Bool, true, false, List, [], ◌∷◌, ◌++◌, ℕ, suc, ◌+◌, ◌≤◌, ◌<◌, eqb, length, get_or, take}
use Rattle.std.proofs.Math.Path.{refl}
use Rattle.std.proofs.Common.{sym, ap, ◌∙◌, subst, take-suc, take_all}
use native.Mathlib.Omega.{arith}
use borrow.Author.Tests.{le-leb, lt-leb}
use Rattle.definition.specs.Keys.{Keyed, no_keyed}
use Rattle.definition.specs.Classes.{mark}
use Rattle.definition.specs.Figures.{slot, in_slot}
use Rattle.theory.specs.Making.Numbers.{count_snoc}
use Rattle.class_keys.specs.ClassWords.{count_in}
use Rattle.class_keys.specs.declared.classes.Keying.{Keying}
use Rattle.class_build.specs.declared.histogram.Slots.{Slots}

-- ---- one class more
-- what a class of n steps adds to slot j
abbrev pub adds : ℕ → ℕ → ℕ
adds j n = mark (eqb (slot n) j)

-- each slot has room for one more
pub record Wide (s : Slots) : Type 0 where
  pub single : s.single < 18446744073709551615
  pub few : s.few < 18446744073709551615
  pub tens : s.tens < 18446744073709551615
  pub hundreds : s.hundreds < 18446744073709551615

-- a class of n steps is added
pub record Adds (s : Slots) (n : ℕ) (r : Slots) : Type 0 where
  pub single : r.single ≡ s.single + adds 0 n
  pub few : r.few ≡ s.few + adds 1 n
  pub tens : r.tens ≡ s.tens + adds 2 n
  pub hundreds : r.hundreds ≡ s.hundreds + adds 3 n

module _ (s : Slots) (n : ℕ) where
  -- what it adds, by its slot
  adds-slot : (i : ℕ) → slot n ≡ i → (j : ℕ) → adds j n ≡ mark (eqb i j)
  adds-slot i e j = ap (λ (x : ℕ). mark (eqb x j)) e

  pub adds_single : n ≤ 1 → Adds s n (record { single = s.single + 1; few = s.few; tens = s.tens; hundreds = s.hundreds })
  unfolding slot mark
  adds_single h = let a = adds-slot 0 (rw (le-leb n 1 h, slot)) in record { single = omega (arith, a 0); few = omega (arith, a 1); tens = omega (arith, a 2); hundreds = omega (arith, a 3) }

  pub adds_few : 1 < n → n ≤ 9 → Adds s n (record { single = s.single; few = s.few + 1; tens = s.tens; hundreds = s.hundreds })
  unfolding slot mark
  adds_few l h = let a = adds-slot 1 (rw (lt-leb n 1 l, le-leb n 9 h, slot)) in record { single = omega (arith, a 0); few = omega (arith, a 1); tens = omega (arith, a 2); hundreds = omega (arith, a 3) }

  pub adds_tens : 9 < n → n ≤ 99 → Adds s n (record { single = s.single; few = s.few; tens = s.tens + 1; hundreds = s.hundreds })
  unfolding slot mark
  adds_tens l h =
      let a = adds-slot 2 (rw (lt-leb n 1 (omega arith), lt-leb n 9 l, le-leb n 99 h, slot)) in
      record { single = omega (arith, a 0); few = omega (arith, a 1); tens = omega (arith, a 2); hundreds = omega (arith, a 3) }

  pub adds_hundreds : 99 < n → Adds s n (record { single = s.single; few = s.few; tens = s.tens; hundreds = s.hundreds + 1 })
  unfolding slot mark
  adds_hundreds l =
      let a = adds-slot 3 (rw (lt-leb n 1 (omega arith), lt-leb n 9 (omega arith), lt-leb n 99 l, slot)) in
      record { single = omega (arith, a 0); few = omega (arith, a 1); tens = omega (arith, a 2); hundreds = omega (arith, a 3) }

-- ---- all classes
-- the words have the counts of these n classes
pub record CountsOf (work : List ℕ) (k : Keying) (n : ℕ) (ks : List Keyed) : Type 0 where
  pub many : n ≡ length ks
  pub count : (i : ℕ) → i < n → count_in work k i ≡ (get_or ks i no_keyed).count

-- their slots
pub record Sorted (ks : List Keyed) (s : Slots) : Type 0 where
  pub single : s.single ≡ in_slot ks 0
  pub few : s.few ≡ in_slot ks 1
  pub tens : s.tens ≡ in_slot ks 2
  pub hundreds : s.hundreds ≡ in_slot ks 3

-- what `histogram` answers
abbrev pub Sorts : List ℕ → Keying → ℕ → Slots → Type 0
Sorts work k n s = (ks : List Keyed) → CountsOf work k n ks → Sorted ks s

-- no slot has more than i classes
pub record Most (i : ℕ) (s : Slots) : Type 0 where
  pub single : s.single ≤ i
  pub few : s.few ≤ i
  pub tens : s.tens ≤ i
  pub hundreds : s.hundreds ≤ i

-- the first i classes were looked at
pub record Counting (work : List ℕ) (k : Keying) (n i : ℕ) (s : Slots) : Type 0 where
  pub within : i ≤ n
  pub most : Most i s
  pub sorted : (ks : List Keyed) → CountsOf work k n ks → Sorted (take i ks) s

-- a class adds one at most
mark-most : (t : Bool) → mark t ≤ 1
unfolding mark
mark-most true = omega arith
mark-most false = omega arith

-- one class more in the definition's slots
slot-more : (ks : List Keyed) (x : Keyed) (j : ℕ) → in_slot (ks ++ (x ∷ [])) j ≡ in_slot ks j + adds j x.count
unfolding in_slot
slot-more ks x j = count_snoc (λ (y : Keyed). eqb (slot y.count) j) ks x

sorted_more : (ks : List Keyed) (x : Keyed) (s r : Slots) → Sorted ks s → Adds s x.count r → Sorted (ks ++ (x ∷ [])) r
sorted_more ks x s r S A = record {
  single = omega (arith, S.single, A.single, slot-more ks x 0);
  few = omega (arith, S.few, A.few, slot-more ks x 1);
  tens = omega (arith, S.tens, A.tens, slot-more ks x 2);
  hundreds = omega (arith, S.hundreds, A.hundreds, slot-more ks x 3);
}

module _ (work : List ℕ) (k : Keying) (n : ℕ) where
  -- none yet
  pub counting-none : Counting work k n 0 (record { single = 0; few = 0; tens = 0; hundreds = 0 })
  unfolding in_slot
  counting-none = record {
    within = omega arith;
    most = record { single = omega arith; few = omega arith; tens = omega arith; hundreds = omega arith };
    sorted = λ ks K. record { single = refl; few = refl; tens = refl; hundreds = refl };
  }

  module _ (i : ℕ) (s : Slots) (C : Counting work k n i s) where
    -- there is room for one more
    pub counting_wide : i < n → n < 18446744073709551616 → Wide s
    counting_wide h l = record { single = omega (arith, C.most.single); few = omega (arith, C.most.few); tens = omega (arith, C.most.tens); hundreds = omega (arith, C.most.hundreds) }

    -- one more
    pub counting_more : i < n → (m : ℕ) (r : Slots) → m ≡ count_in work k i → Adds s m r → Counting work k n (suc i) r
    counting_more h m r e A = record {
      within = h;
      most = record {
        single = omega (arith, C.most.single, A.single, mark-most (eqb (slot m) 0));
        few = omega (arith, C.most.few, A.few, mark-most (eqb (slot m) 1));
        tens = omega (arith, C.most.tens, A.tens, mark-most (eqb (slot m) 2));
        hundreds = omega (arith, C.most.hundreds, A.hundreds, mark-most (eqb (slot m) 3));
      };
      sorted = λ ks K.
          subst (λ (xs : List Keyed). Sorted xs r) (sym (take-suc ks i no_keyed (omega (arith, K.many))))
          (sorted_more (take i ks) (get_or ks i no_keyed) s r (C.sorted ks K) (subst (λ (x : ℕ). Adds s x r) (e ∙ K.count i h) A));
    }

    -- all were
    pub counting-all : n ≤ i → Sorts work k n s
    counting-all h ks K = subst (λ (xs : List Keyed). Sorted xs s) (take_all i ks (omega (arith, h, K.many))) (C.sorted ks K)
