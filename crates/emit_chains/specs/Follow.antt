-- A chain followed from its first number on.
use Rattle.std.specs.Prelude.{◌≡◌, true, false, List, [], ◌∷◌, ℕ, zero, suc, ◌+◌, ◌-◌, ◌≤◌, ◌<◌, eqb, get_or}
use Rattle.std.proofs.Common.{sym, ap, subst, ◌∙◌, add-one, arith, eq-eqb, eqb-true}
use Rattle.std.proofs.Math.Decide.{ℕ_discrete}
use Rattle.definition.specs.Test.{is, see, never}
use Rattle.base.specs.Part.{part_at, length_part}
use Rattle.emit_chains.specs.Chain.{keyed, Linked, Chained}
use Rattle.emit_chains.specs.Places.{firsts, links, Within}
use Rattle.emit_chains.specs.declared.chain.Chains.{Chains}

-- no rule has this number, nor a symbol
abbrev pub no_number : ℕ
no_number = 4096

-- work has no more words
abbrev pub most_words : ℕ
most_words = 1073741824

unfoldable pub number_in : ℕ → ℕ
number_in zero = no_number
number_in (suc r) = r

-- the numbers from r on, of n in all, that have the key k: r is the first of them, or none is left
pub record FromNumber (key : ℕ → ℕ) (n k r : ℕ) (rs : List ℕ) : Type 0 where
  pub here : r < no_number → (r < n) × (key r ≡ k)
  pub rest : keyed key k r (n - r) ≡ rs

-- the first number of a key
pub record FirstOf (work : List ℕ) (h : Chains) (k r : ℕ) : Type 0 where
  pub first : (key : ℕ → ℕ) (n : ℕ) → n ≤ no_number → Chained (firsts work h) (links work h) key 0 n → FromNumber key n k r (keyed key k 0 n)

-- the next one behind i
pub record NextOf (work : List ℕ) (h : Chains) (i r : ℕ) : Type 0 where
  pub next : (key : ℕ → ℕ) (n k : ℕ) → n ≤ no_number → k < h.keys → Chained (firsts work h) (links work h) key 0 n → i < n → key i ≡ k → FromNumber key n k r (keyed key k (suc i) (n - suc i)) × (i < r)

-- a word names the number one below it
pub number_in_law : (w r : ℕ) → w ≡ r + 1 → number_in w ≡ r
unfolding number_in
number_in_law w r e = ap number_in (e ∙ add-one r)

-- 0 names none
pub no_number_in : (w : ℕ) → w ≡ 0 → number_in w ≡ no_number
unfolding number_in
no_number_in w e = ap number_in e

-- r is the first number with the key, and the list from r on is the same
record First (key : ℕ → ℕ) (k i m r : ℕ) (rs : List ℕ) : Type 0 where
  low : i ≤ r
  high : r < i + m
  has : key r ≡ k
  same : keyed key k r (i + m - r) ≡ r ∷ rs

-- such is the first of a list that has one
keyed-first : (key : ℕ → ℕ) (k i m r : ℕ) (rs : List ℕ) → keyed key k i m ≡ r ∷ rs → First key k i m r rs
unfolding keyed
keyed-first key k i zero r rs e = never (cc)
keyed-first key k i (suc m) r rs e = elim (see (eqb (key i) k)) [
  | is true p ↦
      let f : i ∷ keyed key k (suc i) m ≡ r ∷ rs = rw (p, keyed) at e in
      let q : i ≡ r = cc in
      let n : i + suc m - i ≡ suc m = omega arith in
      record {
        low = omega arith;
        high = omega arith;
        has = ap key (sym q) ∙ eqb-true (key i) k p;
        same = subst (λ (x : ℕ). keyed key k x (i + suc m - x) ≡ r ∷ rs) q (ap (keyed key k i) n ∙ e);
      }
  | is false p ↦
      let h = keyed-first key k (suc i) m r rs (rw (p, keyed) at e) in
      let n : i + suc m - r ≡ suc i + m - r = omega arith in
      record { low = omega (arith, h.low); high = omega (arith, h.high); has = h.has; same = ap (keyed key k r) n ∙ h.same }
]

-- behind a number of a chain its link begins the chain of those behind it
linked-behind : (links : List ℕ) (key : ℕ → ℕ) (k i m w r : ℕ) → Linked links w (keyed key k i m) → i ≤ r → r < i + m → key r ≡ k → Linked links (get_or links r 0) (keyed key k (suc r) (i + m - suc r))
unfolding keyed
linked-behind links key k i zero w r L h g e = absurd (omega arith)
linked-behind links key k i (suc m) w r L h g e = elim (ℕ_discrete i r) [
  | yes q ↦
      let p : eqb (key i) k ≡ true = eq-eqb (key i) k (ap key q ∙ e) in
      let f : (w ≡ i + 1) × Linked links (get_or links i 0) (keyed key k (suc i) m) = rw (p, keyed) at L in
      let n : m ≡ i + suc m - suc i = omega arith in
      subst (λ (x : ℕ). Linked links (get_or links x 0) (keyed key k (suc x) (i + suc m - suc x))) q
      (subst (λ (x : ℕ). Linked links (get_or links i 0) (keyed key k (suc i) x)) n f.1)
  | no d ↦
      let n : suc i + m - suc r ≡ i + suc m - suc r = omega arith in
      subst (λ (x : ℕ). Linked links (get_or links r 0) (keyed key k (suc r) x)) n (elim (see (eqb (key i) k)) [
        | is true p ↦
            let f : (w ≡ i + 1) × Linked links (get_or links i 0) (keyed key k (suc i) m) = rw (p, keyed) at L in
            linked-behind links key k (suc i) m (get_or links i 0) r f.1 (omega arith) (omega arith) e
        | is false p ↦
            let f : Linked links w (keyed key k (suc i) m) = rw (p, keyed) at L in
            linked-behind links key k (suc i) m w r f (omega arith) (omega arith) e
      ])
]

-- the word that begins a chain names its first number, or none
from-linked : (links : List ℕ) (key : ℕ → ℕ) (n p i m w : ℕ) → Linked links w (keyed key p i m) → i + m ≡ n → n ≤ no_number → FromNumber key n p (number_in w) (keyed key p i m) × (i ≤ number_in w)
unfolding keyed
from-linked links key n p i m w L e h = elim (see (keyed key p i m)) [
  | is [] q ↦
      let z = no_number_in w (rw q at L) in
      let o : n - number_in w ≡ 0 = omega arith in
      (record { here = λ l. absurd (omega arith); rest = ap (keyed key p (number_in w)) o ∙ sym q }, omega arith)
  | is (r ∷ rs) q ↦
      let f : (w ≡ r + 1) × Linked links (get_or links r 0) rs = rw q at L in
      let z = number_in_law w r f.0 in
      let F = keyed-first key p i m r rs q in
      let o : n - r ≡ i + m - r = omega arith in (
        record {
          here = λ l. (omega (arith, F.high), ap key z ∙ F.has);
          rest = ap (λ (x : ℕ). keyed key p x (n - x)) z ∙ ap (keyed key p r) o ∙ F.same ∙ sym q;
        },
        omega (arith, F.low),
      )
]

module _ (work : List ℕ) (h : Chains) (W : Within work h) where
  -- the word of a key names the first number
  pub first-at : (k : ℕ) → k < h.keys → (r : ℕ) → r ≡ number_in (get_or work (h.first + k) 0) → FirstOf work h k r
  first-at k l r e = record {
    first = λ key n few C.
        let long = length_part h.first h.keys work (omega (arith, W.apart, W.room)) in
        let at = part_at h.first h.keys work k l in
        let f = from-linked (links work h) key n k 0 n (get_or (firsts work h) k 0) (C.chains k (omega (arith, long))) (omega arith) few in
        subst (λ (x : ℕ). FromNumber key n k x (keyed key k 0 n)) (ap number_in at ∙ sym e) f.0;
  }

  -- the word of a number names the next one
  pub next-at : (i : ℕ) → i < h.items → (r : ℕ) → r ≡ number_in (get_or work (h.next + i) 0) → NextOf work h i r
  next-at i l r e = record {
    next = λ key n k few given C below has.
        let long = length_part h.first h.keys work (omega (arith, W.apart, W.room)) in
        let at = part_at h.next h.items work i l in
        let g = linked-behind (links work h) key k 0 n (get_or (firsts work h) k 0) i (C.chains k (omega (arith, long))) (omega arith) (omega arith) has in
        let m : 0 + n - suc i ≡ n - suc i = omega arith in
        let f = from-linked (links work h) key n k (suc i) (n - suc i) (get_or (links work h) i 0) (rw m at g) (omega arith) few in
        subst (λ (x : ℕ). FromNumber key n k x (keyed key k (suc i) (n - suc i)) × (i < x)) (ap number_in at ∙ sym e) (f.0, f.1);
  }
