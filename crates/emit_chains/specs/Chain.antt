-- Chains: numbers with one key linked in ascending order, by a word for each key and a word for each number, 0 or a number and one.
use Rattle.std.specs.Prelude.{◌≡◌, refl, true, false, List, [], ◌∷◌, ℕ, zero, suc, ◌+◌, ◌≤◌, ◌<◌, eqb, length, get_or, set, replicate}
use Rattle.std.proofs.Common.{sym, ap, subst, ◌∙◌, arith, eq-eqb, ne_eqb, length-set, get_or-set_same, get_or-set_other}
use Rattle.std.proofs.Math.Decide.{dec_lt, ℕ_discrete}
use Rattle.std.proofs.lemmas.List.{length-replicate, get_or-replicate}

-- the numbers from i on, n of them, that have the key k, ascending
unfoldable pub keyed : (ℕ → ℕ) → ℕ → ℕ → ℕ → List ℕ
keyed key k i zero = []
keyed key k i (suc n) = elim (eqb (key i) k) [ true ↦ i ∷ keyed key k (suc i) n | false ↦ keyed key k (suc i) n ]

-- the chain that begins with the word w is these numbers and ends there
abbrev pub Linked : List ℕ → ℕ → List ℕ → Type 0
Linked next w [] = w ≡ 0
Linked next w (i ∷ l) = (w ≡ i + 1) × Linked next (get_or next i 0) l

-- each key's chain is its numbers among the n from i on
pub record Chained (first next : List ℕ) (key : ℕ → ℕ) (i n : ℕ) : Type 0 where
  pub chains : (k : ℕ) → k < length first → Linked next (get_or first k 0) (keyed key k i n)

-- what is left when number i was put in front of the chain of k, if there is one
pub record Put (first next : List ℕ) (k i : ℕ) (first' next' : List ℕ) : Type 0 where
  pub on : k < length first → (first' ≡ set first k (i + 1)) × (next' ≡ set next i (get_or first k 0))
  pub off : length first ≤ k → (first' ≡ first) × (next' ≡ next)

pub put_on : (first next : List ℕ) (k i : ℕ) (first' next' : List ℕ) → k < length first → first' ≡ set first k (i + 1) → next' ≡ set next i (get_or first k 0) → Put first next k i first' next'
put_on first next k i first' next' l f g = record { on = λ h. (f, g); off = λ h. absurd (omega arith) }

pub put_off : (first next : List ℕ) (k i : ℕ) → length first ≤ k → Put first next k i first next
put_off first next k i l = record { on = λ h. absurd (omega arith); off = λ h. (refl, refl) }

-- number i has the key, or has it not
pub keyed_here : (key : ℕ → ℕ) (k i n : ℕ) → key i ≡ k → keyed key k i (suc n) ≡ i ∷ keyed key k (suc i) n
unfolding keyed
keyed_here key k i n e = rw (eq-eqb (key i) k e, keyed)

pub keyed_past : (key : ℕ → ℕ) (k i n : ℕ) → (key i ≡ k → ⊥) → keyed key k i (suc n) ≡ keyed key k (suc i) n
unfolding keyed
keyed_past key k i n d = rw (ne_eqb (key i) k d, keyed)

-- a chain of numbers behind i does not read the word of i
linked-kept : (next : List ℕ) (i v : ℕ) (key : ℕ → ℕ) (k n j w : ℕ) → i < j → Linked next w (keyed key k j n) → Linked (set next i v) w (keyed key k j n)
unfolding keyed
linked-kept next i v key k zero j w l h = h
linked-kept next i v key k (suc n) j w l h = elim (ℕ_discrete (key j) k) [
  | yes e ↦
      let q : (w ≡ j + 1) × Linked next (get_or next j 0) (keyed key k (suc j) n) = subst (λ (xs : List ℕ). Linked next w xs) (keyed_here key k j n e) h in
      let r = linked-kept next i v key k n (suc j) (get_or next j 0) (omega arith) q.1 in
      subst (λ (xs : List ℕ). Linked (set next i v) w xs) (sym (keyed_here key k j n e))
      (q.0, subst (λ (x : ℕ). Linked (set next i v) x (keyed key k (suc j) n)) (sym (get_or-set_other next i j v 0 (λ (m : j ≡ i). omega arith))) r)
  | no d ↦
      subst (λ (xs : List ℕ). Linked (set next i v) w xs) (sym (keyed_past key k j n d))
      (linked-kept next i v key k n (suc j) w (omega arith) (subst (λ (xs : List ℕ). Linked next w xs) (keyed_past key k j n d) h))
]

-- no number yet: every chain is empty
pub chained_none : (m : ℕ) (next : List ℕ) (key : ℕ → ℕ) (i : ℕ) → Chained (replicate m 0) next key i 0
unfolding keyed
chained_none m next key i = record { chains = λ k l. get_or-replicate {A = ℕ} m k 0 0 (simp length-replicate at l) }

module _ (first next : List ℕ) (key : ℕ → ℕ) (i n : ℕ) (C : Chained first next key (suc i) n) where
  -- number i in front of its key's chain
  pub chained_put : key i < length first → i < length next → Chained (set first (key i) (i + 1)) (set next i (get_or first (key i) 0)) key i (suc n)
  chained_put f l = record { chains = λ k m. at k (simp length-set at m) (ℕ_discrete k (key i)) }
    where
      at : (k : ℕ) → k < length first → Dec (k ≡ key i) → Linked (set next i (get_or first (key i) 0)) (get_or (set first (key i) (i + 1)) k 0) (keyed key k i (suc n))
      at k m (yes e) =
          let a : get_or (set first (key i) (i + 1)) k 0 ≡ i + 1 = ap (λ (x : ℕ). get_or (set first (key i) (i + 1)) x 0) e ∙ get_or-set_same first (key i) (i + 1) 0 f in
          let b : Linked next (get_or first (key i) 0) (keyed key k (suc i) n) = subst (λ (x : ℕ). Linked next (get_or first x 0) (keyed key k (suc i) n)) e (C.chains k m) in
          let r = linked-kept next i (get_or first (key i) 0) key k n (suc i) (get_or first (key i) 0) (omega arith) b in
          subst (λ (xs : List ℕ). Linked (set next i (get_or first (key i) 0)) (get_or (set first (key i) (i + 1)) k 0) xs) (sym (keyed_here key k i n (sym e)))
          (a, subst (λ (x : ℕ). Linked (set next i (get_or first (key i) 0)) x (keyed key k (suc i) n)) (sym (get_or-set_same next i (get_or first (key i) 0) 0 l)) r)
      at k m (no d) =
          subst (λ (xs : List ℕ). Linked (set next i (get_or first (key i) 0)) (get_or (set first (key i) (i + 1)) k 0) xs) (sym (keyed_past key k i n (λ e. d (sym e))))
          (subst (λ (x : ℕ). Linked (set next i (get_or first (key i) 0)) x (keyed key k (suc i) n)) (sym (get_or-set_other first (key i) k (i + 1) 0 d))
          (linked-kept next i (get_or first (key i) 0) key k n (suc i) (get_or first k 0) (omega arith) (C.chains k m)))

  -- number i has a key without a chain
  pub chained_skip : length first ≤ key i → Chained first next key i (suc n)
  chained_skip f = record { chains = λ k m. subst (λ (xs : List ℕ). Linked next (get_or first k 0) xs) (sym (keyed_past key k i n (λ (e : key i ≡ k). omega arith))) (C.chains k m) }

  -- either way
  pub chained_more : i < length next → (first' next' : List ℕ) → Put first next (key i) i first' next' → Chained first' next' key i (suc n)
  chained_more l first' next' p = elim (dec_lt (key i) (length first)) [
    | yes f ↦ let q = p.on f in rw (q.0, q.1) (chained_put f l)
    | no d ↦ let q = p.off (omega arith) in rw (q.0, q.1) (chained_skip (omega arith))
  ]
