-- No step is listed twice among the needed ones, so the counts of the classes add up to the figure `steps`.
use Rattle.std.specs.Prelude.{◌≡◌, refl, true, false, List, [], ◌∷◌, ◌++◌, ℕ, zero, suc, ◌<◌, ◌≤◌, eqb, length}
use Rattle.std.proofs.Common.{sym, ap, ◌∙◌, arith, eqb-true}
use Rattle.definition.specs.Test.{is, see, never, tests, any}
use Rattle.definition.specs.Pack.{Pack}
use Rattle.definition.specs.Good.{Good}
use Rattle.definition.specs.Graph.{up_to}
use Rattle.definition.specs.Classes.{count_of}
use Rattle.definition.specs.Keys.{needs, needed_below, needed, keyed}
use Rattle.theory.specs.Keys.Needed.{Among, among_here, among_there, needed-below}
use Rattle.theory.specs.Keys.Keyed.{counted}
use Rattle.theory.specs.Keys.KeyedLaws.{count_in_law, count_out, keyed-kept}

-- no number twice
abbrev pub Single : List ℕ → Type 0
Single [] = Unit {0}
Single (x ∷ xs) = (any (eqb x) xs ≡ false) × Single xs

-- how many of the first n are among these
abbrev listed : ℕ → List ℕ → ℕ
listed n xs = count_of (λ s. any (eqb s) xs) (up_to n)

-- another number at the front is not met
any_else : (n x : ℕ) (xs : List ℕ) → eqb n x ≡ false → any (eqb n) (x ∷ xs) ≡ any (eqb n) xs
unfolding any
any_else n x xs e = rw e

-- one that is not below n changes no count
count_else : (n x : ℕ) (xs : List ℕ) → n ≤ x → listed n (x ∷ xs) ≡ listed n xs
unfolding up_to count_of
count_else zero x xs h = refl
count_else (suc n) x xs h =
    let i = count_else n x xs (omega arith) in
    elim (see (eqb n x)) [
      | is true p ↦ absurd (omega tests)
      | is false p ↦ elim (see (any (eqb n) xs)) [
        | is true q ↦ count_in_law (x ∷ xs) n (any_else n x xs p ∙ q) ∙ ap suc i ∙ sym (count_in_law xs n q)
        | is false q ↦ count_out (x ∷ xs) n (any_else n x xs p ∙ q) ∙ i ∙ sym (count_out xs n q)
      ]
    ]

-- one that is below n and not yet listed makes one more
count-new : (n x : ℕ) (xs : List ℕ) → x < n → any (eqb x) xs ≡ false → listed n (x ∷ xs) ≡ suc (listed n xs)
count-new zero x xs h o = absurd (omega arith)
count-new (suc n) x xs h o = elim (see (eqb n x)) [
  | is true p ↦
      let e = eqb-true n x p in
      let a : Among n (x ∷ xs) = ap (λ (i : ℕ). any (eqb i) (x ∷ xs)) e ∙ among_here x xs in
      let q : any (eqb n) xs ≡ false = ap (λ (i : ℕ). any (eqb i) xs) e ∙ o in
      count_in_law (x ∷ xs) n a ∙ ap suc (count_else n x xs (omega arith) ∙ sym (count_out xs n q))
  | is false p ↦
      let i = count-new n x xs (omega tests) o in
      elim (see (any (eqb n) xs)) [
        | is true q ↦ count_in_law (x ∷ xs) n (any_else n x xs p ∙ q) ∙ ap suc (i ∙ sym (count_in_law xs n q))
        | is false q ↦ count_out (x ∷ xs) n (any_else n x xs p ∙ q) ∙ i ∙ ap suc (sym (count_out xs n q))
      ]
]

count_none : (n : ℕ) → listed n [] ≡ 0
unfolding up_to count_of any
count_none zero = refl
count_none (suc n) = count_out [] n refl ∙ count_none n

-- of numbers below n, none twice, each counts once
pub single_count : (n : ℕ) (xs : List ℕ) → Single xs → ((s : ℕ) → Among s xs → s < n) → count_of (λ s. any (eqb s) xs) (up_to n) ≡ length xs
single_count n [] o l = count_none n
single_count n (x ∷ xs) o l = count-new n x xs (l x (among_here x xs)) o.0 ∙ ap suc (single_count n xs o.1 (λ s h. l s (among_there s x xs h)))

-- not among these, nor the one behind them
else_then : (x s : ℕ) (xs : List ℕ) → eqb x s ≡ false → any (eqb x) xs ≡ false → any (eqb x) (xs ++ (s ∷ [])) ≡ false
unfolding any
else_then x s [] e h = rw e
else_then x s (y ∷ xs) e h = elim (see (eqb x y)) [
  | is true p ↦ never (let z : true ≡ false = rw p at h in cc)
  | is false p ↦ rw p (else_then x s xs e (rw p at h))
]

eqb-turn : (x s : ℕ) → eqb s x ≡ false → eqb x s ≡ false
eqb-turn x s h = elim (see (eqb x s)) [ is true p ↦ absurd (omega tests) | is false p ↦ p ]

-- a number behind others, none of which is it
single_then : (xs : List ℕ) (s : ℕ) → Single xs → any (eqb s) xs ≡ false → Single (xs ++ (s ∷ []))
unfolding any
single_then [] s o h = (refl, tt)
single_then (x ∷ xs) s o h = elim (see (eqb s x)) [
  | is true p ↦ never (let z : true ≡ false = rw p at h in cc)
  | is false p ↦ (else_then x s xs (eqb-turn x s p) o.0, single_then xs s o.1 (rw p at h))
]

-- the walk down the steps lists none twice
needed_single : (P : Pack) (n : ℕ) (wanted : List ℕ) → Single (needed_below n P wanted)
unfolding needed_below
needed_single P zero wanted = tt
needed_single P (suc n) wanted = elim (see (any (eqb n) wanted)) [
  | is true p ↦
      let more = needs P n ++ wanted in
      let xs = needed_below n P more in
      rw (p, needed_below) (elim (see (any (eqb n) xs)) [
        | is true q ↦ absurd (let l = needed-below P n more n q in omega arith)
        | is false q ↦ single_then xs n (needed_single P n more) q
      ])
  | is false p ↦ rw (p, needed_below) (needed_single P n wanted)
]

-- "Needed" lists no step twice
pub needed_once : (P : Pack) → Single (needed P)
unfolding needed
needed_once P = needed_single P (length P.steps) _

-- "Instance counts sum to `steps`", the number of needed steps
pub counts-sum : (P : Pack) → Good P → counted (keyed P).classes ≡ length (needed P)
unfolding needed
counts-sum P G =
    let K = keyed-kept P G in
    K.0.summed ∙ ap (λ (n : ℕ). count_of (λ s. any (eqb s) (needed P)) (up_to n)) K.1 ∙ single_count (length P.steps) (needed P) (needed_once P) (λ s h. needed-below P (length P.steps) _ s h)
