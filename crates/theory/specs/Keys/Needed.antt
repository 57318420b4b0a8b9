-- First steps and needed steps.
use Rattle.std.specs.Prelude.{◌≡◌, refl, true, false, List, [], ◌∷◌, ◌++◌, ℕ, zero, suc, ◌+◌, ◌-◌, ◌<◌, ◌≤◌, eqb, length, get_or}
use Rattle.std.proofs.Common.{sym, ap, ◌∙◌, arith, eqb-true, eq-eqb}
use Rattle.definition.specs.Test.{is, see, never, tests, any}
use Rattle.definition.specs.Pack.{Step, Pack, no_step, step_of}
use Rattle.definition.specs.Keys.{first_with, first_of, needs, needed_below}

-- the first step with a judgment, where there is one: it has it, and none before it
pub record FirstWith (j : ℕ) (ss : List Step) (i f : ℕ) : Type 0 where
  pub after : i ≤ f
  pub within : f < i + length ss
  pub has : (get_or ss (f - i) no_step).judgment ≡ j

pub first-with : (j : ℕ) (ss : List Step) (i r : ℕ) → r < length ss → (get_or ss r no_step).judgment ≡ j
    → FirstWith j ss i (first_with j ss i) × (first_with j ss i ≤ i + r)
unfolding first_with
first-with j [] i r h e = absurd (omega arith)
first-with j (s ∷ ss) i zero h e =
    let z : i - i ≡ 0 = omega arith in
    rw (eq-eqb s.judgment j e, first_with) (record { after = omega arith; within = omega arith; has = rw z e }, omega arith)
first-with j (s ∷ ss) i (suc r) h e = elim (see (eqb s.judgment j)) [
  | is true p ↦
      let z : i - i ≡ 0 = omega arith in
      rw (p, first_with) (record { after = omega arith; within = omega arith; has = rw z (eqb-true _ _ p) }, omega arith)
  | is false p ↦
      let q = first-with j ss (suc i) r (omega arith) e in
      let f = first_with j ss (suc i) in
      let F = q.0 in
      let z : f - i ≡ suc (f - suc i) = omega (arith, F.after) in
      rw (p, first_with) (record { after = omega (arith, F.after); within = omega (arith, F.within); has = rw z F.has }, omega (arith, q.1))
]

-- a step's first step is no later, and has its judgment
pub first-earlier : (P : Pack) (s : ℕ) → s < length P.steps → first_of P s ≤ s
unfolding first_of step_of
first-earlier P s h = let q = first-with (get_or P.steps s no_step).judgment P.steps 0 s h refl in omega (arith, q.1)

pub first-judgment : (P : Pack) (s : ℕ) → s < length P.steps → (step_of P (first_of P s)).judgment ≡ (step_of P s).judgment
unfolding first_of step_of
first-judgment P s h =
    let j = (get_or P.steps s no_step).judgment in
    let q = first-with j P.steps 0 s h refl in
    let z : first_with j P.steps 0 - 0 ≡ first_with j P.steps 0 = omega arith in
    rw z at q.0.has

-- the first step of a step is its own first step
pub first-first : (P : Pack) (s : ℕ) → s < length P.steps → first_of P (first_of P s) ≡ first_of P s
unfolding first_of
first-first P s h = ap (λ (j : ℕ). first_with j P.steps 0) (first-judgment P s h)

-- a number that is among these
abbrev pub Among : ℕ → List ℕ → Type 0
Among x xs = any (eqb x) xs ≡ true

pub among_here : (x : ℕ) (xs : List ℕ) → Among x (x ∷ xs)
unfolding any
among_here x xs = rw (eq-eqb x x refl)

pub among_there : (x y : ℕ) (xs : List ℕ) → Among x xs → Among x (y ∷ xs)
unfolding any
among_there x y xs h = elim (see (eqb x y)) [
  | is true p ↦ rw p
  | is false p ↦ rw p h
]

pub among_left : (x : ℕ) (xs ys : List ℕ) → Among x xs → Among x (xs ++ ys)
unfolding any
among_left x [] ys h = never (cc)
among_left x (y ∷ xs) ys h = elim (see (eqb x y)) [
  | is true p ↦ rw p
  | is false p ↦ rw p (among_left x xs ys (rw p at h))
]

pub among_right : (x : ℕ) (xs ys : List ℕ) → Among x ys → Among x (xs ++ ys)
among_right x [] ys h = h
among_right x (y ∷ xs) ys h = among_there x y (xs ++ ys) (among_right x xs ys h)

-- which of two lists it is among
pub data Side (x : ℕ) (xs ys : List ℕ) : Type 0 where
  on_left : Among x xs → Side x xs ys
  on_right : Among x ys → Side x xs ys

pub among_side : (x : ℕ) (xs ys : List ℕ) → Among x (xs ++ ys) → Side x xs ys
unfolding any
among_side x [] ys h = on_right h
among_side x (y ∷ xs) ys h = elim (see (eqb x y)) [
  | is true p ↦ on_left (rw p)
  | is false p ↦ elim (among_side x xs ys (rw p at h)) [ on_left q ↦ on_left (rw p q) | on_right q ↦ on_right q ]
]

pub among_one : (x y : ℕ) → Among x (y ∷ []) → x ≡ y
unfolding any
among_one x y h = elim (see (eqb x y)) [
  | is true p ↦ eqb-true x y p
  | is false p ↦ never (let z : false ≡ true = rw p at h in cc)
]

-- what is wanted below n is needed
pub wanted-needed : (P : Pack) (n : ℕ) (wanted : List ℕ) (s : ℕ) → s < n → Among s wanted → Among s (needed_below n P wanted)
unfolding needed_below
wanted-needed P zero wanted s h w = absurd (omega arith)
wanted-needed P (suc n) wanted s h w = elim (see (any (eqb n) wanted)) [
  | is true p ↦ elim (see (eqb s n)) [
    | is true q ↦ rw (p, needed_below) (among_right s (needed_below n P (needs P n ++ wanted)) (n ∷ []) (let e = eqb-true s n q in rw e (among_here n [])))
    | is false q ↦ rw (p, needed_below) (among_left s (needed_below n P (needs P n ++ wanted)) (n ∷ []) (wanted-needed P n (needs P n ++ wanted) s (omega tests) (among_right s (needs P n) wanted w)))
  ]
  | is false p ↦ elim (see (eqb s n)) [
    | is true q ↦ never (let e = eqb-true s n q in let z : true ≡ false = sym w ∙ ap (λ (x : ℕ). any (eqb x) wanted) e ∙ p in cc)
    | is false q ↦ rw (p, needed_below) (wanted-needed P n wanted s (omega tests) w)
  ]
]

-- what is needed below n lies below n
pub needed-below : (P : Pack) (n : ℕ) (wanted : List ℕ) (s : ℕ) → Among s (needed_below n P wanted) → s < n
unfolding needed_below any
needed-below P zero wanted s h = never (cc)
needed-below P (suc n) wanted s h = elim (see (any (eqb n) wanted)) [
  | is true p ↦ elim (among_side s (needed_below n P (needs P n ++ wanted)) (n ∷ []) (rw (p, needed_below) at h)) [
    | on_left q ↦ let l = needed-below P n (needs P n ++ wanted) s q in omega arith
    | on_right q ↦ let e = among_one s n q in omega arith
  ]
  | is false p ↦ let l = needed-below P n wanted s (rw (p, needed_below) at h) in omega arith
]

-- what a needed step needs is needed, if it lies below that step
pub needs-needed : (P : Pack) → ((t r : ℕ) → Among r (needs P t) → r < t) → (n : ℕ) (wanted : List ℕ) (t r : ℕ)
    → Among t (needed_below n P wanted) → Among r (needs P t) → Among r (needed_below n P wanted)
unfolding needed_below any
needs-needed P early zero wanted t r h w = never (cc)
needs-needed P early (suc n) wanted t r h w = elim (see (any (eqb n) wanted)) [
  | is true p ↦
      let more = needs P n ++ wanted in
      rw (p, needed_below) (elim (among_side t (needed_below n P more) (n ∷ []) (rw (p, needed_below) at h)) [
        | on_left q ↦ among_left r (needed_below n P more) (n ∷ []) (needs-needed P early n more t r q w)
        | on_right q ↦
            let e = among_one t n q in
            let v : Among r (needs P n) = rw e at w in
            among_left r (needed_below n P more) (n ∷ []) (wanted-needed P n more r (early n r v) (among_left r (needs P n) wanted v))
      ])
  | is false p ↦ rw (p, needed_below) (needs-needed P early n wanted t r (rw (p, needed_below) at h) w)
]
