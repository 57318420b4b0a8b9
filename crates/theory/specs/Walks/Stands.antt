-- The variables that stand at record 9's position in a pattern's term, by the nodes of its store: what a node has itself, and what is below it.
use Rattle.std.specs.Prelude.{◌≡◌, Bool, ◌||◌, length, get_or}
use Rattle.std.proofs.Math.Path.{refl}
use Rattle.std.proofs.Common.{sym, ◌∙◌, eqb-true, eq-eqb, ne_eqb}
use Rattle.std.proofs.Math.Bool.{true, false}
use mathlib.Core.List.{List, [], ◌∷◌}
use Prim.Native.Nat.{ℕ, zero, suc, ◌<◌, ◌≤◌}
use native.Mathlib.Omega.{arith}
use Rattle.std.proofs.Math.Decide.{ℕ_discrete, dec_lt}
use Rattle.std.proofs.Math.Dec.{eqb}
use Rattle.definition.specs.Test.{is, see, never, ◌and◌, or_left, or_right, or-other}
use Rattle.definition.specs.Pack.{var, app, nil, cons, Node, no_node}
use Rattle.definition.specs.Store.{is_variable, below, term_of}
use Rattle.definition.specs.Open.{argument_is, at, at_any}
use Rattle.definition.proofs.Laws.Grow.{below_at}
use Rattle.theory.specs.Copies.Terms.{Earlier, terms_at, term_variable, term_applied, below-variable, below-applied}
use Rattle.theory.specs.Walks.Matching.{number_of}

-- nothing passes with one that does not
and_no : (a : Bool) → a and false ≡ false
unfolding ◌and◌
and_no true = refl
and_no false = refl

-- what is below a node of a store
abbrev pub kids : List Node → ℕ → List ℕ
kids s x = below (get_or s x no_node)

-- a store, record 9's constructor and its position
module _ (s : List Node) (c i : ℕ) where
  -- the node has the constructor, with variable k at the position
  unfoldable pub hits : ℕ → ℕ → Bool
  unfolding ◌and◌ argument_is terms_at below
  hits x k = eqb (get_or s x no_node).head c and argument_is i k (terms_at s (kids s x))

  -- variable k stands so in the node's term
  abbrev pub Stands : ℕ → ℕ → Type 0
  Stands k x = at c i k (term_of s x) ≡ true

  -- one of these terms has it
  any_term : (k : ℕ) (xs : List ℕ) (j : ℕ) → j < length xs → Stands k (get_or xs j 0) → at_any c i k (terms_at s xs) ≡ true
  unfolding at terms_at
  any_term k [] j h e = absurd (omega arith)
  any_term k (x ∷ xs) zero h e = or_left (at c i k (term_of s x)) (at_any c i k (terms_at s xs)) e
  any_term k (x ∷ xs) (suc j) h e = or_right (at c i k (term_of s x)) (at_any c i k (terms_at s xs)) (any_term k xs j (omega arith) e)

  -- which one
  term_which : (k : ℕ) (xs : List ℕ) → at_any c i k (terms_at s xs) ≡ true → (j : ℕ) × (j < length xs) × Stands k (get_or xs j 0)
  unfolding at terms_at
  term_which k [] e = never (cc)
  term_which k (x ∷ xs) e = elim (see (at c i k (term_of s x))) [
    | is true p ↦ (0, omega arith, p)
    | is false p ↦ let r = term_which k xs (or-other (at c i k (term_of s x)) (at_any c i k (terms_at s xs)) p e) in (suc r.0, omega (arith, r.1), r.2)
  ]

  module _ (E : Earlier s) where
    -- a node's term has it at its top or below
    at-node : (k x : ℕ) → x < length s → at c i k (term_of s x) ≡ (hits x k || at_any c i k (terms_at s (kids s x)))
    unfolding at hits terms_at
    at-node k x h = elim (see (is_variable (get_or s x no_node))) [
      | is true v ↦
          let b = below-variable (get_or s x no_node) v in
          let n = and_no (eqb (get_or s x no_node).head c) in
          rw (term_variable s E x h v, b, n, at)
      | is false v ↦ let b = below-applied (get_or s x no_node) v in rw (term_applied s E x h v, b, at)
    ]

    -- at its top
    pub stands_here : (k x : ℕ) → x < length s → hits x k ≡ true → Stands k x
    stands_here k x h e = at-node k x h ∙ or_left (hits x k) (at_any c i k (terms_at s (kids s x))) e

    -- below
    pub stands_below : (k x j : ℕ) → x < length s → j < length (kids s x) → Stands k (get_or (kids s x) j 0) → Stands k x
    stands_below k x j h l e = at-node k x h ∙ or_right (hits x k) (at_any c i k (terms_at s (kids s x))) (any_term k (kids s x) j l e)

    -- if not at its top, below
    pub stands_deeper : (k x : ℕ) → x < length s → Stands k x → hits x k ≡ false → (j : ℕ) × (j < length (kids s x)) × Stands k (get_or (kids s x) j 0)
    stands_deeper k x h e n = term_which k (kids s x) (or-other (hits x k) (at_any c i k (terms_at s (kids s x))) n (sym (at-node k x h) ∙ e))

  -- a node with another head has none
  pub hits-other : (x k : ℕ) → ((get_or s x no_node).head ≡ c → ⊥) → hits x k ≡ false
  unfolding hits
  hits-other x k d = rw (ne_eqb (get_or s x no_node).head c d, ◌and◌)

  -- a list that ends ahead of the position
  argument_none : (xs : List ℕ) (j k : ℕ) → length xs ≤ j → argument_is j k (terms_at s xs) ≡ false
  unfolding argument_is terms_at
  argument_none [] j k h = refl
  argument_none (x ∷ xs) zero k h = absurd (omega arith)
  argument_none (x ∷ xs) (suc j) k h = argument_none xs j k (omega arith)

  -- what stands at the position alone
  argument_term : (xs : List ℕ) (j k : ℕ) → j < length xs → argument_is j k (terms_at s xs) ≡ argument_is 0 k (cons (term_of s (get_or xs j 0)) nil)
  unfolding argument_is terms_at
  argument_term [] j k h = absurd (omega arith)
  argument_term (x ∷ xs) zero k h = elim (see (term_of s x)) [ is (var v) e ↦ rw (e, argument_is) | is (app f ts) e ↦ rw (e, argument_is) ]
  argument_term (x ∷ xs) (suc j) k h = argument_term xs j k (omega arith)

  -- nor has one without that position
  pub hits_short : (x k : ℕ) → length (kids s x) ≤ i → hits x k ≡ false
  unfolding hits
  hits_short x k h = rw (argument_none (kids s x) i k h) (and_no (eqb (get_or s x no_node).head c))

  module _ (E : Earlier s) (x y : ℕ) (head : (get_or s x no_node).head ≡ c) (there : i < length (kids s x)) (is_y : y ≡ get_or (kids s x) i 0) (ly : y < length s) where
    -- what stands there decides
    hits_there : (k : ℕ) → hits x k ≡ argument_is 0 k (cons (term_of s y) nil)
    unfolding hits
    hits_there k = let a = argument_term (kids s x) i k there in rw (eq-eqb (get_or s x no_node).head c head, ◌and◌, is_y) a

    -- an application is no variable
    pub hits-applied : (k : ℕ) → is_variable (get_or s y no_node) ≡ false → hits x k ≡ false
    unfolding argument_is
    hits-applied k v = hits_there k ∙ rw (term_applied s E y ly v, argument_is)

    -- a variable is the one with its number
    pub hits-variable : (k : ℕ) → is_variable (get_or s y no_node) ≡ true → hits x k ≡ eqb (number_of s y) k
    unfolding argument_is
    hits-variable k v = hits_there k ∙ rw (term_variable s E y ly v, argument_is)

  -- a variable that stands so is a node of the store
  pub stands_node : Earlier s → (k n x : ℕ) → x < n → x < length s → Stands k x → (y : ℕ) × (y < length s) × (is_variable (get_or s y no_node) ≡ true) × (number_of s y ≡ k)
  stands_node E k zero x h l e = absurd (omega arith)
  stands_node E k (suc n) x h l e = elim (see (hits x k)) [
    | is false t ↦
        let r = stands_deeper E k x l e t in
        let b = below_at x (kids s x) r.0 (E x l) r.1 in
        stands_node E k n (get_or (kids s x) r.0 0) (omega (arith, b)) (omega (arith, b)) r.2
    | is true t ↦ elim (ℕ_discrete (get_or s x no_node).head c) [
      | no d ↦ never (let z : true ≡ false = sym t ∙ hits-other x k d in cc)
      | yes q ↦ elim (dec_lt i (length (kids s x))) [
        | no d ↦ never (let z : true ≡ false = sym t ∙ hits_short x k (omega (arith, d)) in cc)
        | yes g ↦
            let y : ℕ = get_or (kids s x) i 0 in
            let ly : y < length s = omega (arith, below_at x (kids s x) i (E x l) g) in
            elim (see (is_variable (get_or s y no_node))) [
              | is true v ↦ (y, ly, v, eqb-true (number_of s y) k (sym (hits-variable E x y q g refl ly k v) ∙ t))
              | is false v ↦ never (let z : true ≡ false = sym t ∙ hits-applied E x y q g refl ly k v in cc)
            ]
      ]
    ]
  ]
