-- The distinct nodes of a pattern: those that the memoised walk meets, with the pattern itself, and with a node all that is below it.
use Rattle.std.specs.Prelude.{◌≡◌, refl, Bool, true, false, List, [], ◌∷◌, ◌++◌, ℕ, zero, suc, ◌<◌, ◌≤◌, eqb, ltb, length, get_or}
use Rattle.std.proofs.Common.{sym, ap, ◌∙◌, subst, arith, eqb-true, eq-eqb, ne_eqb, length-append}
use Rattle.std.proofs.Math.ListN.{get_or-append, get_or-eq_default}
use Rattle.definition.specs.Test.{is, see, never, tests, any}
use Rattle.definition.specs.Pack.{Node, no_node}
use Rattle.definition.specs.Store.{is_variable, below}
use Rattle.definition.specs.Good.{Below}
use Rattle.definition.proofs.Laws.Grow.{below_more}
use Rattle.definition.specs.Analysis.{parts_from, parts}
use Rattle.theory.specs.Derive.{In, at}
use Rattle.theory.specs.Walks.Walk.{Under, below-under, Known, visit, walk}
use Rattle.theory.specs.Walks.WalkOnce.{once_induct}
use Rattle.theory.specs.Copies.Terms.{Earlier}

-- an element of a list with one in front: that one, or one of the list
pub data Front {A : Type 0} (x y : A) (ys : List A) : Type 0 where
  here : x ≡ y → Front x y ys
  there : In x ys → Front x y ys

-- which of the two it is
pub in_front : {A : Type 0} (x y : A) (ys : List A) → In x (y ∷ ys) → Front x y ys
in_front x y ys (at zero d l e) = here (sym e)
in_front x y ys (at (suc i) d l e) = there (at i d (omega arith) e)

-- no element of the empty list
pub in_none : {A : Type 0} (x : A) → In x [] → ⊥
in_none x (at i d l e) = absurd (omega arith)

-- the one in front
pub in_here : {A : Type 0} (x : A) (xs : List A) → In x (x ∷ xs)
in_here x xs = at 0 x (omega arith) refl

-- one behind it
pub in_there : {A : Type 0} (x y : A) (ys : List A) → In x ys → In x (y ∷ ys)
in_there x y ys (at i d l e) = at (suc i) d (omega arith) e

-- an element of the first of two lists
pub in_left : {A : Type 0} (x : A) (xs ys : List A) → In x xs → In x (xs ++ ys)
in_left x xs ys (at i d l e) = at i d (omega (arith, length-append xs ys)) (get_or-append xs ys d i l ∙ e)

-- an element of the second
pub in_right : {A : Type 0} (x : A) (xs ys : List A) → In x ys → In x (xs ++ ys)
in_right x [] ys h = h
in_right x (y ∷ xs) ys h = in_there x y (xs ++ ys) (in_right x xs ys h)

-- an element of two lists is one of the first or of the second
pub data Side {A : Type 0} (x : A) (xs ys : List A) : Type 0 where
  left : In x xs → Side x xs ys
  right : In x ys → Side x xs ys

-- which of the two it is in
pub in_append : {A : Type 0} (x : A) (xs ys : List A) → In x (xs ++ ys) → Side x xs ys
in_append x [] ys h = right h
in_append x (y ∷ xs) ys h = elim (in_front x y (xs ++ ys) h) [
  | here e ↦ left (rw e (in_here y xs))
  | there t ↦ elim (in_append x xs ys t) [ left l ↦ left (in_there x y xs l) | right r ↦ right r ]
]

-- an element of numbers below n is below n
pub in_below : (n : ℕ) (xs : List ℕ) → Below n xs → (x : ℕ) → In x xs → x < n
in_below n [] b x h = absurd (in_none x h)
in_below n (y ∷ xs) b x h = elim (in_front x y xs h) [
  | here e ↦ omega (arith, b.0)
  | there t ↦ in_below n xs b.1 x t
]

-- the test of a list finds an element
pub in_any : (x : ℕ) (xs : List ℕ) → In x xs → any (eqb x) xs ≡ true
unfolding any
in_any x [] h = absurd (in_none x h)
in_any x (y ∷ xs) h = elim (in_front x y xs h) [
  | here e ↦ rw (eq-eqb x y e)
  | there t ↦ elim (see (eqb x y)) [ is true p ↦ rw p | is false p ↦ rw (p, in_any x xs t) ]
]

-- what the test of a list finds is an element
pub any_in : (x : ℕ) (xs : List ℕ) → any (eqb x) xs ≡ true → In x xs
unfolding any
any_in x [] h = never (cc)
any_in x (y ∷ xs) h = elim (see (eqb x y)) [
  | is true p ↦ let e = eqb-true x y p in rw e (in_here y xs)
  | is false p ↦ in_there x y xs (any_in x xs (rw p at h))
]

-- the test of a list finds no more with another number at the end
any_snoc : (x y : ℕ) (xs : List ℕ) → (x ≡ y → ⊥) → any (eqb y) (xs ++ (x ∷ [])) ≡ any (eqb y) xs
unfolding any
any_snoc x y [] n = rw (ne_eqb y x (λ e. n (sym e)))
any_snoc x y (z ∷ xs) n = elim (see (eqb y z)) [
  | is true p ↦ rw p
  | is false p ↦ rw p (any_snoc x y xs n)
]

-- what stands below a number of a store
abbrev pub kids_in : List Node → ℕ → List ℕ
kids_in s p = below (get_or s p no_node)

-- whether a number was met
abbrev pub is_seen : List ℕ → ℕ → Bool
is_seen seen p = any (eqb p) seen

-- one that is met now
abbrev pub add_seen : ℕ → List ℕ → List ℕ
add_seen p seen = seen ++ (p ∷ [])

-- it was met then
seen-made : (p : ℕ) (seen : List ℕ) → is_seen (add_seen p seen) p ≡ true
seen-made p seen = in_any p (add_seen p seen) (in_right p seen (p ∷ []) (in_here p []))

-- the numbers that are met are those of the memoised walk
pub parts-walk : (s : List Node) (d : ℕ) (ps seen : List ℕ) → parts_from d s ps seen ≡ walk (kids_in s) is_seen add_seen d ps seen
unfolding parts_from walk
parts-walk s zero [] seen = refl
parts-walk s zero (p ∷ ps) seen = refl
parts-walk s (suc d) [] seen = refl
parts-walk s (suc d) (p ∷ ps) seen = elim (see (any (eqb p) seen)) [
  | is true e ↦ rw (e, visit, parts_from) (parts-walk s (suc d) ps seen)
  | is false e ↦
      let ih = parts-walk s d (kids_in s p) seen in
      rw (e, visit, parts_from) (parts-walk s (suc d) ps (add_seen p (parts_from d s (kids_in s p) seen)) ∙ ap (λ (l : List ℕ). walk (kids_in s) is_seen add_seen (suc d) ps (add_seen p l)) ih)
]

-- what stands below a number is earlier: a number is its own rank
pub kids_fall : (s : List Node) → Earlier s → (p : ℕ) → Under (λ n. n) p (kids_in s p)
unfolding below is_variable
kids_fall s E p = elim (see (ltb p (length s))) [
  | is true h ↦ below-under p (kids_in s p) (E p (omega tests))
  | is false h ↦
      let e : kids_in s p ≡ [] = ap below (get_or-eq_default s no_node {n = p} (omega tests)) in
      subst (λ (xs : List ℕ). Under (λ n. n) p xs) (sym e) tt
]

-- what stands below a number of the store is one
pub kids_inside : (s : List Node) → Earlier s → (p : ℕ) → p < length s → Below (length s) (kids_in s p)
kids_inside s E p h = below_more p (length s) (kids_in s p) (omega arith) (E p h)

-- what all that is below a node has with it
abbrev pub Inherited : List Node → (ℕ → Type 0) → Type 0
Inherited s Q = (q a : ℕ) → Q q → In a (kids_in s q) → Q a

-- what the numbers have that are met from, and those seen, all have that are met
parts_from_inherit : (s : List Node) (Q : ℕ → Type 0) → Inherited s Q → (d : ℕ) (ps seen : List ℕ) → ((q : ℕ) → In q ps → Q q) → ((q : ℕ) → In q seen → Q q)
    → (q : ℕ) → In q (parts_from d s ps seen) → Q q
unfolding parts_from
parts_from_inherit s Q I zero [] seen W S q h = S q h
parts_from_inherit s Q I zero (p ∷ ps) seen W S q h = S q h
parts_from_inherit s Q I (suc d) [] seen W S q h = S q h
parts_from_inherit s Q I (suc d) (p ∷ ps) seen W S q h = elim (see (any (eqb p) seen)) [
  | is true e ↦ parts_from_inherit s Q I (suc d) ps seen (λ w k. W w (in_there w p ps k)) S q (rw (e, parts_from) at h)
  | is false e ↦
      let Wp = W p (in_here p ps) in
      let more = parts_from d s (kids_in s p) seen in
      let T : (w : ℕ) → In w (add_seen p more) → Q w = λ w k. elim (in_append w more (p ∷ []) k) [
        | left l ↦ parts_from_inherit s Q I d (kids_in s p) seen (λ a b. I p a Wp b) S w l
        | right r ↦ elim (in_front w p [] r) [ here i ↦ rw i Wp | there t ↦ absurd (in_none w t) ]
      ] in
      parts_from_inherit s Q I (suc d) ps (add_seen p more) (λ w k. W w (in_there w p ps k)) T q (rw (e, parts_from) at h)
]

-- what a pattern has all its parts have
pub parts_inherit : (s : List Node) (Q : ℕ → Type 0) → Inherited s Q → (p : ℕ) → Q p → (q : ℕ) → In q (parts s p) → Q q
unfolding parts
parts_inherit s Q I p Qp q h =
    parts_from_inherit s Q I (suc p) (p ∷ []) [] (λ w k. elim (in_front w p [] k) [ here e ↦ rw e Qp | there t ↦ absurd (in_none w t) ]) (λ w k. absurd (in_none w k)) q h

-- the pattern itself is one
pub parts_self : (s : List Node) (p : ℕ) → In p (parts s p)
unfolding parts any
parts_self s p = in_right p (parts_from p s (kids_in s p) []) (p ∷ []) (in_here p [])

-- none is beyond it
pub parts_upto : (s : List Node) → Earlier s → (p q : ℕ) → In q (parts s p) → q ≤ p
parts_upto s E p = parts_inherit s (λ q. q ≤ p) (λ q a l k. let m = under_in q (kids_in s q) (kids_fall s E q) a k in omega arith) p (omega arith)
  where
    under_in : (n : ℕ) (xs : List ℕ) → Under (λ n. n) n xs → (x : ℕ) → In x xs → x < n
    under_in n [] u x h = absurd (in_none x h)
    under_in n (y ∷ xs) u x h = elim (in_front x y xs h) [
      | here e ↦ omega (arith, u.0)
      | there t ↦ under_in n xs u.1 x t
    ]

-- numbers that were met
known_in : (seen xs : List ℕ) → Known is_seen seen xs → (x : ℕ) → In x xs → In x seen
known_in seen [] k x h = absurd (in_none x h)
known_in seen (y ∷ xs) k x h = elim (in_front x y xs h) [
  | here e ↦ rw e (any_in y seen k.0)
  | there t ↦ known_in seen xs k.1 x t
]

-- with a node all that is below it is one
pub parts_closed : (s : List Node) → Earlier s → (p : ℕ) → Inherited s (λ q. In q (parts s p))
unfolding parts
parts_closed s E p =
    rw (parts-walk s (suc p) (p ∷ []) [])
    (once_induct (kids_in s) is_seen add_seen seen-made any_snoc (λ n. n) (kids_fall s E)
    (λ xs seen met. Inherited s (λ q. In q seen) → Inherited s (λ q. In q met))
    (λ seen I. I)
    (λ x seen k I. I)
    (λ x seen met u k J I q a h b. in_left a met (x ∷ []) (elim (in_append q met (x ∷ []) h) [
      | left l ↦ J I q a l b
      | right r ↦ elim (in_front q x [] r) [ here e ↦ known_in met (kids_in s x) k a (rw e at b) | there t ↦ absurd (in_none q t) ]
    ]))
    (λ x xs seen met all k l J K I. K (J I))
    (suc p) (p ∷ []) [] (omega arith, tt) (λ q a h b. absurd (in_none q h)))

-- what is met depends on the numbers' own nodes
parts_from_grows : (s t : List Node) → Earlier s → ((n : ℕ) → n < length s → get_or t n no_node ≡ get_or s n no_node) → (d : ℕ) (ps seen : List ℕ) → Below (length s) ps
    → parts_from d t ps seen ≡ parts_from d s ps seen
unfolding parts_from
parts_from_grows s t E G zero [] seen b = refl
parts_from_grows s t E G zero (p ∷ ps) seen b = refl
parts_from_grows s t E G (suc d) [] seen b = refl
parts_from_grows s t E G (suc d) (p ∷ ps) seen b = elim (see (any (eqb p) seen)) [
  | is true e ↦ rw (e, parts_from) (parts_from_grows s t E G (suc d) ps seen b.1)
  | is false e ↦
      let ih = parts_from_grows s t E G d (kids_in s p) seen (kids_inside s E p b.0) in
      let f : parts_from d t (kids_in t p) seen ≡ parts_from d s (kids_in s p) seen = ap (λ (n : Node). parts_from d t (below n) seen) (G p b.0) ∙ ih in
      rw (e, parts_from) (ap (λ (l : List ℕ). parts_from (suc d) t ps (add_seen p l)) f ∙ parts_from_grows s t E G (suc d) ps (add_seen p (parts_from d s (kids_in s p) seen)) b.1)
]

-- a pattern's parts stay where its store's nodes do
pub parts_stay : (s t : List Node) (p : ℕ) → Earlier s → ((n : ℕ) → n < length s → get_or t n no_node ≡ get_or s n no_node) → p < length s → parts t p ≡ parts s p
unfolding parts
parts_stay s t p E G l = parts_from_grows s t E G (suc p) (p ∷ []) [] (l, tt)
