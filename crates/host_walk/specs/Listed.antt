-- Patterns by a list of words: for each node a count, a head and so many arguments, interned in order.
use Rattle.std.specs.Prelude.{◌≡◌, Bool, true, false, eqb, leb, ltb, get_or, take, drop}
use Rattle.std.proofs.Math.Path.{refl, sym}
use Rattle.std.proofs.Common.{ap, ◌∙◌, arith, add-one, length-append, drop_of_length-le, drop-cons, get_or-drop}
use mathlib.Core.List.{List, [], ◌∷◌, ◌++◌}
use Rattle.std.proofs.Math.Option.{none, some}
use Prim.Native.Nat.{ℕ, zero, suc, ◌+◌, ◌-◌, ◌≤◌, ◌<◌}
use Rattle.std.proofs.Math.Decide.{ℕ_discrete}
use borrow.Author.Tests.{lt-ltb, le-ltb, le-leb, lt-leb, leb-true, ltb-true, eqb-true, eq-eqb, ne_eqb}
use Rattle.std.proofs.Math.ListN.{length, length-drop, get_or-append}
use Rattle.std.proofs.Math.Seq.{take-length, drop-drop}
use Rattle.std.proofs.lemmas.List.{get_or_at}
use Rattle.definition.specs.Test.{is, see, never, ◌and◌, all, and_parts}
use Rattle.definition.specs.Pack.{Node, no_node}
use Rattle.definition.specs.Good.{Below}
use Rattle.definition.specs.Store.{is_variable, variable_head, below, place_of, intern, pattern_words}
use Rattle.theory.specs.Copies.Terms.{below-variable, below-applied, Patterns}
use Rattle.store.specs.Words.{node_with}

-- ---- the definition
-- the node ahead
unfoldable pub node_ahead : List ℕ → Node
unfolding node_with
node_ahead ws = node_with (take (suc (get_or ws 0 0)) (drop 1 ws))

-- so many words it takes
unfoldable pub words_ahead : List ℕ → ℕ
words_ahead ws = 2 + get_or ws 0 0

-- the arguments are among n earlier nodes
unfoldable pub earlier : ℕ → List ℕ → Bool
unfolding all
earlier n args = all (λ a. ltb a n) args

-- a pattern behind n others: a variable of two words, or an application to at most 16 earlier ones
unfoldable pub is_pattern : ℕ → Node → Bool
unfolding is_variable earlier ◌and◌
is_pattern n m = elim (is_variable m) [ true ↦ eqb (length m.args) 2 | false ↦ leb (length m.args) 16 and earlier n m.args ]

-- the words ahead are one
unfoldable pub is_ahead : ℕ → List ℕ → Bool
unfolding words_ahead node_ahead is_pattern ◌and◌
is_ahead n ws = leb (words_ahead ws) (length ws) and is_pattern n (node_ahead ws)

-- the store, or that words are no pattern, or that the store needs more words than are lent, by whichever comes first
pub data Listed : Type 0 where
  whole : List Node → Listed
  broken : Listed
  full : Listed

-- at most k nodes are interned into s, which has room for so many words
unfoldable pub list_from : ℕ → ℕ → List Node → List ℕ → Listed
unfolding is_ahead node_ahead words_ahead intern pattern_words
list_from zero room s ws = whole s
list_from (suc k) room s [] = whole s
list_from (suc k) room s (w ∷ ws) =
    elim (is_ahead (length s) (w ∷ ws)) [
      | false ↦ broken
      | true ↦
          let t = (intern s (node_ahead (w ∷ ws))).store in
          elim (leb (length (pattern_words t)) room) [ false ↦ full | true ↦ list_from k room t (drop (words_ahead (w ∷ ws)) (w ∷ ws)) ]
    ]

-- all nodes: each takes two words or more, so there are no more than words
unfoldable pub listed : List ℕ → ℕ → Listed
unfolding list_from
listed from room = list_from (length from) room [] from

-- ---- earlier nodes
-- none, one that is not, one that is, and all of them
earlier-none : (n : ℕ) → earlier n [] ≡ true
unfolding earlier all
earlier-none n = refl

-- one that is not
pub earlier_late : (n : ℕ) (xs : List ℕ) (i : ℕ) → i < length xs → n ≤ get_or xs i 0 → earlier n (drop i xs) ≡ false
unfolding earlier all ◌and◌
earlier_late n xs i h l = rw (drop-cons xs i 0 h, earlier, all, le-ltb _ _ l, ◌and◌)

-- one that is
pub earlier-next : (n : ℕ) (xs : List ℕ) (i : ℕ) → i < length xs → get_or xs i 0 < n → earlier n (drop (i + 1) xs) ≡ earlier n (drop i xs)
unfolding earlier all ◌and◌
earlier-next n xs i h l = rw (drop-cons xs i 0 h, add-one i, earlier, all, lt-ltb _ _ l, ◌and◌)

-- all of them
pub earlier-end : (n : ℕ) (xs : List ℕ) (i : ℕ) → length xs ≤ i → earlier n (drop i xs) ≡ true
earlier-end n xs i h = ap (earlier n) (drop_of_length-le xs h) ∙ earlier-none n

-- they are below
earlier-below : (n : ℕ) (xs : List ℕ) → earlier n xs ≡ true → Below n xs
unfolding earlier all
earlier-below n [] e = tt
earlier-below n (x ∷ xs) e = let p = and_parts (ltb x n) (all (λ a. ltb a n) xs) e in (ltb-true x n p.0, earlier-below n xs p.1)

-- ---- one pattern
module _ (n : ℕ) (key : List ℕ) where
  -- a variable
  pub variable_is : get_or key 0 0 ≡ variable_head → is_pattern n (node_with key) ≡ eqb (length key - 1) 2
  unfolding is_pattern is_variable node_with
  variable_is e = rw (eq-eqb _ _ e, is_pattern, length-drop 1 key)

  -- as its key is tested
  pub variable_three : get_or key 0 0 ≡ variable_head → 0 < length key → eqb (length key) 3 ≡ is_pattern n (node_with key)
  variable_three e h = three (length key) h ∙ sym (variable_is e)
    where
      three : (k : ℕ) → 0 < k → eqb k 3 ≡ eqb (k - 1) 2
      three k p = elim (ℕ_discrete k 3) [
        | yes q ↦ eq-eqb k 3 q ∙ sym (eq-eqb (k - 1) 2 (omega (arith, q)))
        | no d ↦ ne_eqb k 3 d ∙ sym (ne_eqb (k - 1) 2 (λ q. d (omega (arith, q, p))))
      ]

  module _ (d : get_or key 0 0 ≡ variable_head → ⊥) where
    -- an application with too many arguments
    pub many_no : 17 < length key → false ≡ is_pattern n (node_with key)
    unfolding is_pattern is_variable node_with ◌and◌
    many_no h = let m : 16 < length (drop 1 key) = omega (arith, length-drop 1 key) in sym (rw (ne_eqb _ _ d, is_pattern, lt-leb _ _ m, ◌and◌))

    -- with few
    pub few_are : length key ≤ 17 → earlier n (drop 1 key) ≡ is_pattern n (node_with key)
    unfolding is_pattern is_variable node_with ◌and◌
    few_are h = let m : length (drop 1 key) ≤ 16 = omega (arith, length-drop 1 key) in sym (rw (ne_eqb _ _ d, is_pattern, le-leb _ _ m, ◌and◌))

-- the arguments as they are lent
pub args-lent : (key : List ℕ) → 0 < length key → take (length key - 1) (drop 1 key) ≡ drop 1 key
args-lent key h = let e : length (drop 1 key) ≡ length key - 1 = length-drop 1 key in ap (λ (k : ℕ). take k (drop 1 key)) (sym e) ∙ take-length (drop 1 key)

-- ---- a store of patterns stays one
-- what a pattern is
record Fine (n : ℕ) (m : Node) : Type 0 where
  rests : Below n (below m)
  twos : is_variable m ≡ true → length m.args ≡ 2
  few : is_variable m ≡ false → length m.args ≤ 16

-- by the test
fine : (n : ℕ) (m : Node) → is_pattern n m ≡ true → Fine n m
unfolding is_pattern
fine n m e = elim (see (is_variable m)) [
  | is true v ↦
      let q : eqb (length m.args) 2 ≡ true = rw (v, is_pattern) at e in
      record { rests = rw (below-variable m v) tt; twos = λ _. eqb-true _ _ q; few = λ w. never (let z : true ≡ false = sym v ∙ w in cc) }
  | is false v ↦
      let q : (leb (length m.args) 16 and earlier n m.args) ≡ true = rw (v, is_pattern) at e in
      let p = and_parts (leb (length m.args) 16) (earlier n m.args) q in
      record { rests = rw (below-applied m v) (earlier-below n m.args p.1); twos = λ w. never (let z : false ≡ true = sym v ∙ w in cc); few = λ _. leb-true _ _ p.0 }
]

-- every node of a store of patterns is one
each_fine : (s : List Node) → Patterns s → (p : ℕ) → p < length s → Fine p (get_or s p no_node)
each_fine s Q p h = record { rests = Q.earlier p h; twos = Q.twos p h; few = Q.few p h }

-- and where each is, it is a store of patterns
all_fine : (s : List Node) → ((p : ℕ) → p < length s → Fine p (get_or s p no_node)) → Patterns s
all_fine s f = record { earlier = λ p h. (f p h).rests; twos = λ p h. (f p h).twos; few = λ p h. (f p h).few }

-- none
pub patterns_none : Patterns []
patterns_none = all_fine [] (λ p h. absurd (omega arith))

-- one behind the others
fine_more : (s : List Node) (m : Node) → Patterns s → Fine (length s) m → Patterns (s ++ (m ∷ []))
fine_more s m Q f = all_fine (s ++ (m ∷ [])) (λ p h. elim (ℕ_discrete p (length s)) [
  | yes e ↦ rw (get_or_at s m [] no_node p (sym e), e) f
  | no d ↦ let l : p < length s = omega (arith, h, d, length-append s (m ∷ [])) in rw (get_or-append s (m ∷ []) no_node p l) (each_fine s Q p l)
])

-- one interned
pub patterns_more : (s : List Node) (m : Node) → Patterns s → is_pattern (length s) m ≡ true → Patterns (intern s m).store
unfolding intern
patterns_more s m Q e = elim (see (place_of m s 0)) [
  | is (some i) q ↦ rw (q, intern) Q
  | is none q ↦ rw (q, intern) (fine_more s m Q (fine (length s) m e))
]

-- ---- the words ahead
module _ (from : List ℕ) (at : ℕ) where
  -- the words ahead
  abbrev ahead : List ℕ
  ahead = drop at from

  -- the count ahead
  count-ahead : get_or ahead 0 0 ≡ get_or from at 0
  count-ahead = let e : at + 0 ≡ at = omega arith in get_or-drop at from 0 0 ∙ ap (λ (j : ℕ). get_or from j 0) e

  -- how many they are
  pub words-ahead : words_ahead ahead ≡ 2 + get_or from at 0
  unfolding words_ahead
  words-ahead = rw count-ahead

  -- the node with the key that is lent
  pub node-ahead : (end : ℕ) → end ≡ at + 2 + get_or from at 0 → node_with (take (end - (at + 1)) (drop (at + 1) from)) ≡ node_ahead ahead
  unfolding node_ahead
  node-ahead end e =
      let k : end - (at + 1) ≡ suc (get_or (drop at from) 0 0) = omega (arith, e, count-ahead) in
      rw (k, drop-drop 1 at from)

  -- too few words
  pub few_words : (n : ℕ) → at ≤ length from → length from < at + words_ahead ahead → is_ahead n ahead ≡ false
  unfolding is_ahead ◌and◌
  few_words n l h = let f : length (drop at from) < words_ahead (drop at from) = omega (arith, length-drop at from) in rw (is_ahead, lt-leb _ _ f, ◌and◌)

  -- enough words
  pub all_words : (n : ℕ) → at + words_ahead ahead ≤ length from → is_ahead n ahead ≡ is_pattern n (node_ahead ahead)
  unfolding is_ahead ◌and◌
  all_words n h = let f : words_ahead (drop at from) ≤ length (drop at from) = omega (arith, length-drop at from) in rw (is_ahead, le-leb _ _ f, ◌and◌)

-- ---- one node read
-- nothing is left, the words are no pattern, there is no room for it, or it is read
module _ (k room : ℕ) (s : List Node) where
  -- nothing is left
  pub list_none : list_from k room s [] ≡ whole s
  unfolding list_from
  list_none = by_cases k
    where
      by_cases : (k : ℕ) → list_from k room s [] ≡ whole s
      by_cases zero = refl
      by_cases (suc k) = refl

  -- the words are no pattern
  pub list_broken : (ws : List ℕ) → 0 < length ws → is_ahead (length s) ws ≡ false → list_from (suc k) room s ws ≡ broken
  unfolding list_from
  list_broken [] l e = absurd (omega arith)
  list_broken (w ∷ ws) l e = rw (e, list_from)

  -- there is no room for it
  pub list_full : (ws : List ℕ) → 0 < length ws → is_ahead (length s) ws ≡ true → room < length (pattern_words (intern s (node_ahead ws)).store) → list_from (suc k) room s ws ≡ full
  unfolding list_from
  list_full [] l e h = absurd (omega arith)
  list_full (w ∷ ws) l e h = rw (e, list_from, lt-leb _ _ h)

  -- it is read
  pub list_next : (ws : List ℕ) → 0 < length ws → is_ahead (length s) ws ≡ true → length (pattern_words (intern s (node_ahead ws)).store) ≤ room → list_from (suc k) room s ws ≡ list_from k room (intern s (node_ahead ws)).store (drop (words_ahead ws) ws)
  unfolding list_from
  list_next [] l e h = absurd (omega arith)
  list_next (w ∷ ws) l e h = rw (e, list_from, le-leb _ _ h)
