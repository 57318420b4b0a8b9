-- The store: nodes told apart, the place that a search finds, interning by it, and words read back.
use Rattle.std.specs.Prelude.{◌≡◌, refl, true, false, List, [], ◌∷◌, ◌++◌, ℕ, zero, suc, ◌+◌, ◌-◌, ◌<◌, ◌≤◌, eqb, length, get_or}
use Rattle.std.proofs.Common.{sym, ap, ◌∙◌, append_assoc, arith, eqb-true, eq-eqb, length-append}
use Rattle.std.proofs.Math.Option.{none, some}
use Rattle.std.proofs.Math.Seq.{take-append_seam, drop-append_seam}
use Rattle.definition.specs.Test.{is, see, never, ◌and◌, and_parts, same, same_true, same_refl}
use Rattle.definition.specs.Pack.{Node, no_node}
use Rattle.definition.specs.Certificate.{same_node}
use Rattle.definition.specs.Store.{place_of, Stored, intern, pattern_words, nodes_in}

-- a node is known by its head and its arguments
pub same-node : (n m : Node) → same_node n m ≡ true → n ≡ m
unfolding same_node
same-node n m e =
    let p = and_parts (eqb n.head m.head) (same n.args m.args) e in
    let h = eqb-true n.head m.head p.0 in
    let a = same_true n.args m.args p.1 in
    λ i. record { head = h i; args = a i }

-- the place that is found holds the node
pub place_found : (n : Node) (s : List Node) (i p : ℕ) → place_of n s i ≡ some p → (k : ℕ) × (p ≡ i + k) × (k < length s) × (get_or s k no_node ≡ n)
unfolding place_of
place_found n [] i p e = never (cc)
place_found n (m ∷ s) i p e = elim (see (same_node n m)) [
  | is true t ↦ let q : some i ≡ some p = rw (t, place_of) at e in let r : i ≡ p = cc in (0, omega arith, omega arith, sym (same-node n m t))
  | is false t ↦ let r = place_found n s (suc i) p (rw (t, place_of) at e) in (suc r.0, omega (arith, r.1), omega (arith, r.2), r.3)
]

pub node-same : (n : Node) → same_node n n ≡ true
unfolding same_node ◌and◌
node-same n = rw (eq-eqb n.head n.head refl, ◌and◌) (same_refl n.args)

-- where none is found none is the node
pub place_none : (n : Node) (s : List Node) (i k : ℕ) → place_of n s i ≡ none → k < length s → get_or s k no_node ≡ n → ⊥
unfolding place_of
place_none n [] i k e h q = absurd (omega arith)
place_none n (m ∷ s) i zero e h q = elim (see (same_node n m)) [
  | is true t ↦ never (let z : some i ≡ none = rw (t, place_of) at e in cc)
  | is false t ↦ never (let z : true ≡ false = sym (node-same n) ∙ ap (same_node n) (sym q) ∙ t in cc)
]
place_none n (m ∷ s) i (suc k) e h q = elim (see (same_node n m)) [
  | is true t ↦ never (let z : some i ≡ none = rw (t, place_of) at e in cc)
  | is false t ↦ place_none n s (suc i) k (rw (t, place_of) at e) (omega arith) q
]

-- no node twice
abbrev pub StoreOnce : List Node → Type 0
StoreOnce s = (i j : ℕ) → i < length s → j < length s → get_or s i no_node ≡ get_or s j no_node → i ≡ j

-- a node that is there is given its place, and the store stays
pub intern-old : (s : List Node) (n : Node) (i : ℕ) → StoreOnce s → i < length s → get_or s i no_node ≡ n → ◌≡◌ {A = Stored} (intern s n) (record { number = i; store = s })
unfolding intern
intern-old s n i O h e = elim (see (place_of n s 0)) [
  | is (some p) q ↦
      let f = place_found n s 0 p q in
      let k : f.0 ≡ p = omega (arith, f.1) in
      let r : p ≡ i = sym k ∙ O f.0 i f.2 h (f.3 ∙ sym e) in
      rw (q, intern) (ap (λ (j : ℕ). record { number = j; store = s }) r)
  | is none q ↦ absurd (place_none n s 0 i q h e)
]

-- a node that is not there is put behind the others
pub intern-new : (s : List Node) (n : Node) → ((i : ℕ) → i < length s → get_or s i no_node ≡ n → ⊥) → ◌≡◌ {A = Stored} (intern s n) (record { number = length s; store = s ++ (n ∷ []) })
unfolding intern
intern-new s n absent = elim (see (place_of n s 0)) [
  | is (some p) q ↦ let f = place_found n s 0 p q in absurd (absent f.0 f.2 f.3)
  | is none q ↦ rw (q, intern)
]

-- patterns' words are read back as the patterns, whatever stands behind them
pub nodes-back : (k : ℕ) (s : List Node) (zs : List ℕ) → length s ≤ k → nodes_in k (pattern_words s ++ zs) ≡ s ++ nodes_in (k - length s) zs
unfolding nodes_in pattern_words
nodes-back k [] zs h = let e : k - 0 ≡ k = omega arith in rw e
nodes-back zero (n ∷ s) zs h = absurd (omega arith)
nodes-back (suc k) (n ∷ s) zs h =
    let e = append_assoc n.args (pattern_words s) zs in
    let m : suc k - suc (length s) ≡ k - length s = omega arith in
    rw (e, take-append_seam n.args (pattern_words s ++ zs), drop-append_seam n.args (pattern_words s ++ zs), m) (ap (λ (ns : List Node). n ∷ ns) (nodes-back k s zs (omega arith)))

-- a node has a word at least
pub length-pattern_words : (s : List Node) → length s ≤ length (pattern_words s)
unfolding pattern_words
length-pattern_words [] = omega arith
length-pattern_words (n ∷ s) = let i = length-pattern_words s in let l = length-append n.args (pattern_words s) in omega arith
