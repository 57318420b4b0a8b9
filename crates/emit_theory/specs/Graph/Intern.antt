-- Interning a well-sorted node keeps a store well sorted: old patterns keep their sorts, and the node has its own.
use Rattle.std.specs.Prelude.{◌≡◌, refl, true, false, List, [], ◌∷◌, ◌++◌, ℕ, ◌<◌, ◌≤◌, ltb, length, get_or}
use Rattle.std.proofs.Common.{sym, ap, ◌∙◌, arith, eq-eqb, ne_eqb}
use Rattle.std.proofs.Math.Option.{none, some}
use Rattle.std.proofs.lemmas.List.{get_or_at}
use Rattle.definition.specs.Test.{is, see, never, tests}
use Rattle.definition.specs.Pack.{Node, no_node, Pack, symbol_of}
use Rattle.definition.specs.Good.{Few}
use Rattle.definition.proofs.Laws.Grow.{length_more}
use Rattle.definition.specs.Store.{variable_head, variable_node, is_variable, place_of, Stored, intern}
use Rattle.theory.specs.Copies.Copying.{pattern_sort}
use Rattle.theory.specs.Patterns.Interned.{Grows, with, grows_at, interned}
use Rattle.emit_theory.specs.Stores.{Sorted, SortedNode, SortedStore}

-- the sort of a node: a variable's own, or its head's output
unfoldable pub node_sort : Pack → Node → ℕ
node_sort P n = elim (is_variable n) [ true ↦ get_or n.args 1 0 | false ↦ (symbol_of P n.head).output ]

-- a pattern's sort is its node's
pub sort-node : (P : Pack) (s : List Node) (p : ℕ) → pattern_sort P s p ≡ node_sort P (get_or s p no_node)
unfolding pattern_sort node_sort
sort-node P s p = refl

-- as a store grows, its patterns keep their sorts
pub sort_grows : (P : Pack) (s t : List Node) → Grows s t → (p : ℕ) → p < length s → pattern_sort P t p ≡ pattern_sort P s p
sort_grows P s t G p l = sort-node P t p ∙ ap (node_sort P) (grows_at s t no_node p G l) ∙ sym (sort-node P s p)

-- patterns before i are so in the store that has grown
pub sorts-grow : (P : Pack) (s t : List Node) → Grows s t → (i : ℕ) → i ≤ length s → (ss ps : List ℕ) → Sorted P s i ss ps → Sorted P t i ss ps
sorts-grow P s t G i b [] [] S = tt
sorts-grow P s t G i b [] (p ∷ ps) S = absurd S
sorts-grow P s t G i b (so ∷ ss) [] S = absurd S
sorts-grow P s t G i b (so ∷ ss) (p ∷ ps) S = (S.0, sort_grows P s t G p (omega (arith, S.0)) ∙ S.1, sorts-grow P s t G i b ss ps S.2)

-- patterns before i are before what is no less
pub sorts-later : (P : Pack) (s : List Node) (i j : ℕ) → i ≤ j → (ss ps : List ℕ) → Sorted P s i ss ps → Sorted P s j ss ps
sorts-later P s i j b [] [] S = tt
sorts-later P s i j b [] (p ∷ ps) S = absurd S
sorts-later P s i j b (so ∷ ss) [] S = absurd S
sorts-later P s i j b (so ∷ ss) (p ∷ ps) S = (omega (arith, S.0), S.1, sorts-later P s i j b ss ps S.2)

-- a well-sorted node is so in the store that has grown
pub node_grows : (P : Pack) (s t : List Node) → Grows s t → (i : ℕ) → i ≤ length s → (n : Node) → SortedNode P s i n → SortedNode P t i n
node_grows P s t G i b n S = record { variable = S.variable; head = S.head; args = λ e. sorts-grow P s t G i b (symbol_of P n.head).inputs n.args (S.args e) }

-- a variable's node is well sorted anywhere
pub variable_sorted : (P : Pack) (s : List Node) (i k so : ℕ) → SortedNode P s i (variable_node k so)
unfolding is_variable
variable_sorted P s i k so = record {
  variable = λ e. refl;
  head = λ e. never (let z : true ≡ false = sym (eq-eqb variable_head variable_head refl) ∙ e in cc);
  args = λ e. never (let z : true ≡ false = sym (eq-eqb variable_head variable_head refl) ∙ e in cc);
}

-- an application is, over patterns before it of its head's input sorts
pub application_sorted : (P : Pack) (s : List Node) (i : ℕ) (n : Node) → is_variable n ≡ false → n.head < length P.symbols → Sorted P s i (symbol_of P n.head).inputs n.args → SortedNode P s i n
application_sorted P s i n v l S = record { variable = λ e. never (let z : true ≡ false = sym e ∙ v in cc); head = λ e. l; args = λ e. S }

-- a symbol's number is not that of variables
pub symbol-node : (P : Pack) → Few P → (n : Node) → n.head < length P.symbols → is_variable n ≡ false
unfolding is_variable
symbol-node P few n l = let f = few.symbols in ne_eqb n.head variable_head (λ e. omega arith)

-- a variable's sort
pub node_sort-variable : (P : Pack) (k so : ℕ) → node_sort P (variable_node k so) ≡ so
unfolding node_sort is_variable
node_sort-variable P k so = refl

-- an application's
pub node_sort_application : (P : Pack) (n : Node) → is_variable n ≡ false → node_sort P n ≡ (symbol_of P n.head).output
unfolding node_sort
node_sort_application P n v = rw (v, node_sort)

-- one well-sorted node more
pub store_more : (P : Pack) (s : List Node) (n : Node) → SortedStore P s → SortedNode P s (length s) n → SortedStore P (s ++ (n ∷ []))
store_more P s n S N i l =
    let t = s ++ (n ∷ []) in
    let G : Grows s t = with (n ∷ []) refl in
    let m = length_more s n in
    elim (see (ltb i (length s))) [
      | is true p ↦ let o : i < length s = omega tests in rw (grows_at s t no_node i G o) (node_grows P s t G i (omega arith) (get_or s i no_node) (S i o))
      | is false p ↦
          let e : i ≡ length s = omega tests in
          rw (e, get_or_at s n [] no_node (length s) refl) (node_grows P s t G (length s) (omega arith) n N)
    ]

-- a well-sorted store that has grown, with a pattern for a node of a sort
pub record Held (P : Pack) (so : ℕ) (s : List Node) (n : Node) (r : Stored) : Type 0 where
  pub sorted : SortedStore P r.store
  pub grows : Grows s r.store
  pub within : r.number < length r.store
  pub is : get_or r.store r.number no_node ≡ n
  pub sort : pattern_sort P r.store r.number ≡ so

-- interning a well-sorted node
pub intern_sorted : (P : Pack) (s : List Node) (n : Node) → SortedStore P s → SortedNode P s (length s) n → Held P (node_sort P n) s n (intern s n)
unfolding intern
intern_sorted P s n S N =
    let I = interned s n in
    record {
      sorted = elim (see (place_of n s 0)) [
        | is (some p) e ↦ rw (e, intern) S
        | is none e ↦ rw (e, intern) (store_more P s n S N)
      ];
      grows = I.grows;
      within = I.within;
      is = I.is;
      sort = sort-node P (intern s n).store (intern s n).number ∙ ap (node_sort P) I.is;
    }

-- interning a variable
pub intern-variable : (P : Pack) (s : List Node) (k so : ℕ) → SortedStore P s → Held P so s (variable_node k so) (intern s (variable_node k so))
intern-variable P s k so S =
    let H = intern_sorted P s (variable_node k so) S (variable_sorted P s (length s) k so) in
    record { sorted = H.sorted; grows = H.grows; within = H.within; is = H.is; sort = H.sort ∙ node_sort-variable P k so }

-- interning an application over patterns of its head's input sorts
pub intern_application : (P : Pack) (s : List Node) (n : Node) → is_variable n ≡ false → SortedStore P s → n.head < length P.symbols → Sorted P s (length s) (symbol_of P n.head).inputs n.args
    → Held P (symbol_of P n.head).output s n (intern s n)
intern_application P s n v S l A =
    let H = intern_sorted P s n S (application_sorted P s (length s) n v l A) in
    record { sorted = H.sorted; grows = H.grows; within = H.within; is = H.is; sort = H.sort ∙ node_sort_application P n v }
