-- Well-sorted patterns of a store: they stay so when it grows, their parts are so too, and so they may be copied.
use Rattle.std.specs.Prelude.{◌≡◌, true, false, List, [], ◌∷◌, ℕ, ◌<◌, length}
use Rattle.std.proofs.Common.{sym, ap, ◌∙◌, arith}
use Rattle.std.proofs.Math.ListN.{get_or}
use Rattle.definition.specs.Test.{never}
use Rattle.definition.specs.Pack.{Node, no_node, Pack, symbol_of}
use Rattle.definition.specs.Store.{variable_node, is_variable, below}
use Rattle.definition.specs.Analysis.{parts}
use Rattle.definition.proofs.Laws.Store.{StoreOnce}
use Rattle.theory.specs.Derive.{In}
use Rattle.theory.specs.Copies.Terms.{Earlier, below-variable, below-applied}
use Rattle.theory.specs.Copies.Parts.{here, there, in_front, in_none, in_here, in_there, Inherited, parts_inherit, parts_self, parts_closed}
use Rattle.theory.specs.Patterns.Interned.{Grows, grows_long, grows_at}
use Rattle.theory.specs.Copies.Copying.{number_at, pattern_sort}
use Rattle.theory.specs.Copies.CopyNode.{PatternSorts, PartsFormed, OneEach}

-- a pattern of a sort, its variables having these sorts; patterns of these sorts
mutual
  pub data SortedPattern (P : Pack) (s : List Node) (sorts : ℕ → ℕ) : ℕ → ℕ → Type 0 where
    variable : (p k so : ℕ) → p < length s → get_or s p no_node ≡ variable_node k (sorts k) → sorts k ≡ so → SortedPattern P s sorts p so
    application : (p so : ℕ) → p < length s → is_variable (get_or s p no_node) ≡ false → (get_or s p no_node).head < length P.symbols → (symbol_of P (get_or s p no_node).head).output ≡ so
        → (args : List ℕ) → (get_or s p no_node).args ≡ args → SortedPatterns P s sorts args (symbol_of P (get_or s p no_node).head).inputs → SortedPattern P s sorts p so

  pub data SortedPatterns (P : Pack) (s : List Node) (sorts : ℕ → ℕ) : List ℕ → List ℕ → Type 0 where
    none : SortedPatterns P s sorts [] []
    more : (p so : ℕ) (ps ss : List ℕ) → SortedPattern P s sorts p so → SortedPatterns P s sorts ps ss → SortedPatterns P s sorts (p ∷ ps) (so ∷ ss)

-- a variable's node is a variable
pub variable_is : (n : Node) (k so : ℕ) → n ≡ variable_node k so → is_variable n ≡ true
unfolding is_variable
variable_is n k so e = ap is_variable e

-- patterns with the same variables' sorts in a store that has grown
mutual
  pub sorted_grows : (P : Pack) (s t : List Node) (sorts : ℕ → ℕ) → Grows s t → (p so : ℕ) → SortedPattern P s sorts p so → SortedPattern P t sorts p so
  sorted_grows P s t sorts G _ _ (variable p k so l e f) =
      let g = grows_long s t G in
      variable p k so (omega arith) (grows_at s t no_node p G l ∙ e) f
  sorted_grows P s t sorts G _ _ (application p so l v h o args a S) =
      let g = grows_long s t G in
      let e = grows_at s t no_node p G l in
      application p so (omega arith) (rw e v) (rw e h) (rw e o) args (rw e a) (rw e (sorteds_grow P s t sorts G args (symbol_of P (get_or s p no_node).head).inputs S))

  pub sorteds_grow : (P : Pack) (s t : List Node) (sorts : ℕ → ℕ) → Grows s t → (ps ss : List ℕ) → SortedPatterns P s sorts ps ss → SortedPatterns P t sorts ps ss
  sorteds_grow P s t sorts G _ _ none = none
  sorteds_grow P s t sorts G _ _ (more p so ps ss S Ss) = more p so ps ss (sorted_grows P s t sorts G p so S) (sorteds_grow P s t sorts G ps ss Ss)

module _ (P : Pack) (s : List Node) (sorts : ℕ → ℕ) where
  -- a sorted pattern lies in the store
  pub sorted_inside : (p so : ℕ) → SortedPattern P s sorts p so → p < length s
  sorted_inside _ _ (variable p k so l e f) = l
  sorted_inside _ _ (application p so l v h o args a S) = l

  -- its sort
  pub sorted_sort : (p so : ℕ) → SortedPattern P s sorts p so → pattern_sort P s p ≡ so
  unfolding pattern_sort
  sorted_sort _ _ (variable p k so l e f) = rw (variable_is (get_or s p no_node) k (sorts k) e, pattern_sort) (ap (λ (v : Node). get_or v.args 1 0) e ∙ f)
  sorted_sort _ _ (application p so l v h o args a S) = rw (v, pattern_sort) o

  -- a variable's node
  pub sorted_variable : (p so : ℕ) → SortedPattern P s sorts p so → is_variable (get_or s p no_node) ≡ true → get_or s p no_node ≡ variable_node (number_at s p) (sorts (number_at s p))
  sorted_variable _ _ (variable p k so l e f) w =
      let n : number_at s p ≡ k = ap (λ (v : Node). get_or v.args 0 0) e in
      e ∙ ap (λ (k : ℕ). variable_node k (sorts k)) (sym n)
  sorted_variable _ _ (application p so l v h o args a S) w = never (cc)

  -- an element of sorted patterns is sorted
  sorteds_at : (ps ss : List ℕ) → SortedPatterns P s sorts ps ss → (a : ℕ) → In a ps → (so : ℕ) × SortedPattern P s sorts a so
  sorteds_at _ _ none a h = absurd (in_none a h)
  sorteds_at _ _ (more p so ps ss S Ss) a h = elim (in_front a p ps h) [
    | here e ↦ rw e (so, S)
    | there t ↦ sorteds_at ps ss Ss a t
  ]

  -- below a sorted pattern all is sorted
  sorted_below : (p so : ℕ) → SortedPattern P s sorts p so → (a : ℕ) → In a (below (get_or s p no_node)) → (so' : ℕ) × SortedPattern P s sorts a so'
  sorted_below _ _ (variable p k so l e f) a h = absurd (in_none a (rw (below-variable (get_or s p no_node) (variable_is (get_or s p no_node) k (sorts k) e)) at h))
  sorted_below _ _ (application p so l v h o args b S) a i = sorteds_at args (symbol_of P (get_or s p no_node).head).inputs S a (rw (below-applied (get_or s p no_node) v ∙ b) at i)

  -- every part of a sorted pattern is sorted
  pub sorted_parts : (p so : ℕ) → SortedPattern P s sorts p so → (q : ℕ) → In q (parts s p) → (so' : ℕ) × SortedPattern P s sorts q so'
  sorted_parts p so S = parts_inherit s (λ q. (so' : ℕ) × SortedPattern P s sorts q so') (λ q a R k. sorted_below q R.0 R.1 a k) p (so, S)

  -- sorted patterns have the sorts
  sorteds_sorts : (ps ss : List ℕ) → SortedPatterns P s sorts ps ss → PatternSorts P s ps ss
  sorteds_sorts _ _ none = tt
  sorteds_sorts _ _ (more p so ps ss S Ss) = (sorted_sort p so S, sorteds_sorts ps ss Ss)

  -- an application's head is a symbol
  sorted_head : (p so : ℕ) → SortedPattern P s sorts p so → is_variable (get_or s p no_node) ≡ false → (get_or s p no_node).head < length P.symbols
  sorted_head _ _ (variable p k so l e f) w = let v : is_variable (get_or s p no_node) ≡ true = variable_is (get_or s p no_node) k (sorts k) e in never (cc)
  sorted_head _ _ (application p so l v h o args a S) w = h

  -- its arguments have the input sorts
  sorted_arguments : (p so : ℕ) → SortedPattern P s sorts p so → is_variable (get_or s p no_node) ≡ false → PatternSorts P s (get_or s p no_node).args (symbol_of P (get_or s p no_node).head).inputs
  sorted_arguments _ _ (variable p k so l e f) w = let v : is_variable (get_or s p no_node) ≡ true = variable_is (get_or s p no_node) k (sorts k) e in never (cc)
  sorted_arguments _ _ (application p so l v h o args a S) w = rw a (sorteds_sorts args (symbol_of P (get_or s p no_node).head).inputs S)

  -- the parts of a sorted pattern are well sorted
  pub sorted_formed : (p so : ℕ) → SortedPattern P s sorts p so → PartsFormed P s (parts s p)
  sorted_formed p so S = record {
    inside = λ q i. let R = sorted_parts p so S q i in sorted_inside q R.0 R.1;
    head = λ q i e. let R = sorted_parts p so S q i in sorted_head q R.0 R.1 e;
    sorts = λ q i e. let R = sorted_parts p so S q i in sorted_arguments q R.0 R.1 e;
  }

  -- in a store without a node twice each variable number is one part's
  pub sorted_each : (p so : ℕ) → StoreOnce s → SortedPattern P s sorts p so → OneEach s (parts s p)
  sorted_each p so O S q r i j v w e =
      let Q = sorted_parts p so S q i in
      let R = sorted_parts p so S r j in
      O q r (sorted_inside q Q.0 Q.1) (sorted_inside r R.0 R.1)
      (sorted_variable q Q.0 Q.1 v ∙ ap (λ (k : ℕ). variable_node k (sorts k)) e ∙ sym (sorted_variable r R.0 R.1 w))

  -- the variables' sorts may be others that agree on all nodes with what is inherited
  module _ (sorts' : ℕ → ℕ) (Q : ℕ → Type 0) (I : Inherited s Q)
      (agree : (q : ℕ) → Q q → is_variable (get_or s q no_node) ≡ true → sorts (number_at s q) ≡ sorts' (number_at s q)) where
    mutual
      exchange : (p so : ℕ) → SortedPattern P s sorts p so → Q p → SortedPattern P s sorts' p so
      exchange _ _ (variable p k so l e f) h =
          let n : number_at s p ≡ k = ap (λ (v : Node). get_or v.args 0 0) e in
          let g : sorts k ≡ sorts' k = rw n at (agree p h (variable_is (get_or s p no_node) k (sorts k) e)) in
          variable p k so l (e ∙ ap (variable_node k) g) (sym g ∙ f)
      exchange _ _ (application p so l v h o args a S) k =
          application p so l v h o args a (exchanges args (symbol_of P (get_or s p no_node).head).inputs S (λ b i. I p b k (rw (below-applied (get_or s p no_node) v ∙ a) i)))

      exchanges : (ps ss : List ℕ) → SortedPatterns P s sorts ps ss → ((a : ℕ) → In a ps → Q a) → SortedPatterns P s sorts' ps ss
      exchanges _ _ none h = none
      exchanges _ _ (more p so ps ss S Ss) h = more p so ps ss (exchange p so S (h p (in_here p ps))) (exchanges ps ss Ss (λ a i. h a (in_there a p ps i)))

  -- the variables' sorts may be others that agree on the pattern's own variables
  pub sorted_exchange : Earlier s → (sorts' : ℕ → ℕ) (p so : ℕ) → SortedPattern P s sorts p so
      → ((q : ℕ) → In q (parts s p) → is_variable (get_or s q no_node) ≡ true → sorts (number_at s q) ≡ sorts' (number_at s q)) → SortedPattern P s sorts' p so
  sorted_exchange E sorts' p so S agree = exchange sorts' (λ q. In q (parts s p)) (parts_closed s E p) agree p so S (parts_self s p)
