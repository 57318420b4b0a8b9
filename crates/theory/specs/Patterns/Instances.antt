-- Instances of a sorted pattern: the assignment's trees for its variables are of their sorts just if the instance is of the pattern's.
use Rattle.std.specs.Prelude.{◌≡◌, refl, true, false, List, [], ◌∷◌, ℕ, zero, suc, ◌<◌, length, get_or}
use Rattle.std.proofs.Common.{sym, ap₂, ◌∙◌, arith}
use Rattle.std.proofs.Math.Path.{ap}
use Rattle.definition.specs.Test.{is, see, never}
use Rattle.definition.specs.Pack.{Node, no_node, Pack, symbol_of}
use Rattle.definition.specs.Tree.{Tree, tree, tree_then, turn, turns}
use Rattle.definition.specs.Store.{is_variable, below, term_of}
use Rattle.definition.specs.Analysis.{parts}
use Rattle.theory.specs.Derive.{SortedTree, SortedTrees, In, InstanceOf}
use Rattle.theory.specs.Copies.Terms.{Earlier, terms_at, below-variable, below-applied, term_variable, term_applied}
use Rattle.theory.specs.Copies.Parts.{here, there, in_front, in_none, in_here, in_there, in_below, Inherited, parts_inherit, parts_self, parts_upto, parts_closed, parts_stay}
use Rattle.theory.specs.Patterns.Interned.{Grows, grows_at}
use Rattle.theory.specs.Copies.Copying.{number_at}
use Rattle.theory.specs.Patterns.Sorted.{SortedPattern, variable, application, SortedPatterns, none, more, variable_is}
use Rattle.theory.specs.Patterns.Resolved.{term_grows}

-- the sort of a variable of a store
abbrev pub variable_sort : List Node → ℕ → ℕ
variable_sort s q = get_or (get_or s q no_node).args 1 0

module _ (s : List Node) (E : Earlier s) (ν : ℕ → Tree) where
  -- a variable becomes its tree
  pub turn-variable : (q : ℕ) → q < length s → is_variable (get_or s q no_node) ≡ true → turn ν (term_of s q) ≡ ν (number_at s q)
  unfolding turn
  turn-variable q l v = ap (turn ν) (term_variable s E q l v)

  -- an application becomes its head over what its arguments become
  pub turn-applied : (q : ℕ) → q < length s → is_variable (get_or s q no_node) ≡ false → turn ν (term_of s q) ≡ tree (get_or s q no_node).head (turns ν (terms_at s (get_or s q no_node).args))
  unfolding turn
  turn-applied q l v = ap (turn ν) (term_applied s E q l v)

-- assignments that make the same of each of several patterns
turns_agree : (s : List Node) (ν μ : ℕ → Tree) (ps : List ℕ) → ((a : ℕ) → In a ps → turn ν (term_of s a) ≡ turn μ (term_of s a)) → turns ν (terms_at s ps) ≡ turns μ (terms_at s ps)
unfolding turn terms_at
turns_agree s ν μ [] h = refl
turns_agree s ν μ (p ∷ ps) h = ap₂ tree_then (h p (in_here p ps)) (turns_agree s ν μ ps (λ a i. h a (in_there a p ps i)))

-- assignments that agree on a pattern's variables make the same of each of its parts, here of those below m
parts_agree : (s : List Node) → Earlier s → (ν μ : ℕ → Tree) (p : ℕ) → p < length s
    → ((q : ℕ) → In q (parts s p) → is_variable (get_or s q no_node) ≡ true → ν (number_at s q) ≡ μ (number_at s q))
    → (m q : ℕ) → q < m → In q (parts s p) → turn ν (term_of s q) ≡ turn μ (term_of s q)
parts_agree s E ν μ p l agree zero q b i = absurd (omega arith)
parts_agree s E ν μ p l agree (suc m) q b i =
    let node = get_or s q no_node in
    let u = parts_upto s E p q i in
    let k : q < length s = omega arith in
    elim (see (is_variable node)) [
      | is true v ↦ turn-variable s E ν q k v ∙ agree q i v ∙ sym (turn-variable s E μ q k v)
      | is false v ↦
          let each : (a : ℕ) → In a node.args → turn ν (term_of s a) ≡ turn μ (term_of s a) =
          λ a j.
          let w = in_below q node.args (rw (below-applied node v) at (E q k)) a j in
          parts_agree s E ν μ p l agree m a (omega arith) (parts_closed s E p q a i (rw (below-applied node v) j)) in
          turn-applied s E ν q k v ∙ ap (tree node.head) (turns_agree s ν μ node.args each) ∙ sym (turn-applied s E μ q k v)
    ]

-- assignments that agree on a pattern's variables make the same of it
pub turn_agree : (s : List Node) → Earlier s → (ν μ : ℕ → Tree) (p : ℕ) → p < length s
    → ((q : ℕ) → In q (parts s p) → is_variable (get_or s q no_node) ≡ true → ν (number_at s q) ≡ μ (number_at s q)) → turn ν (term_of s p) ≡ turn μ (term_of s p)
turn_agree s E ν μ p l agree = parts_agree s E ν μ p l agree (suc p) p (omega arith) (parts_self s p)

module _ (P : Pack) (s : List Node) (sorts : ℕ → ℕ) (E : Earlier s) (ν : ℕ → Tree) where
  -- what is inherited gives each variable a tree of its sort
  module _ (Q : ℕ → Type 0) (I : Inherited s Q) (fits : (q : ℕ) → Q q → is_variable (get_or s q no_node) ≡ true → SortedTree P (ν (number_at s q)) (variable_sort s q)) where
    mutual
      unfolding turn terms_at

      turn_sorted : (p so : ℕ) → SortedPattern P s sorts p so → Q p → SortedTree P (turn ν (term_of s p)) so
      turn_sorted _ _ (variable p k so l e f) h =
          let v = variable_is (get_or s p no_node) k (sorts k) e in
          let g : variable_sort s p ≡ so = ap (λ (n : Node). get_or n.args 1 0) e ∙ f in
          rw (turn-variable s E ν p l v, ← g) (fits p h v)
      turn_sorted _ _ (application p so l v h o args a S) k =
          let r = (symbol_of P (get_or s p no_node).head).inputs in
          rw (turn-applied s E ν p l v, a) (h, o, turns_sorted args r S (λ b i. I p b k (rw (below-applied (get_or s p no_node) v ∙ a) i)))

      turns_sorted : (ps ss : List ℕ) → SortedPatterns P s sorts ps ss → ((a : ℕ) → In a ps → Q a) → SortedTrees P (turns ν (terms_at s ps)) ss
      turns_sorted _ _ none h = tt
      turns_sorted _ _ (more p so ps ss S Ss) h = (turn_sorted p so S (h p (in_here p ps)), turns_sorted ps ss Ss (λ a i. h a (in_there a p ps i)))

  -- trees of their sorts for the variables make a tree of the pattern's sort
  pub instance_sorted : (p so : ℕ) → SortedPattern P s sorts p so
      → ((q : ℕ) → In q (parts s p) → is_variable (get_or s q no_node) ≡ true → SortedTree P (ν (number_at s q)) (variable_sort s q)) → SortedTree P (turn ν (term_of s p)) so
  instance_sorted p so S fits = turn_sorted (λ q. In q (parts s p)) (parts_closed s E p) fits p so S (parts_self s p)

  -- a sorted pattern whose instance is of its sort
  record Turned (p : ℕ) : Type 0 where
    sort : ℕ
    pattern : SortedPattern P s sorts p sort
    is : SortedTree P (turn ν (term_of s p)) sort

  -- so is each of several
  turned_at : (ps ss : List ℕ) → SortedPatterns P s sorts ps ss → SortedTrees P (turns ν (terms_at s ps)) ss → (a : ℕ) → In a ps → Turned a
  unfolding turn terms_at
  turned_at _ _ none T a h = absurd (in_none a h)
  turned_at _ _ (more p so ps ss S Ss) T a h = elim (in_front a p ps h) [
    | here e ↦ rw e (record { sort = so; pattern = S; is = T.0 })
    | there t ↦ turned_at ps ss Ss T.1 a t
  ]

  -- so is all below it
  turned_below : (p so : ℕ) → SortedPattern P s sorts p so → SortedTree P (turn ν (term_of s p)) so → (a : ℕ) → In a (below (get_or s p no_node)) → Turned a
  turned_below _ _ (variable p k so l e f) T a h = absurd (in_none a (rw (below-variable (get_or s p no_node) (variable_is (get_or s p no_node) k (sorts k) e)) at h))
  turned_below _ _ (application p so l v h o args b S) T a i =
      let r = (symbol_of P (get_or s p no_node).head).inputs in
      let U : SortedTree P (tree (get_or s p no_node).head (turns ν (terms_at s args))) so = rw (turn-applied s E ν p l v, b) at T in
      turned_at args r S U.2 a (rw (below-applied (get_or s p no_node) v ∙ b) at i)

  -- a tree of the pattern's sort is made of trees of their sorts for the variables
  pub sorted_instance : (p so : ℕ) → SortedPattern P s sorts p so → SortedTree P (turn ν (term_of s p)) so
      → (q : ℕ) → In q (parts s p) → is_variable (get_or s q no_node) ≡ true → SortedTree P (ν (number_at s q)) (variable_sort s q)
  sorted_instance p so S T q i v =
      let R = parts_inherit s Turned (λ q a R k. turned_below q R.sort R.pattern R.is a k) p (record { sort = so; pattern = S; is = T }) q i in
      variable_sorted q R.sort R.pattern R.is v
    where
      variable_sorted : (q so : ℕ) → SortedPattern P s sorts q so → SortedTree P (turn ν (term_of s q)) so → is_variable (get_or s q no_node) ≡ true → SortedTree P (ν (number_at s q)) (variable_sort s q)
      variable_sorted _ _ (variable q k so l e f) T v =
          let g : variable_sort s q ≡ so = ap (λ (n : Node). get_or n.args 1 0) e ∙ f in
          let U : SortedTree P (ν (number_at s q)) so = rw (turn-variable s E ν q l v) at T in
          rw g U
      variable_sorted _ _ (application q so l w h o args b S) T v = never (cc)

  -- what an assignment makes of a sorted pattern is an instance of it, if it is of its sort
  pub instance_of : (p so : ℕ) → SortedPattern P s sorts p so → (t : Tree) → turn ν (term_of s p) ≡ t → SortedTree P t so → InstanceOf P s p t
  instance_of p so S t e T = record { assignment = ν; sorted = sorted_instance p so S (rw e T); is = e }

-- an instance is of the pattern's sort
pub instance_sort : (P : Pack) (s : List Node) (sorts : ℕ → ℕ) → Earlier s → (p so : ℕ) → SortedPattern P s sorts p so → (t : Tree) → InstanceOf P s p t → SortedTree P t so
instance_sort P s sorts E p so S t N = let T = instance_sorted P s sorts E N.assignment p so S N.sorted in rw N.is at T

-- a pattern's parts in a store that has grown
parts-grow : (s t : List Node) (p : ℕ) → Earlier s → Grows s t → p < length s → parts t p ≡ parts s p
parts-grow s t p E G l = parts_stay s t p E (λ n m. grows_at s t no_node n G m) l

-- an instance is one in the store that has grown
pub instance_grows : (P : Pack) (s t : List Node) (p : ℕ) (j : Tree) → Earlier s → Grows s t → p < length s → InstanceOf P s p j → InstanceOf P t p j
instance_grows P s t p j E G l N = record {
  assignment = N.assignment;
  sorted = λ q i v.
      let k : In q (parts s p) = rw (parts-grow s t p E G l) at i in
      let u = parts_upto s E p q k in
      let e = grows_at s t no_node q G (omega arith) in
      rw e (N.sorted q k (rw e at v));
  is = ap (turn N.assignment) (term_grows s t p G l) ∙ N.is;
}

-- and was one before
pub instance_before : (P : Pack) (s t : List Node) (p : ℕ) (j : Tree) → Earlier s → Grows s t → p < length s → InstanceOf P t p j → InstanceOf P s p j
instance_before P s t p j E G l N = record {
  assignment = N.assignment;
  sorted = λ q i v.
      let k : In q (parts t p) = rw (parts-grow s t p E G l) i in
      let u = parts_upto s E p q i in
      let e = grows_at s t no_node q G (omega arith) in
      rw e at (N.sorted q k (rw e v));
  is = sym (ap (turn N.assignment) (term_grows s t p G l)) ∙ N.is;
}
