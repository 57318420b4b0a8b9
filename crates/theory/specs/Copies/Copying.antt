-- A copy under way: each pattern node that was copied stands in the graph for its node, over the copies of what is below it.
use Rattle.std.specs.Prelude.{◌≡◌, refl, Bool, true, false, List, [], ◌∷◌, map, ℕ, ◌<◌, eqb, length, get_or}
use Rattle.std.proofs.Common.{sym, ap, ap₂, ◌∙◌, arith, eq-eqb, ne_eqb}
use Rattle.std.proofs.Math.Option.{Option, none, some}
use Rattle.definition.specs.Test.{is, see, never, tests}
use Rattle.definition.specs.Pack.{Node, no_node, Pack, symbol_of}
use Rattle.definition.specs.Tree.{Tree, tree}
use Rattle.definition.specs.Verdict.{Bound, value_of}
use Rattle.definition.specs.Store.{is_variable}
use Rattle.definition.specs.Graph.{Vertex, Graph, variable_vertex, applied, vertex, push, is_var}
use Rattle.definition.specs.Analysis.{copied, Copy, pairing}
use Rattle.theory.specs.Derive.{In}
use Rattle.theory.specs.Unification.Solve.{trees_at, Solves, sort_at, Formed, Begins}
use Rattle.theory.specs.Copies.Begin.{begins_trans, sort_at_begins}
use Rattle.theory.specs.Copies.Push.{push_begins, push_formed, NewNode, extended, extended-new, extended-old, push_solves}
use Rattle.theory.specs.Copies.Parts.{in_here, in_there}

-- the newest value
pub value_of_new : (k x : ℕ) (bs : List Bound) → value_of k (pairing k x ∷ bs) ≡ some x
unfolding value_of
value_of_new k x bs = rw (eq-eqb k k refl, value_of)

-- another number's value is what it was
pub value_of_old : (k x : ℕ) (bs : List Bound) (q : ℕ) → (q ≡ k → ⊥) → value_of q (pairing k x ∷ bs) ≡ value_of q bs
unfolding value_of
value_of_old k x bs q n = rw (ne_eqb k q (λ e. n (sym e)), value_of)

-- a number with a value is not one without
pub value_apart : (bs : List Bound) (q p x : ℕ) → value_of q bs ≡ some x → value_of p bs ≡ none → q ≡ p → ⊥
value_apart bs q p x e n i = let f : some x ≡ none = sym e ∙ ap (λ (k : ℕ). value_of k bs) i ∙ n in never (cc)

-- a value among one more: the newest, or one that was there
pub data Looked (k y : ℕ) (bs : List Bound) (q x : ℕ) : Type 0 where
  newest : q ≡ k → x ≡ y → Looked k y bs q x
  older : value_of q bs ≡ some x → Looked k y bs q x

-- which of the two it is
pub looked : (k y : ℕ) (bs : List Bound) (q x : ℕ) → value_of q (pairing k y ∷ bs) ≡ some x → Looked k y bs q x
looked k y bs q x e = elim (see (eqb q k)) [
  | is true p ↦
      let i : q ≡ k = omega tests in
      let f : value_of k (pairing k y ∷ bs) ≡ some x = rw i at e in
      let n = value_of_new k y bs in
      newest i (cc)
  | is false p ↦ older (sym (value_of_old k y bs q (λ i. omega tests)) ∙ e)
]

-- what a number with a value was copied to
pub copied_is : (bs : List Bound) (q x : ℕ) → value_of q bs ≡ some x → copied bs q ≡ x
unfolding copied
copied_is bs q x e = rw (e, copied)

-- equal values, equal copies
copied-same : (bs cs : List Bound) (q : ℕ) → value_of q bs ≡ value_of q cs → copied bs q ≡ copied cs q
unfolding copied
copied-same bs cs q e = ap copy e
  where
    copy : Option ℕ → ℕ
    copy o = elim o [ none ↦ 0 | some x ↦ x ]

-- a number that was copied
abbrev pub Made : List Bound → ℕ → Type 0
Made bs q = value_of q bs ≡ some (copied bs q)

-- a number with a value is one
pub made_is : (bs : List Bound) (q x : ℕ) → value_of q bs ≡ some x → Made bs q
made_is bs q x e = e ∙ ap some (sym (copied_is bs q x e))

-- the copies of numbers whose values are the same
pub copies_same : (bs cs : List Bound) (args : List ℕ) → ((a : ℕ) → In a args → value_of a bs ≡ value_of a cs) → map (copied bs) args ≡ map (copied cs) args
copies_same bs cs [] h = refl
copies_same bs cs (a ∷ args) h = ap₂ ◌∷◌ (copied-same bs cs a (h a (in_here a args))) (copies_same bs cs args (λ b i. h b (in_there b a args i)))

-- the number of a variable of a store
abbrev pub number_at : List Node → ℕ → ℕ
number_at s q = get_or (get_or s q no_node).args 0 0

-- the sort of a pattern: a variable's own, or its head's output
unfoldable pub pattern_sort : Pack → List Node → ℕ → ℕ
pattern_sort P s q = elim (is_variable (get_or s q no_node)) [ true ↦ get_or (get_or s q no_node).args 1 0 | false ↦ (symbol_of P (get_or s q no_node).head).output ]

-- x stands for the node q of the store
pub record CopyOf (P : Pack) (s : List Node) (flex : List Bool) (c : Copy) (q x : ℕ) : Type 0 where
  pub inside : x < length c.graph
  pub sort : sort_at P c.graph x ≡ pattern_sort P s q
  -- a variable's copy is a variable, and what its number was copied to
  pub variable : is_variable (get_or s q no_node) ≡ true → vertex c.graph x ≡ variable_vertex (get_or (get_or s q no_node).args 1 0) (get_or flex (number_at s q) false) false
  pub value : is_variable (get_or s q no_node) ≡ true → value_of (number_at s q) c.variables ≡ some x
  -- an application's copy is its head over the copies of its arguments
  pub application : is_variable (get_or s q no_node) ≡ false → vertex c.graph x ≡ applied (get_or s q no_node).head (map (copied c.nodes) (get_or s q no_node).args)
  pub over : is_variable (get_or s q no_node) ≡ false → (a : ℕ) → In a (get_or s q no_node).args → Made c.nodes a

-- a solution of the copy's graph that goes on from one of the graph before and gives variables the trees wanted
pub record Valued (s : List Node) (θ ν : ℕ → Tree) (g : Graph) (c : Copy) : Type 0 where
  pub solution : ℕ → Tree
  pub agrees : (x : ℕ) → x < length g → solution x ≡ θ x
  pub solves : Solves solution c.graph
  pub values : (q x : ℕ) → value_of q c.nodes ≡ some x → is_variable (get_or s q no_node) ≡ true → solution x ≡ ν (number_at s q)

-- some of the patterns ps are copied
pub record Copying (P : Pack) (s : List Node) (flex : List Bool) (ps : List ℕ) (g : Graph) (c : Copy) : Type 0 where
  pub begins : Begins g c.graph
  pub formed : Formed P c.graph
  pub among : (q x : ℕ) → value_of q c.nodes ≡ some x → In q ps
  pub made : (q x : ℕ) → value_of q c.nodes ≡ some x → CopyOf P s flex c q x
  pub extends : (θ ν : ℕ → Tree) → Solves θ g → Valued s θ ν g c

-- a copy stays one when the graph grows, and the values that it rests on stay
copy_of_kept : (P : Pack) (s : List Node) (flex : List Bool) (c d : Copy) (q x : ℕ) → Begins c.graph d.graph
    → (is_variable (get_or s q no_node) ≡ true → value_of (number_at s q) d.variables ≡ value_of (number_at s q) c.variables)
    → (is_variable (get_or s q no_node) ≡ false → (a : ℕ) → In a (get_or s q no_node).args → value_of a d.nodes ≡ value_of a c.nodes)
    → CopyOf P s flex c q x → CopyOf P s flex d q x
copy_of_kept P s flex c d q x b vs ns C = record {
  inside = omega (arith, C.inside, b.longer);
  sort = sort_at_begins P c.graph d.graph b x C.inside ∙ C.sort;
  variable = λ e. b.kept x C.inside ∙ C.variable e;
  value = λ e. vs e ∙ C.value e;
  application = λ e. b.kept x C.inside ∙ C.application e ∙ ap (applied (get_or s q no_node).head) (sym (copies_same d.nodes c.nodes (get_or s q no_node).args (ns e)));
  over = λ e a i. made_is d.nodes a (copied c.nodes a) (ns e a i ∙ C.over e a i);
}

-- a copy with one node more, for the pattern p
abbrev pub grown : Copy → ℕ → Vertex → List Bound → Copy
grown c p v vs = record { graph = (push c.graph v).graph; nodes = pairing p (length c.graph) ∷ c.nodes; variables = vs }

-- what a node that comes next must be like
pub record Next (P : Pack) (s : List Node) (flex : List Bool) (c : Copy) (p : ℕ) (v : Vertex) (vs : List Bound) : Type 0 where
  pub node : NewNode P c.graph v
  pub is : CopyOf P s flex (grown c p v vs) p (length c.graph)
  -- earlier variables' values stay
  pub stays : (q x : ℕ) → value_of q c.nodes ≡ some x → is_variable (get_or s q no_node) ≡ true → value_of (number_at s q) vs ≡ value_of (number_at s q) c.variables
  -- its tree: the one wanted for a variable, its head over its arguments' trees for an application
  pub tree_of : (ℕ → Tree) → (ℕ → Tree) → Tree
  pub free : (θ ν : ℕ → Tree) → is_variable (get_or s p no_node) ≡ true → tree_of θ ν ≡ ν (number_at s p)
  pub forced : (θ ν : ℕ → Tree) → is_var v ≡ false → tree_of θ ν ≡ tree v.head (trees_at θ v.args)

-- one node more, for a pattern that was not copied
pub next_copying : (P : Pack) (s : List Node) (flex : List Bool) (ps : List ℕ) (g : Graph) (c : Copy) → Copying P s flex ps g c
    → (p : ℕ) (v : Vertex) (vs : List Bound) → value_of p c.nodes ≡ none → In p ps → Next P s flex c p v vs → Copying P s flex ps g (grown c p v vs)
next_copying P s flex ps g c C p v vs new i N =
    let h = c.graph in
    let d = grown c p v vs in
    let b = push_begins h v in
    let see-value = looked p (length h) c.nodes in
    record {
      begins = begins_trans g h d.graph C.begins b;
      formed = push_formed P h v C.formed N.node;
      among = λ q x e. elim (see-value q x e) [
        | newest j k ↦ rw j i
        | older o ↦ C.among q x o
      ];
      made = λ q x e. elim (see-value q x e) [
        | newest j k ↦ rw (j, k) N.is
        | older o ↦
            let below-q : is_variable (get_or s q no_node) ≡ false → (a : ℕ) → In a (get_or s q no_node).args → value_of a d.nodes ≡ value_of a c.nodes =
            λ f a w. value_of_old p (length h) c.nodes a (value_apart c.nodes a p (copied c.nodes a) ((C.made q x o).over f a w) new) in
            copy_of_kept P s flex c d q x b (N.stays q x o) below-q (C.made q x o)
      ];
      extends = λ θ ν S.
          let W = C.extends θ ν S in
          let t = N.tree_of W.solution ν in
          record {
            solution = extended W.solution (length h) t;
            agrees = λ x m. extended-old W.solution (length h) t x (omega (arith, C.begins.longer)) ∙ W.agrees x m;
            solves = push_solves P h v W.solution t C.formed N.node (N.forced W.solution ν) W.solves;
            values = λ q x e f. elim (see-value q x e) [
              | newest j k ↦
                  let w : is_variable (get_or s p no_node) ≡ true = rw j at f in
                  rw (j, k) (extended-new W.solution (length h) t ∙ N.free W.solution ν w)
              | older o ↦ extended-old W.solution (length h) t x (C.made q x o).inside ∙ W.values q x o f
            ];
          };
    }
