-- One node's copy: a variable, or an application over copies, comes next to a copy under way.
use Rattle.std.specs.Prelude.{◌≡◌, Bool, true, List, [], ◌∷◌, map, ℕ, ◌<◌, length}
use Rattle.std.proofs.Math.Path.{refl, sym, ap}
use Rattle.std.proofs.Common.{◌∙◌, arith}
use Rattle.std.proofs.Math.Bool.{false}
use Rattle.std.proofs.Math.Option.{none}
use Rattle.std.proofs.Math.ListN.{get_or}
use Rattle.definition.specs.Test.{is, see, never}
use Rattle.definition.specs.Pack.{Node, no_node, Pack, symbol_of}
use Rattle.definition.specs.Tree.{tree}
use Rattle.definition.specs.Verdict.{value_of}
use Rattle.definition.specs.Store.{is_variable, below}
use Rattle.definition.specs.Good.{Below}
use Rattle.definition.specs.Graph.{Vertex, Graph, variable_vertex, applied, push, is_var}
use Rattle.definition.specs.Analysis.{copied, Copy, pairing, copy_node}
use Rattle.theory.specs.Derive.{In}
use Rattle.theory.specs.Unification.Solve.{trees_at, SortsAt}
use Rattle.theory.specs.Copies.Push.{push-length, push-new, push-sort-variable, push-sort-applied, new-variable, new_applied}
use Rattle.theory.specs.Copies.Terms.{below-applied}
use Rattle.theory.specs.Copies.Parts.{in_here, in_there}
use Rattle.theory.specs.Copies.Copying.{value_of_new, value_of_old, value_apart, Made, made_is, copies_same, number_at, pattern_sort, Copying, grown, Next, next_copying}

-- patterns of these sorts
abbrev pub PatternSorts : Pack → List Node → List ℕ → List ℕ → Type 0
PatternSorts P s [] [] = Unit {0}
PatternSorts P s [] (t ∷ ts) = ⊥
PatternSorts P s (a ∷ args) [] = ⊥
PatternSorts P s (a ∷ args) (t ∷ ts) = (pattern_sort P s a ≡ t) × PatternSorts P s args ts

-- patterns of a store that are well sorted: an application has a symbol of the pack over arguments of its input sorts
pub record PartsFormed (P : Pack) (s : List Node) (ps : List ℕ) : Type 0 where
  pub inside : (q : ℕ) → In q ps → q < length s
  pub head : (q : ℕ) → In q ps → is_variable (get_or s q no_node) ≡ false → (get_or s q no_node).head < length P.symbols
  pub sorts : (q : ℕ) → In q ps → is_variable (get_or s q no_node) ≡ false → PatternSorts P s (get_or s q no_node).args (symbol_of P (get_or s q no_node).head).inputs

-- among these patterns each variable number is one node's
abbrev pub OneEach : List Node → List ℕ → Type 0
OneEach s ps = (q r : ℕ) → In q ps → In r ps → is_variable (get_or s q no_node) ≡ true → is_variable (get_or s r no_node) ≡ true → number_at s q ≡ number_at s r → q ≡ r

-- a variable's copy
abbrev variable_copy : List Node → List Bool → ℕ → Vertex
variable_copy s flex p = variable_vertex (get_or (get_or s p no_node).args 1 0) (get_or flex (number_at s p) false) false

-- an application's copy
abbrev applied_copy : List Node → Copy → ℕ → Vertex
applied_copy s c p = applied (get_or s p no_node).head (map (copied c.nodes) (get_or s p no_node).args)

-- a variable's copy is pushed
copy_node-variable : (s : List Node) (flex : List Bool) (c : Copy) (p : ℕ) → is_variable (get_or s p no_node) ≡ true
    → copy_node s flex c p ≡ grown c p (variable_copy s flex p) (pairing (number_at s p) (length c.graph) ∷ c.variables)
unfolding copy_node push
copy_node-variable s flex c p e = rw (e, copy_node)

-- an application's copy is pushed
copy_node-applied : (s : List Node) (flex : List Bool) (c : Copy) (p : ℕ) → is_variable (get_or s p no_node) ≡ false
    → copy_node s flex c p ≡ grown c p (applied_copy s c p) c.variables
unfolding copy_node push
copy_node-applied s flex c p e = rw (e, copy_node)

-- a node's copy is the newest
pub copy_node-nodes : (s : List Node) (flex : List Bool) (c : Copy) (p : ℕ) → (copy_node s flex c p).nodes ≡ pairing p (length c.graph) ∷ c.nodes
copy_node-nodes s flex c p = elim (see (is_variable (get_or s p no_node))) [
  | is true e ↦ ap (λ (c : Copy). c.nodes) (copy_node-variable s flex c p e)
  | is false e ↦ ap (λ (c : Copy). c.nodes) (copy_node-applied s flex c p e)
]

module _ (P : Pack) (s : List Node) (flex : List Bool) (ps : List ℕ) (g : Graph) (F : PartsFormed P s ps) (one : OneEach s ps) where
  -- a variable comes next
  next-variable : (c : Copy) → Copying P s flex ps g c → (p : ℕ) → value_of p c.nodes ≡ none → In p ps → is_variable (get_or s p no_node) ≡ true
      → Next P s flex c p (variable_copy s flex p) (pairing (number_at s p) (length c.graph) ∷ c.variables)
  unfolding is_var pattern_sort
  next-variable c C p new i e =
      let v = variable_copy s flex p in
      let sort : pattern_sort P s p ≡ get_or (get_or s p no_node).args 1 0 = rw (e, pattern_sort) in
      record {
        node = new-variable P c.graph (get_or (get_or s p no_node).args 1 0) (get_or flex (number_at s p) false);
        is = record {
          inside = omega (arith, push-length c.graph v);
          sort = push-sort-variable P c.graph v refl ∙ sym sort;
          variable = λ f. push-new c.graph v;
          value = λ f. value_of_new (number_at s p) (length c.graph) c.variables;
          application = λ f. never (cc);
          over = λ f a k. never (cc);
        };
        stays = λ q x o f. value_of_old (number_at s p) (length c.graph) c.variables (number_at s q) (λ k.
            value_apart c.nodes q p x o new (one q p (C.among q x o) i f e k));
        tree_of = λ θ ν. ν (number_at s p);
        free = λ θ ν f. refl;
        forced = λ θ ν f. never (cc);
      }

  -- copies of patterns of these sorts are nodes of these sorts
  copies_sorts : (c : Copy) → Copying P s flex ps g c → (args ts : List ℕ) → ((a : ℕ) → In a args → Made c.nodes a) → PatternSorts P s args ts
      → SortsAt P c.graph (map (copied c.nodes) args) ts
  copies_sorts c C [] [] m h = tt
  copies_sorts c C [] (t ∷ ts) m h = absurd h
  copies_sorts c C (a ∷ args) [] m h = absurd h
  copies_sorts c C (a ∷ args) (t ∷ ts) m h =
      ((C.made a (copied c.nodes a) (m a (in_here a args))).sort ∙ h.0, copies_sorts c C args ts (λ b k. m b (in_there b a args k)) h.1)

  -- copies are nodes of the graph
  copies_below : (c : Copy) → Copying P s flex ps g c → (args : List ℕ) → ((a : ℕ) → In a args → Made c.nodes a) → Below (length c.graph) (map (copied c.nodes) args)
  copies_below c C [] m = tt
  copies_below c C (a ∷ args) m = ((C.made a (copied c.nodes a) (m a (in_here a args))).inside, copies_below c C args (λ b k. m b (in_there b a args k)))

  -- an application comes next, its arguments copied
  next-applied : (c : Copy) → Copying P s flex ps g c → (p : ℕ) → value_of p c.nodes ≡ none → In p ps → is_variable (get_or s p no_node) ≡ false
      → ((a : ℕ) → In a (get_or s p no_node).args → Made c.nodes a) → Next P s flex c p (applied_copy s c p) c.variables
  unfolding is_var is_variable pattern_sort
  next-applied c C p new i e m =
      let h = (get_or s p no_node).head in
      let args = (get_or s p no_node).args in
      let v = applied_copy s c p in
      let apart : is_var v ≡ false = e in
      let sort : pattern_sort P s p ≡ (symbol_of P h).output = rw (e, pattern_sort) in
      let old : (a : ℕ) → In a args → value_of a (pairing p (length c.graph) ∷ c.nodes) ≡ value_of a c.nodes =
      λ a k. value_of_old p (length c.graph) c.nodes a (value_apart c.nodes a p (copied c.nodes a) (m a k) new) in
      record {
        node = new_applied P c.graph h (map (copied c.nodes) args) apart (F.head p i e) (copies_below c C args m) (copies_sorts c C args (symbol_of P h).inputs m (F.sorts p i e));
        is = record {
          inside = omega (arith, push-length c.graph v);
          sort = push-sort-applied P c.graph v apart ∙ sym sort;
          variable = λ f. never (cc);
          value = λ f. never (cc);
          application = λ f. push-new c.graph v ∙ ap (applied h) (sym (copies_same (pairing p (length c.graph) ∷ c.nodes) c.nodes args old));
          over = λ f a k. made_is (pairing p (length c.graph) ∷ c.nodes) a (copied c.nodes a) (old a k ∙ m a k);
        };
        stays = λ q x o f. refl;
        tree_of = λ θ ν. tree h (trees_at θ (map (copied c.nodes) args));
        free = λ θ ν f. never (cc);
        forced = λ θ ν f. refl;
      }

  -- one node's copy
  pub copy_node_copying : (c : Copy) → Copying P s flex ps g c → (p : ℕ) → value_of p c.nodes ≡ none → In p ps
      → ((a : ℕ) → In a (below (get_or s p no_node)) → Made c.nodes a) → Copying P s flex ps g (copy_node s flex c p)
  copy_node_copying c C p new i m = elim (see (is_variable (get_or s p no_node))) [
    | is true e ↦
        rw (copy_node-variable s flex c p e)
        (next_copying P s flex ps g c C p (variable_copy s flex p) (pairing (number_at s p) (length c.graph) ∷ c.variables) new i (next-variable c C p new i e))
    | is false e ↦
        rw (copy_node-applied s flex c p e)
        (next_copying P s flex ps g c C p (applied_copy s c p) c.variables new i
        (next-applied c C p new i e (λ a k. m a (rw (below-applied (get_or s p no_node) e) k))))
  ]
