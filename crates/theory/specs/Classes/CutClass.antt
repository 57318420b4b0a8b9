-- A cut class as it is made: its predicate over distinct variables is just what the predicate's leaves conclude.
use Rattle.std.specs.Prelude.{◌≡◌, refl, true, false, List, [], ◌∷◌, ◌++◌, map, ℕ, zero, suc, ◌+◌, ◌<◌, eqb, length, get_or}
use Rattle.std.proofs.Common.{sym, ap, ap₂, ◌∙◌, subst, arith, length-append}
use Rattle.definition.specs.Test.{is, see, never, tests}
use Rattle.definition.specs.Pack.{prop, Node, no_node, Pack, symbol_of, step_of, sort_of}
use Rattle.definition.specs.Tree.{Tree, Trees, tree, no_trees, tree_then, no_tree, turn, turns}
use Rattle.definition.specs.Store.{nothing, variable_head, variable_node, is_variable, term_of, intern}
use Rattle.definition.specs.Good.{Below, Good, Few}
use Rattle.definition.specs.Analysis.{StoredAll}
use Rattle.definition.specs.Run.{Note, Run, done, behind, ◌>>=◌}
use Rattle.definition.specs.Keys.{predicate_of, is_a_cut, cut_key, rule_key, no_keyed, key_of, keyed}
use Rattle.definition.specs.Classes.{Class, Built, add_class, fresh_variables, make_cut}
use Rattle.definition.proofs.Laws.Store.{StoreOnce}
use Rattle.theory.specs.Derive.{SortedTrees, Judgment, InstanceOf, Derivation, leaf, by, StepOf, Shape}
use Rattle.theory.specs.Classes.Steps.{Concludes}
use Rattle.theory.specs.Keys.KeyedLaws.{keyed-kept}
use Rattle.theory.specs.Copies.Terms.{Earlier, terms_at, below-variable}
use Rattle.theory.specs.Patterns.Interned.{Grows, grows_none, grows_then, grows_long, grows_at, interned, below-args}
use Rattle.theory.specs.Patterns.Sorted.{SortedPattern, variable, application, SortedPatterns, none, more, variable_is, sorteds_grow}
use Rattle.theory.specs.Patterns.Instances.{turn-variable, turn-applied, instance_of, instance_sort}
use Rattle.theory.specs.Patterns.Resolved.{terms_grow}
use Rattle.theory.specs.Classes.Built.{Exact, BuiltGood, built-more, class_step}

-- what making a class comes to: it is done, with one class more
pub record Makes (P : Pack) (words : List ℕ) (b : Built) (r : Run Built) : Type 0 where
  pub noted : List Note
  pub built : Built
  pub is : r ≡ done noted built
  pub good : BuiltGood P words built
  pub longer : length built.classes ≡ suc (length b.classes)

-- adding a class is done, whatever it notes
pub add-made : (P : Pack) (words : List ℕ) (b : Built) (store : List Node) (x : Class) → BuiltGood P words b → Grows b.store store → Earlier store → StoreOnce store
    → Exact P words store x.conclusion (length b.classes) → Makes P words b (add_class b store x)
unfolding add_class ◌>>=◌ behind
add-made P words b store x B G E O X =
    let l = length-append b.classes (x ∷ []) in
    record {
      noted = _;
      built = record { store = store; classes = b.classes ++ (x ∷ []); fill = b.fill + 3 + length x.flex };
      is = refl;
      good = built-more P words b store x (b.fill + 3 + length x.flex) B G E O X;
      longer = omega arith;
    }

-- the k-th of several trees
unfoldable tree_in : Trees → ℕ → Tree
tree_in no_trees k = no_tree
tree_in (tree_then t ts) zero = t
tree_in (tree_then t ts) (suc k) = tree_in ts k

-- a tree for each of these sorts, by the variables numbered on from k
unfoldable trees_from : (ℕ → Tree) → List ℕ → ℕ → Trees
trees_from ν [] k = no_trees
trees_from ν (so ∷ ss) k = tree_then (ν k) (trees_from ν ss (suc k))

-- several trees are those that an assignment gives that has each at its place
trees_again : (P : Pack) (ν : ℕ → Tree) (ts : Trees) (ss : List ℕ) (k : ℕ) → SortedTrees P ts ss → ((i : ℕ) → ν (k + i) ≡ tree_in ts i) → trees_from ν ss k ≡ ts
unfolding tree_in trees_from
trees_again P ν no_trees [] k h e = refl
trees_again P ν no_trees (so ∷ ss) k h e = absurd h
trees_again P ν (tree_then t ts) [] k h e = absurd h
trees_again P ν (tree_then t ts) (so ∷ ss) k h e =
    let z : k + 0 ≡ k = omega arith in
    let n : (i : ℕ) → suc k + i ≡ k + suc i = λ i. omega arith in
    ap₂ tree_then (ap ν (sym z) ∙ e 0) (trees_again P ν ts ss (suc k) h.1 (λ i. ap ν (n i) ∙ e (suc i)))

-- variables of these sorts in a store, numbered on from k
record Fresh (P : Pack) (ss : List ℕ) (k : ℕ) (s : List Node) (r : StoredAll) : Type 0 where
  grows : Grows s r.store
  earlier : Earlier r.store
  once : StoreOnce s → StoreOnce r.store
  within : Below (length r.store) r.numbers
  sorted : (sorts : ℕ → ℕ) → ((i : ℕ) → i < length ss → sorts (k + i) ≡ get_or ss i 0) → SortedPatterns P r.store sorts r.numbers ss
  becomes : (ν : ℕ → Tree) → turns ν (terms_at r.store r.numbers) ≡ trees_from ν ss k

-- fresh variables are so
fresh : (P : Pack) (ss : List ℕ) (k : ℕ) (s : List Node) → Earlier s → Fresh P ss k s (fresh_variables ss k s)
unfolding fresh_variables trees_from turn terms_at
fresh P [] k s E = record { grows = grows_none s; earlier = E; once = λ O. O; within = tt; sorted = λ sorts e. none; becomes = λ ν. refl }
fresh P (so ∷ ss) k s E =
    let v = variable_node k so in
    let I = interned s v in
    let first = intern s v in
    let E1 = I.earlier E (rw (below-variable v (variable_is v k so refl)) tt) in
    let R = fresh P ss (suc k) first.store E1 in
    let rest = fresh_variables ss (suc k) first.store in
    let long = grows_long first.store rest.store R.grows in
    let l : first.number < length rest.store = omega (arith, I.within) in
    let node : get_or rest.store first.number no_node ≡ v = grows_at first.store rest.store no_node first.number R.grows I.within ∙ I.is in
    let z : k + 0 ≡ k = omega arith in
    record {
      grows = grows_then s first.store rest.store I.grows R.grows;
      earlier = R.earlier;
      once = λ O. R.once (I.once O);
      within = (l, R.within);
      sorted = λ sorts e.
          let f : sorts k ≡ so = ap sorts (sym z) ∙ e 0 (omega arith) in
          let n : (i : ℕ) → suc k + i ≡ k + suc i = λ i. omega arith in
          more first.number so rest.numbers ss (variable first.number k so l (node ∙ ap (variable_node k) (sym f)) f) (R.sorted sorts (λ i h. ap sorts (n i) ∙ e (suc i) (omega arith)));
      becomes = λ ν.
          let t = turn-variable rest.store R.earlier ν first.number l (variable_is (get_or rest.store first.number no_node) k so node) in
          ap₂ tree_then (t ∙ ap (λ (n : Node). ν (get_or n.args 0 0)) node) (R.becomes ν);
    }

-- a step with a cut key is cut, and of the key's predicate
pub cut-key : (P : Pack) (words : List ℕ) (s p : ℕ) → key_of P words s ≡ cut_key p → (is_a_cut P (predicate_of P s) ≡ true) × (predicate_of P s ≡ p)
unfolding key_of
cut-key P words s p e = elim (see (is_a_cut P (predicate_of P s))) [
  | is true c ↦ let q : cut_key (predicate_of P s) ≡ cut_key p = rw (c, key_of) at e in (c, cc)
  | is false c ↦ never (let q : rule_key _ _ ≡ cut_key p = rw (c, key_of) at e in cc)
]

-- the judgment of a good step is of a predicate of the pack
pub step_predicate : (P : Pack) → Good P → (s : ℕ) → s < length P.steps → (predicate_of P s < length P.symbols) × ((symbol_of P (predicate_of P s)).output ≡ prop)
unfolding predicate_of sort_of
step_predicate P G s h =
    let j = (G.steps s h).judgment in
    ((G.nodes (step_of P s).judgment j.given).head, j.predicate)

-- a symbol's number is no variable's head
symbol-applied : (P : Pack) → Few P → (p : ℕ) (args : List ℕ) → p < length P.symbols → is_variable (record { head = p; args = args }) ≡ false
unfolding is_variable
symbol-applied P F p args h = elim (see (eqb p variable_head)) [
  | is true e ↦ let f = F.symbols in absurd (omega tests)
  | is false e ↦ e
]

-- a pattern that becomes its predicate over whatever trees is exact for a class all of whose steps are cut and of that predicate
cut_exact : (P : Pack) (words : List ℕ) (store : List Node) (sorts : ℕ → ℕ) (top p c first : ℕ) → Earlier store → SortedPattern P store sorts top prop → is_a_cut P p ≡ true
    → ((ν : ℕ → Tree) → turn ν (term_of store top) ≡ tree p (trees_from ν (symbol_of P p).inputs 0)) → StepOf P words c first
    → ((s : ℕ) → StepOf P words c s → (is_a_cut P (predicate_of P s) ≡ true) × (predicate_of P s ≡ p)) → Exact P words store top c
cut_exact P words store sorts top p c first E S cut becomes begun only =
    record {
      sorts = sorts;
      sorted = S;
      derived = λ j N.
          let ts = trees_from N.assignment (symbol_of P p).inputs 0 in
          let e : tree p ts ≡ j = sym (becomes N.assignment) ∙ N.is in
          let judged = instance_sort P store sorts E top prop S j N in
          subst (Concludes P words c) e (leaf p ts (subst (Judgment P) (sym e) judged) cut, (first, begun, (only first begun).1));
      instances = λ j d. of_shape j d.0 d.1;
    }
  where
    of_shape : (j : Tree) (d : Derivation P j) → Shape P words d c → InstanceOf P store top j
    of_shape _ (leaf q ts judged k) h =
        let e : p ≡ q = sym (only h.0 h.1).1 ∙ h.2 in
        let K : Judgment P (tree p ts) = rw e judged in
        let zero-plus : (i : ℕ) → 0 + i ≡ i = λ i. omega arith in
        let again = trees_again P (tree_in ts) ts (symbol_of P p).inputs 0 K.2 (λ i. ap (tree_in ts) (zero-plus i)) in
        instance_of P store sorts E (tree_in ts) top prop S (tree q ts) (becomes (tree_in ts) ∙ ap (tree p) again ∙ ap (λ (i : ℕ). tree i ts) e) judged
    of_shape j (by r ν l fp fc ep ec ds) h = never (let z : true ≡ false = sym (only h.0 h.1).0 ∙ h.2 in cc)

-- a cut class is made, and is exact
pub cut-made : (P : Pack) → Good P → Few P → length P.steps < nothing → (b : Built) → BuiltGood P (keyed P).words b → length b.classes < length (keyed P).classes
    → (p : ℕ) → (get_or (keyed P).classes (length b.classes) no_keyed).key ≡ cut_key p → Makes P (keyed P).words b (make_cut P p b)
unfolding make_cut
cut-made P G F few b B h p key =
    let words = (keyed P).words in
    let c = length b.classes in
    let K = keyed-kept P G in
    let first = (get_or (keyed P).classes c no_keyed).first in
    let start = K.0.begun c h in
    let begun : StepOf P words c first = record { given = omega (arith, start.0, K.1); word = start.2 } in
    let only : (s : ℕ) → StepOf P words c s → (is_a_cut P (predicate_of P s) ≡ true) × (predicate_of P s ≡ p) = λ s S. cut-key P words s p ((class_step P G few c h s S).1 ∙ key) in
    let is-p = (only first begun).1 in
    let cut : is_a_cut P p ≡ true = ap (is_a_cut P) (sym is-p) ∙ (only first begun).0 in
    let y = step_predicate P G first begun.given in
    let inside : p < length P.symbols = omega (arith, is-p, y.0) in
    let output : (symbol_of P p).output ≡ prop = ap (λ (i : ℕ). (symbol_of P i).output) (sym is-p) ∙ y.1 in
    let inputs = (symbol_of P p).inputs in
    let N = fresh P inputs 0 b.store B.earlier in
    let args = fresh_variables inputs 0 b.store in
    let node : Node = record { head = p; args = args.numbers } in
    let I = interned args.store node in
    let top = intern args.store node in
    let E = I.earlier N.earlier (below-args (length args.store) node N.within) in
    let sorts : ℕ → ℕ = λ i. get_or inputs i 0 in
    let zero-plus : (i : ℕ) → 0 + i ≡ i = λ i. omega arith in
    let Ns = sorteds_grow P args.store top.store sorts I.grows args.numbers inputs (N.sorted sorts (λ i l. ap sorts (zero-plus i))) in
    let applied : is_variable (get_or top.store top.number no_node) ≡ false = ap is_variable I.is ∙ symbol-applied P F p args.numbers inside in
    let S : SortedPattern P top.store sorts top.number prop =
    application top.number prop I.within applied (rw I.is inside) (rw I.is output) args.numbers (ap (λ (n : Node). n.args) I.is) (rw I.is Ns) in
    let becomes : (ν : ℕ → Tree) → turn ν (term_of top.store top.number) ≡ tree p (trees_from ν inputs 0) =
    λ ν.
    turn-applied top.store E ν top.number I.within applied
    ∙ ap (λ (n : Node). tree n.head (turns ν (terms_at top.store n.args))) I.is
    ∙ ap (λ ts. tree p (turns ν ts)) (terms_grow args.store top.store args.numbers I.grows N.within)
    ∙ ap (tree p) (N.becomes ν) in
    let X = cut_exact P words top.store sorts top.number p c first E S cut becomes begun only in
    add-made P words b top.store (record { conclusion = top.number; flex = map (λ s. true) inputs; cut = true; fixed = 0; entries = 0; renamings = 0 })
    B (grows_then b.store args.store top.store N.grows I.grows) E (I.once (N.once B.once)) X
