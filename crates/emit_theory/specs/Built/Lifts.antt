-- A ground term lifted into a well-sorted store: the store stays well sorted, and the pattern has the term's sort.
use Rattle.std.specs.Prelude.{◌≡◌, List, [], ◌∷◌, ℕ, ◌<◌, length}
use Rattle.std.proofs.Common.{◌∙◌, arith}
use Rattle.definition.specs.Pack.{Node, Pack, symbol_of, sort_of}
use Rattle.definition.specs.Tree.{Tree, Trees, tree, no_trees, tree_then, tree_of}
use Rattle.definition.specs.Good.{Good, Few}
use Rattle.definition.specs.Store.{variable_node, Stored, intern}
use Rattle.definition.specs.Analysis.{StoredAll, lift, lift_all}
use Rattle.theory.specs.Derive.{SortedTree, SortedTrees}
use Rattle.theory.specs.Copies.Copying.{pattern_sort}
use Rattle.theory.specs.Patterns.Interned.{Grows, grows_none, grows_then, grows_long}
use Rattle.theory.specs.Classes.Steps.{node_sorted}
use Rattle.emit_theory.specs.Stores.{Sorted, SortedStore}
use Rattle.emit_theory.specs.Graph.Intern.{sort_grows, symbol-node, intern-variable, intern_application}

-- a well-sorted store that has grown, with a pattern of a sort
pub record Holds (P : Pack) (so : ℕ) (s : List Node) (r : Stored) : Type 0 where
  pub sorted : SortedStore P r.store
  pub grows : Grows s r.store
  pub within : r.number < length r.store
  pub sort : pattern_sort P r.store r.number ≡ so

-- with patterns of these sorts
pub record HoldsAll (P : Pack) (ss : List ℕ) (s : List Node) (r : StoredAll) : Type 0 where
  pub sorted : SortedStore P r.store
  pub grows : Grows s r.store
  pub patterns : Sorted P r.store (length r.store) ss r.numbers

-- nothing was put there
pub holds_none : (P : Pack) (s : List Node) → SortedStore P s → HoldsAll P [] s (record { numbers = []; store = s })
holds_none P s S = record { sorted = S; grows = grows_none s; patterns = tt }

-- a pattern, and then others
pub holds_first : (P : Pack) (so : ℕ) (ss : List ℕ) (s : List Node) (first : Stored) (rest : StoredAll) → Holds P so s first → HoldsAll P ss first.store rest
    → HoldsAll P (so ∷ ss) s (record { numbers = first.number ∷ rest.numbers; store = rest.store })
holds_first P so ss s first rest F R =
    let l = grows_long first.store rest.store R.grows in
    record {
      sorted = R.sorted;
      grows = grows_then s first.store rest.store F.grows R.grows;
      patterns = (omega (arith, F.within), sort_grows P first.store rest.store R.grows first.number F.within ∙ F.sort, R.patterns);
    }

-- a numbered variable in a store
pub holds_variable : (P : Pack) (s : List Node) (k so : ℕ) → SortedStore P s → Holds P so s (intern s (variable_node k so))
holds_variable P s k so S = let H = intern-variable P s k so S in record { sorted = H.sorted; grows = H.grows; within = H.within; sort = H.sort }

-- a symbol over patterns of its input sorts
pub holds_over : (P : Pack) → Few P → (h : ℕ) (s : List Node) (args : StoredAll) → h < length P.symbols → HoldsAll P (symbol_of P h).inputs s args
    → Holds P (symbol_of P h).output s (intern args.store (record { head = h; args = args.numbers }))
holds_over P few h s args l A =
    let n : Node = record { head = h; args = args.numbers } in
    let H = intern_application P args.store n (symbol-node P few n l) A.sorted l A.patterns in
    record { sorted = H.sorted; grows = grows_then s args.store (intern args.store n).store A.grows H.grows; within = H.within; sort = H.sort }

-- ground terms by their symbols
mutual
  unfolding lift

  -- a well-sorted ground term
  pub lift_sorted : (P : Pack) → Few P → (t : Tree) (so : ℕ) (s : List Node) → SortedTree P t so → SortedStore P s → Holds P so s (lift t s)
  lift_sorted P few (tree h ts) so s w S =
      let O = holds_over P few h s (lift_all ts s) w.0 (lift_all_sorted P few ts (symbol_of P h).inputs s w.2 S) in
      record { sorted = O.sorted; grows = O.grows; within = O.within; sort = O.sort ∙ w.1 }

  -- well-sorted ground terms
  pub lift_all_sorted : (P : Pack) → Few P → (ts : Trees) (ss : List ℕ) (s : List Node) → SortedTrees P ts ss → SortedStore P s → HoldsAll P ss s (lift_all ts s)
  lift_all_sorted P few no_trees [] s w S = holds_none P s S
  lift_all_sorted P few no_trees (so ∷ ss) s w S = absurd w
  lift_all_sorted P few (tree_then t ts) [] s w S = absurd w
  lift_all_sorted P few (tree_then t ts) (so ∷ ss) s w S =
      let first = lift t s in
      let F = lift_sorted P few t so s w.0 S in
      holds_first P so ss s first (lift_all ts first.store) F (lift_all_sorted P few ts ss first.store w.1 F.sorted)

-- a ground node's term
pub lift_node_law : (P : Pack) → Good P → Few P → (n : ℕ) (s : List Node) → n < length P.nodes → SortedStore P s → Holds P (sort_of P n) s (lift (tree_of P n) s)
lift_node_law P good few n s l S = lift_sorted P few (tree_of P n) (sort_of P n) s (node_sorted P good n l) S
