-- The store's nodes stay patterns when a ground term of the pack is lifted into it.
use Rattle.std.specs.Prelude.{◌≡◌, refl, ℕ, zero, suc, ◌<◌, ◌≤◌, length, get_or}
use Rattle.std.proofs.Common.{sym, ap, subst}
use mathlib.Core.List.{List, [], ◌∷◌}
use native.Mathlib.Omega.{arith}
use Rattle.std.proofs.Math.Decide.{dec_lt}
use Rattle.definition.specs.Pack.{Node, Pack, symbol_of, node_of}
use Rattle.definition.specs.Tree.{Tree, Trees, tree, no_trees, tree_then, no_tree, pick, trees, tree_of}
use Rattle.definition.specs.Good.{Below, Good, Few}
use Rattle.definition.proofs.Laws.Tree.{args-below, tree_node, length-grow, arguments_many}
use Rattle.definition.specs.Store.{variable_head, intern}
use Rattle.definition.specs.Analysis.{lift, lift_all}
use Rattle.theory.specs.Patterns.Interned.{grows_none, grows_then, grows_long}
use Rattle.theory.specs.Copies.Terms.{Patterns}
use Rattle.theory.specs.Making.Interns.{Interning, InterningAll, intern-node, symbol-head}

-- how many trees
unfoldable pub width : Trees → ℕ
width no_trees = 0
width (tree_then t ts) = suc (width ts)

-- no head is a variable's, and at most 16 trees stand below one
abbrev mutual
  pub Slim : Tree → Type 0
  Slim (tree h ts) = (h ≡ variable_head → ⊥) × (width ts ≤ 16) × SlimAll ts

  pub SlimAll : Trees → Type 0
  SlimAll no_trees = Unit {0}
  SlimAll (tree_then t ts) = Slim t × SlimAll ts

-- ---- a slim tree in a store
-- as many numbers as trees
pub lift_length : (ts : Trees) (s : List Node) → length (lift_all ts s).numbers ≡ width ts
unfolding lift width
lift_length no_trees s = refl
lift_length (tree_then t ts) s = ap suc (lift_length ts (lift t s).store)

mutual
  unfolding lift

  pub lift_patterns : (t : Tree) → Slim t → (s : List Node) → Patterns s → Interning s (lift t s)
  lift_patterns (tree h ts) w s S =
      let args = lift_all ts s in
      let L = lift_all_patterns ts w.2 s S in
      let n : Node = record { head = h; args = args.numbers } in
      let I = intern-node args.store n L.patterns w.0 (omega (arith, w.1, lift_length ts s)) L.inside in
      record { patterns = I.patterns; inside = I.inside; grows = grows_then s args.store (intern args.store n).store L.grows I.grows }

  pub lift_all_patterns : (ts : Trees) → SlimAll ts → (s : List Node) → Patterns s → InterningAll s (lift_all ts s)
  lift_all_patterns no_trees w s S = record { patterns = S; inside = tt; grows = grows_none s }
  lift_all_patterns (tree_then t ts) w s S =
      let first = lift t s in
      let F = lift_patterns t w.0 s S in
      let rest = lift_all ts first.store in
      let R = lift_all_patterns ts w.1 first.store F.patterns in
      record { patterns = R.patterns; inside = (omega (arith, F.inside, grows_long first.store rest.store R.grows), R.inside); grows = grows_then s first.store rest.store F.grows R.grows }

-- ---- the trees of a pack are slim
-- a ground node has few
pub ground_few : (P : Pack) → Good P → (n : ℕ) → n < length P.nodes → length (node_of P n).args ≤ 16
ground_few P G n l = let N = G.nodes n l in omega (arith, arguments_many P n (symbol_of P (node_of P n).head).inputs (node_of P n).args N.args, (G.symbols (node_of P n).head N.head).arity)

pick-width : (ts : List Tree) (args : List ℕ) → width (pick ts args) ≡ length args
unfolding width pick
pick-width ts [] = refl
pick-width ts (a ∷ args) = ap suc (pick-width ts args)

past_trees : (ts : List Tree) (n : ℕ) → length ts ≤ n → get_or ts n no_tree ≡ no_tree
past_trees [] n h = refl
past_trees (t ∷ ts) zero h = absurd (omega arith)
past_trees (t ∷ ts) (suc n) h = past_trees ts n (omega arith)

-- past the last node there is a tree without trees below it
tree_past : (P : Pack) (n : ℕ) → length P.nodes ≤ n → tree_of P n ≡ no_tree
unfolding tree_of trees
tree_past P n h = past_trees (trees P) n (let l = length-grow [] P.nodes in omega arith)

module _ (P : Pack) (G : Good P) (W : Few P) where
  pick_slim : (n : ℕ) → ((a : ℕ) → a < n → Slim (tree_of P a)) → (args : List ℕ) → Below n args → SlimAll (pick (trees P) args)
  unfolding pick tree_of
  pick_slim n h [] b = tt
  pick_slim n h (a ∷ args) b = (h a b.0, pick_slim n h args b.1)

  no_tree_slim : Slim no_tree
  unfolding width
  no_tree_slim = (λ e. omega arith, omega arith, tt)

  slim_below : (k n : ℕ) → n < k → Slim (tree_of P n)
  slim_below zero n h = absurd (omega arith)
  slim_below (suc k) n h = elim (dec_lt n (length P.nodes)) [
    | yes l ↦
        let N = G.nodes n l in
        let args = (node_of P n).args in
        subst Slim (sym (tree_node P G n l)) (symbol-head P W (node_of P n).head N.head, omega (arith, pick-width (trees P) args, ground_few P G n l), pick_slim n (λ a m. slim_below k a (omega arith)) args (args-below P G n l))
    | no l ↦ subst Slim (sym (tree_past P n (omega (arith, l)))) no_tree_slim
  ]

  pub tree_slim : (n : ℕ) → Slim (tree_of P n)
  tree_slim n = slim_below (suc n) n (omega arith)

  -- so they can be lifted, whatever their number
  pub lift_tree : (n : ℕ) (s : List Node) → Patterns s → Interning s (lift (tree_of P n) s)
  lift_tree n s S = lift_patterns (tree_of P n) (tree_slim n) s S

  slim_pick : (ns : List ℕ) → SlimAll (pick (trees P) ns)
  unfolding pick tree_of
  slim_pick [] = tt
  slim_pick (n ∷ ns) = (tree_slim n, slim_pick ns)

  pub lift_trees : (ns : List ℕ) (s : List Node) → Patterns s → InterningAll s (lift_all (pick (trees P) ns) s)
  lift_trees ns s S = lift_all_patterns (pick (trees P) ns) (slim_pick ns) s S
