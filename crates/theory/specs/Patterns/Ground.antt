-- Ground trees as patterns: a lifted tree stands for itself, whatever the assignment, and so does each tree of a good pack.
use Rattle.std.specs.Prelude.{◌≡◌, refl, false, List, [], ◌∷◌, ℕ, zero, suc, ◌<◌, eqb, length, get_or}
use Rattle.std.proofs.Common.{ap, ap₂, ◌∙◌, arith, ne_eqb}
use Rattle.definition.specs.Pack.{Terms, Node, no_node, Pack, node_of}
use Rattle.definition.specs.Tree.{Tree, Trees, tree, no_trees, tree_then, pick, trees, tree_of, turn, turns}
use Rattle.definition.specs.Good.{Below, Good, Few}
use Rattle.definition.proofs.Laws.Tree.{args-below, tree_node}
use Rattle.definition.specs.Store.{variable_head, is_variable, term_of, intern}
use Rattle.definition.specs.Analysis.{lift, lift_all}
use Rattle.theory.specs.Copies.Terms.{Earlier, terms_at, term_applied}
use Rattle.theory.specs.Patterns.Interned.{interned, lifted, lifted_all, below-args}
use Rattle.theory.specs.Patterns.Resolved.{term_grows, terms_grow}

-- a tree in which no symbol is the variables' head
abbrev mutual
  pub Ground : Tree → Type 0
  Ground (tree h ts) = (eqb h variable_head ≡ false) × Grounds ts

  pub Grounds : Trees → Type 0
  Grounds no_trees = Unit {0}
  Grounds (tree_then t ts) = Ground t × Grounds ts

-- an application in a store that was interned over patterns of an earlier store
pub applied_means : (s : List Node) (h : ℕ) (args : List ℕ) (ρ : ℕ → Tree) → Earlier s → Below (length s) args → eqb h variable_head ≡ false
    → turn ρ (term_of (intern s (record { head = h; args = args })).store (intern s (record { head = h; args = args })).number) ≡ tree h (turns ρ (terms_at s args))
unfolding turn is_variable
applied_means s h args ρ E b v =
    let n : Node = record { head = h; args = args } in
    let I = interned s n in
    let p = intern s n in
    let w : is_variable (get_or p.store p.number no_node) ≡ false = rw I.is v in
    ap (turn ρ) (term_applied p.store (I.earlier E (below-args (length s) n b)) p.number I.within w)
    ∙ ap (λ (m : Node). tree m.head (turns ρ (terms_at p.store m.args))) I.is
    ∙ ap (λ (ts : Terms). tree h (turns ρ ts)) (terms_grow s p.store args I.grows b)

-- a lifted ground tree stands for itself, whatever the assignment
mutual
  unfolding lift turn terms_at

  pub lift_means : (t : Tree) (s : List Node) (ρ : ℕ → Tree) → Earlier s → Ground t → turn ρ (term_of (lift t s).store (lift t s).number) ≡ t
  lift_means (tree h ts) s ρ E a =
      let L = lifted_all ts s in
      let args = lift_all ts s in
      applied_means args.store h args.numbers ρ (L.earlier E) L.within a.0 ∙ ap (tree h) (lift_means_all ts s ρ E a.1)

  pub lift_means_all : (ts : Trees) (s : List Node) (ρ : ℕ → Tree) → Earlier s → Grounds ts → turns ρ (terms_at (lift_all ts s).store (lift_all ts s).numbers) ≡ ts
  lift_means_all no_trees s ρ E a = refl
  lift_means_all (tree_then t ts) s ρ E a =
      let F = lifted t s in
      let first = lift t s in
      let R = lifted_all ts first.store in
      let rest = lift_all ts first.store in
      ap₂ tree_then
      (ap (turn ρ) (term_grows first.store rest.store first.number R.grows F.within) ∙ lift_means t s ρ E a.0)
      (lift_means_all ts first.store ρ (F.earlier E) a.1)

-- the trees of numbers below n are ground if each is
pick_ground : (P : Pack) (n : ℕ) (args : List ℕ) → Below n args → ((a : ℕ) → a < n → Ground (tree_of P a)) → Grounds (pick (trees P) args)
unfolding pick tree_of
pick_ground P n [] b f = tt
pick_ground P n (a ∷ args) b f = (f a b.0, pick_ground P n args b.1 f)

-- the trees of a good pack's nodes are ground, here of those below k
below_ground : (P : Pack) → Good P → Few P → (k n : ℕ) → n < k → n < length P.nodes → Ground (tree_of P n)
below_ground P G W zero n h l = absurd (omega arith)
below_ground P G W (suc k) n h l =
    let s = (G.nodes n l).head in
    let m = W.symbols in
    let v : eqb (node_of P n).head variable_head ≡ false = ne_eqb (node_of P n).head variable_head (λ e. omega arith) in
    rw (tree_node P G n l) (v, pick_ground P n (node_of P n).args (args-below P G n l) (λ a u. below_ground P G W k a (omega arith) (omega arith)))

-- the tree of a good pack's node is ground
pub node_ground : (P : Pack) → Good P → Few P → (n : ℕ) → n < length P.nodes → Ground (tree_of P n)
node_ground P G W n l = below_ground P G W (suc n) n (omega arith) l
