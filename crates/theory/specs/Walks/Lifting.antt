-- Ground nodes lifted by the memoised walk: it gives the store and the number that `lift` of the node's tree gives.
use Rattle.std.specs.Prelude.{◌≡◌, Bool, ℕ, ◌<◌, ltb, length, get_or}
use Rattle.std.proofs.Math.Path.{refl, ap, ap₂, subst}
use Rattle.std.proofs.Common.{sym, ◌∙◌, arith}
use Rattle.std.proofs.Math.Bool.{true, false}
use mathlib.Core.List.{List, [], ◌∷◌, map}
use Rattle.std.proofs.Math.Option.{some}
use Rattle.std.proofs.Math.ListN.{get_or-eq_default}
use Rattle.definition.specs.Test.{is, see, tests}
use Rattle.definition.specs.Pack.{Node, Pack, no_node, node_of}
use Rattle.definition.specs.Good.{Below, Good}
use Rattle.definition.specs.Tree.{Tree, Trees, no_trees, tree_then, pick, trees, tree_of}
use Rattle.definition.specs.Verdict.{Bound, value_of}
use Rattle.definition.specs.Store.{Stored, intern}
use Rattle.definition.specs.Analysis.{StoredAll, copied, pairing, lift, lift_all}
use Rattle.definition.proofs.Laws.Grow.{below_more}
use Rattle.definition.proofs.Laws.Tree.{args-below, tree_node}
use Rattle.theory.specs.Patterns.Interned.{interned}
use Rattle.theory.specs.Walks.Walk.{Under, below-under, Known, walk, walk-induct}
use Rattle.theory.specs.Walks.Machine.{Frame, turn, Stacked}
use Rattle.theory.specs.Walks.WalkReady.{Sound, turn_going}
use Rattle.theory.specs.Walks.Again.{stored, stored_all, headed, lift_again, lift_twice}
use Rattle.theory.specs.Walks.Memo.{has, has_value, has-none, value-has, has_new, has-others}
use Rattle.theory.specs.Copies.Copying.{value_of_new, value_of_old, newest, older, looked, copied_is, value_apart}

-- the store, and what ground nodes were lifted to
pub record Lifting : Type 0 where
  pub store : List Node
  pub memo : List Bound

-- a store with a memo
abbrev pub lifting : List Node → List Bound → Lifting
lifting s m = record { store = s; memo = m }

-- a ground node's arguments
abbrev pub args_of : Pack → ℕ → List ℕ
args_of P n = (node_of P n).args

-- whether a ground node was lifted
unfoldable pub is_lifted : Lifting → ℕ → Bool
unfolding has
is_lifted s n = has s.memo n

-- a ground node over what its arguments were lifted to
unfoldable pub over : Pack → List Bound → ℕ → Node
unfolding node_of copied
over P m n = headed (node_of P n).head (map (copied m) (node_of P n).args)

-- a ground node whose arguments were lifted is lifted
unfoldable pub lift_node : Pack → ℕ → Lifting → Lifting
unfolding over intern
lift_node P n s = let p = intern s.store (over P s.memo n) in lifting p.store (pairing n p.number ∷ s.memo)

-- each lifted ground node stands in the store: to lift it again changes nothing
abbrev pub Right : Pack → Lifting → Type 0
Right P s = (n p : ℕ) → value_of n s.memo ≡ some p → lift (tree_of P n) s.store ≡ stored p s.store

-- a node is lifted once it is put there
pub lift_made : (P : Pack) (n : ℕ) (s : Lifting) → is_lifted (lift_node P n s) n ≡ true
unfolding lift_node is_lifted
lift_made P n s = has_new s.memo n (intern s.store (over P s.memo n)).number

-- and no other is
pub lift_others : (P : Pack) (n x : ℕ) (s : Lifting) → (n ≡ x → ⊥) → is_lifted (lift_node P n s) x ≡ is_lifted s x
unfolding lift_node is_lifted
lift_others P n x s h = has-others s.memo n (intern s.store (over P s.memo n)).number x h

-- one ground term, and those after it
lift_then : (t : Tree) (ts : Trees) (s s' : List Node) (p : ℕ) → lift t s ≡ stored p s' → lift_all (tree_then t ts) s ≡ stored_all (p ∷ (lift_all ts s').numbers) (lift_all ts s').store
unfolding lift
lift_then t ts s s' p e = ap (λ (r : Stored). stored_all (r.number ∷ (lift_all ts r.store).numbers) (lift_all ts r.store).store) e

-- one ground term by itself
lift_one : (t : Tree) (s s' : List Node) (p : ℕ) → lift_all (tree_then t no_trees) s ≡ stored_all (p ∷ []) s' → lift t s ≡ stored p s'
unfolding lift
lift_one t s s' p e =
    let a : (lift t s).number ≡ p = ap (λ (r : StoredAll). get_or r.numbers 0 0) e in
    let b : (lift t s).store ≡ s' = ap (λ (r : StoredAll). r.store) e in
    λ i. stored (a i) (b i)

-- what walking nodes gives: a right memo with all that it had and the nodes, and the store and numbers of their trees lifted
pub record Walked (P : Pack) (xs : List ℕ) (s t : Lifting) : Type 0 where
  pub right : Right P t
  pub keeps : (n p : ℕ) → value_of n s.memo ≡ some p → value_of n t.memo ≡ some p
  pub knows : Known is_lifted t xs
  pub same : lift_all (pick (trees P) xs) s.store ≡ stored_all (map (copied t.memo) xs) t.store

-- a pack whose nodes rest on earlier ones
module _ (P : Pack) (G : Good P) where
  -- arguments are earlier, so a node's number is its rank
  pub args_fall : (n : ℕ) → Under (λ n. n) n (args_of P n)
  unfolding node_of
  args_fall n = elim (see (ltb n (length P.nodes))) [
    | is true h ↦ below-under n (args_of P n) (args-below P G n (omega tests))
    | is false h ↦
        let e : args_of P n ≡ [] = ap (λ (m : Node). m.args) (get_or-eq_default P.nodes no_node {n = n} (omega tests)) in
        subst (λ (xs : List ℕ). Under (λ n. n) n xs) (sym e) tt
  ]

  -- arguments of given nodes are given
  pub args_inside : (n : ℕ) → n < length P.nodes → Below (length P.nodes) (args_of P n)
  args_inside n h = below_more n (length P.nodes) (args_of P n) (omega arith) (args-below P G n h)

  -- to lift again what was lifted changes nothing
  right-all : (xs : List ℕ) (s : Lifting) → Right P s → Known is_lifted s xs → lift_all (pick (trees P) xs) s.store ≡ stored_all (map (copied s.memo) xs) s.store
  unfolding pick tree_of lift is_lifted
  right-all [] s r k = refl
  right-all (x ∷ xs) s r k =
      let p = copied s.memo x in
      lift_then (tree_of P x) (pick (trees P) xs) s.store s.store p (r x p (has_value s.memo x k.0))
      ∙ ap (λ (b : StoredAll). stored_all (p ∷ b.numbers) b.store) (right-all xs s r k.1)

  -- a node over lifted arguments is what its tree is lifted to
  lift_node_law : (x : ℕ) (s t : List Node) (m : List Bound) → x < length P.nodes → lift_all (pick (trees P) (args_of P x)) s ≡ stored_all (map (copied m) (args_of P x)) t
      → lift (tree_of P x) s ≡ intern t (over P m x)
  unfolding lift over
  lift_node_law x s t m h e =
      ap (λ (y : Tree). lift y s) (tree_node P G x h) ∙ ap (λ (b : StoredAll). intern b.store (headed (node_of P x).head b.numbers)) e

  -- the memo stays right when a node is lifted whose arguments were
  pub right-node : (x : ℕ) (s : Lifting) → x < length P.nodes → Known is_lifted s (args_of P x) → Right P s → Right P (lift_node P x s)
  unfolding lift_node
  right-node x s h k r n p j =
      let new = intern s.store (over P s.memo x) in
      let e : lift (tree_of P x) s.store ≡ new = lift_node_law x s.store s.store s.memo h (right-all (args_of P x) s r k) in
      elim (looked x new.number s.memo n p j) [
        | newest i c ↦
            let twice : lift (tree_of P x) new.store ≡ new = rw e at (lift_twice (tree_of P x) s.store) in
            ap (λ (y : ℕ). lift (tree_of P y) new.store) i ∙ twice ∙ ap (λ (y : ℕ). stored y new.store) (sym c)
        | older o ↦ lift_again (tree_of P n) s.store new.store p (interned s.store (over P s.memo x)).grows (r n p o)
      ]

  -- a lifted node stays
  walked_old : (x : ℕ) (s : Lifting) → is_lifted s x ≡ true → Right P s → Walked P (x ∷ []) s s
  walked_old x s k r = record { right = r; keeps = λ n p v. v; knows = (k, tt); same = right-all (x ∷ []) s r (k, tt) }

  -- a node whose arguments were walked is lifted
  walked_new : (x : ℕ) (s t : Lifting) → x < length P.nodes → is_lifted s x ≡ false → Walked P (args_of P x) s t → Walked P (x ∷ []) s (lift_node P x t)
  unfolding pick tree_of lift lift_node is_lifted
  walked_new x s t h k w =
      let r = intern t.store (over P t.memo x) in
      let e : lift (tree_of P x) s.store ≡ r = lift_node_law x s.store t.store t.memo h w.same in
      let v = value_of_new x r.number t.memo in
      record {
        right = right-node x t h w.knows w.right;
        keeps = λ n p j. value_of_old x r.number t.memo n (value_apart s.memo n x p j (has-none s.memo x k)) ∙ w.keeps n p j;
        knows = (lift_made P x t, tt);
        same = lift_then (tree_of P x) no_trees s.store r.store r.number e ∙ ap (λ (y : ℕ). stored_all (y ∷ []) r.store) (sym (copied_is (pairing x r.number ∷ t.memo) x r.number v));
      }

  -- one node, then others
  walked_both : (x : ℕ) (xs : List ℕ) (s t u : Lifting) → Walked P (x ∷ []) s t → Walked P xs t u → Walked P (x ∷ xs) s u
  unfolding pick tree_of lift is_lifted
  walked_both x xs s t u a b =
      let p = copied t.memo x in
      let v = b.keeps x p (has_value t.memo x a.knows.0) in
      let e : lift (tree_of P x) s.store ≡ stored p t.store = lift_one (tree_of P x) s.store t.store p a.same in
      record {
        right = b.right;
        keeps = λ n q j. b.keeps n q (a.keeps n q j);
        knows = (value-has u.memo x p v, b.knows);
        same = lift_then (tree_of P x) (pick (trees P) xs) s.store t.store p e
            ∙ ap₂ (λ (y : ℕ) (r : StoredAll). stored_all (y ∷ r.numbers) r.store) (sym (copied_is u.memo x p v)) b.same;
      }

  -- walking ground nodes with a right memo
  pub walked : (d : ℕ) (xs : List ℕ) (s : Lifting) → Under (λ n. n) d xs → Below (length P.nodes) xs → Right P s → Walked P xs s (walk (args_of P) is_lifted (lift_node P) d xs s)
  unfolding pick lift
  walked = walk-induct (args_of P) is_lifted (lift_node P) (λ n. n) args_fall (λ xs s t. Below (length P.nodes) xs → Right P s → Walked P xs s t)
      (λ s b r. record { right = r; keeps = λ n p v. v; knows = tt; same = refl })
      (λ x s k b r. walked_old x s k r)
      (λ x s t k q b r. walked_new x s t b.0 k (q (args_inside x b.0) r))
      (λ x xs s t u a c b r. let w = a (b.0, tt) r in walked_both x xs s t u w (c b.1 w.right))

  -- walking a ground node gives what `lift` of its tree gives, and the memo stays right
  pub walk_lifts : (d n : ℕ) (s : Lifting) → n < d → n < length P.nodes → Right P s
      → let t = walk (args_of P) is_lifted (lift_node P) d (n ∷ []) s in
      Right P t × (lift (tree_of P n) s.store ≡ stored (copied t.memo n) t.store)
  unfolding pick tree_of
  walk_lifts d n s h b r =
      let w = walked d (n ∷ []) s (h, tt) (b, tt) r in
      let t = walk (args_of P) is_lifted (lift_node P) d (n ∷ []) s in
      (w.right, lift_one (tree_of P n) s.store t.store (copied t.memo n) w.same)

  -- each turn of the machine keeps the stack sound and the memo right
  pub lift_going : (d : ℕ) (f : Frame) (fs : List Frame) (s : Lifting)
      → Stacked (args_of P) is_lifted (lift_node P) (λ n. n) args_fall 0 d (f ∷ fs)
      → Sound (args_of P) is_lifted (lift_node P) (lift_made P) (lift_others P) (λ n. n) args_fall (length P.nodes) args_inside s (f ∷ fs)
      → Right P s
      → let w = turn (args_of P) is_lifted (lift_node P) (f ∷ fs) s in
      Sound (args_of P) is_lifted (lift_node P) (lift_made P) (lift_others P) (λ n. n) args_fall (length P.nodes) args_inside w.state w.stack × Right P w.state
  lift_going = turn_going (args_of P) is_lifted (lift_node P) (lift_made P) (lift_others P) (λ n. n) args_fall (length P.nodes) args_inside (Right P) (λ x s h u k r. right-node x s h k r)
