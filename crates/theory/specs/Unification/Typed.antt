-- Sorts of a solution: what is below a well-sorted node is well sorted, and so is what a well-sorted choice makes of it.
use Rattle.std.specs.Prelude.{◌≡◌, refl, true, false, List, [], ◌∷◌, ℕ, zero, suc, ◌<◌, length}
use Rattle.std.proofs.Common.{sym, ◌∙◌, subst}
use Rattle.std.proofs.Math.Option.{none}
use Rattle.definition.specs.Test.{is, see, never, all, and_parts}
use Rattle.definition.specs.Pack.{Pack, symbol_of}
use Rattle.definition.specs.Tree.{Tree, tree}
use Rattle.definition.specs.Good.{Below}
use Rattle.definition.specs.Graph.{Graph, vertex, root, is_var, ends}
use Rattle.theory.specs.Derive.{SortedTree, SortedTrees}
use Rattle.theory.specs.Unification.Solve.{trees_at, Solves, sort_at, SortsAt, Formed}
use Rattle.theory.specs.Unification.Kept.{root-sort}
use Rattle.theory.specs.Unification.Acyclic.{solves_root, value}
use Rattle.theory.specs.Patterns.Valued.{deep_ends}

-- a node whose tree is of its sort
abbrev pub Typed : Pack → Graph → (ℕ → Tree) → ℕ → Type 0
Typed P g θ x = SortedTree P (θ x) (sort_at P g x)

-- nodes all of which are
abbrev pub TypedAll : Pack → Graph → (ℕ → Tree) → List ℕ → Type 0
TypedAll P g θ [] = Unit {0}
TypedAll P g θ (x ∷ xs) = Typed P g θ x × TypedAll P g θ xs

typed_args : (P : Pack) (g : Graph) (θ : ℕ → Tree) (xs ss : List ℕ) → SortsAt P g xs ss → SortedTrees P (trees_at θ xs) ss → TypedAll P g θ xs
unfolding trees_at
typed_args P g θ [] ss a q = tt
typed_args P g θ (x ∷ xs) [] a q = absurd a
typed_args P g θ (x ∷ xs) (s ∷ ss) a q = (subst (SortedTree P (θ x)) (sym a.0) q.0, typed_args P g θ xs ss a.1 q.1)

-- a node's root is typed as it is
pub typed_root : (P : Pack) (g : Graph) → Formed P g → (θ : ℕ → Tree) → Solves θ g → (x : ℕ) → x < length g → Typed P g θ x → Typed P g θ (root g x)
typed_root P g F θ S x h t = subst (λ (s : ℕ). SortedTree P (θ (root g x)) s) (root-sort P g F x h) (subst (λ (u : Tree). SortedTree P u (sort_at P g x)) (solves_root θ P g F S x h) t)

-- and so are a root's arguments
pub typed_below : (P : Pack) (g : Graph) → Formed P g → (θ : ℕ → Tree) → Solves θ g → (r : ℕ) → r < length g → (vertex g r).link ≡ none → is_var (vertex g r) ≡ false → Typed P g θ r → TypedAll P g θ (vertex g r).args
unfolding sort_at
typed_below P g F θ S r h l w t =
    let q = subst (λ (u : Tree). SortedTree P u (sort_at P g r)) (S.apps r h l w) t in
    typed_args P g θ (vertex g r).args (symbol_of P (vertex g r).head).inputs ((F r h).sorts w) q.2

-- what a choice that is sorted wherever the solution is makes of a node
pub typed_value : (P : Pack) (g : Graph) → Formed P g → (θ : ℕ → Tree) → Solves θ g → (κ : ℕ → Tree)
    → ((r : ℕ) → r < length g → (vertex g r).link ≡ none → is_var (vertex g r) ≡ true → Typed P g θ r → SortedTree P (κ r) (sort_at P g r))
    → (d x : ℕ) → x < length g → ends d g x ≡ true → Typed P g θ x → SortedTree P (value d g κ x) (sort_at P g x)
unfolding value ends all trees_at sort_at
typed_value P g F θ S κ choice zero x h e t = never (cc)
typed_value P g F θ S κ choice (suc d) x h e t =
    let r = root g x in
    let f = F x h in
    let u = typed_root P g F θ S x h t in
    elim (see (is_var (vertex g r))) [
      | is true w ↦ rw (w, value) (subst (SortedTree P (κ r)) (sym (root-sort P g F x h)) (choice r f.within f.rooted w u))
      | is false w ↦
          let B = F r f.within in
          let s : sort_at P g x ≡ (symbol_of P (vertex g r).head).output = root-sort P g F x h ∙ applied-sort r w in
          rw (w, value) (subst (SortedTree P (tree (vertex g r).head (trees_at (λ y. value d g κ y) (vertex g r).args))) (sym s) (
            B.head w,
            refl,
            below (vertex g r).args (symbol_of P (vertex g r).head).inputs B.below (B.sorts w) (deep_ends g d x e w) (typed_below P g F θ S r f.within f.rooted w u)
                (λ y l q v. typed_value P g F θ S κ choice d y l q v),
          ))
    ] where
      applied-sort : (r : ℕ) → is_var (vertex g r) ≡ false → sort_at P g r ≡ (symbol_of P (vertex g r).head).output
      applied-sort r w = rw (w, sort_at)

      below : (xs ss : List ℕ) → Below (length g) xs → SortsAt P g xs ss → all (λ y. ends d g y) xs ≡ true → TypedAll P g θ xs
          → ((y : ℕ) → y < length g → ends d g y ≡ true → Typed P g θ y → SortedTree P (value d g κ y) (sort_at P g y)) → SortedTrees P (trees_at (λ y. value d g κ y) xs) ss
      below [] [] b a q v ih = tt
      below [] (s ∷ ss) b a q v ih = absurd a
      below (y ∷ ys) [] b a q v ih = absurd a
      below (y ∷ ys) (s ∷ ss) b a q v ih =
          let p = and_parts (ends d g y) (all (λ z. ends d g z) ys) q in
          (subst (SortedTree P (value d g κ y)) a.0 (ih y b.0 p.0 v.0), below ys ss b.1 a.1 p.1 v.1 ih)
