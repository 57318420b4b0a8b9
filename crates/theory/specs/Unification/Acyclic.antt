-- Circles: a graph with a solution has none, and in a graph without one every choice for its free variables extends to just one solution.
use Rattle.std.specs.Prelude.{◌≡◌, refl, Bool, true, false, List, [], ◌∷◌, ℕ, zero, suc, ◌<◌, ◌≤◌, length}
use Rattle.std.proofs.Common.{sym, ap, ap₂, ◌∙◌, arith}
use Rattle.std.proofs.Math.Option.{none, some}
use Rattle.definition.specs.Test.{is, see, never, all, ◌and◌, and_parts}
use Rattle.definition.specs.Pack.{Pack}
use Rattle.definition.specs.Tree.{Tree, tree, tree_then, no_tree}
use Rattle.definition.specs.Good.{Below}
use Rattle.definition.specs.Graph.{Graph, vertex, follow, root, is_var, ends}
use Rattle.theory.specs.Unification.Solve.{trees_at, Solves, Formed}
use Rattle.theory.specs.Unification.Forest.{root_self, root_along}
use Rattle.theory.specs.Unification.Kept.{formed_forest}

-- a solution gives a node its root's tree
pub solves_root : (θ : ℕ → Tree) (P : Pack) (g : Graph) → Formed P g → Solves θ g → (x : ℕ) → x < length g → θ x ≡ θ (root g x)
unfolding root follow
solves_root θ P g F S x h = walk (length g) x h where
  walk : (k x : ℕ) → x < length g → θ x ≡ θ (follow k g x)
  walk zero x h = refl
  walk (suc k) x h = elim (see (vertex g x).link) [
    | is none p ↦ rw (p, follow)
    | is (some y) p ↦ rw (p, follow) (S.links x y h p ∙ walk k y ((F x h).linked y p).0)
  ]

-- levels -----------------------------------------------------------------

-- what each of them passes
pub all_each : (f : ℕ → Bool) (P : ℕ → Type 0) (xs : List ℕ) → ((x : ℕ) → f x ≡ true → P x) → all f xs ≡ true → (θ ϕ : ℕ → Tree) → ((x : ℕ) → P x → θ x ≡ ϕ x) → trees_at θ xs ≡ trees_at ϕ xs
unfolding all trees_at
all_each f P [] h e θ ϕ same = refl
all_each f P (x ∷ xs) h e θ ϕ same = let p = and_parts (f x) (all f xs) e in ap₂ tree_then (same x (h x p.0)) (all_each f P xs h p.1 θ ϕ same)

all_more : (f g : ℕ → Bool) (xs : List ℕ) → ((x : ℕ) → f x ≡ true → g x ≡ true) → all f xs ≡ true → all g xs ≡ true
unfolding all ◌and◌
all_more f g [] h e = refl
all_more f g (x ∷ xs) h e = let p = and_parts (f x) (all f xs) e in rw (h x p.0, ◌and◌) (all_more f g xs h p.1)

-- more levels do no harm
pub ends_more : (d e : ℕ) (g : Graph) (x : ℕ) → d ≤ e → ends d g x ≡ true → ends e g x ≡ true
unfolding ends
ends_more zero e g x h p = never (cc)
ends_more (suc d) zero g x h p = absurd (omega arith)
ends_more (suc d) (suc e) g x h p = elim (see (is_var (vertex g (root g x)))) [
  | is true v ↦ rw (v, ends)
  | is false v ↦ rw (v, ends) (all_more (λ y. ends d g y) (λ y. ends e g y) (vertex g (root g x)).args (λ y q. ends_more d e g y (omega arith) q) (rw (v, ends) at p))
]

-- the tree of a node, at most d levels deep, by a choice for the variables that are joined to none
unfoldable pub value : ℕ → Graph → (ℕ → Tree) → ℕ → Tree
unfolding is_var vertex root trees_at
value zero g κ x = no_tree
value (suc d) g κ x = elim (is_var (vertex g (root g x))) [ true ↦ κ (root g x) | false ↦ tree (vertex g (root g x)).head (trees_at (λ y. value d g κ y) (vertex g (root g x)).args) ]

-- once a term ends, more levels give the same tree
pub value_enough : (d e : ℕ) (g : Graph) (κ : ℕ → Tree) (x : ℕ) → d ≤ e → ends d g x ≡ true → value e g κ x ≡ value d g κ x
unfolding ends value
value_enough zero e g κ x h p = never (cc)
value_enough (suc d) zero g κ x h p = absurd (omega arith)
value_enough (suc d) (suc e) g κ x h p = elim (see (is_var (vertex g (root g x)))) [
  | is true v ↦ rw (v, value)
  | is false v ↦
      rw (v, value) (ap (tree (vertex g (root g x)).head) (all_each (λ y. ends d g y) (λ y. ends d g y ≡ true) (vertex g (root g x)).args (λ y q. q) (rw (v, ends) at p)
      (λ y. value e g κ y) (λ y. value d g κ y) (λ y q. value_enough d e g κ y (omega arith) q)))
]

-- every node ends within n levels
abbrev pub Ending : ℕ → Graph → Type 0
Ending n g = (x : ℕ) → x < length g → ends n g x ≡ true

-- "each choice of trees for the root variables extends to a solution"
pub extends : (P : Pack) (g : Graph) → Formed P g → (n : ℕ) → Ending (suc n) g → (κ : ℕ → Tree) → Solves (value (suc n) g κ) g
unfolding value ends
extends P g F n E κ = record {
  links = λ x y h e. ap (λ (r : ℕ). at r) (root_along g (formed_forest P g F) x y h e);
  apps = λ x h e v.
      let r = root_self g x e in
      let w : is_var (vertex g (root g x)) ≡ false = rw r v in
      let p : all (λ y. ends n g y) (vertex g (root g x)).args ≡ true = rw (w, ends) at (E x h) in
      let q = all_each (λ y. ends n g y) (λ y. ends n g y ≡ true) (vertex g (root g x)).args (λ y z. z) p (λ y. value n g κ y) (λ y. value (suc n) g κ y) (λ y z. sym (value_enough n (suc n) g κ y (omega arith) z)) in
      rw (w, value) (ap (tree (vertex g (root g x)).head) q ∙ ap (λ (z : ℕ). tree (vertex g z).head (trees_at (value (suc n) g κ) (vertex g z).args)) r);
} where
  at : ℕ → Tree
  at r = elim (is_var (vertex g r)) [ true ↦ κ r | false ↦ tree (vertex g r).head (trees_at (λ y. value n g κ y) (vertex g r).args) ]

-- it has the choice at the variables
pub chosen : (g : Graph) (n : ℕ) (κ : ℕ → Tree) (x : ℕ) → (vertex g x).link ≡ none → is_var (vertex g x) ≡ true → value (suc n) g κ x ≡ κ x
unfolding value
chosen g n κ x e v = let r = root_self g x e in let w : is_var (vertex g (root g x)) ≡ true = rw r v in rw (w, value) (ap κ r)

-- and there is no other
pub only_one : (P : Pack) (g : Graph) → Formed P g → (θ κ : ℕ → Tree) → Solves θ g → ((x : ℕ) → x < length g → (vertex g x).link ≡ none → is_var (vertex g x) ≡ true → θ x ≡ κ x)
    → (n x : ℕ) → x < length g → ends n g x ≡ true → θ x ≡ value n g κ x
unfolding value ends all trees_at
only_one P g F θ κ S c zero x h p = never (cc)
only_one P g F θ κ S c (suc n) x h p =
    let r = root g x in
    let f = F x h in
    elim (see (is_var (vertex g r))) [
      | is true v ↦ rw (v, value) (solves_root θ P g F S x h ∙ c r f.within f.rooted v)
      | is false v ↦
          let q : all (λ y. ends n g y) (vertex g r).args ≡ true = rw (v, ends) at p in
          rw (v, value) (solves_root θ P g F S x h ∙ S.apps r f.within f.rooted v
          ∙ ap (tree (vertex g r).head) (below (vertex g r).args (F r f.within).below q (λ y l z. only_one P g F θ κ S c n y l z)))
    ] where
      below : (xs : List ℕ) → Below (length g) xs → all (λ y. ends n g y) xs ≡ true → ((y : ℕ) → y < length g → ends n g y ≡ true → θ y ≡ value n g κ y) → trees_at θ xs ≡ trees_at (λ y. value n g κ y) xs
      below [] b q ih = refl
      below (y ∷ ys) b q ih = let p = and_parts (ends n g y) (all (λ z. ends n g z) ys) q in ap₂ tree_then (ih y b.0 p.0) (below ys b.1 p.1 ih)
