-- What a link from one root to another keeps: chains come to an end, the graph stays well formed, and the link is one equation more.
use Rattle.std.specs.Prelude.{◌≡◌, refl, List, [], ◌∷◌, ℕ, zero, suc, ◌<◌, eqb}
use Rattle.std.proofs.Math.Path.{sym}
use Rattle.std.proofs.Common.{ap, ap₂, ◌∙◌}
use Rattle.std.proofs.Math.Bool.{true, false}
use Rattle.std.proofs.Math.Option.{none, some}
use native.Mathlib.Omega.{arith}
use Rattle.std.proofs.Math.ListN.{length}
use Rattle.definition.specs.Pack.{Pack, symbol_of}
use Rattle.definition.specs.Tree.{Tree, tree}
use Rattle.definition.specs.Test.{is, see, never, tests}
use Rattle.definition.specs.Graph.{Graph, vertex, follow, root, is_var}
use Rattle.theory.specs.Unification.Solve.{trees_at, Solves, sort_at, SortsAt, Formed, SameNodes}
use Rattle.theory.specs.Unification.Roots.{follow-none, follow_some, Inside}
use Rattle.theory.specs.Unification.Forest.{Forest, root_inside, sent, Linked, linked_forest, root-linked}
use Rattle.theory.specs.Unification.Join.{Joined}

-- the same nodes are variables
pub same_var : (g h : Graph) → SameNodes g h → (z : ℕ) → is_var (vertex h z) ≡ is_var (vertex g z)
unfolding is_var
same_var g h s z = rw (s.heads z) refl

-- the same nodes have the same sorts
pub same-sort : (P : Pack) (g h : Graph) → SameNodes g h → (z : ℕ) → sort_at P h z ≡ sort_at P g z
unfolding sort_at
same-sort P g h s z = let v = same_var g h s z in elim (see (is_var (vertex g z))) [
  | is true e ↦ rw (v ∙ e, e, sort_at) (s.sorts z)
  | is false e ↦ rw (v ∙ e, e, sort_at) (ap (λ k. (symbol_of P k).output) (s.heads z))
]

-- the same nodes have these sorts
pub same-sorts : (P : Pack) (g h : Graph) → SameNodes g h → (xs ss : List ℕ) → SortsAt P g xs ss → SortsAt P h xs ss
same-sorts P g h s [] [] q = tt
same-sorts P g h s [] (t ∷ ss) q = absurd q
same-sorts P g h s (x ∷ xs) [] q = absurd q
same-sorts P g h s (x ∷ xs) (t ∷ ss) q = (same-sort P g h s x ∙ q.0, same-sorts P g h s xs ss q.1)

-- in a well-formed graph links lead to its nodes
pub formed_inside : (P : Pack) (g : Graph) → Formed P g → Inside g
formed_inside P g F x y h e = ((F x h).linked y e).0

-- in a well-formed graph every chain comes to an end
pub formed_forest : (P : Pack) (g : Graph) → Formed P g → Forest g
formed_forest P g F = record { inside = formed_inside P g F; rooted = λ x h. (F x h).rooted }

-- x is joined to y
module _ (g h : Graph) (x y : ℕ) (j : Joined g h x y) where
  link : Linked g h x y
  link = record { long = j.same.long; here = j.here; there = j.there }

  -- both were roots
  module _ (rx : (vertex g x).link ≡ none) (ry : (vertex g y).link ≡ none) (n : x ≡ y → ⊥) where
    -- the graph stays well formed
    pub formed_joined : (P : Pack) → Formed P g → x < length g → y < length g → sort_at P g x ≡ sort_at P g y → Formed P h
    unfolding root
    formed_joined P F hx hy s z hz =
        let m = j.same.long in
        let l : z < length g = omega arith in
        let f = F z l in
        let v = same_var g h j.same z in
        record {
          soft = j.soft z ∙ f.soft;
          head = λ e. rw (j.same.heads z) (f.head (sym v ∙ e));
          below = rw (m, j.same.args z) f.below;
          sorts = λ e. rw (j.same.heads z, j.same.args z) (same-sorts P g h j.same (vertex g z).args (symbol_of P (vertex g z).head).inputs (f.sorts (sym v ∙ e)));
          bare = λ e. j.same.args z ∙ f.bare (sym v ∙ e);
          linked = λ w e. let q = into z w l e in (rw m q.0, same-sort P g h j.same z ∙ q.1 ∙ sym (same-sort P g h j.same w));
          rooted = forest.rooted z hz;
          within = root_inside h forest z hz;
        }
      where
        into : (z w : ℕ) → z < length g → (vertex h z).link ≡ some w → (w < length g) × (sort_at P g z ≡ sort_at P g w)
        into z w l e = elim (see (eqb z x)) [
          | is true q ↦
              let zx : z ≡ x = omega tests in
              let yw : y ≡ w = (let c : some y ≡ some w = sym j.here ∙ (rw zx at e) in cc) in
              rw (zx, ← yw) (hy, s)
          | is false q ↦ (F z l).linked w (sym (j.there z (λ r. omega tests)) ∙ e)
        ]

        forest : Forest h
        forest = linked_forest g h x y link rx ry n (formed_forest P g F) hy

    -- the root of a node afterwards: x's class goes to y, all others stay
    pub root-joined : (P : Pack) → Formed P g → y < length g → (z : ℕ) → z < length g → root h z ≡ sent x y (root g z)
    root-joined P F hy z l = root-linked g h x y link rx ry n (formed_forest P g F) hy z l

  -- a solution that has one tree for x and y respects the link
  pub joined_solves : (θ : ℕ → Tree) → Solves θ g → θ x ≡ θ y → Solves θ h
  joined_solves θ S e =
      let m = j.same.long in
      record {
        links = λ z w l q. elim (see (eqb z x)) [
          | is true p ↦
              let zx : z ≡ x = omega tests in
              let c : some y ≡ some w = sym j.here ∙ (rw zx at q) in
              let yw : y ≡ w = cc in
              ap θ zx ∙ e ∙ ap θ yw
          | is false p ↦ S.links z w (omega arith) (sym (j.there z (λ r. omega tests)) ∙ q)
        ];
        apps = λ z l r v.
            let zx : z ≡ x → ⊥ = λ q. let c : none ≡ some y = sym (rw q at r) ∙ j.here in never (cc) in
            S.apps z (omega arith) (sym (j.there z zx) ∙ r) (sym (same_var g h j.same z) ∙ v)
            ∙ ap₂ tree (sym (j.same.heads z)) (ap (trees_at θ) (sym (j.same.args z)));
      }

  -- a solution afterwards has one tree for both, and was one before if it is right at x
  pub solves_joined : (θ : ℕ → Tree) → x < length g → (is_var (vertex g x) ≡ false → θ x ≡ tree (vertex g x).head (trees_at θ (vertex g x).args))
      → (vertex g x).link ≡ none → Solves θ h → Solves θ g × (θ x ≡ θ y)
  solves_joined θ hx right rx S =
      let m = j.same.long in (
        record {
          links = λ z w l q.
              let zx : z ≡ x → ⊥ = λ p. let c : some w ≡ none = sym (rw p at q) ∙ rx in never (cc) in
              S.links z w (omega arith) (j.there z zx ∙ q);
          apps = λ z l r v. elim (see (eqb z x)) [
            | is true p ↦ let zx : z ≡ x = omega tests in rw zx (right (rw zx at v))
            | is false p ↦
                S.apps z (omega arith) (j.there z (λ q. omega tests) ∙ r) (same_var g h j.same z ∙ v)
                ∙ ap₂ tree (j.same.heads z) (ap (trees_at θ) (j.same.args z))
          ];
        },
        S.links x y (omega arith) j.here,
      )

-- a chain has one tree
follow_solves : (θ : ℕ → Tree) (g : Graph) → Inside g → Solves θ g → (k x : ℕ) → x < length g → θ x ≡ θ (follow k g x)
unfolding follow
follow_solves θ g I S zero x h = refl
follow_solves θ g I S (suc k) x h = elim (see (vertex g x).link) [
  | is none e ↦ ap θ (sym (follow-none (suc k) g x e))
  | is (some y) e ↦ S.links x y h e ∙ follow_solves θ g I S k y (I x y h e) ∙ ap θ (sym (follow_some k g x y e))
]

-- a node and its root have one tree
pub root_solves : (P : Pack) (g : Graph) → Formed P g → (θ : ℕ → Tree) → Solves θ g → (x : ℕ) → x < length g → θ x ≡ θ (root g x)
unfolding root
root_solves P g F θ S x h = follow_solves θ g (formed_inside P g F) S (length g) x h

-- a chain has one sort
follow-sort : (P : Pack) (g : Graph) → Formed P g → (k x : ℕ) → x < length g → sort_at P g x ≡ sort_at P g (follow k g x)
unfolding follow
follow-sort P g F zero x h = refl
follow-sort P g F (suc k) x h = elim (see (vertex g x).link) [
  | is none e ↦ ap (sort_at P g) (sym (follow-none (suc k) g x e))
  | is (some y) e ↦ let q = (F x h).linked y e in q.1 ∙ follow-sort P g F k y q.0 ∙ ap (sort_at P g) (sym (follow_some k g x y e))
]

-- a node and its root have one sort
pub root-sort : (P : Pack) (g : Graph) → Formed P g → (x : ℕ) → x < length g → sort_at P g x ≡ sort_at P g (root g x)
unfolding root
root-sort P g F x h = follow-sort P g F (length g) x h
