-- Laws of links: a chain of links that comes to an end does so within as many links as the graph has nodes.
use Rattle.std.specs.Prelude.{◌≡◌, refl, Bool, true, false, ℕ, zero, suc, ◌≤◌, ◌<◌, length}
use Rattle.std.proofs.Common.{sym, ◌∙◌, arith}
use Rattle.std.proofs.Math.Option.{none, some}
use Rattle.definition.specs.Test.{is, see, never}
use Rattle.definition.specs.Graph.{Graph, vertex, follow}
use Rattle.theory.specs.Unification.Count.{levels}

-- from a node without a link nothing is followed
pub follow-none : (k : ℕ) (g : Graph) (x : ℕ) → (vertex g x).link ≡ none → follow k g x ≡ x
unfolding follow
follow-none zero g x e = refl
follow-none (suc k) g x e = rw (e, follow)

-- one link is followed
pub follow_some : (k : ℕ) (g : Graph) (x y : ℕ) → (vertex g x).link ≡ some y → follow (suc k) g x ≡ follow k g y
unfolding follow
follow_some k g x y e = rw (e, follow)

-- the chain from x ends within k links
abbrev pub Ends : ℕ → Graph → ℕ → Type 0
Ends k g x = (vertex g (follow k g x)).link ≡ none

-- all links lead to nodes of the graph
abbrev pub Inside : Graph → Type 0
Inside g = (x y : ℕ) → x < length g → (vertex g x).link ≡ some y → y < length g

-- a chain from a node of the graph stays in it
pub follow_inside : (g : Graph) → Inside g → (k x : ℕ) → x < length g → follow k g x < length g
unfolding follow
follow_inside g I zero x h = h
follow_inside g I (suc k) x h = elim (see (vertex g x).link) [
  | is none e ↦ rw (e, follow) h
  | is (some y) e ↦ rw (e, follow) (follow_inside g I k y (I x y h e))
]

-- once a chain has ended, more links change nothing
pub follow-more : (k j : ℕ) (g : Graph) (x : ℕ) → Ends k g x → k ≤ j → follow j g x ≡ follow k g x
unfolding follow
follow-more zero j g x r h = follow-none j g x r
follow-more (suc k) zero g x r h = absurd (omega arith)
follow-more (suc k) (suc j) g x r h = elim (see (vertex g x).link) [
  | is none e ↦ follow-none (suc j) g x e ∙ sym (follow-none (suc k) g x e)
  | is (some y) e ↦
      let s = follow_some k g x y e in
      follow_some j g x y e ∙ follow-more k j g y (rw s at r) (omega arith) ∙ sym s
]

-- there are k links from x on
steps : Graph → ℕ → ℕ → Bool
steps g zero x = true
steps g (suc k) x = elim (vertex g x).link [ none ↦ false | some y ↦ steps g k y ]

-- then there are fewer too
steps_less : (g : Graph) (k x : ℕ) → steps g (suc k) x ≡ true → steps g k x ≡ true
unfolding steps
steps_less g zero x e = refl
steps_less g (suc k) x e = elim (see (vertex g x).link) [
  | is none d ↦ let f : false ≡ true = rw (d, steps) at e in never (cc)
  | is (some y) d ↦ rw (d, steps) (steps_less g k y (rw (d, steps) at e))
]

-- if there are not k links from x on, the chain ends within k
steps_ends : (g : Graph) (k x : ℕ) → steps g k x ≡ false → Ends k g x
unfolding steps follow
steps_ends g zero x e = never (cc)
steps_ends g (suc k) x e = elim (see (vertex g x).link) [
  | is none d ↦ rw (follow-none (suc k) g x d) d
  | is (some y) d ↦ rw (follow_some k g x y d) (steps_ends g k y (rw (d, steps) at e))
]

-- on a chain that ends and has i links or more some node has i links and no more
exactly : (g : Graph) → Inside g → (i k x : ℕ) → x < length g → Ends k g x → steps g i x ≡ true
    → (z : ℕ) × (z < length g) × (steps g i z ≡ true) × (steps g (suc i) z ≡ false)
unfolding steps follow
exactly g I i zero x h r e = (x, h, e, rw (r, steps) refl)
exactly g I i (suc k) x h r e = elim (see (vertex g x).link) [
  | is none d ↦ (x, h, e, rw (d, steps) refl)
  | is (some y) d ↦ elim (see (steps g i y)) [
    | is true t ↦ exactly g I i k y (I x y h d) (rw (follow_some k g x y d) at r) t
    | is false t ↦ (x, h, e, rw (d, steps) t)
  ]
]

-- a chain that ends at all ends within as many links as there are nodes
pub ends_soon : (g : Graph) → Inside g → (k x : ℕ) → x < length g → Ends k g x → Ends (length g) g x
ends_soon g I k x h r =
    steps_ends g (length g) x (levels (length g) (λ i z. steps g i z) (λ i z e. steps_less g i z e) x h (λ i e. exactly g I i k x h r e))
