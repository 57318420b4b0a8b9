-- What one link more does to marks: only a variable is joined to a variable, and the other's mark is then that of either.
use Rattle.std.specs.Prelude.{◌≡◌, true, false, ◌||◌, ℕ, ◌<◌, length, set}
use Rattle.std.proofs.Common.{sym, ap, ◌∙◌}
use Rattle.definition.specs.Test.{is, see, never}
use Rattle.definition.specs.Graph.{Vertex, Graph, vertex, is_var, link_to, with_flex, join, bind}
use Rattle.theory.specs.Unification.Join.{vertex-same, vertex-other}

-- marks after x is joined to y: only a variable is joined to a variable, and y's mark is then that of either; the others stay
pub record Marked (g h : Graph) (x y : ℕ) : Type 0 where
  pub there : (z : ℕ) → (z ≡ x → ⊥) → (z ≡ y → ⊥) → (vertex h z).flex ≡ (vertex g z).flex
  pub vars : is_var (vertex g y) ≡ true → is_var (vertex g x) ≡ true
  pub here : is_var (vertex g y) ≡ true → (vertex h y).flex ≡ ((vertex g y).flex || (vertex g x).flex)

-- joining keeps the marks of the others
join_flex : (g : Graph) (x y z : ℕ) → (z ≡ x → ⊥) → (vertex (join g x y) z).flex ≡ (vertex g z).flex
unfolding join
join_flex g x y z n = ap (λ (v : Vertex). v.flex) (vertex-other g x (link_to (vertex g x) y) z n)

-- a join to an application
pub join-marked : (g : Graph) (x y : ℕ) → is_var (vertex g y) ≡ false → Marked g (join g x y) x y
join-marked g x y e = record {
  there = λ z n m. join_flex g x y z n;
  vars = λ w. never (let c : false ≡ true = sym e ∙ w in cc);
  here = λ w. never (let c : false ≡ true = sym e ∙ w in cc);
}

-- a variable bound
pub bind-marked : (g : Graph) (x y : ℕ) → y < length g → (x ≡ y → ⊥) → is_var (vertex g x) ≡ true → Marked g (bind g x y) x y
unfolding bind
bind-marked g x y hy n vx = elim (see (is_var (vertex g y))) [
  | is false e ↦ rw (e, bind) (join-marked g x y e)
  | is true e ↦
      let v = with_flex (vertex g y) ((vertex g y).flex || (vertex g x).flex) in
      rw (e, bind) (record {
        there = λ z a b. join_flex (set g y v) x y z a ∙ ap (λ (v : Vertex). v.flex) (vertex-other g y v z b);
        vars = λ w. vx;
        here = λ w. join_flex (set g y v) x y y (λ q. n (sym q)) ∙ ap (λ (v : Vertex). v.flex) (vertex-same g y v hy);
      })
]
