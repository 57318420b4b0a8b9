-- Applications are joined to applications of their own head only, whatever is unified: so a node that is no variable has its root's head.
use Rattle.std.specs.Prelude.{◌≡◌, refl, true, false, not, ◌||◌, List, [], ◌∷◌, ℕ, zero, suc, eqb, length, set}
use Rattle.std.proofs.Common.{sym, ap, ◌∙◌, eqb-true}
use Rattle.std.proofs.Math.Option.{none, some}
use Rattle.definition.specs.Test.{is, see, never, and_parts}
use Rattle.definition.specs.Graph.{Vertex, Graph, vertex, follow, root, is_var, is_free, link_to, with_flex, join, bind, Pair, Turn, on, clashed, meet, take_pairs, unify, cells}
use Rattle.theory.specs.Unification.Roots.{follow-none, follow_some}

-- an application's link leads to a node of its head
abbrev pub Headed : Graph → Type 0
Headed g = (x y : ℕ) → (vertex g x).link ≡ some y → is_var (vertex g x) ≡ false → (vertex g y).head ≡ (vertex g x).head

-- a node of an application's head is one
same_head : (v w : Vertex) → w.head ≡ v.head → is_var v ≡ false → is_var w ≡ false
unfolding is_var
same_head v w e n = rw e n

follow-head : (g : Graph) → Headed g → (k x : ℕ) → is_var (vertex g x) ≡ false → (vertex g (follow k g x)).head ≡ (vertex g x).head
unfolding follow
follow-head g H zero x v = refl
follow-head g H (suc k) x v = elim (see (vertex g x).link) [
  | is none e ↦ ap (λ (y : ℕ). (vertex g y).head) (follow-none (suc k) g x e)
  | is (some y) e ↦
      let q = H x y e v in
      ap (λ (z : ℕ). (vertex g z).head) (follow_some k g x y e) ∙ follow-head g H k y (same_head (vertex g x) (vertex g y) q v) ∙ q
]

-- an application and its root have one head
pub root-head : (g : Graph) → Headed g → (x : ℕ) → is_var (vertex g x) ≡ false → (vertex g (root g x)).head ≡ (vertex g x).head
unfolding root
root-head g H x v = follow-head g H (length g) x v

-- ---- one node put for another
-- what stands at z when v was put at x
data At (g : Graph) (x : ℕ) (v : Vertex) (z : ℕ) : Type 0 where
  new : z ≡ x → vertex (set g x v) z ≡ v → At g x v z
  old : vertex (set g x v) z ≡ vertex g z → At g x v z

look_at : (g : Graph) (x : ℕ) (v : Vertex) (z : ℕ) → At g x v z
unfolding vertex
look_at [] x v z = old refl
look_at (w ∷ g) zero v zero = new refl refl
look_at (w ∷ g) zero v (suc z) = old refl
look_at (w ∷ g) (suc x) v zero = old refl
look_at (w ∷ g) (suc x) v (suc z) = elim (look_at g x v z) [ new i e ↦ new (ap suc i) e | old e ↦ old e ]

heads_same : (g : Graph) (x : ℕ) (v : Vertex) → v.head ≡ (vertex g x).head → (z : ℕ) → (vertex (set g x v) z).head ≡ (vertex g z).head
heads_same g x v h z = elim (look_at g x v z) [
  | new i e ↦ ap (λ (w : Vertex). w.head) e ∙ h ∙ ap (λ (y : ℕ). (vertex g y).head) (sym i)
  | old e ↦ ap (λ (w : Vertex). w.head) e
]

set-headed : (g : Graph) (x : ℕ) (v : Vertex) → Headed g → v.head ≡ (vertex g x).head → ((y : ℕ) → v.link ≡ some y → is_var (vertex g x) ≡ false → (vertex g y).head ≡ (vertex g x).head) → Headed (set g x v)
set-headed g x v H h link z y l n =
    let a = heads_same g x v h z in
    let b = heads_same g x v h y in
    let m = same_head (vertex (set g x v) z) (vertex g z) (sym a) n in
    b ∙ elim (look_at g x v z) as (λ _. (vertex g y).head ≡ (vertex g z).head) [
      | new i e ↦
          let k : is_var (vertex g x) ≡ false = rw i at m in
          link y (ap (λ (w : Vertex). w.link) (sym e) ∙ l) k ∙ ap (λ (w : ℕ). (vertex g w).head) (sym i)
      | old e ↦ H z y (ap (λ (w : Vertex). w.link) (sym e) ∙ l) m
    ] ∙ sym a

-- a node joined to one of its head, or a variable to any
join-headed : (g : Graph) (x y : ℕ) → Headed g → (is_var (vertex g x) ≡ false → (vertex g y).head ≡ (vertex g x).head) → Headed (join g x y)
unfolding join
join-headed g x y H h = set-headed g x (link_to (vertex g x) y) H refl (λ w e n. let q : y ≡ w = cc in rw (← q) (h n))

-- a variable bound
pub bind-headed : (g : Graph) (x y : ℕ) → Headed g → is_var (vertex g x) ≡ true → Headed (bind g x y)
unfolding bind
bind-headed g x y H v = elim (see (is_var (vertex g y))) [
  | is false e ↦ rw (e, bind) (join-headed g x y H (λ n. never (cc)))
  | is true e ↦
      let w = with_flex (vertex g y) ((vertex g y).flex || (vertex g x).flex) in
      let h = set g y w in
      let K = set-headed g y w H refl (λ z f n. H y z f n) in
      let m = heads_same g y w refl x in
      rw (e, bind) (join-headed h x y K (λ n. never (let k = same_head (vertex h x) (vertex g x) (sym m) n in cc)))
]

-- ---- unification
abbrev HeadedTurn : Turn → Type 0
HeadedTurn (on h more) = Headed h
HeadedTurn clashed = Unit {0}

free-variable : (v : Vertex) → is_free v ≡ true → is_var v ≡ true
unfolding is_free
free-variable v e = (and_parts (is_var v) (not v.rigid) e).0

meet-headed : (g : Graph) → Headed g → (x y : ℕ) (work : List Pair) → HeadedTurn (meet g x y work)
unfolding meet
meet-headed g H x y work = elim (see (eqb x y)) [
  | is true a ↦ rw (a, meet) H
  | is false a ↦ elim (see (is_free (vertex g x))) [
    | is true b ↦ rw (a, b, meet) (bind-headed g x y H (free-variable (vertex g x) b))
    | is false b ↦ elim (see (is_free (vertex g y))) [
      | is true c ↦ rw (a, b, c, meet) (bind-headed g y x H (free-variable (vertex g y) c))
      | is false c ↦ elim (see (is_var (vertex g x) || is_var (vertex g y))) [
        | is true d ↦ rw (a, b, c, d, meet) tt
        | is false d ↦ elim (see (eqb (vertex g x).head (vertex g y).head)) [
          | is true e ↦ rw (a, b, c, d, e, meet) (join-headed g x y H (λ n. sym (eqb-true (vertex g x).head (vertex g y).head e)))
          | is false e ↦ rw (a, b, c, d, e, meet) tt
        ]
      ]
    ]
  ]
]

taken-headed : (k : ℕ) (g : Graph) (work : List Pair) (n : ℕ) → Headed g → (h : Graph) → (take_pairs k g work n).graph ≡ some h → Headed h
unfolding take_pairs
taken-headed zero g [] n H h e = let q : g ≡ h = cc in rw (← q) H
taken-headed zero g (p ∷ work) n H h e = never (cc)
taken-headed (suc k) g [] n H h e = let q : g ≡ h = cc in rw (← q) H
taken-headed (suc k) g (p ∷ work) n H h e =
    let x = root g p.left in
    let y = root g p.right in
    let T = meet-headed g H x y work in
    elim (see (meet g x y work)) [
      | is (on f more) q ↦ let t : Headed f = rw q at T in taken-headed k f more (suc n) t h (rw (q, take_pairs) at e)
      | is clashed q ↦ let z : none ≡ some h = rw (q, take_pairs) at e in never (cc)
    ]

-- two nodes unified
pub unify-headed : (g : Graph) (x y : ℕ) → Headed g → (h : Graph) → (unify g x y).graph ≡ some h → Headed h
unfolding unify
unify-headed g x y H h e = taken-headed (suc (cells g)) g (record { left = x; right = y } ∷ []) 0 H h e
