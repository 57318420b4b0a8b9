-- One turn of unification, test by test, rigid variables included; what it keeps.
use Rattle.std.specs.Prelude.{◌≡◌, Bool, true, ◌||◌, List, [], ◌∷◌, ℕ, ◌+◌, ◌≤◌, ◌<◌, length}
use Rattle.std.proofs.Common.{sym, subst, ◌∙◌, arith}
use Rattle.std.proofs.Math.Path.{ap}
use Rattle.std.proofs.Math.Bool.{false}
use Rattle.std.proofs.Math.Option.{none}
use Rattle.std.proofs.Math.Decide.{ℕ_discrete}
use borrow.Author.Tests.{eq-eqb, ne_eqb}
use Rattle.std.proofs.Math.Dec.{eqb}
use Rattle.definition.specs.Test.{is, see, never}
use Rattle.definition.specs.Good.{Below}
use Rattle.definition.specs.Store.{variable_head}
use Rattle.definition.specs.Graph.{Graph, Pair, on, clashed, vertex, is_free, is_var, bind, join, last_first, meet}
use Rattle.theory.specs.Unification.Solve.{SameNodes, open_cells}
use Rattle.theory.specs.Unification.Join.{same_refl, join-joined, bind-joined}
use Rattle.theory.specs.Unification.Pairs.{args-length}
use Rattle.theory.specs.Unification.Inner.{Inner}

-- what the definition says
module _ (g : Graph) (x y : ℕ) (work : List Pair) where
  pub meet-same : x ≡ y → meet g x y work ≡ on g work
  unfolding meet
  meet-same e = rw (eq-eqb x y e, meet)

  module _ (apart : x ≡ y → ⊥) where
    -- a free left side is bound
    pub meet_left : is_free (vertex g x) ≡ true → meet g x y work ≡ on (bind g x y) work
    unfolding meet
    meet_left e = rw (ne_eqb x y apart, e, meet)

    module _ (left : is_free (vertex g x) ≡ false) where
      -- a free right side is
      pub meet_right : is_free (vertex g y) ≡ true → meet g x y work ≡ on (bind g y x) work
      unfolding meet
      meet_right e = rw (ne_eqb x y apart, left, e, meet)

      module _ (right : is_free (vertex g y) ≡ false) where
        -- a rigid variable clashes
        pub meet_rigid : (is_var (vertex g x) || is_var (vertex g y)) ≡ true → meet g x y work ≡ clashed
        unfolding meet
        meet_rigid e = rw (ne_eqb x y apart, left, right, e, meet)

        module _ (apps : (is_var (vertex g x) || is_var (vertex g y)) ≡ false) where
          -- unlike heads clash, like ones are joined
          pub meet-unlike : ((vertex g x).head ≡ (vertex g y).head → ⊥) → meet g x y work ≡ clashed
          unfolding meet
          meet-unlike d = rw (ne_eqb x y apart, left, right, apps, ne_eqb (vertex g x).head (vertex g y).head d, meet)

          pub meet_alike : (vertex g x).head ≡ (vertex g y).head → meet g x y work ≡ on (join g x y) (last_first (vertex g x).args (vertex g y).args work)
          unfolding meet
          meet_alike e = rw (ne_eqb x y apart, left, right, apps, eq-eqb (vertex g x).head (vertex g y).head e, meet)

-- two that are not free, the first one an application
module _ (g : Graph) (x y : ℕ) (work : List Pair) (apart : x ≡ y → ⊥) (left : is_free (vertex g x) ≡ false) (right : is_free (vertex g y) ≡ false) where
  pub meet-variable : is_var (vertex g x) ≡ true → meet g x y work ≡ clashed
  meet-variable e = meet_rigid g x y work apart left right (ap (λ (b : Bool). b || is_var (vertex g y)) e)

  module _ (app : is_var (vertex g x) ≡ false) where
    pub meet_differ : ((vertex g y).head ≡ (vertex g x).head → ⊥) → meet g x y work ≡ clashed
    meet_differ d = elim (see (is_var (vertex g y))) [
      | is true e ↦ meet_rigid g x y work apart left right (ap (λ (b : Bool). b || is_var (vertex g y)) app ∙ e)
      | is false e ↦ meet-unlike g x y work apart left right (ap (λ (b : Bool). b || is_var (vertex g y)) app ∙ e) (λ q. d (sym q))
    ]

    pub meet-join : (vertex g y).head ≡ (vertex g x).head → meet g x y work ≡ on (join g x y) (last_first (vertex g x).args (vertex g y).args work)
    unfolding is_var
    meet-join e =
        let v : is_var (vertex g y) ≡ false = ap (λ (h : ℕ). eqb h variable_head) e ∙ app in
        meet_alike g x y work apart left right (ap (λ (b : Bool). b || is_var (vertex g y)) app ∙ v) (sym e)

-- pairs of nodes
abbrev pub Within : ℕ → List Pair → Type 0
Within n [] = Unit {0}
Within n (p ∷ ps) = (p.left < n) × (p.right < n) × Within n ps

-- arguments side by side are
within-args : (n : ℕ) (xs ys : List ℕ) (ps : List Pair) → Below n xs → Below n ys → Within n ps → Within n (last_first xs ys ps)
unfolding last_first
within-args n [] ys ps a b w = w
within-args n (x ∷ xs) [] ps a b w = w
within-args n (x ∷ xs) (y ∷ ys) ps a b w = within-args n xs ys (record { left = x; right = y } ∷ ps) a.1 b.1 (a.0, b.0, w)

-- what a turn keeps: the nodes, and that pairs and open cells together don't grow
pub record Kept (g h : Graph) (work more : List Pair) : Type 0 where
  pub same : SameNodes g h
  pub less : length more + open_cells h ≤ length work + open_cells g
  pub within : Within (length g) work → Inner g → Within (length g) more

turn_eq : {g h : Graph} {ps qs : List Pair} → on g ps ≡ on h qs → (g ≡ h) × (ps ≡ qs)
turn_eq e = (cc, cc)

no_turn : {h : Graph} {qs : List Pair} → clashed ≡ on h qs → ⊥
no_turn e = never (cc)

module _ (g : Graph) (x y : ℕ) (work : List Pair) (lx : x < length g) (ly : y < length g) (rx : (vertex g x).link ≡ none) (ry : (vertex g y).link ≡ none) where
  to-kept : (h' h : Graph) (more' more : List Pair) → meet g x y work ≡ on h' more' → meet g x y work ≡ on h more → Kept g h' work more' → Kept g h work more
  to-kept h' h more' more e f K =
      let q = turn_eq (sym e ∙ f) in
      subst (λ (k : Graph). Kept g k work more) q.0 (subst (Kept g h' work) q.1 K)

  pub meet_keeps : (h : Graph) (more : List Pair) → meet g x y work ≡ on h more → Kept g h work more
  meet_keeps h more m = elim (ℕ_discrete x y) [
    | yes e ↦ to-kept g h work more (meet-same g x y work e) m (record { same = same_refl g; less = omega arith; within = λ w i. w })
    | no d ↦ elim (see (is_free (vertex g x))) [
      | is true a ↦ let j = bind-joined g x y lx ly rx d in to-kept (bind g x y) h work more (meet_left g x y work d a) m (record { same = j.same; less = omega (arith, j.closed); within = λ w i. w })
      | is false a ↦ elim (see (is_free (vertex g y))) [
        | is true b ↦ let j = bind-joined g y x ly lx ry (λ q. d (sym q)) in to-kept (bind g y x) h work more (meet_right g x y work d a b) m (record { same = j.same; less = omega (arith, j.closed); within = λ w i. w })
        | is false b ↦ elim (see (is_var (vertex g x) || is_var (vertex g y))) [
          | is true v ↦ absurd (no_turn (sym (meet_rigid g x y work d a b v) ∙ m))
          | is false v ↦ elim (ℕ_discrete (vertex g x).head (vertex g y).head) [
            | yes q ↦
                let j = join-joined g x y lx rx in
                to-kept (join g x y) h (last_first (vertex g x).args (vertex g y).args work) more (meet_alike g x y work d a b v q) m (record {
                  same = j.same;
                  less = omega (arith, j.closed, args-length (vertex g x).args (vertex g y).args work);
                  within = λ w i. within-args (length g) (vertex g x).args (vertex g y).args work (i x lx) (i y ly) w;
                })
            | no q ↦ absurd (no_turn (sym (meet-unlike g x y work d a b v q) ∙ m))
          ]
        ]
      ]
    ]
  ]
