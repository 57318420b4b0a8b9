-- A walk along arguments, deepest first: which nodes end, which stand on the path, and what that says of circles.
use Rattle.std.specs.Prelude.{◌≡◌, Bool, List, [], ◌∷◌, ℕ, zero, suc, ◌+◌, ◌*◌, ◌-◌, ◌≤◌, ◌<◌, eqb, get_or, set}
use Rattle.std.proofs.Math.Path.{refl}
use Rattle.std.proofs.Common.{sym, ap, subst, ◌∙◌, eq-eqb, ne_eqb, eqb-true, length-set, get_or-set_same, get_or-set_other}
use Rattle.std.proofs.Math.Bool.{true, false, not}
use Rattle.std.proofs.Math.Option.{none}
use native.Mathlib.Omega.{arith}
use Rattle.std.proofs.Math.Decide.{ℕ_discrete}
use Rattle.std.proofs.Math.ListN.{length}
use Rattle.definition.specs.Test.{is, see, never, all, ◌and◌, and_parts}
use Rattle.definition.specs.Graph.{Graph, vertex, root, is_var, ends, circular}
use Rattle.theory.specs.Unification.Forest.{Forest, root_self, root_inside}
use Rattle.theory.specs.Unification.Acyclic.{ends_more}
use Rattle.theory.specs.Unification.Circle.{all_up_to, acyclic_ends}
use Rattle.theory.specs.Unification.Count.{count, count_most, count-more, count_fewer}

-- ---- levels
-- what all of a list pass, each of it does
all-at : (f : ℕ → Bool) (xs : List ℕ) (i : ℕ) → all f xs ≡ true → i < length xs → f (get_or xs i 0) ≡ true
unfolding all
all-at f [] i e l = absurd (omega arith)
all-at f (x ∷ xs) zero e l = (and_parts (f x) (all f xs) e).0
all-at f (x ∷ xs) (suc i) e l = all-at f xs i (and_parts (f x) (all f xs) e).1 (omega arith)

all_from : (f : ℕ → Bool) (xs : List ℕ) → ((i : ℕ) → i < length xs → f (get_or xs i 0) ≡ true) → all f xs ≡ true
unfolding all ◌and◌
all_from f [] h = refl
all_from f (x ∷ xs) h = rw (h 0 (omega arith), ◌and◌) (all_from f xs (λ i l. h (suc i) (omega arith)))

-- a term ends by what its root is
abbrev ends_by : ℕ → Graph → ℕ → Bool
ends_by k g r = elim (is_var (vertex g r)) [ true ↦ true | false ↦ all (λ y. ends k g y) (vertex g r).args ]

ends_at : (k : ℕ) (g : Graph) (x : ℕ) → ends (suc k) g x ≡ ends_by k g (root g x)
unfolding ends
ends_at k g x = refl

-- none within no level
ends_never : (k : ℕ) (g : Graph) (x : ℕ) → k ≤ 0 → ends k g x ≡ true → ⊥
unfolding ends
ends_never zero g x l e = never (cc)
ends_never (suc k) g x l e = absurd (omega arith)

-- a node ends where its root does
ends-root : (k : ℕ) (g : Graph) → Forest g → (x : ℕ) → x < length g → ends k g x ≡ ends k g (root g x)
ends-root zero g F x l = unfold ends in refl
ends-root (suc k) g F x l = ends_at k g x ∙ ap (ends_by k g) (sym (root_self g (root g x) (F.rooted x l))) ∙ sym (ends_at k g (root g x))

module _ (g : Graph) (x : ℕ) (bare : (vertex g x).link ≡ none) (head : is_var (vertex g x) ≡ false) where
  ends-all : (k : ℕ) → ends (suc k) g x ≡ all (λ y. ends k g y) (vertex g x).args
  ends-all k = ends_at k g x ∙ ap (ends_by k g) (root_self g x bare) ∙ rw (head, ends_by)

  -- arguments end a level sooner
  ends_down : (k a : ℕ) → a < length (vertex g x).args → ends k g x ≡ true → (j : ℕ) × (k ≡ suc j) × (ends j g (get_or (vertex g x).args a 0) ≡ true)
  ends_down zero a l e = absurd (ends_never 0 g x (omega arith) e)
  ends_down (suc k) a l e = (k, refl, all-at (λ y. ends k g y) (vertex g x).args a (sym (ends-all k) ∙ e) l)

  ends-up : (k : ℕ) → ((a : ℕ) → a < length (vertex g x).args → ends k g (get_or (vertex g x).args a 0) ≡ true) → ends (suc k) g x ≡ true
  ends-up k h = ends-all k ∙ all_from (λ y. ends k g y) (vertex g x).args h

-- a variable ends there and then
pub var_ends : (g : Graph) (y : ℕ) → (vertex g y).link ≡ none → is_var (vertex g y) ≡ true → (k : ℕ) → ends (suc k) g y ≡ true
var_ends g y bare v k = ends_at k g y ∙ ap (ends_by k g) (root_self g y bare) ∙ rw (v, ends_by)

-- ---- a walk's colours: 0 for a node not yet seen, 1 for one on the path, 2 for one that ends
abbrev pub colour_of : List ℕ → ℕ → ℕ
colour_of colour x = get_or colour x 0

abbrev pub is_unseen : List ℕ → ℕ → Bool
is_unseen colour x = eqb (colour_of colour x) 0

abbrev pub is_done : List ℕ → ℕ → Bool
is_done colour x = eqb (colour_of colour x) 2

-- the root of an argument
abbrev pub next : Graph → ℕ → ℕ → ℕ
next g x a = root g (get_or (vertex g x).args a 0)

-- the first k arguments end
abbrev pub Stepped : Graph → List ℕ → ℕ → ℕ → Type 0
Stepped g colour x k = (a : ℕ) → a < k → colour_of colour (next g x a) ≡ 2

-- the path: two words a node, itself and how many of its arguments were looked at
abbrev pub node_at : List ℕ → ℕ → ℕ
node_at path j = get_or path (2 * j) 0

abbrev pub looked_at : List ℕ → ℕ → ℕ
looked_at path j = get_or path (2 * j + 1) 0

-- an application that stands on the path
pub record Standing (g : Graph) (colour : List ℕ) (x : ℕ) : Type 0 where
  pub inside : x < length g
  pub bare : (vertex g x).link ≡ none
  pub head : is_var (vertex g x) ≡ false
  pub grey : colour_of colour x ≡ 1

-- the last argument looked at there leads to y, those before end
pub record Leads (g : Graph) (colour path : List ℕ) (j y : ℕ) : Type 0 where
  pub argument : ℕ
  pub looked : looked_at path j ≡ suc argument
  pub fits : argument < length (vertex g (node_at path j)).args
  pub before : Stepped g colour (node_at path j) argument
  pub there : next g (node_at path j) argument ≡ y

pub record Walk (g : Graph) (colour path : List ℕ) (top : ℕ) : Type 0 where
  pub long : length g ≤ length colour
  pub ended : (x : ℕ) → x < length g → colour_of colour x ≡ 2 → ends (count (is_done colour) (length g)) g x ≡ true
  pub standing : (j : ℕ) → j < top → Standing g colour (node_at path j)
  pub apart : (i j : ℕ) → i < j → j < top → node_at path i ≡ node_at path j → ⊥
  pub leads : (j : ℕ) → suc j < top → Leads g colour path j (node_at path (suc j))
  pub grey : (x : ℕ) → x < length g → (colour_of colour x ≡ 0 → ⊥) → (colour_of colour x ≡ 2 → ⊥) → (j : ℕ) × (j < top) × (node_at path j ≡ x)
  pub few : top + count (is_unseen colour) (length g) ≤ length g

-- what the walk still has to do
unfoldable pub to_do : List ℕ → ℕ → ℕ
to_do colour n = count (is_unseen colour) n + count (λ x. not (is_done colour x)) n

-- the node on top: so many of its arguments end
abbrev pub Last : Graph → List ℕ → List ℕ → ℕ → Type 0
Last g colour path top = (t : ℕ) → suc t ≡ top → Stepped g colour (node_at path t) (looked_at path t) × (looked_at path t ≤ length (vertex g (node_at path t)).args)

-- who was seen is seen still
abbrev pub StillSeen : List ℕ → List ℕ → Type 0
StillSeen colour colour' = (z : ℕ) → (colour_of colour z ≡ 0 → ⊥) → colour_of colour' z ≡ 0 → ⊥

-- the same words there, and those that ended do still
leads_as : (g : Graph) (colour colour' path path' : List ℕ) (j z : ℕ) → node_at path' j ≡ node_at path j → looked_at path' j ≡ looked_at path j → ((x : ℕ) → colour_of colour x ≡ 2 → colour_of colour' x ≡ 2) → Leads g colour path j z → Leads g colour' path' j z
leads_as g colour colour' path path' j z n k still s =
    let m = sym n in
    record {
      argument = s.argument;
      looked = k ∙ s.looked;
      fits = subst (λ (x : ℕ). s.argument < length (vertex g x).args) m s.fits;
      before = λ a h. still _ (subst (λ (x : ℕ). colour_of colour (next g x a) ≡ 2) m (s.before a h));
      there = subst (λ (x : ℕ). next g x s.argument ≡ z) m s.there;
    }

-- ---- a node comes to an end
module _ (g : Graph) (colour : List ℕ) (y : ℕ) (l : y < length g) (long : length g ≤ length colour) where
  abbrev marked : List ℕ
  marked = set colour y 2

  pub mark_here : colour_of marked y ≡ 2
  mark_here = get_or-set_same colour y 2 0 (omega arith)

  mark_there : (z : ℕ) → (z ≡ y → ⊥) → colour_of marked z ≡ colour_of colour z
  mark_there z d = get_or-set_other colour y z 2 0 d

  pub done_still : (z : ℕ) → colour_of colour z ≡ 2 → colour_of marked z ≡ 2
  done_still z e = elim (ℕ_discrete z y) [ yes q ↦ ap (colour_of marked) q ∙ mark_here | no d ↦ mark_there z d ∙ e ]

  pub mark-seen : StillSeen colour marked
  mark-seen z s e = elim (ℕ_discrete z y) [
    | yes q ↦ let h : colour_of marked z ≡ 2 = ap (colour_of marked) q ∙ mark_here in omega (arith, h, e)
    | no d ↦ s (sym (mark_there z d) ∙ e)
  ]

  more-done : (z : ℕ) → is_done colour z ≡ true → is_done marked z ≡ true
  more-done z e = eq-eqb _ _ (done_still z (eqb-true _ _ e))

  fewer_unseen : (z : ℕ) → is_unseen marked z ≡ true → is_unseen colour z ≡ true
  fewer_unseen z e = elim (ℕ_discrete z y) [
    | yes q ↦ let h : colour_of marked z ≡ 2 = ap (colour_of marked) q ∙ mark_here in let i : colour_of marked z ≡ 0 = eqb-true _ _ e in absurd (omega (arith, h, i))
    | no d ↦ eq-eqb _ _ (sym (mark_there z d) ∙ eqb-true _ _ e)
  ]

  fewer_left : (z : ℕ) → not (is_done marked z) ≡ true → not (is_done colour z) ≡ true
  fewer_left z e = elim (see (is_done colour z)) [
    | is true q ↦ let m = more-done z q in never (cc)
    | is false q ↦ rw q
  ]

  unseen_most : count (is_unseen marked) (length g) ≤ count (is_unseen colour) (length g)
  unseen_most = count-more (is_unseen marked) (is_unseen colour) (length g) fewer_unseen

  module _ (new : colour_of colour y ≡ 2 → ⊥) where
    was_not : is_done colour y ≡ false
    was_not = ne_eqb _ _ new

    done_more : count (is_done colour) (length g) < count (is_done marked) (length g)
    done_more = count_fewer (is_done colour) (is_done marked) (length g) y more-done l was_not (eq-eqb _ _ mark_here)

    pub mark_less : to_do marked (length g) < to_do colour (length g)
    unfolding to_do
    mark_less =
        let a = unseen_most in
        let here : not (is_done marked y) ≡ false = rw (eq-eqb (colour_of marked y) 2 mark_here) in
        let was : not (is_done colour y) ≡ true = rw was_not in
        let b = count_fewer (λ x. not (is_done marked x)) (λ x. not (is_done colour x)) (length g) y fewer_left l here was in
        omega arith

    -- the walk is then one over a path without it
    pub walk-done : (path : List ℕ) (top more : ℕ) → Walk g colour path more → ends (suc (count (is_done colour) (length g))) g y ≡ true → top ≤ more → ((j : ℕ) → j < top → node_at path j ≡ y → ⊥) → ((j : ℕ) → j < more → (node_at path j ≡ y → ⊥) → j < top)
        → Walk g marked path top
    walk-done path top more W e h off rest = record {
      long = omega (arith, length-set colour y 2);
      ended = λ x a b. elim (ℕ_discrete x y) [
        | yes q ↦ ends_more (suc (count (is_done colour) (length g))) (count (is_done marked) (length g)) g x done_more (ap (ends (suc (count (is_done colour) (length g))) g) q ∙ e)
        | no d ↦ let m = done_more in ends_more (count (is_done colour) (length g)) (count (is_done marked) (length g)) g x (omega arith) (W.ended x a (sym (mark_there x d) ∙ b))
      ];
      standing = λ j a. let s = W.standing j (omega arith) in record { inside = s.inside; bare = s.bare; head = s.head; grey = mark_there _ (off j a) ∙ s.grey };
      apart = λ i j a b. W.apart i j a (omega arith);
      leads = λ j a. leads_as g colour marked path path j _ refl refl done_still (W.leads j (omega arith));
      grey = λ x a b c.
          let d : x ≡ y → ⊥ = λ q. c (ap (colour_of marked) q ∙ mark_here) in
          let w = W.grey x a (λ q. b (mark_there x d ∙ q)) (λ q. c (mark_there x d ∙ q)) in
          (w.0, rest w.0 w.1 (λ q. d (sym w.2 ∙ q)), w.2);
      few = let m = unseen_most in omega (arith, W.few);
    }

-- ---- a node is put on the path
module _ (g : Graph) (colour : List ℕ) (y : ℕ) (l : y < length g) (long : length g ≤ length colour) (new : colour_of colour y ≡ 0) where
  abbrev greyed : List ℕ
  greyed = set colour y 1

  pub grey_here : colour_of greyed y ≡ 1
  grey_here = get_or-set_same colour y 1 0 (omega arith)

  grey_there : (z : ℕ) → (z ≡ y → ⊥) → colour_of greyed z ≡ colour_of colour z
  grey_there z d = get_or-set_other colour y z 1 0 d

  -- it was not seen before
  other_than : (z c : ℕ) → colour_of colour z ≡ suc c → z ≡ y → ⊥
  other_than z c e q = let h : colour_of colour z ≡ 0 = ap (colour_of colour) q ∙ new in omega (arith, h, e)

  grey_still : (z c : ℕ) → colour_of colour z ≡ suc c → colour_of greyed z ≡ suc c
  grey_still z c e = grey_there z (other_than z c e) ∙ e

  pub grey_seen : StillSeen colour greyed
  grey_seen z s e = elim (ℕ_discrete z y) [
    | yes q ↦ s (ap (colour_of colour) q ∙ new)
    | no d ↦ s (sym (grey_there z d) ∙ e)
  ]

  done-before : (z : ℕ) → is_done greyed z ≡ true → is_done colour z ≡ true
  done-before z e = elim (ℕ_discrete z y) [
    | yes q ↦ let h : colour_of greyed z ≡ 1 = ap (colour_of greyed) q ∙ grey_here in let i : colour_of greyed z ≡ 2 = eqb-true _ _ e in absurd (omega (arith, h, i))
    | no d ↦ eq-eqb _ _ (sym (grey_there z d) ∙ eqb-true _ _ e)
  ]

  done-after : (z : ℕ) → is_done colour z ≡ true → is_done greyed z ≡ true
  done-after z e = eq-eqb _ _ (grey_still z 1 (eqb-true _ _ e))

  unseen-before : (z : ℕ) → is_unseen greyed z ≡ true → is_unseen colour z ≡ true
  unseen-before z e = elim (ℕ_discrete z y) [
    | yes q ↦ eq-eqb _ _ (ap (colour_of colour) q ∙ new)
    | no d ↦ eq-eqb _ _ (sym (grey_there z d) ∙ eqb-true _ _ e)
  ]

  unseen_less : count (is_unseen greyed) (length g) < count (is_unseen colour) (length g)
  unseen_less = count_fewer (is_unseen greyed) (is_unseen colour) (length g) y unseen-before l (ne_eqb (colour_of greyed y) 0 (λ e. omega (arith, e, grey_here))) (eq-eqb _ _ new)

  left-most : count (λ x. not (is_done greyed x)) (length g) ≤ count (λ x. not (is_done colour x)) (length g)
  left-most = count-more (λ x. not (is_done greyed x)) (λ x. not (is_done colour x)) (length g) (λ z e. elim (see (is_done colour z)) [
    | is true q ↦ let m = done-after z q in never (cc)
    | is false q ↦ rw q
  ])

  pub grey_less : to_do greyed (length g) < to_do colour (length g)
  unfolding to_do
  grey_less = let a = unseen_less in let b = left-most in omega arith

  as_many-done : count (is_done colour) (length g) ≤ count (is_done greyed) (length g)
  as_many-done = count-more (is_done colour) (is_done greyed) (length g) done-after

  module _ (path : List ℕ) (top : ℕ) (room : 2 * top + 2 ≤ length path) where
    abbrev longer : List ℕ
    longer = set (set path (2 * top) y) (2 * top + 1) 0

    word_below : (k : ℕ) → k < 2 * top → get_or longer k 0 ≡ get_or path k 0
    word_below k h = get_or-set_other (set path (2 * top) y) (2 * top + 1) k 0 0 (λ e. omega arith) ∙ get_or-set_other path (2 * top) k y 0 (λ e. omega arith)

    top-node : node_at longer top ≡ y
    top-node = get_or-set_other (set path (2 * top) y) (2 * top + 1) (2 * top) 0 0 (λ e. omega arith) ∙ get_or-set_same path (2 * top) y 0 (omega arith)

    pub top_looked : looked_at longer top ≡ 0
    top_looked = get_or-set_same (set path (2 * top) y) (2 * top + 1) 0 0 (omega (arith, length-set path (2 * top) y))

    node-below : (j : ℕ) → j < top → node_at longer j ≡ node_at path j
    node-below j h = word_below (2 * j) (omega arith)

    looked_below : (j : ℕ) → j < top → looked_at longer j ≡ looked_at path j
    looked_below j h = word_below (2 * j + 1) (omega arith)

    leads_still : (j z : ℕ) → j < top → Leads g colour path j z → Leads g greyed longer j z
    leads_still j z h s = leads_as g colour greyed path longer j z (node-below j h) (looked_below j h) (λ x e. grey_still x 1 e) s

    pub walk-pushed : Walk g colour path top → (vertex g y).link ≡ none → is_var (vertex g y) ≡ false → ((t : ℕ) → suc t ≡ top → Leads g colour path t y) → Walk g greyed longer (suc top)
    walk-pushed W bare head last = record {
      long = omega (arith, length-set colour y 1);
      ended = λ x a b. ends_more (count (is_done colour) (length g)) (count (is_done greyed) (length g)) g x as_many-done (W.ended x a (eqb-true _ _ (done-before x (eq-eqb _ _ b))));
      standing = λ j a. elim (ℕ_discrete j top) [
        | yes q ↦ subst (Standing g greyed) (sym (ap (node_at longer) q ∙ top-node)) (record { inside = l; bare = bare; head = head; grey = grey_here })
        | no d ↦ let s = W.standing j (omega (arith, d)) in subst (Standing g greyed) (sym (node-below j (omega (arith, d)))) (record { inside = s.inside; bare = s.bare; head = s.head; grey = grey_still _ 0 s.grey })
      ];
      apart = λ i j a b e. elim (ℕ_discrete j top) [
        | yes q ↦ other_than (node_at path i) 0 (W.standing i (omega (arith, q))).grey (sym (node-below i (omega (arith, q))) ∙ e ∙ ap (node_at longer) q ∙ top-node)
        | no d ↦ W.apart i j a (omega (arith, d)) (sym (node-below i (omega (arith, d))) ∙ e ∙ node-below j (omega (arith, d)))
      ];
      leads = λ j a. elim (ℕ_discrete (suc j) top) [
        | yes q ↦ subst (Leads g greyed longer j) (sym (ap (node_at longer) q ∙ top-node)) (leads_still j y (omega (arith, q)) (last j q))
        | no d ↦ subst (Leads g greyed longer j) (sym (node-below (suc j) (omega (arith, d)))) (leads_still j (node_at path (suc j)) (omega (arith, d)) (W.leads j (omega (arith, d))))
      ];
      grey = λ x a b c. elim (ℕ_discrete x y) [
        | yes q ↦ (top, omega arith, top-node ∙ sym q)
        | no d ↦
            let w = W.grey x a (λ q. b (grey_there x d ∙ q)) (λ q. c (grey_there x d ∙ q)) in
            (w.0, omega (arith, w.1), node-below w.0 w.1 ∙ w.2)
      ];
      few = let m = unseen_less in omega (arith, W.few);
    }

    pub last-pushed : Last g greyed longer (suc top)
    last-pushed t e =
        let q : t ≡ top = omega arith in
        let z : looked_at longer t ≡ 0 = ap (looked_at longer) q ∙ top_looked in
        (λ a h. absurd (omega (arith, h, z)), omega (arith, z))

-- ---- how many arguments of the node on top were looked at is written down
pub walk_looked : (g : Graph) (colour path : List ℕ) (t v : ℕ) → Walk g colour path (suc t) → Walk g colour (set path (2 * t + 1) v) (suc t)
walk_looked g colour path t v W =
    let p = set path (2 * t + 1) v in
    let n : (j : ℕ) → node_at p j ≡ node_at path j = λ j. get_or-set_other path (2 * t + 1) (2 * j) v 0 (λ e. omega arith) in
    let k : (j : ℕ) → j < t → looked_at p j ≡ looked_at path j = λ j h. get_or-set_other path (2 * t + 1) (2 * j + 1) v 0 (λ e. omega arith) in
    record {
      long = W.long;
      ended = W.ended;
      standing = λ j a. subst (Standing g colour) (sym (n j)) (W.standing j a);
      apart = λ i j a b e. W.apart i j a b (sym (n i) ∙ e ∙ n j);
      leads = λ j a. subst (Leads g colour p j) (sym (n (suc j))) (leads_as g colour colour path p j _ (n j) (k j (omega arith)) (λ x e. e) (W.leads j a));
      grey = λ x a b c. let w = W.grey x a b c in (w.0, w.1, n w.0 ∙ w.2);
      few = W.few;
    }

-- ---- no node was seen
pub walk_none : (g : Graph) (colour path : List ℕ) → length g ≤ length colour → ((x : ℕ) → x < length g → colour_of colour x ≡ 0) → Walk g colour path 0
walk_none g colour path long z = record {
  long = long;
  ended = λ x a b. absurd (omega (arith, z x a, b));
  standing = λ j a. absurd (omega arith);
  apart = λ i j a b e. absurd (omega arith);
  leads = λ j a. absurd (omega arith);
  grey = λ x a b c. absurd (b (z x a));
  few = omega (arith, count_most (is_unseen colour) (length g));
}

module _ (g : Graph) (F : Forest g) (colour path : List ℕ) where
  -- ---- all arguments of the node on top end: it ends
  pub top-ends : (t : ℕ) → Walk g colour path (suc t) → ((a : ℕ) → a < length (vertex g (node_at path t)).args → get_or (vertex g (node_at path t)).args a 0 < length g) → Stepped g colour (node_at path t) (length (vertex g (node_at path t)).args) → ends (suc (count (is_done colour) (length g))) g (node_at path t) ≡ true
  top-ends t W inner S =
      let s = W.standing t (omega arith) in
      ends-up g (node_at path t) s.bare s.head (count (is_done colour) (length g)) (λ a h. ends-root (count (is_done colour) (length g)) g F (get_or (vertex g (node_at path t)).args a 0) (inner a h) ∙ W.ended (next g (node_at path t) a) (root_inside g F _ (inner a h)) (S a h))

  -- ---- an argument of the node on top stands on the path: a circle
  module _ (t : ℕ) (W : Walk g colour path (suc t)) (inner : (x a : ℕ) → x < length g → a < length (vertex g x).args → get_or (vertex g x).args a 0 < length g) where
    -- a level fewer for each node between
    ends_along : (d j k : ℕ) → j + d ≡ t → ends k g (node_at path j) ≡ true → (i : ℕ) × (i ≤ k) × (ends i g (node_at path t) ≡ true)
    ends_along zero j k q e = let p : j ≡ t = omega arith in (k, omega arith, rw p at e)
    ends_along (suc d) j k q e =
        let s = W.standing j (omega arith) in
        let m = W.leads j (omega arith) in
        let n = ends_down g (node_at path j) s.bare s.head k m.argument m.fits e in
        let r = ends_along d (suc j) n.0 (omega arith) (ap (ends n.0 g) (sym m.there) ∙ sym (ends-root n.0 g F _ (inner (node_at path j) m.argument s.inside m.fits)) ∙ n.2) in
        (r.0, omega (arith, r.1, n.1), r.2)

    never_ends : (a j : ℕ) → a < length (vertex g (node_at path t)).args → j < suc t → next g (node_at path t) a ≡ node_at path j → (fuel k : ℕ) → k ≤ fuel → ends k g (node_at path j) ≡ true → ⊥
    never_ends a j l h e zero k q p = ends_never k g (node_at path j) q p
    never_ends a j l h e (suc fuel) k q p =
        let d : (d : ℕ) × (j + d ≡ t) = gap j t (omega arith) in
        let r = ends_along d.0 j k d.1 p in
        let s = W.standing t (omega arith) in
        let n = ends_down g (node_at path t) s.bare s.head r.0 a l r.2 in
        never_ends a j l h e fuel n.0 (omega (arith, n.1, r.1, q)) (ap (ends n.0 g) (sym e) ∙ sym (ends-root n.0 g F _ (inner (node_at path t) a s.inside l)) ∙ n.2)
      where
        gap : (j t : ℕ) → j ≤ t → (d : ℕ) × (j + d ≡ t)
        gap j t h = (t - j, omega arith)

    pub circle_there : (a : ℕ) → a < length (vertex g (node_at path t)).args → (colour_of colour (next g (node_at path t) a) ≡ 0 → ⊥) → (colour_of colour (next g (node_at path t) a) ≡ 2 → ⊥) → circular g ≡ true
    circle_there a l b c =
        let s = W.standing t (omega arith) in
        let w = W.grey (next g (node_at path t) a) (root_inside g F _ (inner (node_at path t) a s.inside l)) b c in
        elim (see (circular g)) [
          | is true e ↦ e
          | is false e ↦ absurd (never_ends a w.0 l w.1 (sym w.2) (suc (length g)) (suc (length g)) (omega arith) (acyclic_ends g e (node_at path w.0) (W.standing w.0 w.1).inside))
        ]

  -- ---- every node was seen and none stands on the path: no circle
  pub none-circular : Walk g colour path 0 → ((x : ℕ) → x < length g → colour_of colour (root g x) ≡ 0 → ⊥) → circular g ≡ false
  unfolding circular
  none-circular W seen =
      let n = length g in
      rw (all_up_to (λ x. ends (suc n) g x) n (λ x h.
      let d : colour_of colour (root g x) ≡ 2 = elim (ℕ_discrete (colour_of colour (root g x)) 2) [ yes q ↦ q | no q ↦ let w = W.grey (root g x) (root_inside g F x h) (seen x h) q in absurd (omega (arith, w.1)) ] in
      ends_more (count (is_done colour) n) (suc n) g x (omega (arith, count_most (is_done colour) n)) (ends-root (count (is_done colour) n) g F x h ∙ W.ended (root g x) (root_inside g F x h) d)))

-- ---- the node on top has come to an end: the one below has looked at an argument more
pub last_done : (g : Graph) (colour path : List ℕ) (t : ℕ) (W : Walk g colour path (suc t)) → Last g (set colour (node_at path t) 2) path t
last_done g colour path t W u e =
    let s = W.standing t (omega arith) in
    let m = W.leads u (omega arith) in
    let y = node_at path t in
    let here : colour_of (set colour y 2) y ≡ 2 = mark_here g colour y s.inside W.long in
    let q : next g (node_at path u) m.argument ≡ y = m.there ∙ ap (node_at path) e in (
      λ a h. elim (ℕ_discrete a m.argument) [
        | yes p ↦ ap (λ (i : ℕ). colour_of (set colour y 2) (next g (node_at path u) i)) p ∙ ap (colour_of (set colour y 2)) q ∙ here
        | no d ↦ done_still g colour y s.inside W.long _ (m.before a (omega (arith, d, h, m.looked)))
      ],
      omega (arith, m.looked, m.fits),
    )
