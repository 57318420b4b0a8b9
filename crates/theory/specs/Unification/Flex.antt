-- Marks: "a flexible variable makes its class flexible": after unification a variable root is flexible just where one of its class was.
use Rattle.std.specs.Prelude.{◌≡◌, refl, Bool, true, false, ◌||◌, List, [], ◌∷◌, ℕ, zero, suc, ◌<◌, eqb, length}
use Rattle.std.proofs.Common.{sym, ap, ◌∙◌, subst, arith}
use Rattle.std.proofs.Math.Option.{none, some}
use Rattle.definition.specs.Pack.{Pack}
use Rattle.definition.specs.Test.{is, see, never, tests, or_right}
use Rattle.definition.specs.Graph.{Graph, vertex, root, is_var, join, bind, cells, Pair, Turn, on, clashed, meet, take_pairs, unify}
use Rattle.theory.specs.Unification.Solve.{sort_at, Formed}
use Rattle.theory.specs.Unification.Join.{Joined, join-joined, bind-joined}
use Rattle.theory.specs.Unification.Marks.{Marked, join-marked, bind-marked}
use Rattle.theory.specs.Unification.Forest.{root_self, sent}
use Rattle.theory.specs.Unification.Kept.{same_var, formed_joined, root-joined, root-sort}
use Rattle.theory.specs.Unification.Pairs.{Paired}
use Rattle.theory.specs.Unification.Meet.{Met, same, left, right, both, apart, met, Leads, Roots, meet_says}
use Rattle.theory.specs.Unification.Unify.{take_clashed, take_on}

-- marks afterwards, by marks before
pub record FlexJoined (g h : Graph) : Type 0 where
  -- a flexible variable's class is flexible, if it is still a variable
  pub kept : (y : ℕ) → y < length g → (vertex g y).link ≡ none → is_var (vertex g y) ≡ true → (vertex g y).flex ≡ true
      → is_var (vertex h (root h y)) ≡ true → (vertex h (root h y)).flex ≡ true
  -- and only such a one is
  pub only : (r : ℕ) → r < length g → (vertex h r).link ≡ none → is_var (vertex h r) ≡ true → (vertex h r).flex ≡ true
      → (y : ℕ) × (y < length g) × ((vertex g y).link ≡ none) × (is_var (vertex g y) ≡ true) × ((vertex g y).flex ≡ true) × (root h y ≡ r)

-- a graph with more links: classes are united, one with an application keeps it, and marks are joined
pub record Onward (g h : Graph) : Type 0 where
  pub long : length h ≡ length g
  pub roots : (z : ℕ) → z < length g → root h z ≡ root h (root g z)
  pub apps : (z : ℕ) → z < length g → (vertex g z).link ≡ none → is_var (vertex g z) ≡ false → is_var (vertex h (root h z)) ≡ false
  pub flex : FlexJoined g h

-- with no link more
onward_refl : (P : Pack) (g : Graph) → Formed P g → Onward g g
onward_refl P g F = record {
  long = refl;
  roots = λ z l. sym (root_self g (root g z) (F z l).rooted);
  apps = λ z l r v. rw (root_self g z r) v;
  flex = record {
    kept = λ y l r v f w. rw (root_self g y r) f;
    only = λ r l o v f. (r, l, o, v, f, root_self g r o);
  };
}

-- more links, and more again
pub onward_trans : (P : Pack) (g h k : Graph) → Formed P g → Formed P h → Onward g h → Onward h k → Onward g k
onward_trans P g h k F H A B =
    let m = A.long in
    let via : (z : ℕ) → z < length g → root k z ≡ root k (root h z) = λ z l. B.roots z (omega arith) in
    let on : (z w r : ℕ) → z < length g → root h z ≡ w → root k w ≡ r → root k z ≡ r = λ z w r l p q. via z l ∙ ap (root k) p ∙ q in
    record {
      long = B.long ∙ m;
      roots = λ z l. via z l ∙ ap (root k) (A.roots z l) ∙ sym (via (root g z) (F z l).within);
      apps = λ z l r v. let f = H z (omega arith) in rw (via z l) (B.apps (root h z) f.within f.rooted (A.apps z l r v));
      flex = record {
        kept = λ y l r v f w.
            let i = H y (omega arith) in
            let u : is_var (vertex k (root k (root h y))) ≡ true = rw (via y l) at w in
            elim (see (is_var (vertex h (root h y)))) [
              | is true e ↦ rw (via y l) (B.flex.kept (root h y) i.within i.rooted e (A.flex.kept y l r v f e) u)
              | is false e ↦ never (let c : false ≡ true = sym (B.apps (root h y) i.within i.rooted e) ∙ u in cc)
            ];
        only = λ r l o v f.
            let b = B.flex.only r (omega arith) o v f in
            let i : b.0 < length g = omega (arith, b.1) in
            let a = A.flex.only b.0 i b.2 b.3 b.4 in
            (a.0, a.1, a.2, a.3, a.4, on a.0 b.0 r a.1 a.5 b.5);
      };
    }

-- one link more, from a root to another
link-onward : (P : Pack) (g h : Graph) (x y : ℕ) → Formed P g → Roots P g x y → (x ≡ y → ⊥) → Joined g h x y → Marked g h x y → Onward g h
unfolding sent
link-onward P g h x y F R n j M =
    let H = formed_joined g h x y j R.root_x R.root_y n P F R.inside_x R.inside_y R.sort in
    let to : (z : ℕ) → z < length g → root h z ≡ sent x y (root g z) = λ z l. root-joined g h x y j R.root_x R.root_y n P F R.inside_y z l in
    let var : (z : ℕ) → is_var (vertex h z) ≡ is_var (vertex g z) = same_var g h j.same in
    let hit : (z : ℕ) → z ≡ x → root h z ≡ y = λ z q. rw q (to x R.inside_x ∙ ap (sent x y) (root_self g x R.root_x) ∙ gone) in
    let miss : (z : ℕ) → z < length g → (vertex g z).link ≡ none → (z ≡ x → ⊥) → root h z ≡ z = λ z l r q. root_self h z (j.there z q ∙ r) in
    record {
      long = j.same.long;
      roots = λ z l. let f = F z l in to z l ∙ ap (sent x y) (sym (root_self g (root g z) f.rooted)) ∙ sym (to (root g z) f.within);
      apps = λ z l r v. elim (see (eqb z x)) [
        | is true e ↦ let q : z ≡ x = omega tests in rw (hit z q) (elim (see (is_var (vertex g y))) [
          | is true w ↦ never (let c : true ≡ false = sym (M.vars w) ∙ ap (λ (u : ℕ). is_var (vertex g u)) (sym q) ∙ v in cc)
          | is false w ↦ var y ∙ w
        ])
        | is false e ↦ rw (miss z l r (λ q. omega tests)) (var z ∙ v)
      ];
      flex = record {
        kept = λ z l r v f w. elim (see (eqb z x)) [
          | is true e ↦
              let q : z ≡ x = omega tests in
              let u : is_var (vertex h y) ≡ true = rw (hit z q) at w in
              rw (hit z q) (M.here (sym (var y) ∙ u) ∙ or_right (vertex g y).flex (vertex g x).flex (rw q at f))
          | is false e ↦ rw (miss z l r (λ q. omega tests)) (elim (see (eqb z y)) [
            | is true d ↦
                let q : z ≡ y = omega tests in
                rw q (M.here (rw q at v) ∙ ap (λ (b : Bool). b || (vertex g x).flex) (rw q at f))
            | is false d ↦ M.there z (λ q. omega tests) (λ q. omega tests) ∙ f
          ])
        ];
        only = λ r l o v f.
            let rx : r ≡ x → ⊥ = λ q. never (let c : none ≡ some y = sym (rw q at o) ∙ j.here in cc) in
            let ro : (vertex g r).link ≡ none = sym (j.there r rx) ∙ o in
            elim (see (eqb r y)) [
              | is true d ↦
                  let q : r ≡ y = omega tests in
                  let vy : is_var (vertex g y) ≡ true = sym (var y) ∙ (rw q at v) in
                  let c : ((vertex g y).flex || (vertex g x).flex) ≡ true = sym (M.here vy) ∙ (rw q at f) in
                  elim (see (vertex g y).flex) [
                    | is true a ↦ (y, R.inside_y, R.root_y, vy, a, miss y R.inside_y R.root_y (λ p. n (sym p)) ∙ sym q)
                    | is false a ↦ (x, R.inside_x, R.root_x, M.vars vy, ap (λ (b : Bool). b || (vertex g x).flex) (sym a) ∙ c, hit x refl ∙ sym q)
                  ]
              | is false d ↦ (r, l, ro, sym (var r) ∙ v, sym (M.there r rx (λ q. omega tests)) ∙ f, miss r l ro rx)
            ];
      };
    }
  where
    gone : sent x y x ≡ y
    gone = elim (see (eqb x x)) [
      | is true e ↦ rw (e, sent) refl
      | is false e ↦ absurd (omega tests)
    ]

-- after a turn
abbrev OnwardTurn : Graph → Turn → Type 0
OnwardTurn g (on h more) = Onward g h
OnwardTurn g clashed = Unit {0}

-- whichever way two roots meet
met-onward : (P : Pack) (g : Graph) (work : List Pair) (x y : ℕ) → Formed P g → Roots P g x y → (t : Turn) → Met g x y work t → OnwardTurn g t
met-onward P g work x y F R t (same e) = onward_refl P g F
met-onward P g work x y F R t (left n v) =
    link-onward P g (bind g x y) x y F R n (bind-joined g x y R.inside_x R.inside_y R.root_x n) (bind-marked g x y R.inside_y n v)
met-onward P g work x y F R t (right n v) =
    let Q : Roots P g y x = record { inside_x = R.inside_y; inside_y = R.inside_x; root_x = R.root_y; root_y = R.root_x; sort = sym R.sort } in
    let m : y ≡ x → ⊥ = λ q. n (sym q) in
    link-onward P g (bind g y x) y x F Q m (bind-joined g y x R.inside_y R.inside_x R.root_y m) (bind-marked g y x R.inside_x m v)
met-onward P g work x y F R t (both n vx vy e) = link-onward P g (join g x y) x y F R n (join-joined g x y R.inside_x R.root_x) (join-marked g x y vy)
met-onward P g work x y F R t (apart vx vy n) = tt

-- pairs taken to the end
take-onward : (P : Pack) (k : ℕ) (g : Graph) (work : List Pair) (n : ℕ) (f : Graph) → Formed P g → Paired P g work → (take_pairs k g work n).graph ≡ some f → Onward g f
unfolding take_pairs
take-onward P zero g [] n f F W e = let q : g ≡ f = (let c : some g ≡ some f = e in cc) in subst (λ (h : Graph). Onward g h) q (onward_refl P g F)
take-onward P zero g (p ∷ work) n f F W e = never (let c : none ≡ some f = e in cc)
take-onward P (suc k) g [] n f F W e = let q : g ≡ f = (let c : some g ≡ some f = e in cc) in subst (λ (h : Graph). Onward g h) q (onward_refl P g F)
take-onward P (suc k) g (p ∷ work) n f F W e =
    let x = root g p.left in
    let y = root g p.right in
    let a = F p.left W.0 in
    let b = F p.right W.1 in
    let R : Roots P g x y = record {
      inside_x = a.within;
      inside_y = b.within;
      root_x = a.rooted;
      root_y = b.rooted;
      sort = sym (root-sort P g F p.left W.0) ∙ W.2 ∙ root-sort P g F p.right W.1;
    } in
    let t = meet_says P g F work W.3 x y R in
    let o = met-onward P g work x y F R (meet g x y work) (met g x y work (F x a.within).soft (F y b.within).soft) in
    elim (see (meet g x y work)) [
      | is clashed c ↦ never (let z : none ≡ some f = rw (take_clashed k g p work n c) at e in cc)
      | is (on h more) c ↦
          let L : Leads P g x y work h more = rw c at t in
          let A : Onward g h = rw c at o in
          onward_trans P g h f F L.formed A (take-onward P k h more (suc n) f L.formed L.paired (rw (take_on k g p work n h more c) at e))
    ]

-- two nodes of one sort in a well-formed graph, unified
module _ (P : Pack) (g : Graph) (x y : ℕ) (F : Formed P g) (hx : x < length g) (hy : y < length g) (s : sort_at P g x ≡ sort_at P g y) where
  -- unification unites classes, and joins their marks
  pub unify-onward : (h : Graph) → (unify g x y).graph ≡ some h → Onward g h
  unfolding unify
  unify-onward h e = take-onward P (suc (cells g)) g (record { left = x; right = y } ∷ []) 0 h F (hx, hy, s, tt) e

  -- a variable root is flexible afterwards just where a variable root of its class was before
  pub unify_flex : (h : Graph) → (unify g x y).graph ≡ some h → FlexJoined g h
  unify_flex h e = (unify-onward h e).flex
