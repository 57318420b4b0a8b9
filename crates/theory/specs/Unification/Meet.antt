-- One turn of unification: two roots meet, and what solves the graph and equates the pairs before does so afterwards, and back.
use Rattle.std.specs.Prelude.{◌≡◌, refl, true, false, ◌||◌, List, ℕ, ◌+◌, ◌≤◌, ◌<◌, eqb, length}
use Rattle.std.proofs.Common.{sym, ap, ap₂, ◌∙◌, arith, eqb-true}
use Rattle.std.proofs.Math.Option.{none}
use Rattle.std.proofs.lemmas.Bool.{eqb-false}
use Rattle.definition.specs.Pack.{Pack, symbol_of}
use Rattle.definition.specs.Tree.{Tree, tree}
use Rattle.definition.specs.Test.{is, see, never, ◌and◌}
use Rattle.definition.specs.Graph.{Vertex, Graph, vertex, is_var, is_free, join, bind, Pair, last_first, Turn, on, clashed, meet}
use Rattle.theory.specs.Unification.Solve.{trees_at, Solves, sort_at, SortsAt, Formed, SameNodes, open_cells}
use Rattle.theory.specs.Unification.Join.{Joined, same_refl, join-joined, bind-joined}
use Rattle.theory.specs.Unification.Kept.{same_var, formed_joined, joined_solves, solves_joined}
use Rattle.theory.specs.Unification.Pairs.{Equated, Paired, paired_same, sorts-length, args-paired, args-length, args_forth, args-back}

-- a variable that is not rigid is free
pub free_var : (v : Vertex) → v.rigid ≡ false → is_free v ≡ is_var v
unfolding is_free ◌and◌
free_var v r = elim (see (is_var v)) [
  | is true e ↦ rw (e, ◌and◌, r) refl
  | is false e ↦ rw (e, ◌and◌) refl
]

-- the ways that two nodes that are not rigid can meet, each with what its tests say
pub data Met (g : Graph) (x y : ℕ) (work : List Pair) : Turn → Type 0 where
  same : x ≡ y → Met g x y work (on g work)
  left : (x ≡ y → ⊥) → is_var (vertex g x) ≡ true → Met g x y work (on (bind g x y) work)
  right : (x ≡ y → ⊥) → is_var (vertex g y) ≡ true → Met g x y work (on (bind g y x) work)
  both : (x ≡ y → ⊥) → is_var (vertex g x) ≡ false → is_var (vertex g y) ≡ false → (vertex g x).head ≡ (vertex g y).head
      → Met g x y work (on (join g x y) (last_first (vertex g x).args (vertex g y).args work))
  apart : is_var (vertex g x) ≡ false → is_var (vertex g y) ≡ false → ((vertex g x).head ≡ (vertex g y).head → ⊥) → Met g x y work clashed

-- they meet in one of these ways
pub met : (g : Graph) (x y : ℕ) (work : List Pair) → (vertex g x).rigid ≡ false → (vertex g y).rigid ≡ false → Met g x y work (meet g x y work)
unfolding meet
met g x y work rx ry =
    let fx = free_var (vertex g x) rx in
    let fy = free_var (vertex g y) ry in
    elim (see (eqb x y)) [
      | is true e ↦ rw (e, meet) (same (eqb-true x y e))
      | is false e ↦ let n = eqb-false x y e in elim (see (is_var (vertex g x))) [
        | is true a ↦ rw (e, fx ∙ a, meet) (left n a)
        | is false a ↦ elim (see (is_var (vertex g y))) [
          | is true b ↦ rw (e, fx ∙ a, fy ∙ b, meet) (right n b)
          | is false b ↦
              let o : is_var (vertex g x) || is_var (vertex g y) ≡ false = rw (a, b) refl in
              elim (see (eqb (vertex g x).head (vertex g y).head)) [
                | is true c ↦ rw (e, fx ∙ a, fy ∙ b, o, c, meet) (both n a b (eqb-true (vertex g x).head (vertex g y).head c))
                | is false c ↦ rw (e, fx ∙ a, fy ∙ b, o, c, meet) (apart a b (eqb-false (vertex g x).head (vertex g y).head c))
              ]
        ]
      ]
    ]

-- what holds where a pair x, y with work behind it has led to a graph and more work
pub record Leads (P : Pack) (g : Graph) (x y : ℕ) (work : List Pair) (h : Graph) (more : List Pair) : Type 0 where
  pub formed : Formed P h
  pub same : SameNodes g h
  pub paired : Paired P h more
  -- less is left to do
  pub less : length more + open_cells h ≤ length work + open_cells g
  -- the solutions are the same
  pub forth : (θ : ℕ → Tree) → Solves θ g → θ x ≡ θ y → Equated θ work → Solves θ h × Equated θ more
  pub back : (θ : ℕ → Tree) → Solves θ h → Equated θ more → Solves θ g × (θ x ≡ θ y) × Equated θ work

-- what a turn says: a graph and work of the same solutions, or there are none
abbrev pub Turned : Pack → Graph → ℕ → ℕ → List Pair → Turn → Type 0
Turned P g x y work (on h more) = Leads P g x y work h more
Turned P g x y work clashed = (θ : ℕ → Tree) → Solves θ g → θ x ≡ θ y → ⊥

-- two roots of one sort
pub record Roots (P : Pack) (g : Graph) (x y : ℕ) : Type 0 where
  pub inside_x : x < length g
  pub inside_y : y < length g
  pub root_x : (vertex g x).link ≡ none
  pub root_y : (vertex g y).link ≡ none
  pub sort : sort_at P g x ≡ sort_at P g y

-- the same two, the other first
turned_round : (P : Pack) (g : Graph) (x y : ℕ) → Roots P g x y → Roots P g y x
turned_round P g x y R = record { inside_x = R.inside_y; inside_y = R.inside_x; root_x = R.root_y; root_y = R.root_x; sort = sym R.sort }

-- a well-formed graph and pairs of it
module _ (P : Pack) (g : Graph) (F : Formed P g) (work : List Pair) (W : Paired P g work) where
  -- a root x is joined to a root y, and no more pairs come on than x has arguments
  link_leads : (x y : ℕ) → Roots P g x y → (x ≡ y → ⊥) → (h : Graph) → Joined g h x y
      → (more : List Pair) → Paired P g more → length more ≤ length (vertex g x).args + length work
      → ((θ : ℕ → Tree) → Solves θ g → θ x ≡ θ y → Equated θ work → Equated θ more)
      → ((θ : ℕ → Tree) → Equated θ more → Equated θ work)
      → ((θ : ℕ → Tree) → Solves θ h → θ x ≡ θ y → Equated θ more → is_var (vertex g x) ≡ false → θ x ≡ tree (vertex g x).head (trees_at θ (vertex g x).args))
      → Leads P g x y work h more
  link_leads x y R n h j more M l to from node =
      let c = j.closed in
      let m = j.same.long in
      let i = R.inside_x in
      record {
        formed = formed_joined g h x y j R.root_x R.root_y n P F i R.inside_y R.sort;
        same = j.same;
        paired = paired_same P g h j.same more M;
        less = omega arith;
        forth = λ θ S e q. (joined_solves g h x y j θ S e, to θ S e q);
        back = λ θ S q.
            let e = S.links x y (omega arith) j.here in
            let b = solves_joined g h x y j θ i (node θ S e q) R.root_x S in
            (b.0, b.1, from θ q);
      }

  -- a variable is bound
  bind_leads : (x y : ℕ) → Roots P g x y → (x ≡ y → ⊥) → is_var (vertex g x) ≡ true → Leads P g x y work (bind g x y) work
  bind_leads x y R n v =
      link_leads x y R n (bind g x y) (bind-joined g x y R.inside_x R.inside_y R.root_x n) work W (omega arith)
      (λ θ S e q. q) (λ θ q. q) (λ θ S e q a. never (cc))

  -- the order of a pair does not matter
  other_way : (x y : ℕ) (h : Graph) (more : List Pair) → Leads P g x y work h more → Leads P g y x work h more
  other_way x y h more L = record {
    formed = L.formed;
    same = L.same;
    paired = L.paired;
    less = L.less;
    forth = λ θ S e q. L.forth θ S (sym e) q;
    back = λ θ S q. let b = L.back θ S q in (b.0, sym b.1, b.2);
  }

  -- whichever way two roots meet
  met_says : (x y : ℕ) → Roots P g x y → (t : Turn) → Met g x y work t → Turned P g x y work t
  met_says x y R t (same e) = record {
    formed = F;
    same = same_refl g;
    paired = W;
    less = omega arith;
    forth = λ θ S d q. (S, q);
    back = λ θ S q. (S, ap θ e, q);
  }
  met_says x y R t (left n v) = bind_leads x y R n v
  met_says x y R t (right n v) = other_way y x (bind g y x) work (bind_leads y x (turned_round P g x y R) (λ q. n (sym q)) v)
  met_says x y R t (both n vx vy e) =
      let xs = (vertex g x).args in
      let ys = (vertex g y).args in
      let ss = (symbol_of P (vertex g x).head).inputs in
      let sx : SortsAt P g xs ss = (F x R.inside_x).sorts vx in
      let sy : SortsAt P g ys ss = rw e ((F y R.inside_y).sorts vy) in
      let l : length xs ≡ length ys = sorts-length P g xs ss sx ∙ sym (sorts-length P g ys ss sy) in
      let j = join-joined g x y R.inside_x R.root_x in
      link_leads x y R n (join g x y) j (last_first xs ys work)
      (args-paired P g xs ys ss work (F x R.inside_x).below (F y R.inside_y).below sx sy W)
      (args-length xs ys work)
      (λ θ S q w. let a = S.apps x R.inside_x R.root_x vx in let b = S.apps y R.inside_y R.root_y vy in args_forth θ xs ys work (cc) w)
      (λ θ q. (args-back θ xs ys work l q).1)
      (λ θ S q w a.
      let b = S.apps y (rw j.same.long R.inside_y) (j.there y (λ r. n (sym r)) ∙ R.root_y) (same_var g (join g x y) j.same y ∙ vy) in
      q ∙ b ∙ ap₂ tree (j.same.heads y ∙ sym e) (ap (trees_at θ) (j.same.args y) ∙ sym (args-back θ xs ys work l w).0))
  met_says x y R t (apart vx vy n) = λ θ S e.
      let a = S.apps x R.inside_x R.root_x vx in
      let b = S.apps y R.inside_y R.root_y vy in
      n (cc)

  -- a turn on two roots
  pub meet_says : (x y : ℕ) → Roots P g x y → Turned P g x y work (meet g x y work)
  meet_says x y R = met_says x y R (meet g x y work) (met g x y work (F x R.inside_x).soft (F y R.inside_y).soft)
