-- Unification keeps the solutions, clashes only where there are none, and takes no more pairs than its first and the open cells.
use Rattle.std.specs.Prelude.{◌≡◌, refl, ◌↔◌, List, [], ◌∷◌, ℕ, zero, suc, ◌+◌, ◌≤◌, ◌<◌, length}
use Rattle.std.proofs.Common.{sym, ◌∙◌, arith}
use Rattle.std.proofs.Math.Option.{Option, none, some}
use Rattle.definition.specs.Pack.{Pack}
use Rattle.definition.specs.Tree.{Tree}
use Rattle.definition.specs.Test.{is, see}
use Rattle.definition.specs.Graph.{Graph, cells, root, Pair, on, clashed, meet, Unified, take_pairs, unify}
use Rattle.theory.specs.Unification.Solve.{Solves, sort_at, Formed, SameNodes, open_cells}
use Rattle.theory.specs.Unification.Join.{same_refl, same_trans}
use Rattle.theory.specs.Unification.Kept.{root_solves, root-sort}
use Rattle.theory.specs.Unification.Pairs.{Equated, Paired}
use Rattle.theory.specs.Unification.Meet.{Leads, Turned, meet_says}

-- what unification says, by its outcome
abbrev pub Says : Pack → Graph → ℕ → ℕ → Option Graph → Type 0
Says P g x y none = (θ : ℕ → Tree) → Solves θ g → θ x ≡ θ y → ⊥
Says P g x y (some h) =
    Formed P h × SameNodes g h × ((θ : ℕ → Tree) → Solves θ h → Solves θ g × (θ x ≡ θ y)) × ((θ : ℕ → Tree) → Solves θ g → θ x ≡ θ y → Solves θ h)

-- a pair that clashes ends it
pub take_clashed : (k : ℕ) (g : Graph) (p : Pair) (work : List Pair) (n : ℕ) → meet g (root g p.left) (root g p.right) work ≡ clashed
    → take_pairs (suc k) g (p ∷ work) n ≡ record { graph = none; taken = suc n }
unfolding take_pairs
take_clashed k g p work n e = rw (e, take_pairs) refl

-- another leads on
pub take_on : (k : ℕ) (g : Graph) (p : Pair) (work : List Pair) (n : ℕ) (h : Graph) (more : List Pair) → meet g (root g p.left) (root g p.right) work ≡ on h more
    → take_pairs (suc k) g (p ∷ work) n ≡ take_pairs k h more (suc n)
unfolding take_pairs
take_on k g p work n h more e = rw (e, take_pairs) refl

-- what pairs taken from a worklist come to
abbrev Comes : Pack → Graph → List Pair → Option Graph → Type 0
Comes P g work none = (θ : ℕ → Tree) → Solves θ g → Equated θ work → ⊥
Comes P g work (some h) =
    Formed P h × SameNodes g h × ((θ : ℕ → Tree) → Solves θ h → Solves θ g × Equated θ work) × ((θ : ℕ → Tree) → Solves θ g → Equated θ work → Solves θ h)

-- how many have been taken then, m after n
abbrev Spends : ℕ → Graph → List Pair → Option Graph → ℕ → Type 0
Spends n g work none m = m ≤ n + length work + open_cells g
Spends n g work (some h) m = m + open_cells h ≤ n + length work + open_cells g

-- both
abbrev Right : Pack → ℕ → Graph → List Pair → Unified → Type 0
Right P n g work u = Comes P g work u.graph × Spends n g work u.graph u.taken

-- a turn on the first pair
turned : (P : Pack) (g : Graph) (p : Pair) (work : List Pair) → Formed P g → Paired P g (p ∷ work)
    → Turned P g (root g p.left) (root g p.right) work (meet g (root g p.left) (root g p.right) work)
turned P g p work F W =
    let l = F p.left W.0 in
    let r = F p.right W.1 in
    meet_says P g F work W.3 (root g p.left) (root g p.right) (record {
      inside_x = l.within;
      inside_y = r.within;
      root_x = l.rooted;
      root_y = r.rooted;
      sort = sym (root-sort P g F p.left W.0) ∙ W.2 ∙ root-sort P g F p.right W.1;
    })

-- a pair has one tree just where its roots have
pair_roots : (P : Pack) (g : Graph) (p : Pair) (work : List Pair) → Formed P g → Paired P g (p ∷ work) → (θ : ℕ → Tree) → Solves θ g
    → (θ p.left ≡ θ p.right) ↔ (θ (root g p.left) ≡ θ (root g p.right))
pair_roots P g p work F W θ S =
    let l = root_solves P g F θ S p.left W.0 in
    let r = root_solves P g F θ S p.right W.1 in
    (λ e. sym l ∙ e ∙ r, λ e. l ∙ e ∙ sym r)

-- what is right after a turn is right before it
hand_back : (P : Pack) (g : Graph) (p : Pair) (work : List Pair) → Formed P g → Paired P g (p ∷ work)
    → (h : Graph) (more : List Pair) → Leads P g (root g p.left) (root g p.right) work h more
    → (n : ℕ) (o : Option Graph) (m : ℕ) → Comes P h more o → Spends (suc n) h more o m → Comes P g (p ∷ work) o × Spends n g (p ∷ work) o m
hand_back P g p work F W h more L n none m c s =
    let l = L.less in (
      λ θ S q.
          let f = L.forth θ S ((pair_roots P g p work F W θ S).0 q.0) q.1 in
          c θ f.0 f.1,
      omega arith,
    )
hand_back P g p work F W h more L n (some f) m c s =
    let l = L.less in (
      (
        c.0,
        same_trans g h f L.same c.1,
        λ θ S.
            let a = c.2 θ S in
            let b = L.back θ a.0 a.1 in
            (b.0, ((pair_roots P g p work F W θ b.0).1 b.1, b.2)),
        λ θ S q.
            let f = L.forth θ S ((pair_roots P g p work F W θ S).0 q.0) q.1 in
            c.3 θ f.0 f.1,
      ),
      omega arith,
    )

-- nothing left to do
idle : (P : Pack) (n : ℕ) (g : Graph) → Formed P g → Right P n g [] (record { graph = some g; taken = n })
idle P n g F = ((F, same_refl g, λ θ S. (S, tt), λ θ S q. S), omega arith)

-- pairs taken with enough fuel
take-right : (P : Pack) (k : ℕ) (g : Graph) (work : List Pair) (n : ℕ) → Formed P g → Paired P g work → length work + open_cells g ≤ k
    → Right P n g work (take_pairs k g work n)
unfolding take_pairs
take-right P zero g [] n F W l = idle P n g F
take-right P zero g (p ∷ work) n F W l = absurd (omega arith)
take-right P (suc k) g [] n F W l = idle P n g F
take-right P (suc k) g (p ∷ work) n F W l =
    let t = turned P g p work F W in
    elim (see (meet g (root g p.left) (root g p.right) work)) [
      | is clashed e ↦
          let c : Turned P g (root g p.left) (root g p.right) work clashed = rw e at t in
          rw (take_clashed k g p work n e) (
            λ θ S q. c θ S ((pair_roots P g p work F W θ S).0 q.0),
            omega arith,
          )
      | is (on h more) e ↦
          let L : Leads P g (root g p.left) (root g p.right) work h more = rw e at t in
          let s = L.less in
          let ih = take-right P k h more (suc n) L.formed L.paired (omega arith) in
          let u = take_pairs k h more (suc n) in
          rw (take_on k g p work n h more e) (hand_back P g p work F W h more L n u.graph u.taken ih.0 ih.1)
    ]

-- open cells are cells
pub open_most : (g : Graph) → open_cells g ≤ cells g
unfolding open_cells cells
open_most [] = omega arith
open_most (v ∷ g) = let h = open_most g in elim (see v.link) [
  | is none e ↦ rw (e, open_cells) (omega arith)
  | is (some y) e ↦ rw (e, open_cells) (omega arith)
]

-- two nodes of one sort in a well-formed graph
module _ (P : Pack) (g : Graph) (x y : ℕ) (F : Formed P g) (hx : x < length g) (hy : y < length g) (s : sort_at P g x ≡ sort_at P g y) where
  -- unification is right, since its fuel suffices
  right : Right P 0 g (record { left = x; right = y } ∷ []) (unify g x y)
  unfolding unify
  right = let c = open_most g in take-right P (suc (cells g)) g (record { left = x; right = y } ∷ []) 0 F (hx, hy, s, tt) (omega arith)

  -- of one pair
  first : (o : Option Graph) → Comes P g (record { left = x; right = y } ∷ []) o → Says P g x y o
  first none c = λ θ S e. c θ S (e, tt)
  first (some h) c = (c.0, c.1, λ θ S. let b = c.2 θ S in (b.0, b.1.0), λ θ S e. c.3 θ S (e, tt))

  -- a clash means that no solution equates x and y; otherwise the solutions afterwards are just those that do
  pub unify_says : Says P g x y (unify g x y).graph
  unify_says = first (unify g x y).graph right.0

  -- the pairs taken and the cells still open are no more than the first pair and the cells open before
  pub unify_open : (h : Graph) → (unify g x y).graph ≡ some h → (unify g x y).taken + open_cells h ≤ suc (open_cells g)
  unify_open h e = let r : Spends 0 g (record { left = x; right = y } ∷ []) (some h) (unify g x y).taken = rw e at right.1 in omega arith

  -- so the pairs taken are no more, clashes included
  pub unify-taken : (unify g x y).taken ≤ suc (open_cells g)
  unify-taken = elim (see (unify g x y).graph) [
    | is none e ↦ let r : Spends 0 g (record { left = x; right = y } ∷ []) none (unify g x y).taken = rw e at right.1 in omega arith
    | is (some h) e ↦ let r = unify_open h e in omega arith
  ]
