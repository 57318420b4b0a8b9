-- Answering: what the functions owe to each other, and the laws of the roots written and of what is told.
use Rattle.std.specs.Prelude.{Ok, Err}
use Rattle.std.specs.Prelude.{Ok, Err}
use Rattle.std.specs.Prelude.{◌≡◌, refl, Bool, true, false, List, [], ◌∷◌, ◌++◌, ℕ, zero, suc, ◌+◌, ◌*◌, ◌-◌, ◌≤◌, ◌<◌, leb, ltb, length, drop, set, replicate}
use Rattle.std.proofs.Math.Path.{sym}
use Rattle.std.proofs.Common.{ap, ap₂, ◌∙◌, arith, add-one}
use Rattle.std.proofs.lemmas.List.{map-append, length-map, length-replicate}
use Rattle.std.proofs.Math.Option.{some}
use borrow.Author.Tests.{lt-ltb, le-ltb, le-leb, lt-leb, leb-true, leb-false, ltb-false, ne_eqb}
use Rattle.definition.specs.Test.{is, see, never, ◌and◌}
use Rattle.definition.specs.Graph.{Graph, root, Unified, unify, up_to, circular}
use Rattle.definition.specs.Answer.{padded, padded-none}
use Rattle.definition.specs.Store.{nothing}
use Rattle.base.specs.Part.{put, put-none, put-more}
use Rattle.theory.specs.Unification.Circle.{length_up_to}
use Rattle.graph.specs.declared.graph.Graph.{Graph as Counts}
use Rattle.graph.specs.Cells.{Shows, nodes_few}
use Rattle.graph.specs.Links.{Found}
use Rattle.theory.specs.Unification.Inner.{Inner}
use Rattle.graph.specs.Inner.{many-nodes}
use Rattle.graph_unify.specs.Unifies.{Unifies}
use Rattle.graph_unify.specs.Circles.{Tells}
use Rattle.graph_unify.specs.CircleWords.{colours_end}
use Rattle.host_unify.specs.declared.Unification.{Unification}
use Rattle.host_unify.specs.Solved.{Listed, whole, broken, full, listed, Told, tells, refused, roots_to, bit, unified_at, joined_at, ended, asked, unfit, asked_of, solved, Left, leaves}
use Rattle.host_unify.specs.Turns.{Reads}
use Rattle.host_unify.specs.declared.Fault.TheVariants.{Broken, Full}

-- ---- what is owed
-- zeros, and a place for each root
pub record Roots (roots : List ℕ) (s : Counts) : Type 0 where
  pub room : s.nodes ≤ length roots
  pub zeros : roots ≡ replicate (length roots) 0

-- the roots of whatever graph is held, and zeros behind them
abbrev pub Writes : List ℕ → List ℕ → List ℕ → Counts → ℕ → Type 0
Writes cells work roots s n = (g : Graph) → Shows cells work s g → roots ≡ padded n (roots_to g (length g))

-- what is told of it, joined
abbrev pub Joins : List ℕ → List ℕ → Counts → ℕ → ℕ → Told → ℕ → Type 0
Joins cells work s stage taken t n = (g : Graph) → Shows cells work s g → Inner g → t ≡ joined_at stage taken g n

-- what unification of two of its nodes comes to
abbrev pub Solves : List ℕ → List ℕ → Counts → ℕ → ℕ → ℕ → Told → ℕ → Type 0
Solves cells work s x y stage t n = (g : Graph) → Shows cells work s g → Inner g → t ≡ ended stage (unified_at stage g x y) n

-- and of any two numbers
abbrev pub Asks : List ℕ → List ℕ → Counts → ℕ → ℕ → ℕ → Told → ℕ → Type 0
Asks cells work s x y stage t n = (g : Graph) → Shows cells work s g → Inner g → t ≡ asked g x y stage n

-- ---- roots
-- numbers of nodes are words
pub nodes_small : (cells work : List ℕ) (s : Counts) (g : Graph) → Shows cells work s g → s.nodes < nothing
nodes_small cells work s g S = omega (arith, nodes_few cells work s S.laid, S.laid.fits, S.laid.small)

-- as many roots as nodes
length_roots : (g : Graph) (n : ℕ) → length (roots_to g n) ≡ n
unfolding roots_to
length_roots g n = length-map (up_to n) (root g) ∙ length_up_to n

-- one root more
roots_more : (g : Graph) (n : ℕ) → roots_to g (n + 1) ≡ roots_to g n ++ (root g n ∷ [])
unfolding roots_to up_to
roots_more g n = rw (add-one n) (map-append (root g) (up_to n) (n ∷ []))

-- i roots are written of whatever graph was held, which is held still
abbrev pub Written : List ℕ → List ℕ → List ℕ → List ℕ → List ℕ → Counts → ℕ → Type 0
Written cells before work roots₀ roots s i = (g : Graph) → Shows cells before s g → Shows cells work s g × (roots ≡ put 0 i (roots_to g i) roots₀)

pub written_none : (cells work roots : List ℕ) (s : Counts) → Written cells work work roots roots s 0
unfolding roots_to up_to
written_none cells work roots s g S = (S, sym (put-none 0 roots))

pub written-more : (cells before work work' roots₀ roots : List ℕ) (s : Counts) (i r : ℕ) → i < length roots₀ → Written cells before work roots₀ roots s i → Found cells work work' s i r → Written cells before work' roots₀ (set roots i r) s (i + 1)
written-more cells before work work' roots₀ roots s i r h W F g S =
    let w = W g S in
    let f = F.2 g w.0 in
    let z : 0 + i ≡ i = omega arith in
    let p : set (put 0 i (roots_to g i) roots₀) i (root g i) ≡ put 0 (i + 1) (roots_to g i ++ (root g i ∷ [])) roots₀ = rw z at (put-more 0 i roots₀ (roots_to g i) (root g i) (length_roots g i) (omega arith)) in
    (f.1, ap₂ (λ (l : List ℕ) (v : ℕ). set l i v) w.1 f.0 ∙ p ∙ ap (λ (l : List ℕ). put 0 (i + 1) l roots₀) (sym (roots_more g i)))

-- zeros stay behind them
drop-zeros : (n m : ℕ) → ◌≡◌ {A = List ℕ} (drop n (replicate m 0)) (replicate (m - n) 0)
drop-zeros zero m = let e : m - 0 ≡ m = omega arith in rw e
drop-zeros (suc n) zero = let e : 0 - suc n ≡ 0 = omega arith in rw e
drop-zeros (suc n) (suc m) = let e : suc m - suc n ≡ m - n = omega arith in rw e (drop-zeros n m)

pub written_all : (cells before work roots₀ roots : List ℕ) (s : Counts) (i : ℕ) → Roots roots₀ s → i ≡ s.nodes → Written cells before work roots₀ roots s i → Writes cells before roots s (length roots₀)
unfolding padded
written_all cells before work roots₀ roots s i Z e W g S =
    let w = W g S in
    let m = many-nodes cells before s g S in
    let q : i ≡ length g = e ∙ sym m in
    let n : ℕ = length roots₀ in
    let d : drop i roots₀ ≡ replicate (n - length (roots_to g i)) 0 = ap (drop i) Z.zeros ∙ drop-zeros i n ∙ ap (λ (k : ℕ). replicate (n - k) 0) (sym (length_roots g i)) in
    w.1 ∙ ap (λ (l : List ℕ). roots_to g i ++ l) d ∙ ap (λ (k : ℕ). padded n (roots_to g k)) q

-- ---- what is told
-- an answer and the roots as they stand
abbrev pub Says : ℕ → ℕ → ℕ → List ℕ → Told
Says code taken circular roots = record { answer = record { code = code; taken = taken; circular = circular }; roots = roots }

-- the test for circles, and then the roots
pub joins : (cells before work : List ℕ) (s : Counts) (stage taken : ℕ) (circle : Bool) (b : ℕ) (roots : List ℕ) (n : ℕ) → 2 ≤ stage → Tells cells before work s circle → b ≡ bit circle → Writes cells work roots s n → Joins cells before s stage taken (Says 0 taken b roots) n
unfolding tells joined_at
joins cells before work s stage taken circle b roots n h T e W g S I =
    let t = T g S I in
    let c : b ≡ bit (circular g) = e ∙ ap bit t.0 in
    let r : roots ≡ padded n (roots_to g (length g)) = W g t.1 in
    rw (le-leb 2 stage h, joined_at) (ap₂ (λ (k : ℕ) (l : List ℕ). Says 0 taken k l) c r)

-- nothing is unified, or the two are
unified-none : (g : Graph) (x y : ℕ) → unified_at 0 g x y ≡ record { graph = some g; taken = 0 }
unfolding unified_at
unified-none g x y = refl

unified_is : (stage : ℕ) (g : Graph) (x y : ℕ) → (stage ≡ 0 → ⊥) → unified_at stage g x y ≡ unify g x y
unfolding unified_at
unified_is stage g x y d = rw (ne_eqb stage 0 d, unified_at)

pub solves_none : (cells work : List ℕ) (s : Counts) (x y stage : ℕ) (t : Told) (n : ℕ) → stage ≡ 0 → Joins cells work s stage 0 t n → Solves cells work s x y stage t n
unfolding ended
solves_none cells work s x y stage t n z J g S I = J g S I ∙ sym (ap (λ (v : Unified). ended stage v n) (ap (λ (k : ℕ). unified_at k g x y) z ∙ unified-none g x y))

-- joined, or a clash
pub solves_joined : (cells before work : List ℕ) (s : Counts) (x y stage taken : ℕ) (t : Told) (n : ℕ) → (stage ≡ 0 → ⊥) → Unifies cells before work s x y (Ok taken) → Joins cells work s stage taken t n → Solves cells before s x y stage t n
unfolding ended
solves_joined cells before work s x y stage taken t n d U J g S I =
    let u = U.0 g S I in
    J u.0 u.2 u.3 ∙ sym (ap (λ (v : Unified). ended stage v n) (unified_is stage g x y d ∙ u.1))

-- zeros only
nothing-told : (code taken : ℕ) (roots : List ℕ) → roots ≡ replicate (length roots) 0 → Says code taken 0 roots ≡ tells code taken 0 [] (length roots)
unfolding tells
nothing-told code taken roots z = ap (Says code taken 0) (z ∙ sym (padded-none (length roots)))

pub solves_clash : (cells before work roots : List ℕ) (s : Counts) (x y stage taken : ℕ) → (stage ≡ 0 → ⊥) → Unifies cells before work s x y (Err taken) → roots ≡ replicate (length roots) 0 → Solves cells before s x y stage (Says 1 taken 0 roots) (length roots)
unfolding ended
solves_clash cells before work roots s x y stage taken d U z g S I = nothing-told 1 taken roots z ∙ sym (ap (λ (v : Unified). ended stage v (length roots)) (unified_is stage g x y d ∙ U.0 g S I))

-- no more than that they are joined
pub joins_only : (cells work roots : List ℕ) (s : Counts) (stage taken : ℕ) → stage < 2 → roots ≡ replicate (length roots) 0 → Joins cells work s stage taken (Says 0 taken 0 roots) (length roots)
unfolding joined_at
joins_only cells work roots s stage taken h z g S I = rw (lt-leb 2 stage h, joined_at) (nothing-told 0 taken roots z)

-- a refusal
pub refusal-told : (code : ℕ) (r : Unification) (roots : List ℕ) → r ≡ record { code = code; taken = 0; circular = 0 } → roots ≡ replicate (length roots) 0 → ◌≡◌ {A = Told} (record { answer = r; roots = roots }) (refused code (length roots))
unfolding refused
refusal-told code r roots e z = ap {B = Told} (λ (a : Unification). record { answer = a; roots = roots }) e ∙ nothing-told code 0 roots z

-- ---- the two nodes
module _ (cells work : List ℕ) (s : Counts) (x y stage : ℕ) (t : Told) (n : ℕ) where
  pub asks_left : s.nodes ≤ x → t ≡ refused 2 n → Asks cells work s x y stage t n
  unfolding asked ◌and◌
  asks_left h e g S I = e ∙ (rw (asked, le-ltb x (length g) (omega (arith, many-nodes cells work s g S)), ◌and◌))

  module _ (lx : x < s.nodes) where
    pub asks_right : s.nodes ≤ y → t ≡ refused 2 n → Asks cells work s x y stage t n
    unfolding asked ◌and◌
    asks_right h e g S I = let m = many-nodes cells work s g S in e ∙ (rw (asked, lt-ltb x (length g) (omega arith), le-ltb y (length g) (omega arith), ◌and◌))

    module _ (ly : y < s.nodes) where
      pub asks_room : n < s.nodes → t ≡ refused 3 n → Asks cells work s x y stage t n
      unfolding asked ◌and◌
      asks_room h e g S I = let m = many-nodes cells work s g S in e ∙ (rw (asked, lt-ltb x (length g) (omega arith), lt-ltb y (length g) (omega arith), ◌and◌, lt-leb (length g) n (omega arith)))

      pub asks_solves : s.nodes ≤ n → Solves cells work s x y stage t n → Asks cells work s x y stage t n
      unfolding asked ◌and◌
      asks_solves h W g S I = let m = many-nodes cells work s g S in W g S I ∙ (rw (asked, lt-ltb x (length g) (omega arith), lt-ltb y (length g) (omega arith), ◌and◌, le-leb (length g) n (omega arith)))

-- ---- the lengths
-- which of the two tests says it
pub unfit_long : (cells work : ℕ) → 16777216 ≤ cells → unfit cells work ≡ true
unfolding unfit
unfit_long cells work h = rw (le-leb 16777216 cells h)

pub unfit_work : (cells work : ℕ) → cells < 16777216 → unfit cells work ≡ ltb work (8 * cells + 7)
unfolding unfit
unfit_work cells work h = rw (lt-leb 16777216 cells h)

-- lengths that fit are what the graph asks for
pub fit : (cells work : List ℕ) → unfit (length cells) (length work) ≡ false → (colours_end cells ≤ length work) × (length cells < nothing)
fit cells work e = elim (see (leb 16777216 (length cells))) [
  | is true t ↦ never (let z : true ≡ false = sym (unfit_long (length cells) (length work) (leb-true _ _ t)) ∙ e in cc)
  | is false t ↦
      let small : length cells < 16777216 = leb-false _ _ t in
      let f : 8 * length cells + 7 ≤ length work = ltb-false _ _ (sym (unfit_work (length cells) (length work) small) ∙ e) in
      (omega arith, omega arith)
]

-- ---- the whole call
module _ (terms : List ℕ) (x y stage roots cells work : ℕ) (t : Told) where
  pub solved-unfit : unfit cells work ≡ true → t ≡ refused 3 roots → t ≡ solved terms x y stage roots cells work
  unfolding solved
  solved-unfit u e = e ∙ (rw (u, solved))

  module _ (u : unfit cells work ≡ false) (cells' work' : List ℕ) (long : length cells' ≡ cells) where
    solved_is : (l : Listed) → listed terms (length cells') ≡ l → asked_of l x y stage roots ≡ solved terms x y stage roots cells work
    unfolding solved
    solved_is l e = rw (u, solved, sym long, e)

    pub solved_broken : Reads terms cells' work' (Err Broken) → t ≡ refused 2 roots → t ≡ solved terms x y stage roots cells work
    unfolding asked_of
    solved_broken R e = e ∙ solved_is broken R

    pub solved-full : Reads terms cells' work' (Err Full) → t ≡ refused 3 roots → t ≡ solved terms x y stage roots cells work
    unfolding asked_of
    solved-full R e = e ∙ solved_is full R

    pub solved-whole : (s : Counts) → Reads terms cells' work' (Ok s) → Asks cells' work' s x y stage t roots → t ≡ solved terms x y stage roots cells work
    unfolding asked_of
    solved-whole s R A = A R.0 R.1 R.2 ∙ solved_is (whole R.0) R.3

-- a buffer of zeros
pub zeros-all : (n : ℕ) (xs : List ℕ) → xs ≡ replicate n 0 → xs ≡ replicate (length xs) 0
zeros-all n xs e = e ∙ ap (λ (k : ℕ). replicate k 0) (sym (length-replicate n 0) ∙ ap length (sym e))

-- what is told, and zeros in cells and work
pub all_left : (terms : List ℕ) (x y stage n m : ℕ) (r : Unification) (cells work roots cells₁ work₁ cells₂ work₂ : List ℕ) → m ≡ n → length cells₁ ≡ length cells → length work₁ ≡ length work
    → ◌≡◌ {A = Told} (record { answer = r; roots = roots }) (solved terms x y stage m (length cells) (length work)) → cells₂ ≡ replicate (length cells₁) 0 → work₂ ≡ replicate (length work₁) 0
    → ◌≡◌ {A = Left} (record { answer = r; roots = roots; cells = cells₂; work = work₂ }) (leaves terms x y stage n (length cells) (length work))
unfolding leaves
all_left terms x y stage n m r cells work roots cells₁ work₁ cells₂ work₂ q c w e zc zw =
    let t = e ∙ ap (λ (k : ℕ). solved terms x y stage k (length cells) (length work)) q in
    let c₂ : cells₂ ≡ replicate (length cells) 0 = zc ∙ ap (λ (k : ℕ). replicate k 0) c in
    let w₂ : work₂ ≡ replicate (length work) 0 = zw ∙ ap (λ (k : ℕ). replicate k 0) w in
    λ i. record { answer = (t i).answer; roots = (t i).roots; cells = c₂ i; work = w₂ i }
