-- Unification: pairs are taken from the stack until none is left.
use Rattle.std.specs.Prelude.{Option, Some, None, Result, Ok, Err}
use Rattle.std.specs.Prelude.{◌≡◌, List, [], ℕ, zero, suc, ◌+◌, ◌*◌, ◌-◌, ◌≤◌, ◌<◌, length, get_or, set}
use Rattle.std.proofs.Math.Path.{refl}
use Rattle.std.proofs.Common.{sym, ap, ap₂, subst, ◌∙◌, arith, length-set, get_or-set_same, get_or-set_other}
use Rattle.std.proofs.Math.Option.{none, some}
use Rattle.definition.specs.Test.{never}
use Rattle.definition.specs.Graph.{Graph, Pair, on, clashed, vertex, meet, root, cells, take_pairs, unify}
use Rattle.definition.specs.Store.{nothing}
use Rattle.theory.specs.Unification.Solve.{open_cells}
use Rattle.theory.specs.Unification.Forest.{root_inside, root_self}
use Rattle.theory.specs.Unification.Like.{own_root}
use Rattle.theory.specs.Unification.Unify.{take_clashed, take_on, open_most}
use Rattle.theory.specs.Unification.Join.{join-joined}
use Rattle.theory.specs.Unification.Inner.{same_inner}
use Rattle.theory.specs.Unification.Turn.{Within, meet_keeps}
use Rattle.graph.specs.declared.graph.Graph.{Graph as Counts}
use Rattle.graph_unify.specs.declared.pairs.Pairs.{Pairs}
use Rattle.graph.specs.Cells.{start_in, link_word, link_in, graph_in, length-graph_in, rows_end, Shows, SameRows, rows_then, rows-set, shows_rows, Unchanged, unchanged_same, unchanged_then, unchanged_later, unchanged_set}
use Rattle.graph.specs.Links.{Holds, Found, link_of, found_here}
use Rattle.graph.specs.Pushes.{cells_shown}
use Rattle.graph.specs.Nodes.{arity_of}
use Rattle.base.specs.Pairs.{pairs_in, length-pairs_in}
use Rattle.graph.specs.Stack.{pairs_end, left_word, right_word, pairs_same}
use Rattle.theory.specs.Unification.Inner.{Inner}
use Rattle.graph.specs.Inner.{HoldsInner, many-nodes}
use Rattle.graph_unify.specs.Pairs.{Topmost, PairsRoom}
use Rattle.graph_unify.specs.Meets.{Rooted, Meets}

-- ---- the state of unifying x and y in g₀: what is left of it
pub record Taking (words table : List ℕ) (s : Counts) (top taken : ℕ) (g₀ : Graph) (x y : ℕ) : Type 0 where
  pub graph : Graph
  pub shows : Shows words table s graph
  pub inner : Inner graph
  pub within : Within s.nodes (pairs_in (rows_end words) table top)
  pub fuel : ℕ
  pub left : take_pairs fuel graph (pairs_in (rows_end words) table top) taken ≡ unify g₀ x y
  pub enough : top + open_cells graph ≤ fuel
  pub most : fuel + taken ≤ suc s.used

-- the first pair stands there
pub taking_first : (words table : List ℕ) (s : Counts) (g : Graph) (x y : ℕ) → Shows words table s g → Inner g → x < s.nodes → y < s.nodes → left_word words table 0 ≡ x → right_word words table 0 ≡ y → Taking words table s 1 0 g x y
unfolding pairs_in unify
taking_first words table s g x y S I lx ly a b = record {
  graph = g;
  shows = S;
  inner = I;
  within = (rw a lx, rw b ly, tt);
  fuel = suc (cells g);
  left = rw (a, b);
  enough = omega (arith, open_most g);
  most = omega (arith, cells_shown words table s g S);
}

-- a root's link word is 0
pub root-word : (words table : List ℕ) (s : Counts) (g : Graph) → Shows words table s g → (x : ℕ) → x < s.nodes → root g x ≡ x → link_word table x ≡ 0
root-word words table s g S x l e =
    let n = many-nodes words table s g S in
    let o : (vertex (graph_in words table s.nodes) x).link ≡ none = own_root (graph_in words table s.nodes) S.like.own x (omega (arith, length-graph_in words table s.nodes)) (S.like.roots x (omega arith) ∙ e) in
    no_link (link_word table x) (sym (link_of words table s.nodes x l) ∙ o)
  where
    no_link : (w : ℕ) → link_in w ≡ none → w ≡ 0
    no_link zero e = refl
    no_link (suc w) e = never (cc)

-- a root's root is itself
pub root-root : (words table : List ℕ) (s : Counts) (g : Graph) → Shows words table s g → (x : ℕ) → x < s.nodes → root g (root g x) ≡ root g x
root-root words table s g S x l = root_self g (root g x) (S.like.forest.rooted x (omega (arith, many-nodes words table s g S)))

-- the arguments of a root have room behind the pairs
pub pairs_room : (words table : List ℕ) (s : Counts) (top taken : ℕ) (g₀ : Graph) (x y : ℕ) → Taking words table s (suc top) taken g₀ x y → (table' : List ℕ) → ((g : Graph) → Shows words table s g → Shows words table' s g) → (z : ℕ) → z < s.nodes → link_word table' z ≡ 0
    → pairs_end words ≤ length table' → PairsRoom words table' top z
pairs_room words table s top taken g₀ x y T table' still z l e room =
    let S = still T.graph T.shows in
    let n = many-nodes words table' s T.graph S in
    let bare : (vertex T.graph z).link ≡ none = own_root T.graph S.like.forest z (omega arith) (found_here words table' s T.graph S z l e) in
    let j = join-joined T.graph z z (omega arith) bare in
    let a = arity_of words table' s T.graph S z l in
    let few : 2 * top + 2 * (start_in table' (z + 1) - (start_in table' z + 1)) ≤ 2 * length words + 2 = omega (arith, j.closed, a, T.enough, T.most, S.laid.fits) in
    (omega (arith, few, room), few)

-- one pair more was taken
pub taking_on : (words table : List ℕ) (s : Counts) (top taken : ℕ) (g₀ : Graph) (x y : ℕ) (T : Taking words table s (suc top) taken g₀ x y) (table'' : List ℕ) (more : ℕ) (h : Graph)
    → meet T.graph (root T.graph (left_word words table top)) (root T.graph (right_word words table top)) (pairs_in (rows_end words) table top) ≡ on h (pairs_in (rows_end words) table'' more) → Shows words table'' s h → Taking words table'' s more (taken + 1) g₀ x y
unfolding pairs_in
taking_on words table s top taken g₀ x y T table'' more h m S = go T.fuel refl
  where
    go : (k : ℕ) → T.fuel ≡ k → Taking words table'' s more (taken + 1) g₀ x y
    go zero e = absurd (omega (arith, T.enough))
    go (suc k) e =
        let g = T.graph in
        let l : ℕ = left_word words table top in
        let r : ℕ = right_word words table top in
        let ps : List Pair = pairs_in (rows_end words) table top in
        let qs : List Pair = pairs_in (rows_end words) table'' more in
        let n = many-nodes words table s g T.shows in
        let lx = root_inside g T.shows.like.forest l (omega (arith, T.within.0)) in
        let ly = root_inside g T.shows.like.forest r (omega (arith, T.within.1)) in
        let rx = T.shows.like.forest.rooted l (omega (arith, T.within.0)) in
        let ry = T.shows.like.forest.rooted r (omega (arith, T.within.1)) in
        let K = meet_keeps g (root g l) (root g r) ps lx ly rx ry h qs m in
        let q : taken + 1 ≡ suc taken = omega arith in
        record {
          graph = h;
          shows = S;
          inner = same_inner g h K.same T.inner;
          within = subst (λ (i : ℕ). Within i qs) n (K.within (subst (λ (i : ℕ). Within i ps) (sym n) T.within.2) T.inner);
          fuel = k;
          left = ap (take_pairs k h qs) q ∙ sym (take_on k g _ ps taken h qs m) ∙ ap (λ (i : ℕ). take_pairs i g (pairs_in (rows_end words) table (suc top)) taken) (sym e) ∙ T.left;
          enough = omega (arith, K.less, T.enough, e, length-pairs_in (rows_end words) table top, length-pairs_in (rows_end words) table'' more);
          most = omega (arith, T.most, e);
        }

-- a pair that clashes ends it
pub taking_clash : (words table : List ℕ) (s : Counts) (top taken : ℕ) (g₀ : Graph) (x y : ℕ) (T : Taking words table s (suc top) taken g₀ x y)
    → meet T.graph (root T.graph (left_word words table top)) (root T.graph (right_word words table top)) (pairs_in (rows_end words) table top) ≡ clashed → unify g₀ x y ≡ record { graph = none; taken = taken + 1 }
unfolding pairs_in
taking_clash words table s top taken g₀ x y T m = go T.fuel refl
  where
    go : (k : ℕ) → T.fuel ≡ k → unify g₀ x y ≡ record { graph = none; taken = taken + 1 }
    go zero e = absurd (omega (arith, T.enough))
    go (suc k) e =
        let q : suc taken ≡ taken + 1 = omega arith in
        sym T.left ∙ ap (λ (i : ℕ). take_pairs i T.graph (pairs_in (rows_end words) table (suc top)) taken) e ∙ take_clashed k T.graph _ (pairs_in (rows_end words) table top) taken m ∙ ap (λ (i : ℕ). record { graph = none; taken = i }) q

-- no pair is left
pub taking_done : (words table : List ℕ) (s : Counts) (taken : ℕ) (g₀ : Graph) (x y : ℕ) (T : Taking words table s 0 taken g₀ x y) → unify g₀ x y ≡ record { graph = some T.graph; taken = taken }
unfolding pairs_in
taking_done words table s taken g₀ x y T = sym T.left ∙ none_left T.fuel T.graph taken
  where
    none_left : (k : ℕ) (g : Graph) (n : ℕ) → take_pairs k g [] n ≡ record { graph = some g; taken = n }
    none_left zero g n = unfold take_pairs in refl
    none_left (suc k) g n = unfold take_pairs in refl

-- what unifying answers, of whatever inner graph is held; beyond the pairs nothing changes
abbrev pub Unifies : List ℕ → List ℕ → List ℕ → Counts → ℕ → ℕ → Result ℕ ℕ → Type 0
Unifies words table table' s x y (Ok n) = ((g : Graph) → Shows words table s g → Inner g → (h : Graph) × (unify g x y ≡ record { graph = some h; taken = n }) × Shows words table' s h × Inner h) × Unchanged (pairs_end words) table table'
Unifies words table table' s x y (Err n) = ((g : Graph) → Shows words table s g → Inner g → unify g x y ≡ record { graph = none; taken = n }) × Unchanged (pairs_end words) table table'

-- ---- one turn: the roots of the pair behind the others meet
abbrev pub Ready : List ℕ → List ℕ → Counts → ℕ → Type 0
Ready words table s top = (g₀ : Graph) × (x y taken : ℕ) × Taking words table s (suc top) taken g₀ x y

abbrev pub Takes : List ℕ → List ℕ → List ℕ → Counts → ℕ → Option Pairs → Type 0
Takes words table table' s top (Some more) =
    ((g : Graph) → Shows words table s g → (h : Graph) × (meet g (root g (left_word words table top)) (root g (right_word words table top)) (pairs_in (rows_end words) table top) ≡ on h (pairs_in (rows_end words) table' more.top)) × Shows words table' s h)
    × Unchanged (pairs_end words) table table'
    × Topmost words table' more
Takes words table table' s top None = ((g : Graph) → Shows words table s g → meet g (root g (left_word words table top)) (root g (right_word words table top)) (pairs_in (rows_end words) table top) ≡ clashed) × Unchanged (pairs_end words) table table'

-- the pair stands there, and its nodes are nodes
module _ (words table : List ℕ) (s : Counts) (top : ℕ) (R : Ready words table s top) where
  pub pair_left : left_word words table top < s.nodes
  unfolding pairs_in
  pair_left = R.4.within.0

  pub pair-right : right_word words table top < s.nodes
  unfolding pairs_in
  pair-right = R.4.within.1

  pub pair-room : 2 * top + 2 ≤ 2 * length words + 2
  pair-room = omega (arith, R.4.enough, R.4.most, R.4.shows.laid.fits)

  pub cells_small : length words < nothing
  cells_small = R.4.shows.laid.small

-- a node found is found by whatever else it is
pub found_as : (words table table' : List ℕ) (s : Counts) (x y r : ℕ) → x ≡ y → Found words table table' s x r → Found words table table' s y r
found_as words table table' s x y r e F = subst (λ (k : ℕ). Found words table table' s k r) e F

module _ (words table mid table' : List ℕ) (s : Counts) (top l r : ℕ) (F : Found words table mid s (left_word words table top) l) (E : Found words mid table' s (right_word words table top) r) where
  -- what was held is held still, and the pairs stand there still
  still : (g : Graph) → Shows words table s g → Shows words table' s g
  still g S = (E.2 g (F.2 g S).1).1

  untouched : Unchanged (rows_end words) table table'
  untouched = unchanged_then (rows_end words) table mid table' F.3 E.3

  pub both_held : Ready words table s top → Holds words table' s
  both_held R = (R.4.graph, still R.4.graph R.4.shows)

  -- both are roots
  pub left-root : Ready words table s top → Rooted table' s l
  left-root R =
      let g = R.4.graph in
      let f = F.2 g R.4.shows in
      let e : root g l ≡ l = ap (root g) f.0 ∙ root-root words table s g R.4.shows (left_word words table top) (pair_left words table s top R) ∙ sym f.0 in
      (F.0, root-word words table' s g (still g R.4.shows) l F.0 e)

  pub right-root : Rooted table' s r
  right-root = (E.0, E.1)

  pub turn-room : Ready words table s top → pairs_end words ≤ length table → PairsRoom words table' top l
  turn-room R room = pairs_room words table s top R.3 R.0 R.1 R.2 R.4 table' still l F.0 (left-root R).1 (omega (arith, room, untouched.long))

  -- what their meeting says of the pair
  roots_meet : (g : Graph) → Shows words table s g → meet g (root g (left_word words table top)) (root g (right_word words table top)) (pairs_in (rows_end words) table top) ≡ meet g l r (pairs_in (rows_end words) table' top)
  roots_meet g S =
      let f = F.2 g S in
      ap₂ (λ (a b : ℕ). meet g a b (pairs_in (rows_end words) table top)) (sym f.0) (sym (E.2 g f.1).0)
      ∙ ap (meet g l r) (sym (pairs_same (rows_end words) table table' untouched top))

  beyond : (table'' : List ℕ) → Unchanged (pairs_end words) table' table'' → Unchanged (pairs_end words) table table''
  beyond table'' U = unchanged_then (pairs_end words) table table' table'' (unchanged_later (rows_end words) (pairs_end words) table table' (omega arith) untouched) U

  turn_on : (table'' : List ℕ) (more : Pairs) → Meets words table' table'' s top l r (Some more) → Takes words table table'' s top (Some more)
  turn_on table'' more M = (λ g S. let m = M.0 g (still g S) in (m.0, roots_meet g S ∙ m.1, m.2), beyond table'' M.1, M.2)

  turn-unlike : (table'' : List ℕ) → Meets words table' table'' s top l r None → Takes words table table'' s top None
  turn-unlike table'' M = (λ g S. roots_meet g S ∙ M.0 g (still g S), beyond table'' M.1)

  pub turn_says : (table'' : List ℕ) (m : Option Pairs) → Meets words table' table'' s top l r m → Takes words table table'' s top m
  turn_says table'' (Some more) M = turn_on table'' more M
  turn_says table'' None M = turn-unlike table'' M

-- ---- the turns together
pub record Going (words before table : List ℕ) (s : Counts) (top taken x y : ℕ) : Type 0 where
  pub state : (g : Graph) → Shows words before s g → Inner g → Taking words table s top taken g x y
  pub beyond : Unchanged (pairs_end words) before table

-- the last of some pairs
pub going_at : (words before table : List ℕ) (s : Counts) (top taken x y : ℕ) → 0 < top → Going words before table s top taken x y → Going words before table s (suc (top - 1)) taken x y
going_at words before table s top taken x y h G = let e : top ≡ suc (top - 1) = omega arith in subst (λ (k : ℕ). Going words before table s k taken x y) e G

-- it is the topmost
pub topmost_at : (words table : List ℕ) (p : Pairs) → 0 < p.top → Topmost words table p → (p.left.0 ≡ left_word words table (p.top - 1)) × (p.right.0 ≡ right_word words table (p.top - 1))
topmost_at words table p h T = T (p.top - 1) (omega arith)

module _ (words before table : List ℕ) (s : Counts) (top taken x y : ℕ) (G : Going words before table s (suc top) taken x y) (H : HoldsInner words before s) where
  pub going_ready : Ready words table s top
  going_ready = (H.0, x, y, taken, G.state H.0 H.1 H.2)

  -- fewer pairs were taken than there are cells and one
  pub going_few : taken ≤ s.used
  going_few = let T = G.state H.0 H.1 H.2 in omega (arith, T.enough, T.most)

  pub going_on : (table' : List ℕ) (more : Pairs) → Takes words table table' s top (Some more) → Going words before table' s more.top (taken + 1) x y
  going_on table' more M = record {
    state = λ g S I.
        let T = G.state g S I in
        let m = M.0 T.graph T.shows in
        taking_on words table s top taken g x y T table' more.top m.0 m.1 m.2;
    beyond = unchanged_then (pairs_end words) before table table' G.beyond M.1;
  }

  pub going_clash : (table' : List ℕ) → Takes words table table' s top None → Unifies words before table' s x y (Err (taken + 1))
  going_clash table' M = (λ g S I. let T = G.state g S I in taking_clash words table s top taken g x y T (M.0 T.graph T.shows), unchanged_then (pairs_end words) before table table' G.beyond M.1)

pub going_done : (words before table : List ℕ) (s : Counts) (taken x y : ℕ) → Going words before table s 0 taken x y → Unifies words before table s x y (Ok taken)
going_done words before table s taken x y G = (λ g S I. let T = G.state g S I in (T.graph, taking_done words table s taken g x y T, T.shows, T.inner), G.beyond)

-- ---- the first pair is written
pub first_long : (table : List ℕ) (i x j y : ℕ) → length (set (set table i x) j y) ≡ length table
first_long table i x j y = length-set (set table i x) j y ∙ length-set table i x

module _ (words table : List ℕ) (s : Counts) (x y : ℕ) (room : pairs_end words ≤ length table) where
  abbrev at : ℕ
  at = rows_end words

  abbrev pub first_pair : List ℕ
  first_pair = set (set table at x) (at + 1) y

  first_rows : SameRows words table first_pair
  first_rows = rows_then words table (set table at x) first_pair (rows-set words table at x (omega arith)) (rows-set words (set table at x) (at + 1) y (omega arith))

  -- what was held is held still
  pub first-held : HoldsInner words table s → HoldsInner words first_pair s
  first-held H = (H.0, shows_rows words table first_pair s H.0 first_rows H.1, H.2)

  first-left : left_word words first_pair 0 ≡ x
  first-left =
      let e : at + 2 * 0 ≡ at = omega arith in
      ap (λ (i : ℕ). get_or first_pair i 0) e ∙ get_or-set_other (set table at x) (at + 1) at y 0 (λ e. omega arith) ∙ get_or-set_same table at x 0 (omega (arith, room))

  first-right : right_word words first_pair 0 ≡ y
  first-right =
      let e : at + 2 * 0 + 1 ≡ at + 1 = omega arith in
      ap (λ (i : ℕ). get_or first_pair i 0) e ∙ get_or-set_same (set table at x) (at + 1) y 0 (omega (arith, room, length-set table at x))

  pub going_first : x < s.nodes → y < s.nodes → Going words first_pair first_pair s 1 0 x y
  going_first lx ly = record { state = λ g S I. taking_first words first_pair s g x y S I lx ly first-left first-right; beyond = unchanged_same (pairs_end words) first_pair }

  -- it is the topmost
  pub first_topmost : (p : Pairs) → p.top ≡ 1 → p.left.0 ≡ x → p.right.0 ≡ y → Topmost words first_pair p
  first_topmost p k a b t e =
      let z : t ≡ 0 = omega (arith, k, e) in
      (a ∙ sym first-left ∙ ap (left_word words first_pair) (sym z), b ∙ sym first-right ∙ ap (right_word words first_pair) (sym z))

  first_beyond : (table' : List ℕ) → Unchanged (pairs_end words) first_pair table' → Unchanged (pairs_end words) table table'
  first_beyond table' U = unchanged_then (pairs_end words) table first_pair table'
      (unchanged_then (pairs_end words) table (set table at x) first_pair (unchanged_set (pairs_end words) table at x (omega arith)) (unchanged_set (pairs_end words) (set table at x) (at + 1) y (omega arith))) U

  -- what is said from there on is said of the whole
  pub joined-first : (table' : List ℕ) (n : ℕ) → Unifies words first_pair table' s x y (Ok n) → Unifies words table table' s x y (Ok n)
  joined-first table' n U = (λ g S I. U.0 g (shows_rows words table first_pair s g first_rows S) I, first_beyond table' U.1)

  pub clash_first : (table' : List ℕ) (n : ℕ) → Unifies words first_pair table' s x y (Err n) → Unifies words table table' s x y (Err n)
  clash_first table' n U = (λ g S I. U.0 g (shows_rows words table first_pair s g first_rows S) I, first_beyond table' U.1)
