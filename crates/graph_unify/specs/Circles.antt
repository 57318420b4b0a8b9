-- The test for circles in words: a walk over the graph that is held.
use Rattle.std.specs.Prelude.{Option, Some, None}
use Rattle.std.specs.Prelude.{◌≡◌, refl, Bool, true, false, List, ℕ, suc, ◌+◌, ◌*◌, ◌-◌, ◌≤◌, ◌<◌, length, get_or, set}
use Rattle.std.proofs.Common.{sym, ap, subst, ◌∙◌, arith, add-one, length-set, get_or-set_same, get_or-set_other}
use Rattle.std.proofs.Math.Option.{none}
use Rattle.std.proofs.Math.Decide.{ℕ_discrete}
use Rattle.definition.specs.Test.{Is, is, see}
use Rattle.definition.proofs.Laws.Grow.{below_at}
use Rattle.definition.specs.Graph.{Graph, vertex, root, is_var, circular}
use Rattle.definition.specs.Store.{nothing}
use Rattle.graph.specs.declared.graph.Graph.{Graph as Counts}
use Rattle.graph_unify.specs.declared.circle.Seen.{Seen}
use Rattle.graph_unify.specs.declared.circle.Seen.TheVariants.{Ends, Deeper, Circle as Met}
use Rattle.graph.specs.Cells.{start_in, Laid, Shows, nodes_few}
use Rattle.graph.specs.Links.{Holds, Found}
use Rattle.graph.specs.Nodes.{arity_of, argument_there, end_there, ArityOf, ArgumentOf}
use Rattle.theory.specs.Unification.Inner.{Inner}
use Rattle.graph.specs.Inner.{HoldsInner, many-nodes}
use Rattle.graph_unify.specs.Paths.{colour_of, next, Stepped, node_at, looked_at, Standing, Leads, Walk, Last, StillSeen, to_do, var_ends, mark_here, done_still, mark-seen, mark_less, walk-done, grey_seen, grey_less, walk-pushed, last-pushed, walk_looked, circle_there, grey_here, walk_none, top-ends, none-circular, last_done}

-- a variable ends there and then, an application stands on the path
abbrev EntersBy : Bool → List ℕ → List ℕ → List ℕ → List ℕ → ℕ → ℕ → ℕ → Type 0
EntersBy true colour colour' path path' top y r = (r ≡ top) × (colour' ≡ set colour y 2) × (path' ≡ path)
EntersBy false colour colour' path path' top y r = (r ≡ suc top) × (colour' ≡ set colour y 1) × (path' ≡ set (set path (2 * top) y) (2 * top + 1) 0)

abbrev pub Enters : List ℕ → List ℕ → List ℕ → List ℕ → List ℕ → List ℕ → Counts → ℕ → ℕ → ℕ → Type 0
Enters words table colour colour' path path' s top y r = (g : Graph) → Shows words table s g → EntersBy (is_var (vertex g y)) colour colour' path path' top y r

pub enters_variable : (words table colour path : List ℕ) (s : Counts) (top y : ℕ) → ((g : Graph) → Shows words table s g → is_var (vertex g y) ≡ true) → Enters words table colour (set colour y 2) path path s top y top
enters_variable words table colour path s top y v g S = rw (v g S) (refl, refl, refl)

pub enters_application : (words table colour path : List ℕ) (s : Counts) (top y : ℕ) → ((g : Graph) → Shows words table s g → is_var (vertex g y) ≡ false) → Enters words table colour (set colour y 1) path (set (set path (2 * top) y) (2 * top + 1) 0) s top y (top + 1)
enters_application words table colour path s top y v g S = rw (v g S) (add-one top, refl, refl)

-- the graph is held, and a walk over it has come so far
pub record Under (words table colour path : List ℕ) (s : Counts) (g : Graph) (top : ℕ) : Type 0 where
  pub shows : Shows words table s g
  pub walk : Walk g colour path top
  pub room : 2 * length words + 2 ≤ length path

-- node x stands on top and i of its arguments end
pub record At (words table colour path : List ℕ) (s : Counts) (g : Graph) (top x i : ℕ) : Type 0 where
  pub under : Under words table colour path s g (suc top)
  pub node : node_at path top ≡ x
  pub steps : Stepped g colour x i

-- ---- an argument is looked at
abbrev pub Looking : List ℕ → List ℕ → List ℕ → List ℕ → Counts → ℕ → ℕ → ℕ → Type 0
Looking words table colour path s top x i = (g : Graph) × Inner g × At words table colour path s g top x i × (i < length (vertex g x).args)

abbrev pub Looks : List ℕ → List ℕ → List ℕ → List ℕ → List ℕ → List ℕ → List ℕ → Counts → ℕ → ℕ → ℕ → Seen → Type 0
Looks words table table' colour colour' path path' s top x i Ends =
    (g : Graph) → Inner g → At words table colour path s g top x i → i < length (vertex g x).args → At words table' colour' path' s g top x (suc i) × (to_do colour' (length g) ≤ to_do colour (length g)) × StillSeen colour colour'
Looks words table table' colour colour' path path' s top x i Deeper =
    (g : Graph) → Inner g → At words table colour path s g top x i → i < length (vertex g x).args
    → Under words table' colour' path' s g (suc (suc top)) × Last g colour' path' (suc (suc top)) × (to_do colour' (length g) < to_do colour (length g)) × StillSeen colour colour'
Looks words table table' colour colour' path path' s top x i Met = (g : Graph) → Inner g → At words table colour path s g top x i → i < length (vertex g x).args → Shows words table' s g × (circular g ≡ true)

-- ---- the node on top goes on
abbrev pub Walking : List ℕ → List ℕ → List ℕ → List ℕ → Counts → ℕ → Type 0
Walking words table colour path s top = (g : Graph) × Inner g × Under words table colour path s g top × Last g colour path top

abbrev pub Advances : List ℕ → List ℕ → List ℕ → List ℕ → List ℕ → List ℕ → List ℕ → Counts → ℕ → Option ℕ → Type 0
Advances words table table' colour colour' path path' s top (Some r) =
    (g : Graph) → Inner g → Under words table colour path s g (suc top) → Last g colour path (suc top) → Under words table' colour' path' s g r × Last g colour' path' r × (to_do colour' (length g) < to_do colour (length g)) × StillSeen colour colour'
Advances words table table' colour colour' path path' s top None = (g : Graph) → Inner g → Under words table colour path s g (suc top) → Last g colour path (suc top) → Shows words table' s g × (circular g ≡ true)

-- ---- all nodes on the path go on to their ends
abbrev pub Finishes : List ℕ → List ℕ → List ℕ → List ℕ → List ℕ → List ℕ → List ℕ → Counts → ℕ → Bool → Type 0
Finishes words table table' colour colour' path path' s top false = (g : Graph) → Inner g → Under words table colour path s g top → Last g colour path top → Under words table' colour' path' s g 0 × StillSeen colour colour'
Finishes words table table' colour colour' path path' s top true = (g : Graph) → Inner g → Under words table colour path s g top → Last g colour path top → Shows words table' s g × (circular g ≡ true)

-- ---- from one node on
abbrev pub Idle : List ℕ → List ℕ → List ℕ → List ℕ → Counts → Type 0
Idle words table colour path s = (g : Graph) × Inner g × Under words table colour path s g 0

abbrev pub Walks : List ℕ → List ℕ → List ℕ → List ℕ → List ℕ → List ℕ → List ℕ → Counts → ℕ → Bool → Type 0
Walks words table table' colour colour' path path' s x false = (g : Graph) → Inner g → Under words table colour path s g 0 → Under words table' colour' path' s g 0 × StillSeen colour colour' × (colour_of colour' (root g x) ≡ 0 → ⊥)
Walks words table table' colour colour' path path' s x true = (g : Graph) → Inner g → Under words table colour path s g 0 → Shows words table' s g × (circular g ≡ true)

-- ---- from all of them
abbrev pub Tells : List ℕ → List ℕ → List ℕ → Counts → Bool → Type 0
Tells words table table' s r = (g : Graph) → Shows words table s g → Inner g → (r ≡ circular g) × Shows words table' s g

-- ---- what the words say of the graph
module _ (words table : List ℕ) (s : Counts) (g : Graph) (S : Shows words table s g) where
  pub as_many : length g ≡ s.nodes
  as_many = many-nodes words table s g S

  pub few_nodes : s.nodes ≤ length words
  few_nodes = omega (arith, nodes_few words table s S.laid, S.laid.fits)

-- an argument of a node is a node
pub inner_at : (g : Graph) → Inner g → (x a : ℕ) → x < length g → a < length (vertex g x).args → get_or (vertex g x).args a 0 < length g
inner_at g I x a l h = below_at (length g) (vertex g x).args a (I x l) h

-- ---- an argument was looked for and its root found
module _ (words table table' colour path : List ℕ) (s : Counts) (top x i a y : ℕ) (A : ArgumentOf words table s x i a) (F : Found words table table' s a y) (g : Graph) (I : Inner g) (P : At words table colour path s g top x i) (h : i < length (vertex g x).args) where
  W : Walk g colour path (suc top)
  W = P.under.walk

  stands : Standing g colour x
  stands = subst (Standing g colour) P.node (W.standing top (omega arith))

  leads_to : next g x i ≡ y
  leads_to = sym ((F.2 g P.under.shows).0 ∙ ap (root g) (A g P.under.shows))

  pub found_shows : Shows words table' s g
  found_shows = (F.2 g P.under.shows).1

  found_inside : y < length g
  found_inside = omega (arith, as_many words table s g P.under.shows, F.0)

  found_bare : (vertex g y).link ≡ none
  found_bare = subst (λ (z : ℕ). (vertex g z).link ≡ none) leads_to (P.under.shows.like.forest.rooted (get_or (vertex g x).args i 0) (inner_at g I x i stands.inside h))

  found_under : Under words table' colour path s g (suc top)
  found_under = record { shows = found_shows; walk = W; room = P.under.room }

  -- its term ends
  pub look_ends : colour_of colour y ≡ 2 → At words table' colour path s g top x (suc i)
  look_ends e = record {
    under = found_under;
    node = P.node;
    steps = λ b l. elim (ℕ_discrete b i) [
      | yes q ↦ ap (λ (k : ℕ). colour_of colour (next g x k)) q ∙ ap (colour_of colour) leads_to ∙ e
      | no d ↦ P.steps b (omega (arith, d))
    ];
  }

  -- it stands on the path
  pub look_circle : (colour_of colour y ≡ 0 → ⊥) → (colour_of colour y ≡ 2 → ⊥) → circular g ≡ true
  look_circle b c =
      let n = P.node in
      let q : next g (node_at path top) i ≡ y = ap (λ (z : ℕ). next g z i) n ∙ leads_to in
      circle_there g P.under.shows.like.forest colour path top W (inner_at g I) i (subst (λ (z : ℕ). i < length (vertex g z).args) (sym n) h) (λ e. b (sym (ap (colour_of colour) q) ∙ e)) (λ e. c (sym (ap (colour_of colour) q) ∙ e))

  -- it was not seen yet
  module _ (new : colour_of colour y ≡ 0) where
    abbrev path₁ : List ℕ
    path₁ = set path (2 * top + 1) (i + 1)

    W₁ : Walk g colour path₁ (suc top)
    W₁ = walk_looked g colour path top (i + 1) W

    node₁ : node_at path₁ top ≡ x
    node₁ = get_or-set_other path (2 * top + 1) (2 * top) (i + 1) 0 (λ e. omega arith) ∙ P.node

    low : suc top ≤ length words
    low = omega (arith, W.few, as_many words table s g P.under.shows, few_nodes words table s g P.under.shows)

    looked₁ : looked_at path₁ top ≡ suc i
    looked₁ = get_or-set_same path (2 * top + 1) (i + 1) 0 (omega (arith, P.under.room, low)) ∙ add-one i

    off : (j : ℕ) → j < suc top → node_at path₁ j ≡ y → ⊥
    off j l e = let c = (W₁.standing j l).grey in let z : colour_of colour (node_at path₁ j) ≡ 0 = ap (colour_of colour) e ∙ new in omega (arith, c, z)

    unfinished : colour_of colour y ≡ 2 → ⊥
    unfinished e = omega (arith, new, e)

    pub look_variable : is_var (vertex g y) ≡ true → At words table' (set colour y 2) path₁ s g top x (suc i) × (to_do (set colour y 2) (length g) ≤ to_do colour (length g)) × StillSeen colour (set colour y 2)
    look_variable v = (
      record {
        under = record {
          shows = found_shows;
          walk = walk-done g colour y found_inside W.long unfinished path₁ (suc top) (suc top) W₁ (var_ends g y found_bare v _) (omega arith) off (λ j l d. l);
          room = omega (arith, P.under.room, length-set path (2 * top + 1) (i + 1));
        };
        node = node₁;
        steps = λ b l. elim (ℕ_discrete b i) [
          | yes q ↦ ap (λ (k : ℕ). colour_of (set colour y 2) (next g x k)) q ∙ ap (colour_of (set colour y 2)) leads_to ∙ mark_here g colour y found_inside W.long
          | no d ↦ done_still g colour y found_inside W.long _ (P.steps b (omega (arith, d)))
        ];
      },
      (let m = mark_less g colour y found_inside W.long unfinished in omega arith),
      mark-seen g colour y found_inside W.long,
    )

    leads_there : (t : ℕ) → suc t ≡ suc top → Leads g colour path₁ t y
    leads_there t e =
        let q : top ≡ t = omega arith in
        subst (λ (k : ℕ). Leads g colour path₁ k y) q (record {
          argument = i;
          looked = looked₁;
          fits = subst (λ (z : ℕ). i < length (vertex g z).args) (sym node₁) h;
          before = λ b l. subst (λ (z : ℕ). colour_of colour (next g z b) ≡ 2) (sym node₁) (P.steps b l);
          there = ap (λ (z : ℕ). next g z i) node₁ ∙ leads_to;
        })

    abbrev path₂ : List ℕ
    path₂ = set (set path₁ (2 * suc top) y) (2 * suc top + 1) 0

    room₁ : 2 * suc top + 2 ≤ length path₁
    room₁ = omega (arith, P.under.room, low, length-set path (2 * top + 1) (i + 1))

    pub look_deeper : is_var (vertex g y) ≡ false → Under words table' (set colour y 1) path₂ s g (suc (suc top)) × Last g (set colour y 1) path₂ (suc (suc top)) × (to_do (set colour y 1) (length g) < to_do colour (length g)) × StillSeen colour (set colour y 1)
    look_deeper v = (
      record {
        shows = found_shows;
        walk = walk-pushed g colour y found_inside W.long new path₁ (suc top) room₁ W₁ found_bare v leads_there;
        room = omega (arith, P.under.room, length-set path (2 * top + 1) (i + 1), length-set path₁ (2 * suc top) y, length-set (set path₁ (2 * suc top) y) (2 * suc top + 1) 0);
      },
      last-pushed g colour y found_inside W.long new path₁ (suc top) room₁,
      grey_less g colour y found_inside W.long new,
      grey_seen g colour y found_inside W.long new,
    )

-- ---- what `look` asks of its calls
module _ (words table colour path : List ℕ) (s : Counts) (top x i : ℕ) (H : Looking words table colour path s top x i) where
  top_stands : Standing H.0 colour x
  top_stands = subst (Standing H.0 colour) H.2.node (H.2.under.walk.standing top (omega arith))

  S₀ : Shows words table s H.0
  S₀ = H.2.under.shows

  pub looking_node : x < s.nodes
  looking_node = omega (arith, as_many words table s H.0 S₀, top_stands.inside)

  pub looking_laid : Laid words table s
  looking_laid = S₀.laid

  pub looking_argument : start_in table x + 1 + i < start_in table (x + 1)
  looking_argument = argument_there words table s H.0 S₀ x looking_node i H.3

  pub looking_found : (a : ℕ) → ArgumentOf words table s x i a → a < s.nodes
  looking_found a A = omega (arith, A H.0 S₀, as_many words table s H.0 S₀, inner_at H.0 H.1 x i top_stands.inside H.3)

  pub looking_held : Holds words table s
  looking_held = (H.0, S₀)

  pub looking_long : s.nodes ≤ length colour
  looking_long = omega (arith, as_many words table s H.0 S₀, H.2.under.walk.long)

  pub looking_room : 2 * (top + 1) + 2 ≤ length path
  looking_room = omega (arith, H.2.under.room, H.2.under.walk.few, as_many words table s H.0 S₀, few_nodes words table s H.0 S₀)

  pub looking_small : (i < nothing) × (s.nodes < 4294967296)
  looking_small =
      let a = looking_argument in
      let b = end_there words table s looking_laid x looking_node in
      (omega (arith, a, b, looking_laid.small), omega (arith, few_nodes words table s H.0 S₀, looking_laid.small))

-- ---- what `look` answers
module _ (words table table' colour path : List ℕ) (s : Counts) (top x i a y : ℕ) (A : ArgumentOf words table s x i a) (F : Found words table table' s a y) where
  pub looks_ends : colour_of colour y ≡ 2 → Looks words table table' colour colour path path s top x i Ends
  looks_ends e g I P h = (look_ends words table table' colour path s top x i a y A F g I P h e, omega arith, λ z d. d)

  pub looks_circle : (colour_of colour y ≡ 2 → ⊥) → (colour_of colour y ≡ 0 → ⊥) → Looks words table table' colour colour path path s top x i Met
  looks_circle c b g I P h = (found_shows words table table' colour path s top x i a y A F g I P h, look_circle words table table' colour path s top x i a y A F g I P h b c)

  module _ (new : colour_of colour y ≡ 0) (colour' path' : List ℕ) (r : ℕ) (E : Enters words table' colour colour' (set path (2 * top + 1) (i + 1)) path' s (top + 1) y r) where
    entered : Enters words table' colour colour' (set path (2 * top + 1) (i + 1)) path' s (suc top) y r
    entered = subst (λ (k : ℕ). Enters words table' colour colour' (set path (2 * top + 1) (i + 1)) path' s k y r) (add-one top) E

    pub looks_variable : r ≡ top + 1 → Looks words table table' colour colour' path path' s top x i Ends
    looks_variable q g I P h = go (see (is_var (vertex g y)))
      where
        go : Is (is_var (vertex g y)) → At words table' colour' path' s g top x (suc i) × (to_do colour' (length g) ≤ to_do colour (length g)) × StillSeen colour colour'
        go (is true v) = let e = rw v at (entered g (found_shows words table table' colour path s top x i a y A F g I P h)) in rw (e.1, e.2) (look_variable words table table' colour path s top x i a y A F g I P h new v)
        go (is false v) = let e = rw v at (entered g (found_shows words table table' colour path s top x i a y A F g I P h)) in absurd (omega (arith, e.0, q))

    pub looks_deeper : (r ≡ top + 1 → ⊥) → Looks words table table' colour colour' path path' s top x i Deeper
    looks_deeper d g I P h = go (see (is_var (vertex g y)))
      where
        go : Is (is_var (vertex g y)) → Under words table' colour' path' s g (suc (suc top)) × Last g colour' path' (suc (suc top)) × (to_do colour' (length g) < to_do colour (length g)) × StillSeen colour colour'
        go (is true v) = let e = rw v at (entered g (found_shows words table table' colour path s top x i a y A F g I P h)) in absurd (d (e.0 ∙ sym (add-one top)))
        go (is false v) = let e = rw v at (entered g (found_shows words table table' colour path s top x i a y A F g I P h)) in rw (e.1, e.2) (look_deeper words table table' colour path s top x i a y A F g I P h new v)

-- ---- the node on top goes on with its arguments; before: the words as it began
pub record Stepping (words before table colour₀ colour path₀ path : List ℕ) (s : Counts) (top x n i : ℕ) (g : Graph) : Type 0 where
  pub here : At words table colour path s g top x i
  pub arity : n ≡ length (vertex g x).args
  pub low : i ≤ n
  pub less : to_do colour (length g) ≤ to_do colour₀ (length g)
  pub seen : StillSeen colour₀ colour

abbrev pub Steppings : List ℕ → List ℕ → List ℕ → List ℕ → List ℕ → List ℕ → List ℕ → Counts → ℕ → ℕ → ℕ → ℕ → Type 0
Steppings words before table colour₀ colour path₀ path s top x n i = (g : Graph) → Inner g → Under words before colour₀ path₀ s g (suc top) → Last g colour₀ path₀ (suc top) → Stepping words before table colour₀ colour path₀ path s top x n i g

pub stepping_first : (words table colour path : List ℕ) (s : Counts) (top n : ℕ) → ArityOf words table s (node_at path top) n → Steppings words table table colour colour path path s top (node_at path top) n (looked_at path top)
stepping_first words table colour path s top n A g I U L =
    let e = A g U.shows in
    record { here = record { under = U; node = refl; steps = (L top refl).0 }; arity = e; low = omega (arith, e, (L top refl).1); less = omega arith; seen = λ z d. d }

module _ (words before table colour₀ colour path₀ path : List ℕ) (s : Counts) (top x n i : ℕ) (K : Steppings words before table colour₀ colour path₀ path s top x n i) where
  pub stepping_ready : Walking words before colour₀ path₀ s (suc top) → i < n → Looking words table colour path s top x i
  stepping_ready H l = let k = K H.0 H.1 H.2 H.3 in (H.0, H.1, k.here, omega (arith, k.arity))

  module _ (table' colour' path' : List ℕ) (l : i < n) where
    pub stepping_ends : Looks words table table' colour colour' path path' s top x i Ends → Steppings words before table' colour₀ colour' path₀ path' s top x n (i + 1)
    stepping_ends M g I U L =
        let k = K g I U L in
        let m = M g I k.here (omega (arith, k.arity)) in
        record { here = subst (At words table' colour' path' s g top x) (sym (add-one i)) m.0; arity = k.arity; low = omega arith; less = omega (arith, m.1, k.less); seen = λ z d. m.2 z (k.seen z d) }

    pub stepping_deeper : Looks words table table' colour colour' path path' s top x i Deeper → Advances words before table' colour₀ colour' path₀ path' s top (Some (top + 2))
    stepping_deeper M g I U L =
        let k = K g I U L in
        let m = M g I k.here (omega (arith, k.arity)) in
        let e : suc (suc top) ≡ top + 2 = omega arith in
        (subst (Under words table' colour' path' s g) e m.0, subst (Last g colour' path') e m.1, omega (arith, m.2, k.less), λ z d. m.3 z (k.seen z d))

    pub stepping_circle : Looks words table table' colour colour' path path' s top x i Met → Advances words before table' colour₀ colour' path₀ path' s top None
    stepping_circle M g I U L = let k = K g I U L in M g I k.here (omega (arith, k.arity))

  -- all of them end: so does it
  pub stepping_done : n ≤ i → Advances words before table colour₀ (set colour x 2) path₀ path s top (Some top)
  stepping_done l g I U L =
      let k = K g I U L in
      let P = k.here in
      let V' = P.under in
      let w = V'.walk in
      let st = w.standing top (omega arith) in
      let all_of : Stepped g colour (node_at path top) (length (vertex g (node_at path top)).args) = subst (λ (z : ℕ). Stepped g colour z (length (vertex g z).args)) (sym P.node) (λ b q. P.steps b (omega (arith, k.arity, k.low))) in
      let ended = top-ends g V'.shows.like.forest colour path top w (λ a q. inner_at g I (node_at path top) a st.inside q) all_of in
      let fresh : colour_of colour (node_at path top) ≡ 2 → ⊥ = λ e. omega (arith, e, st.grey) in
      let apart : (j : ℕ) → j < top → node_at path j ≡ node_at path top → ⊥ = λ j q e. w.apart j top q (omega arith) e in
      let rest : (j : ℕ) → j < suc top → (node_at path j ≡ node_at path top → ⊥) → j < top = λ j q d. elim (ℕ_discrete j top) [ yes e ↦ absurd (d (ap (node_at path) e)) | no e ↦ omega (arith, e) ] in
      subst (λ (z : ℕ). Under words table (set colour z 2) path s g top × Last g (set colour z 2) path top × (to_do (set colour z 2) (length g) < to_do colour₀ (length g)) × StillSeen colour₀ (set colour z 2)) P.node (
        record { shows = V'.shows; walk = walk-done g colour (node_at path top) st.inside w.long fresh path top (suc top) w ended (omega arith) apart rest; room = V'.room },
        last_done g colour path top w,
        (let m = mark_less g colour (node_at path top) st.inside w.long fresh in omega (arith, k.less)),
        λ z d. mark-seen g colour (node_at path top) st.inside w.long z (k.seen z d),
      )

-- ---- the path goes on; before: the words as it began
pub record Onward (words table colour₀ colour path : List ℕ) (s : Counts) (top : ℕ) (g : Graph) : Type 0 where
  pub under : Under words table colour path s g top
  pub last : Last g colour path top
  pub seen : StillSeen colour₀ colour

abbrev pub Onwards : List ℕ → List ℕ → List ℕ → List ℕ → List ℕ → List ℕ → List ℕ → Counts → ℕ → ℕ → Type 0
Onwards words before table colour₀ colour path₀ path s start top = (g : Graph) → Inner g → Under words before colour₀ path₀ s g start → Last g colour₀ path₀ start → Onward words table colour₀ colour path s top g

pub onward-first : (words table colour path : List ℕ) (s : Counts) (start : ℕ) → Onwards words table table colour colour path path s start start
onward-first words table colour path s start g I U L = record { under = U; last = L; seen = λ z d. d }

-- the last of some nodes on the path
pub onward-at : (words before table colour₀ colour path₀ path : List ℕ) (s : Counts) (start top : ℕ) → 0 < top → Onwards words before table colour₀ colour path₀ path s start top → Onwards words before table colour₀ colour path₀ path s start (suc (top - 1))
onward-at words before table colour₀ colour path₀ path s start top h K = let e : top ≡ suc (top - 1) = omega arith in subst (Onwards words before table colour₀ colour path₀ path s start) e K

module _ (words before table colour₀ colour path₀ path : List ℕ) (s : Counts) (start top : ℕ) (K : Onwards words before table colour₀ colour path₀ path s start (suc top)) where
  pub onward_ready : Walking words before colour₀ path₀ s start → Walking words table colour path s (top + 1)
  onward_ready H = let k = K H.0 H.1 H.2 H.3 in subst (Walking words table colour path s) (sym (add-one top)) (H.0, H.1, k.under, k.last)

  pub onward_on : (table' colour' path' : List ℕ) (r : ℕ) → Advances words table table' colour colour' path path' s top (Some r) → Onwards words before table' colour₀ colour' path₀ path' s start r
  onward_on table' colour' path' r M g I U L =
      let k = K g I U L in
      let m = M g I k.under k.last in
      record { under = m.0; last = m.1; seen = λ z d. m.3 z (k.seen z d) }

  -- each turn leaves less to do
  pub onward_less : Walking words before colour₀ path₀ s start → (table' colour' path' : List ℕ) (r : ℕ) → Advances words table table' colour colour' path path' s top (Some r) → to_do colour' s.nodes < to_do colour s.nodes
  onward_less H table' colour' path' r M =
      let k = K H.0 H.1 H.2 H.3 in
      subst (λ (n : ℕ). to_do colour' n < to_do colour n) (as_many words before s H.0 H.2.shows) (M H.0 H.1 k.under k.last).2

  pub onward_circle : (table' colour' path' : List ℕ) → Advances words table table' colour colour' path path' s top None → Finishes words before table' colour₀ colour' path₀ path' s start true
  onward_circle table' colour' path' M g I U L = let k = K g I U L in M g I k.under k.last

pub onward-done : (words before table colour₀ colour path₀ path : List ℕ) (s : Counts) (start : ℕ) → Onwards words before table colour₀ colour path₀ path s start 0 → Finishes words before table colour₀ colour path₀ path s start false
onward-done words before table colour₀ colour path₀ path s start K g I U L = let k = K g I U L in (k.under, k.seen)

-- ---- from node x on
module _ (words before table colour path : List ℕ) (s : Counts) (x r : ℕ) (F : Found words before table s x r) where
  -- its root was seen before
  pub walk_again : (colour_of colour r ≡ 0 → ⊥) → Walks words before table colour colour path path s x false
  walk_again d g I U = (record { shows = (F.2 g U.shows).1; walk = U.walk; room = U.room }, (λ z e. e), λ e. d (ap (colour_of colour) (F.2 g U.shows).0 ∙ e))

  module _ (colour' path' : List ℕ) (top : ℕ) (l : x < s.nodes) (new : colour_of colour r ≡ 0) (E : Enters words table colour colour' path path' s 0 r top) where
    -- it stands on the path, or has ended
    first_entered : (g : Graph) → Under words before colour path s g 0 → Onward words table colour colour' path' s top g × (colour_of colour' (root g x) ≡ 0 → ⊥)
    first_entered g U = go (see (is_var (vertex g r)))
      where
        root_of : r ≡ root g x
        root_of = (F.2 g U.shows).0

        S : Shows words table s g
        S = (F.2 g U.shows).1

        w : Walk g colour path 0
        w = U.walk

        inside : r < length g
        inside = omega (arith, F.0, as_many words before s g U.shows)

        bare : (vertex g r).link ≡ none
        bare = subst (λ (z : ℕ). (vertex g z).link ≡ none) (sym root_of) (U.shows.like.forest.rooted x (omega (arith, as_many words before s g U.shows)))

        fresh : colour_of colour r ≡ 2 → ⊥
        fresh e = omega (arith, e, new)

        go : Is (is_var (vertex g r)) → Onward words table colour colour' path' s top g × (colour_of colour' (root g x) ≡ 0 → ⊥)
        go (is true v) =
            let e = rw v at (E g S) in
            rw (e.0, e.1, e.2) (
              record {
                under = record { shows = S; walk = walk-done g colour r inside w.long fresh path 0 0 w (var_ends g r bare v _) (omega arith) (λ j h. absurd (omega arith)) (λ j h d. h); room = U.room };
                last = λ t h. absurd (omega (arith, h));
                seen = mark-seen g colour r inside w.long;
              },
              λ h. omega (arith, h, ap (colour_of (set colour r 2)) (sym root_of), mark_here g colour r inside w.long),
            )
        go (is false v) =
            let e = rw v at (E g S) in
            let m : 2 * 0 + 2 ≤ length path = omega (arith, U.room) in
            rw (e.0, e.1, e.2) (
              record {
                under = record { shows = S; walk = walk-pushed g colour r inside w.long new path 0 m w bare v (λ t h. absurd (omega (arith, h))); room = omega (arith, U.room, length-set path 0 r, length-set (set path 0 r) 1 0) };
                last = last-pushed g colour r inside w.long new path 0 m;
                seen = grey_seen g colour r inside w.long new;
              },
              λ h. omega (arith, h, ap (colour_of (set colour r 1)) (sym root_of), grey_here g colour r inside w.long new),
            )

    pub first_ready : Idle words before colour path s → Walking words table colour' path' s top
    first_ready H = let k = (first_entered H.0 H.2).0 in (H.0, H.1, k.under, k.last)

    walks_false : (table'' colour'' path'' : List ℕ) → Finishes words table table'' colour' colour'' path' path'' s top false → Walks words before table'' colour colour'' path path'' s x false
    walks_false table'' colour'' path'' M g I U =
        let k = first_entered g U in
        let m = M g I k.0.under k.0.last in
        (m.0, (λ z d. m.1 z (k.0.seen z d)), m.1 (root g x) k.1)

    walks_true : (table'' colour'' path'' : List ℕ) → Finishes words table table'' colour' colour'' path' path'' s top true → Walks words before table'' colour colour'' path path'' s x true
    walks_true table'' colour'' path'' M g I U = let k = first_entered g U in M g I k.0.under k.0.last

    pub walks_so : (table'' colour'' path'' : List ℕ) (b : Bool) → Finishes words table table'' colour' colour'' path' path'' s top b → Walks words before table'' colour colour'' path path'' s x b
    walks_so table'' colour'' path'' false M = walks_false table'' colour'' path'' M
    walks_so table'' colour'' path'' true M = walks_true table'' colour'' path'' M

-- ---- from all nodes: those before x were seen
pub record Telling (words table colour path : List ℕ) (s : Counts) (x : ℕ) (g : Graph) : Type 0 where
  pub under : Under words table colour path s g 0
  pub seen : (z : ℕ) → z < x → colour_of colour (root g z) ≡ 0 → ⊥

abbrev pub Tellings : List ℕ → List ℕ → List ℕ → List ℕ → List ℕ → Counts → ℕ → Type 0
Tellings words before table colour path s x = (g : Graph) → Shows words before s g → Inner g → Telling words table colour path s x g

pub telling_first : (words table colour path : List ℕ) (s : Counts) → s.nodes ≤ length colour → 2 * length words + 2 ≤ length path → ((z : ℕ) → z < s.nodes → colour_of colour z ≡ 0) → Tellings words table table colour path s 0
telling_first words table colour path s long room z g S I =
    let n = as_many words table s g S in
    record { under = record { shows = S; walk = walk_none g colour path (omega arith) (λ x l. z x (omega arith)); room = room }; seen = λ z l. absurd (omega arith) }

module _ (words before table colour path : List ℕ) (s : Counts) (x : ℕ) (K : Tellings words before table colour path s x) where
  pub telling_ready : HoldsInner words before s → Idle words table colour path s
  telling_ready H = let k = K H.0 H.1 H.2 in (H.0, H.2, k.under)

  pub telling_on : (table' colour' path' : List ℕ) → Walks words table table' colour colour' path path' s x false → Tellings words before table' colour' path' s (x + 1)
  telling_on table' colour' path' M g S I =
      let k = K g S I in
      let m = M g I k.under in
      record { under = m.0; seen = λ z l. elim (ℕ_discrete z x) [ yes q ↦ λ e. m.2 (ap (λ (i : ℕ). colour_of colour' (root g i)) (sym q) ∙ e) | no d ↦ m.1 (root g z) (k.seen z (omega (arith, d))) ] }

  pub telling_circle : (table' colour' path' : List ℕ) → Walks words table table' colour colour' path path' s x true → Tells words before table' s true
  telling_circle table' colour' path' M g S I = let k = K g S I in let m = M g I k.under in (sym m.1, m.0)

  pub telling_done : s.nodes ≤ x → Tells words before table s false
  telling_done l g S I =
      let k = K g S I in
      (sym (none-circular g S.like.forest colour path k.under.walk (λ z h. k.seen z (omega (arith, as_many words before s g S)))), k.under.shows)

-- ---- what `advance` asks of its calls
module _ (words table colour path : List ℕ) (s : Counts) (top : ℕ) (H : Walking words table colour path s (top + 1)) where
  pub walking_here : Walking words table colour path s (suc top)
  walking_here = subst (Walking words table colour path s) (add-one top) H

  pub walking_laid : Laid words table s
  walking_laid = H.2.shows.laid

  pub walking-node : node_at path top < s.nodes
  walking-node = omega (arith, as_many words table s H.0 H.2.shows, (H.2.walk.standing top (omega arith)).inside)

  pub walking_long : s.nodes ≤ length colour
  walking_long = omega (arith, as_many words table s H.0 H.2.shows, H.2.walk.long)

  pub walking-room : 2 * top + 2 ≤ length path
  walking-room = omega (arith, H.2.room, H.2.walk.few, as_many words table s H.0 H.2.shows, few_nodes words table s H.0 H.2.shows)

  pub walking_few : s.nodes < 4294967296
  walking_few = omega (arith, few_nodes words table s H.0 H.2.shows, walking_laid.small)

  pub walking_small : (node_at path top < 4294967296) × (looked_at path top < 4294967296)
  walking_small =
      let n = few_nodes words table s H.0 H.2.shows in
      let a = arity_of words table s H.0 H.2.shows (node_at path top) walking-node in
      let e = end_there words table s walking_laid (node_at path top) walking-node in
      let l = (H.3 top (sym (add-one top))).1 in
      (omega (arith, n, walking-node, walking_laid.small), omega (arith, a, e, l, walking_laid.small))

-- ---- what `walk` asks of its calls
module _ (words before table colour path : List ℕ) (s : Counts) (x r : ℕ) (H : Idle words before colour path s) (F : Found words before table s x r) where
  pub idle_laid : Laid words table s
  idle_laid = (F.2 H.0 H.2.shows).1.laid

  pub idle_long : s.nodes ≤ length colour
  idle_long = omega (arith, as_many words before s H.0 H.2.shows, H.2.walk.long)

  pub idle_small : s.nodes < 4294967296
  idle_small = omega (arith, few_nodes words before s H.0 H.2.shows, H.2.shows.laid.small)

  pub idle-room : 2 ≤ length path
  idle-room = omega (arith, H.2.room)
