-- The walk's turns over the one table: a node goes on with its arguments, the path is gone through, and all nodes are looked at.
use Rattle.std.specs.Prelude.{Some}
use Rattle.std.specs.Prelude.{◌≡◌, refl, Bool, true, false, List, ℕ, ◌+◌, ◌*◌, ◌-◌, ◌≤◌, ◌<◌, length, get_or, set, take, drop, replicate}
use Rattle.std.proofs.Common.{sym, ap, ◌∙◌, arith}
use Rattle.base.specs.Part.{put}
use Rattle.buffer.specs.Zero.{zeros_long, zeros_there, zeros-before, zeros-behind}
use Rattle.graph.specs.declared.graph.Graph.{Graph as Counts}
use Rattle.graph.specs.Cells.{rows_end, SameRows, rows-set, shows_rows, unchanged_then, unchanged_set}
use Rattle.graph.specs.Links.{Found}
use Rattle.graph.specs.Nodes.{ArityOf}
use Rattle.graph.specs.Inner.{HoldsInner}
use Rattle.graph_unify.specs.Paths.{colour_of, node_at, looked_at}
use Rattle.graph_unify.specs.Circles.{Enters, few_nodes, as_many, Walking, Finishes, Steppings, stepping_first, stepping_done, walking-node, walking-room, walk_again, first_ready, walks_so, Tellings, telling_first}
use Rattle.graph_unify.specs.CircleWords.{colours_at, colours_end, path_in, colour_in, length_path, length_colour, path_at, colour_at, path_kept, colour_set, path_same, colour_same, Beyond, beyond_rows, Entering, EntersIn, WalkingIn, AdvancesIn, FinishesIn, IdleIn, WalksIn, TellsIn, under-rows}

-- ---- `advance`
module _ (words table : List ℕ) (s : Counts) (top : ℕ) (H : WalkingIn words table s (top + 1)) where
  -- the path is no longer than there are cells
  pub walking_low : top < length words
  walking_low = omega (arith, walking-room words table (colour_in words table) (path_in words table) s top H.0, H.0.2.walk.few, as_many words table s H.0.0 H.0.2.shows, few_nodes words table s H.0.0 H.0.2.shows)

  -- the node on top, and how many of its arguments were looked at
  node-word : node_at (path_in words table) top ≡ get_or table (rows_end words + 2 * top) 0
  node-word = path_at words table (2 * top) (omega (arith, walking_low))

  looked_word : looked_at (path_in words table) top ≡ get_or table (rows_end words + 2 * top + 1) 0
  looked_word =
      let e : rows_end words + (2 * top + 1) ≡ rows_end words + 2 * top + 1 = omega arith in
      path_at words table (2 * top + 1) (omega (arith, walking_low)) ∙ ap (λ (i : ℕ). get_or table i 0) e

  pub node_there : get_or table (rows_end words + 2 * top) 0 < s.nodes
  node_there = omega (arith, walking-node words table (colour_in words table) (path_in words table) s top H.0, node-word)

  pub node_inside : get_or table (rows_end words + 2 * top) 0 < length words
  node_inside = omega (arith, node_there, few_nodes words table s H.0.0 H.0.2.shows)

  pub advance_first : (n : ℕ) → ArityOf words table s (get_or table (rows_end words + 2 * top) 0) n
      → Steppings words table table (colour_in words table) (colour_in words table) (path_in words table) (path_in words table) s top (get_or table (rows_end words + 2 * top) 0) n (get_or table (rows_end words + 2 * top + 1) 0)
  advance_first n A = rw (← node-word, ← looked_word) (stepping_first words table (colour_in words table) (path_in words table) s top n (rw (← node-word) at A))

-- the colour of a node that has ended
module _ (words before table : List ℕ) (s : Counts) (top x n i : ℕ) (room : x < length words) (K : Steppings words before table (colour_in words before) (colour_in words table) (path_in words before) (path_in words table) s top x n i) (B : Beyond words before table) where
  abbrev ended : List ℕ
  ended = set table (colours_at words + x) 2

  pub advance_done : n ≤ i → AdvancesIn words before ended s top (Some top)
  advance_done l =
      let R = rows-set words table (colours_at words + x) 2 (omega arith) in
      let M = stepping_done words before table (colour_in words before) (colour_in words table) (path_in words before) (path_in words table) s top x n i K l in (
        (λ g I U L.
            let m = M g I U L in
            rw (colour_set words table x 2 room, path_kept words table x 2) (under-rows words table ended (set (colour_in words table) x 2) (path_in words table) s g top R m.0, m.1, m.2, m.3)),
        unchanged_then (colours_end words) before table ended B (unchanged_set (colours_end words) table (colours_at words + x) 2 (omega (arith, room))),
      )

-- ---- `walk`
module _ (words table table' table'' : List ℕ) (colour colour' path path' : List ℕ) (s : Counts) (top : ℕ) (R : SameRows words table table') where
  walking-rows : Walking words table colour path s top → Walking words table' colour path s top
  walking-rows W = (W.0, W.1, under-rows words table table' colour path s W.0 top R W.2, W.3)

  finishes_rows : (b : Bool) → Finishes words table' table'' colour colour' path path' s top b → Finishes words table table'' colour colour' path path' s top b
  finishes_rows false M = λ g I U L. M g I (under-rows words table table' colour path s g top R U) L
  finishes_rows true M = λ g I U L. M g I (under-rows words table table' colour path s g top R U) L

module _ (words before table : List ℕ) (s : Counts) (x r : ℕ) (F : Found words before table s x r) (H : IdleIn words before s) where
  -- the tables are as long as they were
  pub idle_wide : colours_end words ≤ length table
  idle_wide = omega (arith, H.1, F.3.long)

  pub idle_inside : r < length words
  idle_inside = omega (arith, F.0, few_nodes words before s H.0.0 H.0.2.shows)

  colour_word : get_or table (colours_at words + r) 0 ≡ colour_of (colour_in words before) r
  colour_word = F.3.words (colours_at words + r) (omega arith) ∙ sym (colour_at words before r idle_inside)

  pub idle-entering : Entering words table s 0 r
  idle-entering = record { laid = (F.2 H.0.0 H.0.2.shows).1.laid; node = F.0; inside = idle_inside; room = idle_wide; path = omega arith }

  -- its root was seen before
  pub walks_again : (get_or table (colours_at words + r) 0 ≡ 0 → ⊥) → WalksIn words before table s x false
  walks_again d = (
    rw (colour_same words before table H.1 F.3, path_same words before table H.1 F.3) (walk_again words before table (colour_in words before) (path_in words before) s x r F (λ e. d (colour_word ∙ e))),
    beyond_rows words before table F.3,
  )

  -- it was not
  module _ (l : x < s.nodes) (new : get_or table (colours_at words + r) 0 ≡ 0) (next : List ℕ) (top : ℕ) (E : EntersIn words table next s 0 r top) where
    first_colour : colour_of (colour_in words before) r ≡ 0
    first_colour = sym colour_word ∙ new

    entered : Enters words table (colour_in words before) (colour_in words next) (path_in words before) (path_in words next) s 0 r top
    entered = rw (colour_same words before table H.1 F.3, path_same words before table H.1 F.3) at E.0

    pub walks_ready : WalkingIn words next s top
    walks_ready = (
      walking-rows words table next next (colour_in words next) (colour_in words next) (path_in words next) (path_in words next) s top E.1
          (first_ready words before table (colour_in words before) (path_in words before) s x r F (colour_in words next) (path_in words next) top l first_colour entered H.0),
      omega (arith, idle_wide, E.1.long),
    )

    pub walks_on : (last : List ℕ) (b : Bool) → FinishesIn words next last s top b → WalksIn words before last s x b
    walks_on last b M = (
      walks_so words before table (colour_in words before) (path_in words before) s x r F (colour_in words next) (path_in words next) top l first_colour entered last (colour_in words last) (path_in words last) b
          (finishes_rows words table next last (colour_in words next) (colour_in words last) (path_in words next) (path_in words last) s top E.1 b M.0),
      unchanged_then (colours_end words) before table last (beyond_rows words before table F.3) (unchanged_then (colours_end words) table next last E.2 M.1),
    )

-- ---- `circular`: the colours of all nodes are none
module _ (words table zs : List ℕ) (s : Counts) (room : colours_end words ≤ length table) (H : HoldsInner words table s) (z : zs ≡ replicate (length (take (colours_at words + s.nodes - colours_at words) (drop (colours_at words) table))) 0) where
  abbrev unseen : List ℕ
  unseen = put (colours_at words) (colours_at words + s.nodes - colours_at words) zs table

  few : s.nodes ≤ length words
  few = few_nodes words table s H.0 H.1

  pub unseen_long : length unseen ≡ length table
  unseen_long = zeros_long (colours_at words) (colours_at words + s.nodes) s.nodes table zs refl (omega (arith, few)) z

  rows-unseen : SameRows words table unseen
  rows-unseen = record { long = unseen_long; rows = λ i h. zeros-before (colours_at words) (colours_at words + s.nodes) s.nodes table zs refl (omega (arith, few)) z i (omega arith) }

  pub beyond_unseen : Beyond words table unseen
  beyond_unseen = record { long = unseen_long; words = λ i h. zeros-behind (colours_at words) (colours_at words + s.nodes) s.nodes table zs refl (omega (arith, few)) z i (omega (arith, few)) }

  -- what was held is held still
  pub unseen-held : HoldsInner words unseen s
  unseen-held = (H.0, shows_rows words table unseen s H.0 rows-unseen H.1, H.2)

  pub telling_unseen : Tellings words unseen unseen (colour_in words unseen) (path_in words unseen) s 0
  telling_unseen =
      let wide : colours_end words ≤ length unseen = omega (arith, unseen_long) in
      telling_first words unseen (colour_in words unseen) (path_in words unseen) s (omega (arith, few, length_colour words unseen wide)) (omega (arith, length_path words unseen wide))
      (λ k h. colour_at words unseen k (omega (arith, few)) ∙ zeros_there (colours_at words) (colours_at words + s.nodes) s.nodes table zs refl (omega (arith, few)) z k h)

  -- what is told from there on is told of the whole
  pub tells-unseen : (table' : List ℕ) (r : Bool) → TellsIn words unseen table' s r → TellsIn words table table' s r
  tells-unseen table' r T = (λ g S I. T.0 g (shows_rows words table unseen s g rows-unseen S) I, unchanged_then (colours_end words) table unseen table' beyond_unseen T.1)
