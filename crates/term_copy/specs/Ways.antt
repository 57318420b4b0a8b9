-- What each way of a turn answers, whatever walk is under way.
use Rattle.std.specs.Prelude.{Option, Some, None}
use Rattle.std.specs.Prelude.{◌≡◌, refl, Bool, true, false, ℕ, suc, ◌+◌, ◌*◌, ◌≤◌, ◌<◌, eqb, get_or}
use Rattle.std.proofs.Common.{sym, ◌∙◌, subst, add-one, arith, ltb-true, ltb-false}
use Rattle.std.proofs.Math.Path.{ap}
use mathlib.Core.List.{List, ◌∷◌}
use Rattle.std.proofs.Math.ListN.{length}
use Rattle.definition.specs.Test.{is, see, ◌and◌}
use Rattle.definition.specs.Pack.{Node, no_node}
use Rattle.definition.specs.Store.{is_variable, below}
use Rattle.definition.specs.Graph.{cells}
use Rattle.definition.specs.Analysis.{Copy}
use Rattle.definition.specs.Classes.{is_some}
use Rattle.theory.specs.Copies.Terms.{below-variable, below-applied}
use Rattle.theory.specs.Copies.Parts.{kids_in}
use Rattle.theory.specs.Walks.Machine.{frame, Walking}
use Rattle.theory.specs.Walks.CopyWalk.{copy_at}
use Rattle.base.specs.Outside.{outside_none, outside_then, outside_wider}
use Rattle.base.specs.declared.id.Node.{Node as Id}
use Rattle.store.specs.Words.{key_of, node_with}
use Rattle.store.specs.Stored.{nodes}
use Rattle.memo.specs.Recall.{recall, Remembers}
use Rattle.store.specs.declared.nodes.Store.{Store}
use Rattle.memo.specs.declared.memo.Memo.{Memo}
use Rattle.term_copy.specs.declared.node.Copying.{Copying}
use Rattle.graph.specs.Links.{Holds}
use Rattle.term_copy.specs.Places.{table_in, rows_at, rows_in, Apart, value_in, Beside}
use Rattle.graph.specs.Cells.{marks_in}
use Rattle.term_copy.specs.Held.{frames_in, Ready}
use Rattle.term_copy.specs.Steps.{CopiesNode, Key}
use Rattle.term_copy.specs.Frames.{is_left, Deeper, deepened, Advances}
use Rattle.term_copy.specs.Grown.{holding_stack, short_more, holding_more}
use Rattle.term_copy.specs.Turns.{turn_inside, turn-known, turn-key, frames_same, entering, entering_outside, entering_frames, turn-room, turn-given, going_on, dropped, entered, finished, entered_room, all_known}
use Rattle.graph.specs.declared.graph.Graph.{Graph as Counts}

-- one thing written after another
pub beside_then : (work mid work' cells cells' : List ℕ) (l : Copying) → length cells' ≡ length cells → Beside work mid cells l → Beside mid work' cells' l → Beside work work' cells l
beside_then work mid work' cells cells' l e A B = outside_then l.copied (rows_at cells l) work mid work' A (outside_wider l.copied (rows_at cells' l) l.copied (rows_at cells l) mid work' (omega arith) (omega (arith, e)) B)

module _ (work words cells₀ flex : List ℕ) (l : Copying) (st : Store) (memo : Memo) (g : Counts) (top : ℕ) where
  -- the store's nodes
  abbrev s : List Node
  s = nodes words st

  -- where the frame stands
  abbrev at : ℕ
  at = l.walk + 2 * top

  -- its pattern
  abbrev p : ℕ
  p = get_or work at 0

  -- how many arguments it has taken
  abbrev taken : ℕ
  taken = get_or work (at + 1) 0

  -- its node
  abbrev n : Node
  n = get_or s p no_node

  -- what a turn asks for
  pub ready_inside : Ready work words cells₀ flex l st memo g (suc top) → at + 1 < length work
  ready_inside R = turn_inside work words cells₀ flex l st memo g top R.0 R.1 R.2

  -- a node
  pub ready_given : Ready work words cells₀ flex l st memo g (suc top) → p < length s
  ready_given R = turn-given work words cells₀ flex l st memo g top R.0 R.1 R.2

  -- one that the memo has a place for
  pub ready_known : Ready work words cells₀ flex l st memo g (suc top) → p < length (recall (table_in work l) memo)
  ready_known R = turn-known work words cells₀ flex l st memo g top R.0 R.1 R.2

  -- with a key as copying asks
  pub ready_key : Ready work words cells₀ flex l st memo g (suc top) → (key : List ℕ) → key ≡ key_of n → Key work l memo key
  ready_key R key K = subst (λ (xs : List ℕ). Key work l memo xs) (sym K) (turn-key work words cells₀ flex l st memo g top R.0 R.1 R.2)

  -- its frame is dropped
  pub advance_passed : (b : Bool) → b ≡ (eqb taken 0 and is_some (value_in work l memo p)) → b ≡ true → Advances work work words cells₀ cells₀ flex l st memo g top (Some (top, g))
  advance_passed b e t = (
    λ P c G. going_on work words cells₀ flex l st memo g top P c G work cells₀ g top (frames_in work l.walk top) c (dropped work words cells₀ flex l st memo g top P c G b e t) G.holds refl,
    outside_none l.copied (rows_at cells₀ l) work,
  )

  -- it stays
  module _ (R : Ready work words cells₀ flex l st memo g (suc top)) (b : Bool) (e : b ≡ (eqb taken 0 and is_some (value_in work l memo p))) (f : b ≡ false)
      (key : List ℕ) (K : key ≡ key_of n) where
    -- how many arguments it has
    kids_are : length (below (node_with key)) ≡ length (kids_in s p)
    unfolding node_with
    kids_are = ap (λ (xs : List ℕ). length (below (node_with xs))) K

    -- an argument is left
    module _ (h : taken < length (below (node_with key))) where
      -- it is one of the node's
      left_over : taken < length (kids_in s p)
      left_over = omega (arith, kids_are)

      -- so the node is no variable
      no_variable : is_variable n ≡ false
      no_variable = elim (see (is_variable n)) [
        | is true v ↦ absurd (omega (arith, left_over, ap length (below-variable n v)))
        | is false v ↦ v
      ]

      -- few were taken
      taken_few : taken < 16
      taken_few = omega (arith, left_over, ap length (below-applied n no_variable), R.0.few p (ready_given R) no_variable)

      -- its word stands in the key
      taken-key : taken + 1 < length key
      taken-key = omega (arith, left_over, ap length (below-applied n no_variable), ap length K)

      -- there is room for its frame
      enter_room : at + 3 < l.variables
      enter_room = omega (arith, entered_room work words cells₀ flex l st memo g top R.0 R.1 R.2 b e f left_over, R.2.holds.room.stack)

      -- within the words
      pub enter_inside : at + 3 < length work
      enter_inside = omega (arith, enter_room, R.2.holds.apart.marks, R.2.holds.apart.rows)

      -- it is the next
      next_is : get_or key (taken + 1) 0 ≡ get_or (kids_in s p) taken 0
      next_is = ap (λ (xs : List ℕ). get_or xs (taken + 1) 0) K ∙ ap (λ (i : ℕ). get_or (key_of n) i 0) (add-one taken) ∙ ap (λ (xs : List ℕ). get_or xs taken 0) (sym (below-applied n no_variable))

      -- it gets a frame
      advance_entering : Advances work (entering work l.walk top (get_or key (taken + 1) 0) taken) words cells₀ cells₀ flex l st memo g top (Some ((top + 2), g))
      advance_entering =
          let q = get_or key (taken + 1) 0 in
          let O = entering_outside work l.walk top q taken l.variables enter_room in
          let two : top + 2 ≡ suc (suc top) = omega arith in
          let A = R.2.holds.apart in (
            λ P c G. going_on work words cells₀ flex l st memo g top P c G (entering work l.walk top q taken) cells₀ g (top + 2) (frame (get_or (kids_in s p) taken 0) 0 ∷ frame p (suc taken) ∷ frames_in work l.walk top) c
                (entered work words cells₀ flex l st memo g top P c G b e f left_over)
                (holding_stack work (entering work l.walk top q taken) words cells₀ flex l st memo g c G.holds O)
                (ap (frames_in (entering work l.walk top q taken) l.walk) two ∙ entering_frames work l.walk top q taken enter_inside ∙ ap (λ (i : ℕ). frame i 0 ∷ frame p (suc taken) ∷ frames_in work l.walk top) next_is),
            outside_wider l.walk l.variables l.copied (rows_at cells₀ l) work _ A.table (omega (arith, A.marks)) O,
          )

    -- what looking for one asks
    pub ready_look : (at + 1 < length work) × (0 < length key)
    ready_look = (ready_inside R, omega (arith, ap length K))

    -- one is left, or none
    module _ (d : Bool) (D : d ≡ is_left work at key) where
      -- an argument is left
      module _ (t : d ≡ true) where
        -- by the numbers
        some_left : taken < length (below (node_with key))
        some_left = ltb-true taken (length (below (node_with key))) (sym D ∙ t)

        -- what its frame asks
        pub ready_deeper : Deeper work at key
        ready_deeper = record { inside = enter_inside some_left; few = taken_few some_left; word = taken-key some_left }

        -- that is a turn
        pub advance_entered : (work₁ : List ℕ) → work₁ ≡ deepened work at key → Advances work work₁ words cells₀ cells₀ flex l st memo g top (Some ((top + 2), g))
        advance_entered work₁ e₁ = subst (λ (xs : List ℕ). Advances work xs words cells₀ cells₀ flex l st memo g top (Some ((top + 2), g))) (sym e₁) (advance_entering some_left)

      -- no argument is left
      module _ (u : d ≡ false) where
        -- all were taken
        none_left : length (kids_in s p) ≤ taken
        none_left = omega (arith, kids_are, ltb-false taken (length (below (node_with key))) (sym D ∙ u))

        -- what copying its pattern asks
        pub ready_ripe : Apart work cells₀ flex l × Holds cells₀ (rows_in work cells₀ l) g × Key work l memo key × Remembers (table_in work l) memo × (p < length (recall (table_in work l) memo))
        ready_ripe = let H = R.2.holds in (H.apart, (R.1.graph, H.shows), ready_key R key K, H.remembers, ready_known R)

        -- its pattern's copy is made: that is a turn, too
        module _ (work' cells' : List ℕ) (long : length cells' ≡ length cells₀) (r : Option (Id × Counts)) (C : CopiesNode work work' cells₀ cells' flex l memo g p key r) where
          -- what was answered
          made : (q : Option (Id × Counts)) → r ≡ q → CopiesNode work work' cells₀ cells' flex l memo g p (key_of n) q
          made q h = subst (λ (xs : List ℕ). CopiesNode work work' cells₀ cells' flex l memo g p xs q) K (subst (λ (o : Option (Id × Counts)). CopiesNode work work' cells₀ cells' flex l memo g p key o) h C)

          -- there was room
          pub advance_copied : (x : Id) (g' : Counts) → r ≡ Some (x, g') → Advances work work' words cells₀ cells' flex l st memo g top (Some (top, g'))
          advance_copied x g' h =
              let F = made (Some (x, g')) h in
              let room = turn-room work words cells₀ flex l st memo g top R.0 R.1 R.2 in (
                λ P c G. going_on work words cells₀ flex l st memo g top P c G work' cells' g' top (frames_in work l.walk top) (copy_at s (marks_in flex) p c)
                    (finished work words cells₀ flex l st memo g top P c G b e f none_left)
                    (holding_more work words cells₀ flex l st memo g c G.holds p work' cells' x g' F long (turn-given work words cells₀ flex l st memo g top P c G) (all_known work words cells₀ flex l st memo g top P c G b e f none_left))
                    (frames_same work work' l.walk top (λ i a m. F.1.stack i a (omega (arith, room, R.2.holds.room.stack)))),
                F.1.beside,
              )

          -- there was none
          pub advance_short : r ≡ None → Advances work work' words cells₀ cells' flex l st memo g top None
          advance_short h =
              let F = made None h in (
                λ P c G.
                    let w = ap (λ (v : Walking Copy). cells v.state.graph) (finished work words cells₀ flex l st memo g top P c G b e f none_left) in
                    omega (arith, w, short_more work words cells₀ flex l st memo g c G.holds p work' cells' F),
                F.1.beside,
              )
