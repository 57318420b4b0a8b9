-- Frames put on the stack, and the patterns' words cleared.
use Rattle.std.specs.Prelude.{◌≡◌, length, take, drop, replicate}
use Rattle.std.proofs.Math.Path.{refl, sym, ap, ap₂}
use Rattle.std.proofs.Common.{◌∙◌, add-one}
use mathlib.Core.List.{List, [], ◌∷◌}
use Prim.Native.Nat.{ℕ, suc, ◌+◌, ◌*◌, ◌-◌, ◌≤◌, ◌<◌}
use native.Mathlib.Omega.{arith}
use Rattle.std.proofs.Math.Decide.{dec_lt}
use Rattle.std.proofs.Math.ListN.{get_or, set, length-set, get_or-eq_default}
use Rattle.std.proofs.Math.Seq.{get_or-set_same, get_or-set_other}
use Rattle.definition.specs.Test.{never}
use Rattle.definition.specs.Verdict.{value_of}
use Rattle.definition.specs.Analysis.{number_of}
use Rattle.theory.specs.Walks.Machine.{frame}
use Rattle.theory.specs.Walks.Reading.{numbered_as}
use Rattle.theory.specs.Walks.Resolving.{right-none}
use Rattle.base.specs.Part.{part, put, part_at, length_part}
use Rattle.buffer.specs.Zero.{zeros_long, zeros_there, zeros-before, zeros-behind}
use Rattle.store.specs.Stored.{nodes}
use Rattle.term_lift.specs.Lifts.{frames_in}
use Rattle.term_lift.specs.Memo.{frames_same}
use Rattle.graph.specs.declared.graph.Graph.{Graph as Counts}
use Rattle.graph.specs.Cells.{rows_end, nodes_few}
use Rattle.graph.specs.Links.{Found}
use Rattle.term_readback.specs.declared.table.Table.{Table}
use Rattle.term_readback.specs.Words.{patterns_at, table_end, table_in, marks_in, Moves}
use Rattle.term_readback.specs.Moved.{table_at, table-set, table_long, moves_then, moves_set, found_moves}
use Rattle.term_readback.specs.Asked.{Asking, Rooted, finds_moves, finds_word}
use Rattle.term_readback.specs.Given.{lies_same}
use Rattle.term_readback.specs.Stacks.{frames_of, Entering, Enters, Begins, Clears}

-- ---- a frame above the top
module _ (cells work : List ℕ) (t : Table) (g : Counts) (top x taken : ℕ) (E : Entering cells work t g top x taken) (work₁ : List ℕ) (r : ℕ) (D : Rooted cells work work₁ t g x taken r) where
  -- where the frame on top stands
  abbrev at : ℕ
  at = rows_end cells + 2 * top

  -- the table has room
  abbrev room : t.at + table_end cells ≤ t.end
  room = E.arguing.asking.graphed.room

  -- its count is written
  abbrev w₁ : List ℕ
  w₁ = set work₁ (t.at + (at + 1)) (taken + 1)

  -- the new one's root
  abbrev w₂ : List ℕ
  w₂ = set w₁ (t.at + (at + 2)) r

  -- and its count
  abbrev w₃ : List ℕ
  w₃ = set w₂ (t.at + (at + 3)) 0

  -- the words are there
  pub enter_there : (t.at + (at + 3) < t.end) × (t.end ≤ length work₁)
  enter_there = (omega (arith, room, E.room), omega (arith, E.arguing.asking.graphed.fits, D.finds.long))

  -- the table
  abbrev u₀ : List ℕ
  u₀ = table_in t work₁

  -- the table with the frame
  abbrev u₃ : List ℕ
  u₃ = set (set (set u₀ (at + 1) (taken + 1)) (at + 2) r) (at + 3) 0

  -- is the table then
  enter_table : table_in t w₃ ≡ u₃
  enter_table =
      table-set t w₂ (at + 3) 0 (omega (arith, enter_there.0))
      ∙ ap (λ (u : List ℕ). set u (at + 3) 0) (table-set t w₁ (at + 2) r (omega (arith, enter_there.0)) ∙ ap (λ (u : List ℕ). set u (at + 2) r) (table-set t work₁ (at + 1) (taken + 1) (omega (arith, enter_there.0))))

  -- it is long enough
  enter_long : at + 3 < length u₀
  enter_long = omega (arith, enter_there.0, table_long t work₁ (omega (arith, room)) enter_there.1)

  -- no word up to the count has changed
  enter_under : (j : ℕ) → rows_end cells ≤ j → j ≤ at → get_or u₃ j 0 ≡ get_or (table_in t work) j 0
  enter_under j p q =
      get_or-set_other (set (set u₀ (at + 1) (taken + 1)) (at + 2) r) (at + 3) j 0 0 (λ e. omega (arith, e))
      ∙ get_or-set_other (set u₀ (at + 1) (taken + 1)) (at + 2) j r 0 (λ e. omega (arith, e))
      ∙ get_or-set_other u₀ (at + 1) j (taken + 1) 0 (λ e. omega (arith, e))
      ∙ finds_word cells work work₁ t g D.finds j p (omega (arith, enter_there.0))

  -- the count
  enter_taken : get_or u₃ (at + 1) 0 ≡ suc taken
  enter_taken =
      get_or-set_other (set (set u₀ (at + 1) (taken + 1)) (at + 2) r) (at + 3) (at + 1) 0 0 (λ e. omega (arith, e))
      ∙ get_or-set_other (set u₀ (at + 1) (taken + 1)) (at + 2) (at + 1) r 0 (λ e. omega (arith, e))
      ∙ get_or-set_same u₀ (at + 1) (taken + 1) 0 (omega (arith, enter_long))
      ∙ add-one taken

  -- the new frame's root
  enter_root : get_or u₃ (at + 2) 0 ≡ r
  enter_root =
      get_or-set_other (set (set u₀ (at + 1) (taken + 1)) (at + 2) r) (at + 3) (at + 2) 0 0 (λ e. omega (arith, e))
      ∙ get_or-set_same (set u₀ (at + 1) (taken + 1)) (at + 2) r 0 (omega (arith, enter_long, length-set u₀ (at + 1) (taken + 1)))

  -- and its count
  enter_new : get_or u₃ (at + 3) 0 ≡ 0
  enter_new = get_or-set_same (set (set u₀ (at + 1) (taken + 1)) (at + 2) r) (at + 3) 0 0 (omega (arith, enter_long, length-set u₀ (at + 1) (taken + 1), length-set (set u₀ (at + 1) (taken + 1)) (at + 2) r))

  -- the stack has both
  enter_frames : frames_in u₃ (rows_end cells) (suc (suc top)) ≡ frame r 0 ∷ frame x (suc taken) ∷ frames_of cells t work top
  unfolding frames_in
  enter_frames =
      let y : rows_end cells + 2 * suc top ≡ at + 2 = omega arith in
      let z : rows_end cells + 2 * suc top + 1 ≡ at + 3 = omega arith in
      let fs = frames_same (table_in t work) u₃ (rows_end cells) top (λ j p q. enter_under j p (omega arith)) in
      let a : frame (get_or u₃ (rows_end cells + 2 * suc top) 0) (get_or u₃ (rows_end cells + 2 * suc top + 1) 0) ≡ frame r 0 = ap₂ frame (ap (λ (j : ℕ). get_or u₃ j 0) y ∙ enter_root) (ap (λ (j : ℕ). get_or u₃ j 0) z ∙ enter_new) in
      let b : frame (get_or u₃ at 0) (get_or u₃ (at + 1) 0) ≡ frame x (suc taken) = ap₂ frame (enter_under at (omega arith) (omega arith) ∙ E.is) enter_taken in
      ap₂ ◌∷◌ a (ap₂ ◌∷◌ b fs)

  -- only rows and stack were written
  enter_moves : Moves cells work w₃ t g
  enter_moves =
      moves_then cells work work₁ w₃ t g (finds_moves cells work work₁ t g D.finds)
      (moves_then cells work₁ w₁ w₃ t g (moves_set cells work₁ t g room (at + 1) (taken + 1) (omega arith) (omega (arith, E.room)))
      (moves_then cells w₁ w₂ w₃ t g (moves_set cells w₁ t g room (at + 2) r (omega arith) (omega (arith, E.room))) (moves_set cells w₂ t g room (at + 3) 0 (omega arith) (omega (arith, E.room)))))

  -- so the argument's root has a frame
  pub enters_so : Enters cells work w₃ t g top x taken
  enters_so = record {
    moves = enter_moves;
    frames = λ h S. ap (λ (u : List ℕ). frames_in u (rows_end cells) (suc (suc top))) enter_table ∙ enter_frames ∙ ap (λ (y : ℕ). frame y 0 ∷ frame x (suc taken) ∷ frames_of cells t work top) (D.is h S);
  }

-- ---- the first frame
module _ (cells work : List ℕ) (t : Table) (g : Counts) (x : ℕ) (A : Asking cells work t g x) (r : ℕ) (table' : List ℕ) (F : Found cells (table_in t work) table' g x r) where
  -- work with the root found
  abbrev v₀ : List ℕ
  v₀ = put t.at (t.end - t.at) table' work

  -- only rows were written
  found : Moves cells work v₀ t g
  found = found_moves cells work t g A.graphed.room A.graphed.fits x r table' F

  -- the root is written
  abbrev v₁ : List ℕ
  v₁ = set v₀ (t.at + rows_end cells) r

  -- and its count
  abbrev v₂ : List ℕ
  v₂ = set v₁ (t.at + (rows_end cells + 1)) 0

  -- the words are there
  pub begin_there : (t.at + (rows_end cells + 1) < t.end) × (t.end ≤ length v₀)
  begin_there = (omega (arith, A.graphed.room), omega (arith, A.graphed.fits, found.long))

  -- the table
  abbrev b₀ : List ℕ
  b₀ = table_in t v₀

  -- the table with the frame
  begin-table : table_in t v₂ ≡ set (set b₀ (rows_end cells) r) (rows_end cells + 1) 0
  begin-table = table-set t v₁ (rows_end cells + 1) 0 (omega (arith, begin_there.0)) ∙ ap (λ (u : List ℕ). set u (rows_end cells + 1) 0) (table-set t v₀ (rows_end cells) r (omega (arith, begin_there.0)))

  -- it is long enough
  begin_long : rows_end cells + 1 < length b₀
  begin_long = omega (arith, begin_there.0, table_long t v₀ (omega (arith, A.graphed.room)) begin_there.1)

  -- the stack has it alone
  begin_frames : frames_in (set (set b₀ (rows_end cells) r) (rows_end cells + 1) 0) (rows_end cells) 1 ≡ frame r 0 ∷ []
  unfolding frames_in
  begin_frames =
      let u : List ℕ = set (set b₀ (rows_end cells) r) (rows_end cells + 1) 0 in
      let y : rows_end cells + 2 * 0 ≡ rows_end cells = omega arith in
      let z : rows_end cells + 2 * 0 + 1 ≡ rows_end cells + 1 = omega arith in
      let a : get_or u (rows_end cells + 2 * 0) 0 ≡ r =
      ap (λ (j : ℕ). get_or u j 0) y ∙ get_or-set_other (set b₀ (rows_end cells) r) (rows_end cells + 1) (rows_end cells) 0 0 (λ e. omega (arith, e)) ∙ get_or-set_same b₀ (rows_end cells) r 0 (omega (arith, begin_long)) in
      let b : get_or u (rows_end cells + 2 * 0 + 1) 0 ≡ 0 = ap (λ (j : ℕ). get_or u j 0) z ∙ get_or-set_same (set b₀ (rows_end cells) r) (rows_end cells + 1) 0 0 (omega (arith, begin_long, length-set b₀ (rows_end cells) r)) in
      ap₂ (λ (i j : ℕ). frame i j ∷ []) a b

  -- there is room for it
  some_cells : 0 < length cells
  some_cells = let L = A.graphed.shows.laid in omega (arith, A.node, nodes_few cells (table_in t work) g L, L.fits)

  -- so the root has a frame
  pub begins_so : Begins cells work v₂ t g x r
  begins_so = record {
    moves = moves_then cells work v₀ v₂ t g found
        (moves_then cells v₀ v₁ v₂ t g (moves_set cells v₀ t g A.graphed.room (rows_end cells) r (omega arith) (omega (arith, some_cells))) (moves_set cells v₁ t g A.graphed.room (rows_end cells + 1) 0 (omega arith) (omega (arith, some_cells))));
    node = F.0;
    is = λ h S. (F.2 h S).0;
    frames = ap (λ (u : List ℕ). frames_in u (rows_end cells) 1) begin-table ∙ begin_frames;
  }

-- ---- the patterns' words cleared
module _ (work cells : List ℕ) (t : Table) (g : Counts) (room : t.at + table_end cells ≤ t.end) (fits : t.end ≤ length work) (few : g.nodes ≤ length cells) (zs : List ℕ)
    (z : zs ≡ replicate (length (take (t.at + patterns_at cells + g.nodes - (t.at + patterns_at cells)) (drop (t.at + patterns_at cells) work))) 0) where
  -- where they start
  abbrev from : ℕ
  from = t.at + patterns_at cells

  -- where they end
  abbrev end : ℕ
  end = from + g.nodes

  -- the words afterwards
  abbrev after : List ℕ
  after = put from (end - from) zs work

  -- they end within
  within : end ≤ length work
  within = omega arith

  -- nothing is longer or shorter
  long : length after ≡ length work
  long = zeros_long from end g.nodes work zs refl within z

  -- nothing ahead has changed
  ahead : (i : ℕ) → i < t.at + patterns_at cells → get_or after i 0 ≡ get_or work i 0
  ahead i h = zeros-before from end g.nodes work zs refl within z i (omega arith)

  -- no word says anything
  no_mark : (r : ℕ) → get_or (marks_in cells (table_in t after) g) r 0 ≡ 0
  no_mark r =
      let m : length (marks_in cells (table_in t after) g) ≡ g.nodes = length_part (patterns_at cells) g.nodes (table_in t after) (omega (arith, table_long t after (omega arith) (omega (arith, long)))) in
      elim (dec_lt r g.nodes) [
        | yes h ↦
            let e : t.at + (patterns_at cells + r) ≡ from + r = omega arith in
            part_at (patterns_at cells) g.nodes (table_in t after) r h ∙ table_at t after (patterns_at cells + r) (omega arith) ∙ ap (λ (i : ℕ). get_or after i 0) e ∙ zeros_there from end g.nodes work zs refl within z r h
        | no h ↦ get_or-eq_default (marks_in cells (table_in t after) g) 0 {n = r} (omega (arith, h))
      ]

  -- so nothing was read back
  pub clears : Clears work after cells t g
  unfolding part value_of number_of
  clears = record {
    long = long;
    ahead = ahead;
    behind = λ i h. zeros-behind from end g.nodes work zs refl within z i (omega arith);
    holding = λ bytes words c l st everyone P h vs L F. record {
      lies = lies_same bytes work words cells c l t st g P h vs L after long ahead;
      says = record { store = refl; numbering = refl; memo = λ r. sym (no_mark r); known = λ r k e. never (cc); most = omega arith };
      right = right-none P h vs everyone (numbered_as [] (nodes words st));
      grounded = F;
    };
  }
