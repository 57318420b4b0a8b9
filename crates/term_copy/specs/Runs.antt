-- The turns together: what is left gives the whole, and fewer turns are left with each.
use Rattle.std.specs.Prelude.{Some, None}
use Rattle.std.specs.Prelude.{◌≡◌, refl, Bool, true, false, ℕ, suc, ◌+◌, ◌*◌, ◌-◌, ◌≤◌, ◌<◌, length, get_or}
use Rattle.std.proofs.Common.{sym, ◌∙◌, arith}
use Rattle.std.proofs.Math.Path.{ap, ap₂, subst}
use mathlib.Core.List.{List, map}
use Rattle.std.proofs.Math.Option.{Option, none}
use Rattle.definition.specs.Test.{is, see}
use Rattle.definition.specs.Pack.{Node, no_node}
use Rattle.definition.specs.Store.{is_variable}
use Rattle.definition.specs.Graph.{variable_vertex, applied, cells, push}
use Rattle.definition.specs.Analysis.{Copy, copied, copy_node}
use Rattle.definition.specs.Classes.{is_some}
use Rattle.theory.specs.Copies.Parts.{kids_in, kids_fall, kids_inside}
use Rattle.theory.specs.Walks.Machine.{Frame, frame, left, turn-kept, left-none}
use Rattle.theory.specs.Walks.WalkOnce.{unfinished}
use Rattle.theory.specs.Walks.CopyWalk.{is_copied, copy_at, copy-made, copy-others}
use Rattle.base.specs.Outside.{outside_none}
use Rattle.store.specs.Stored.{nodes}
use Rattle.memo.specs.Recall.{recall}
use Rattle.store.specs.declared.nodes.Store.{Store}
use Rattle.memo.specs.declared.memo.Memo.{Memo}
use Rattle.term_copy.specs.declared.node.Copying.{Copying}
use Rattle.term_copy.specs.Places.{table_in, rows_at, Beside}
use Rattle.theory.specs.Copies.Terms.{Patterns}
use Rattle.graph.specs.Cells.{marks_in, cells-more}
use Rattle.term_copy.specs.Held.{Holding, frames_in, Going, Ready}
use Rattle.term_copy.specs.Frames.{turn_of, left_of, Advances, Runs}
use Rattle.term_copy.specs.Grown.{copied_is}
use Rattle.term_copy.specs.Turns.{length_frames}
use Rattle.term_copy.specs.Ways.{beside_then}
use Rattle.term_copy.specs.Measure.{took, unfinished-same, most, turn_less, left_grows}
use Rattle.graph.specs.declared.graph.Graph.{Graph as Counts}

-- ---- the measure
-- whether the memo has a node
abbrev pub known_in : List (Option ℕ) → ℕ → Bool
known_in os q = is_some (get_or os q none)

-- at most so many turns are left
unfoldable pub turns_most : List ℕ → List ℕ → Copying → Store → Memo → ℕ → ℕ
unfolding unfinished took is_some recall frames_in nodes
turns_most work words l st memo top = 2 * (unfinished (kids_in (nodes words st)) known_in (length (nodes words st)) (recall (table_in work l) memo) - took (kids_in (nodes words st)) (frames_in work l.walk top)) + top

module _ (words flex : List ℕ) (l : Copying) (st : Store) (memo : Memo) (P : Patterns (nodes words st)) where
  -- the store's nodes
  abbrev s : List Node
  s = nodes words st

  -- by what is held
  most_is : (work cells₀ : List ℕ) (g : Counts) (top : ℕ) (c : Copy) → Holding work words cells₀ flex l st memo g c
      → most (kids_in s) is_copied (copy_at s (marks_in flex)) (copy-made s (marks_in flex)) (copy-others s (marks_in flex)) (kids_fall s P.earlier) (length s) (kids_inside s P.earlier) (frames_in work l.walk top) c ≡ turns_most work words l st memo top
  unfolding turns_most
  most_is work cells₀ g top c H =
      let u = unfinished-same (kids_in s) is_copied known_in c (recall (table_in work l) memo) (copied_is work words cells₀ flex l st memo g c H) (length s) in
      ap₂ (λ (a b : ℕ). 2 * (a - took (kids_in s) (frames_in work l.walk top)) + b) u (length_frames work l.walk top)

  -- a turn leaves fewer
  pub run_less : (work work' cells₀ cells' : List ℕ) (g g' : Counts) (top k : ℕ) (c : Copy) → Going work words cells₀ flex l st memo P g (suc top) c → Advances work work' words cells₀ cells' flex l st memo g top (Some (k, g'))
      → turns_most work' words l st memo k < turns_most work words l st memo (suc top)
  unfolding frames_in
  run_less work work' cells₀ cells' g g' top k c G A =
      let a = A.0 P c G in
      let W = turn_of work words flex l st (suc top) c in
      let t = turn_less (kids_in s) is_copied (copy_at s (marks_in flex)) (copy-made s (marks_in flex)) (copy-others s (marks_in flex)) (kids_fall s P.earlier) (length s) (kids_inside s P.earlier) (frame (get_or work (l.walk + 2 * top) 0) (get_or work (l.walk + 2 * top + 1) 0)) (frames_in work l.walk top) c G.stacked G.sound in
      let x = most_is work cells₀ g (suc top) c G.holds in
      let y = most_is work' cells' g' k W.state a.0.holds in
      let z = ap (λ (fs : List Frame). most (kids_in s) is_copied (copy_at s (marks_in flex)) (copy-made s (marks_in flex)) (copy-others s (marks_in flex)) (kids_fall s P.earlier) (length s) (kids_inside s P.earlier) fs W.state) a.1 in
      subst (λ (i : ℕ). i < turns_most work words l st memo (suc top)) (sym z ∙ y) (subst (λ (i : ℕ). most (kids_in s) is_copied (copy_at s (marks_in flex)) (copy-made s (marks_in flex)) (copy-others s (marks_in flex)) (kids_fall s P.earlier) (length s) (kids_inside s P.earlier) W.stack W.state < i) x t)

-- ---- a copy never has fewer cells than the graph before it
copy_more : (s : List Node) (fl : List Bool) (p : ℕ) (c : Copy) → cells c.graph ≤ cells (copy_at s fl p c).graph
unfolding copy_at copy_node push
copy_more s fl p c =
    let n = get_or s p no_node in
    elim (see (is_variable n)) [
      | is true e ↦ rw (e, copy_node) (omega (arith, cells-more c.graph (variable_vertex (get_or n.args 1 0) (get_or fl (get_or n.args 0 0) false) false)))
      | is false e ↦ rw (e, copy_node) (omega (arith, cells-more c.graph (applied n.head (map (copied c.nodes) n.args))))
    ]

-- ---- the run so far
pub record Running (work₀ work words cells flex : List ℕ) (l : Copying) (st : Store) (memo : Memo) (P : Patterns (nodes words st)) (g : Counts) (top : ℕ) (c₀ : Copy) : Type 0 where
  pub state : Copy
  pub going : Going work words cells flex l st memo P g top state
  pub rest : left_of work words flex l st top state ≡ left_of work₀ words flex l st 1 c₀

-- of whatever was held at its start
pub record Loops (work₀ work words cells₀ cells flex : List ℕ) (l : Copying) (st : Store) (memo : Memo) (g₀ g : Counts) (top : ℕ) : Type 0 where
  pub long : length cells ≡ length cells₀
  pub beside : Beside work₀ work cells₀ l
  pub runs : (P : Patterns (nodes words st)) (c : Copy) → Going work₀ words cells₀ flex l st memo P g₀ 1 c → Running work₀ work words cells flex l st memo P g top c

-- before the first turn
pub loops_first : (work words cells₀ flex : List ℕ) (l : Copying) (st : Store) (memo : Memo) (g : Counts) → Loops work work words cells₀ cells₀ flex l st memo g g 1
loops_first work words cells₀ flex l st memo g = record { long = refl; beside = outside_none l.copied (rows_at cells₀ l) work; runs = λ P c G. record { state = c; going = G; rest = refl } }

module _ (work₀ work words cells₀ cells₁ flex : List ℕ) (l : Copying) (st : Store) (memo : Memo) (g₀ g : Counts) where
  -- with a frame left
  pub loops_at : (top : ℕ) → 0 < top → Loops work₀ work words cells₀ cells₁ flex l st memo g₀ g top → Loops work₀ work words cells₀ cells₁ flex l st memo g₀ g (suc (top - 1))
  loops_at top h L = let e : top ≡ suc (top - 1) = omega arith in subst (λ (k : ℕ). Loops work₀ work words cells₀ cells₁ flex l st memo g₀ g k) e L

  -- a turn can be made
  pub loops_ready : (top : ℕ) → Loops work₀ work words cells₀ cells₁ flex l st memo g₀ g top → Ready work₀ words cells₀ flex l st memo g₀ 1 → Ready work words cells₁ flex l st memo g top
  loops_ready top L R = let r = L.runs R.0 R.1 R.2 in (R.0, r.state, r.going)

  -- no frame is left
  pub loops_done : (top : ℕ) → top ≡ 0 → Loops work₀ work words cells₀ cells₁ flex l st memo g₀ g top → Runs work₀ work words cells₀ cells₁ flex l st memo g₀ 1 (Some (0, g))
  unfolding frames_in
  loops_done top z L = (
    λ P c G.
        let r = L.runs P c G in
        let e : left_of work words flex l st top r.state ≡ r.state = ap (λ (k : ℕ). left_of work words flex l st k r.state) z ∙ left-none (kids_in (nodes words st)) is_copied (copy_at (nodes words st) (marks_in flex)) (length (nodes words st)) r.state in
        subst (λ (d : Copy). Holding work words cells₁ flex l st memo g d) (sym e ∙ r.rest) r.going.holds,
    L.beside,
  )

  module _ (top : ℕ) (L : Loops work₀ work words cells₀ cells₁ flex l st memo g₀ g (suc top)) (work' cells' : List ℕ) where
    -- what a turn leaves gives what was left
    kept : (P : Patterns (nodes words st)) (c : Copy) (G : Going work words cells₁ flex l st memo P g (suc top) c)
        → left (kids_in (nodes words st)) is_copied (copy_at (nodes words st) (marks_in flex)) (length (nodes words st)) (turn_of work words flex l st (suc top) c).stack (turn_of work words flex l st (suc top) c).state ≡ left_of work words flex l st (suc top) c
    unfolding frames_in
    kept P c G = (turn-kept (kids_in (nodes words st)) is_copied (copy_at (nodes words st) (marks_in flex)) (λ m. m) (kids_fall (nodes words st) P.earlier) (length (nodes words st)) (frame (get_or work (l.walk + 2 * top) 0) (get_or work (l.walk + 2 * top + 1) 0)) (frames_in work l.walk top) c G.stacked).result

    -- a turn more
    pub loops_on : (g' : Counts) (k : ℕ) → length cells' ≡ length cells₁ → Advances work work' words cells₁ cells' flex l st memo g top (Some (k, g')) → Loops work₀ work' words cells₀ cells' flex l st memo g₀ g' k
    loops_on g' k e A = record {
      long = e ∙ L.long;
      beside = beside_then work₀ work work' cells₀ cells₁ l L.long L.beside A.1;
      runs = λ P c G.
          let r = L.runs P c G in
          let a = A.0 P r.state r.going in
          let W = turn_of work words flex l st (suc top) r.state in
          record {
            state = W.state;
            going = a.0;
            rest = ap (λ (fs : List Frame). left (kids_in (nodes words st)) is_copied (copy_at (nodes words st) (marks_in flex)) (length (nodes words st)) fs W.state) a.1 ∙ kept P r.state r.going ∙ r.rest;
          };
    }

    -- it leaves fewer
    loops_less : (g' : Counts) (k : ℕ) → Advances work work' words cells₁ cells' flex l st memo g top (Some (k, g')) → Ready work₀ words cells₀ flex l st memo g₀ 1 → turns_most work' words l st memo k < turns_most work words l st memo (suc top)
    loops_less g' k A R = let r = L.runs R.0 R.1 R.2 in run_less words flex l st memo R.0 work work' cells₁ cells' g g' top k r.state r.going A

    -- a turn without room: what is left to copy has no fewer cells
    pub loops_short : Advances work work' words cells₁ cells' flex l st memo g top None → Runs work₀ work' words cells₀ cells' flex l st memo g₀ 1 None
    loops_short A = (
      λ P c G.
          let r = L.runs P c G in
          let W = turn_of work words flex l st (suc top) r.state in
          let s = nodes words st in
          let m = left_grows (kids_in s) is_copied (copy_at s (marks_in flex)) (λ (d : Copy). cells d.graph) (λ p d. copy_more s (marks_in flex) p d) (length s) W.stack W.state in
          let e = ap (λ (d : Copy). cells d.graph) (kept P r.state r.going ∙ r.rest) in
          omega (arith, m, e, A.0 P r.state r.going, L.long),
      beside_then work₀ work work' cells₀ cells₁ l L.long L.beside A.1,
    )

  -- fewer turns are left
  pub loops_fewer : (top : ℕ) → 0 < top → Loops work₀ work words cells₀ cells₁ flex l st memo g₀ g top → Ready work₀ words cells₀ flex l st memo g₀ 1 → (work' cells' : List ℕ) (g' : Counts) (k : ℕ)
      → Advances work work' words cells₁ cells' flex l st memo g (top - 1) (Some (k, g')) → turns_most work' words l st memo k < turns_most work words l st memo top
  loops_fewer top h L R work' cells' g' k A =
      let e : top ≡ suc (top - 1) = omega arith in
      subst (λ (i : ℕ). turns_most work' words l st memo k < turns_most work words l st memo i) (sym e) (loops_less (top - 1) (loops_at top h L) work' cells' g' k A R)
