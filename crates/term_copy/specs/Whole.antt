-- The whole of a copy: what is held at its beginning, and what is answered at its end.
use Rattle.std.specs.Prelude.{Option, Some, None}
use Rattle.std.specs.Prelude.{◌≡◌, refl, ℕ, suc, ◌+◌, ◌*◌, ◌-◌, ◌≤◌, ◌<◌}
use Rattle.std.proofs.Common.{sym, ap, ◌∙◌}
use Rattle.std.proofs.Math.Path.{ap₂, subst}
use mathlib.Core.List.{List, [], ◌∷◌}
use native.Mathlib.Omega.{arith}
use Rattle.std.proofs.Math.ListN.{length, get_or}
use Rattle.definition.specs.Test.{never}
use Rattle.definition.specs.Verdict.{value_of}
use Rattle.definition.specs.Graph.{Graph, cells}
use Rattle.definition.specs.Analysis.{Copy, copy}
use Rattle.theory.specs.Unification.Like.{Like}
use Rattle.theory.specs.Copies.Parts.{kids_in, kids_fall, kids_inside}
use Rattle.theory.specs.Walks.Walk.{walk, walk_fuel}
use Rattle.theory.specs.Walks.Machine.{Frame, frame, Stacked, left, left-new, left-none}
use Rattle.theory.specs.Walks.WalkReady.{Sound, sound_new}
use Rattle.theory.specs.Walks.CopyWalk.{no_copy, is_copied, copy_at, copy-made, copy-others, copy_walk}
use Rattle.base.specs.Part.{part, part_at, length_part}
use Rattle.base.specs.Lent.{lent-ahead}
use Rattle.store.specs.Stored.{Stored, nodes}
use Rattle.memo.specs.Recall.{recall}
use Rattle.store.specs.declared.nodes.Store.{Store}
use Rattle.memo.specs.declared.memo.Memo.{Memo}
use Rattle.graph.specs.Cells.{rest_at, start_in, Shows, rows_end, nodes_few, graph_kept, marks_in}
use Rattle.theory.specs.Unification.Inner.{Inner}
use Rattle.term_copy.specs.declared.node.Copying.{Copying}
use Rattle.term_copy.specs.Held.{index_in, graph_in, Given, Holding, Going, Ready, frames_in, Copies}
use Rattle.term_copy.specs.Places.{table_in, rows_at, rows_in, copy_in, Apart, Beside}
use Rattle.term_copy.specs.Frames.{left_of, Runs, Begins}
use Rattle.term_copy.specs.Grown.{copy_is, memo_room}
use Rattle.base.specs.declared.id.Node.{Node as Id}
use Rattle.graph.specs.declared.graph.Graph.{Graph as Counts}

-- ---- a graph is held by its rows, whatever stands behind them
pub shows_by : (words table table' : List ℕ) (s : Counts) (g : Graph) → rows_end words ≤ length table' → ((i : ℕ) → i < rows_end words → get_or table' i 0 ≡ get_or table i 0) → Shows words table s g → Shows words table' s g
shows_by words table table' s g wide same S =
    let L = S.laid in
    let few = nodes_few words table s L in
    let start : (i : ℕ) → i ≤ s.nodes → start_in table' i ≡ start_in table i = λ i h. same (2 * i) (omega (arith, few, L.fits)) in
    let e = graph_kept words table words table' s L refl (λ i h. same i (omega (arith, few, L.fits))) (λ i h. same (rest_at words + i) (omega (arith, few, L.fits))) (λ i h. refl) s.nodes (omega arith) in
    record {
      laid = record {
        wide = wide;
        first = same 0 (omega arith) ∙ L.first;
        rising = λ i h. omega (arith, start i (omega arith), start (suc i) (omega arith), L.rising i h);
        end = start s.nodes (omega arith) ∙ L.end;
        fits = L.fits;
        small = L.small;
      };
      like = subst (λ (h : Graph). Like h g) (sym e) S.like;
    }

-- the rows of a part from a to b, and of one from a to c in other words
rows-part : (a b c m : ℕ) (xs ys : List ℕ) → a + m ≤ b → a + m ≤ c → ((i : ℕ) → a ≤ i → i < a + m → get_or ys i 0 ≡ get_or xs i 0) → (i : ℕ) → i < m → get_or (part a (c - a) ys) i 0 ≡ get_or (part a (b - a) xs) i 0
rows-part a b c m xs ys h k same i l = part_at a (c - a) ys i (omega arith) ∙ same (a + i) (omega arith) (omega arith) ∙ sym (part_at a (b - a) xs i (omega arith))

module _ (work words cells₀ flex : List ℕ) (l : Copying) (st : Store) (memo : Memo) (g : Counts) (Y : Given work words cells₀ flex l st memo g) (p : ℕ) (given : p < length (nodes words st))
    (work₁ : List ℕ) (fresh : Memo) (B : Begins work work₁ flex l p fresh) where
  -- the regions as the leaves ask for them
  apart : Apart work cells₀ flex l
  apart = let L = Y.laid in record { index = L.index; table = omega (arith, L.table); stack = omega (arith, L.stack); marks = L.marks; rows = omega (arith, L.rows, L.inside) }

  -- ---- the beginning
  module _ (h : Graph) (S : Shows cells₀ (graph_in work l) g h) (I : Inner h) where
    -- the graph is held, with nothing copied
    first-held : Holding work₁ words cells₀ flex l st fresh g (no_copy h)
    unfolding value_of
    first-held =
        let A = apart in
        let O = B.outside in
        let i : index_in work₁ l ≡ index_in work l = lent-ahead l.copied (l.variables + length flex) work work₁ O l.index l.copied A.index (omega arith) (omega (arith, A.table, A.stack, A.marks, A.rows)) in
        record {
          apart = record { index = A.index; table = A.table; stack = A.stack; marks = A.marks; rows = omega (arith, A.rows, O.long) };
          room = record { table = Y.laid.table; stack = Y.laid.stack };
          stored = subst (λ (xs : List ℕ). Stored xs words st) (sym i) Y.stored;
          remembers = B.remembers;
          shows = shows_by cells₀ (graph_in work l) (rows_in work₁ cells₀ l) g h (omega (arith, length_part l.graph (rows_at cells₀ l - l.graph) work₁ (omega (arith, A.rows, O.long))))
              (rows-part l.graph l.end (rows_at cells₀ l) (rows_end cells₀) work work₁ Y.laid.rows (omega arith) (λ j a b. O.behind j (omega (arith, A.marks)))) S;
          inner = I;
          values = B.empty;
          inside = λ q x e. never (cc);
          variables = B.variables;
        }

    -- the pattern has a frame
    one-frame : frames_in work₁ l.walk 1 ≡ frame p 0 ∷ []
    unfolding frames_in
    one-frame =
        let a : l.walk + 2 * 0 ≡ l.walk = omega arith in
        let b : l.walk + 2 * 0 + 1 ≡ l.walk + 1 = omega arith in
        ap₂ (λ (x i : ℕ). frame x i ∷ []) (ap (λ (j : ℕ). get_or work₁ j 0) a ∙ B.node) (ap (λ (j : ℕ). get_or work₁ j 0) b ∙ B.taken)

    -- so a walk begins
    pub first_going : Going work₁ words cells₀ flex l st fresh Y.patterns g 1 (no_copy h)
    first_going =
        let s = nodes words st in
        let E = Y.patterns.earlier in
        record {
          holds = first-held;
          stacked = subst (λ (fs : List Frame). Stacked (kids_in s) is_copied (copy_at s (marks_in flex)) (λ m. m) (kids_fall s E) 0 (length s) fs) (sym one-frame) (omega arith, omega arith);
          sound = subst (λ (fs : List Frame). Sound (kids_in s) is_copied (copy_at s (marks_in flex)) (copy-made s (marks_in flex)) (copy-others s (marks_in flex)) (λ m. m) (kids_fall s E) (length s) (kids_inside s E) (no_copy h) fs) (sym one-frame)
              (sound_new (kids_in s) is_copied (copy_at s (marks_in flex)) (copy-made s (marks_in flex)) (copy-others s (marks_in flex)) (λ m. m) (kids_fall s E) (length s) (kids_inside s E) p (no_copy h) given);
        }

    -- what the frame gives is the definition's copy
    whole : left_of work₁ words flex l st 1 (no_copy h) ≡ copy (nodes words st) (marks_in flex) h p
    whole =
        let s = nodes words st in
        let f = copy_at s (marks_in flex) in
        ap (λ (fs : List Frame). left (kids_in s) is_copied f (length s) fs (no_copy h)) one-frame
        ∙ left-new (kids_in s) is_copied f (length s) p [] (no_copy h)
        ∙ left-none (kids_in s) is_copied f (length s) (walk (kids_in s) is_copied f (length s) (p ∷ []) (no_copy h))
        ∙ walk_fuel (kids_in s) is_copied f (λ m. m) (kids_fall s Y.patterns.earlier) (length s) (suc p) (p ∷ []) (no_copy h) (given, tt) (omega arith, tt)
        ∙ sym (copy_walk s (marks_in flex) h p)

  -- whatever inner graph is held
  pub first_ready : Ready work₁ words cells₀ flex l st fresh g 1
  first_ready = (Y.patterns, no_copy Y.graph.0, first_going Y.graph.0 Y.graph.1 Y.graph.2)

  -- ---- the end
  module _ (work₂ cells₂ : List ℕ) where
    -- what was written is apart
    beside_both : Beside work₁ work₂ cells₀ l → Beside work work₂ cells₀ l
    beside_both N =
        let O = B.outside in
        record { long = N.long ∙ O.long; ahead = λ i a. N.ahead i a ∙ O.ahead i a; behind = λ i a. N.behind i a ∙ O.behind i (omega (arith, Y.laid.marks)) }

    -- there was no room
    pub copies_short : (r : Option (ℕ × Counts)) → r ≡ None → Runs work₁ work₂ words cells₀ cells₂ flex l st fresh g 1 r → Copies work work₂ words cells₀ cells₂ flex l st g p None
    copies_short r e R₀ =
        let R = subst (λ (o : Option (ℕ × Counts)). Runs work₁ work₂ words cells₀ cells₂ flex l st fresh g 1 o) e R₀ in
        (λ h S I. omega (arith, R.0 Y.patterns (no_copy h) (first_going h S I), ap (λ (d : Copy). cells d.graph) (whole h S I)), beside_both R.1)

    module _ (k : ℕ) (g' : Counts) (r : Option (ℕ × Counts)) (e : r ≡ Some (k, g')) (R₀ : Runs work₁ work₂ words cells₀ cells₂ flex l st fresh g 1 r) where
      -- the run's answer
      R : Runs work₁ work₂ words cells₀ cells₂ flex l st fresh g 1 (Some (k, g'))
      R = subst (λ (o : Option (ℕ × Counts)). Runs work₁ work₂ words cells₀ cells₂ flex l st fresh g 1 o) e R₀

      -- the definition's copy is held
      held : (h : Graph) → Shows cells₀ (graph_in work l) g h → Inner h → Holding work₂ words cells₂ flex l st fresh g' (copy (nodes words st) (marks_in flex) h p)
      held h S I = subst (λ (d : Copy). Holding work₂ words cells₂ flex l st fresh g' d) (whole h S I) (R.0 Y.patterns (no_copy h) (first_going h S I))

      -- of the graph that is given, too
      any_held : Holding work₂ words cells₂ flex l st fresh g' (copy (nodes words st) (marks_in flex) Y.graph.0 p)
      any_held = held Y.graph.0 Y.graph.1 Y.graph.2

      -- what reading the pattern's copy asks
      pub end-table : l.copied ≤ l.walk
      end-table = apart.table

      -- its table is within
      pub end_inside : l.walk ≤ length work₂
      end_inside = let A = any_held.apart in omega (arith, A.stack, A.marks, A.rows)

      -- and has a place for it
      pub end_known : p < length (recall (table_in work₂ l) fresh)
      end_known = omega (arith, given, memo_room work₂ words cells₂ flex l st fresh any_held.apart any_held.room any_held.stored)

      -- the answer
      pub copies_at : length cells₂ ≡ length cells₀ → (x : Id) → x.0 ≡ copy_in work₂ l fresh p → Copies work work₂ words cells₀ cells₂ flex l st g p (Some (x, g', fresh))
      copies_at long x f = (
        λ h S I.
            let d = copy (nodes words st) (marks_in flex) h p in
            let H = held h S I in
            let N = beside_both R.1 in
            record {
              node = f ∙ copy_is work₂ words cells₂ flex l st fresh g' d H p;
              shows = shows_by cells₂ (rows_in work₂ cells₂ l) (graph_in work₂ l) g' d.graph (omega (arith, length_part l.graph (l.end - l.graph) work₂ (omega (arith, Y.laid.rows, Y.laid.inside, N.long)), Y.laid.rows, long))
                  (rows-part l.graph (rows_at cells₂ l) l.end (rows_end cells₂) work₂ work₂ (omega arith) (omega (arith, Y.laid.rows, long)) (λ i a b. refl)) H.shows;
              inner = H.inner;
              variables = H.variables;
            },
        any_held.remembers,
        beside_both R.1,
      )
