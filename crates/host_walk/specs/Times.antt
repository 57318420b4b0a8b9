-- Copying so many times: what is held between two copies, and what is answered.
use Rattle.std.specs.Prelude.{Option, Some, None}
use Rattle.std.specs.Prelude.{◌≡◌, refl, get_or, take, drop}
use Rattle.std.proofs.Common.{sym, ◌∙◌, add-one}
use Rattle.std.proofs.Math.Path.{ap, subst}
use mathlib.Core.List.{List, []}
use Prim.Native.Nat.{ℕ, zero, suc, ◌+◌, ◌-◌, ◌≤◌, ◌<◌}
use native.Mathlib.Omega.{arith}
use Rattle.std.proofs.Math.Decide.{ℕ_discrete}
use Rattle.std.proofs.Math.ListN.{length}
use Rattle.definition.specs.Graph.{Grown, cells as cells_of}
use Rattle.definition.specs.Store.{nothing}
use Rattle.base.specs.Part.{part, put, part_same, length_part, length-put, part-put, put-before}
use Rattle.base.specs.declared.id.Node.{Node as Id}
use Rattle.store.specs.Stored.{Stored, nodes}
use Rattle.memo.specs.Recall.{Remembers}
use Rattle.memo.specs.Lent.{Clears}
use Rattle.store.specs.declared.nodes.Store.{Store}
use Rattle.memo.specs.declared.memo.Memo.{Memo}
use Rattle.graph.specs.declared.graph.Graph.{Graph as Counts}
use Rattle.graph.specs.Cells.{Shows, marks_in}
use Rattle.term_copy.specs.declared.node.Copying.{Copying}
use Rattle.term_copy.specs.Held.{index_in, graph_in, Laid, Given, Copies}
use Rattle.term_copy.specs.Places.{table_in}
use Rattle.theory.specs.Copies.Terms.{Patterns}
use Rattle.host_walk.specs.Copies.{copied_times}
use Rattle.host_walk.specs.Plain.{Plain, plain_none, plain_inner, copy_plain, copy_inside, copy_grows}

-- ---- what is asked and answered
-- a graph without nodes
pub record NewGraph (work work' cells : List ℕ) (l : Copying) (g : Counts) : Type 0 where
  pub long : length work' ≡ length work
  pub shows : Shows cells (graph_in work' l) g []
  pub ahead : (i : ℕ) → i < l.graph → get_or work' i 0 ≡ get_or work i 0

-- a store of patterns, with this one among them, and room for copies
pub record Started (work words cells flex : List ℕ) (l : Copying) (st : Store) (p : ℕ) : Type 0 where
  pub laid : Laid work words cells flex l
  pub stored : Stored (index_in work l) words st
  pub patterns : Patterns (nodes words st)
  pub small : length cells < nothing
  pub given : p < length (nodes words st)

-- so many copies of it
abbrev pub times_of : List ℕ → List ℕ → Store → ℕ → ℕ → Grown
times_of words flex st p i = copied_times i (nodes words st) (marks_in flex) p

-- i copies stand in the graph; before: the words as the first one began
pub record Timing (before work words cells₀ cells flex : List ℕ) (l : Copying) (st : Store) (memo : Memo) (g : Counts) (p i last : ℕ) : Type 0 where
  pub long : length work ≡ length before
  pub many : length cells ≡ length cells₀
  pub ahead : (j : ℕ) → j < l.copied → get_or work j 0 ≡ get_or before j 0
  pub remembers : Remembers (table_in work l) memo
  pub shows : Shows cells (graph_in work l) g (times_of words flex st p i).graph
  pub plain : Plain (times_of words flex st p i).graph
  pub last_is : last ≡ (times_of words flex st p i).at

-- all copies stand there, or they take more cells than there are
abbrev pub Timed : List ℕ → List ℕ → List ℕ → List ℕ → List ℕ → List ℕ → Copying → Store → ℕ → ℕ → Option (Id × Counts) → Type 0
Timed before work words cells₀ cells flex l st p n (Some (x, g)) = (memo : Memo) × Timing before work words cells₀ cells flex l st memo g p n x.0
Timed before work words cells₀ cells flex l st p n None = length cells₀ < cells_of (times_of words flex st p n).graph

-- ---- the beginning
-- the graph's table came back
pub new_graph : (work cells : List ℕ) (l : Copying) → l.graph ≤ l.end → l.end ≤ length work → (table : List ℕ) → length table ≡ length (take (l.end - l.graph) (drop l.graph work)) → (g : Counts) → Shows cells table g []
    → NewGraph work (put l.graph (l.end - l.graph) table work) cells l g
unfolding part
new_graph work cells l h k table n g S =
    let fits : l.graph + (l.end - l.graph) ≤ length work = omega arith in
    let long : length table ≡ l.end - l.graph = n ∙ length_part l.graph (l.end - l.graph) work fits in
    record {
      long = length-put l.graph (l.end - l.graph) work fits table long;
      shows = subst (λ (t : List ℕ). Shows cells t g []) (sym (part-put l.graph (l.end - l.graph) work fits table long)) S;
      ahead = λ i a. put-before l.graph (l.end - l.graph) work fits table long i a;
    }

module _ (before words cells₀ flex : List ℕ) (l : Copying) (st : Store) (p : ℕ) (A : Started before words cells₀ flex l st p) where
  -- ahead of the first
  module _ (work₁ work₂ : List ℕ) (memo : Memo) (g : Counts) (M : Clears before work₁ l.copied l.walk memo) (G : NewGraph work₁ work₂ cells₀ l g) where
    -- nothing ahead of the memo has changed
    none_ahead : (j : ℕ) → j < l.copied → get_or work₂ j 0 ≡ get_or before j 0
    none_ahead j h = let L = A.laid in G.ahead j (omega (arith, L.table, L.stack, L.marks)) ∙ M.outside.ahead j h

    -- all stands as it stood
    pub started_on : Started work₂ words cells₀ flex l st p
    started_on =
        let L = A.laid in
        let fits : l.copied ≤ length before = omega (arith, L.table, L.stack, L.marks, L.rows, L.inside) in
        let same : index_in work₂ l ≡ index_in before l = part_same l.index (l.copied - l.index) work₂ before (omega (arith, L.index, fits, G.long, M.outside.long)) (omega (arith, L.index, fits)) (λ j h. none_ahead (l.index + j) (omega arith)) in
        record {
          laid = record { index = L.index; table = L.table; stack = L.stack; marks = L.marks; rows = L.rows; inside = omega (arith, L.inside, G.long, M.outside.long) };
          stored = subst (λ (xs : List ℕ). Stored xs words st) (sym same) A.stored;
          patterns = A.patterns;
          small = A.small;
          given = A.given;
        }

    -- with no copy
    pub timing_none : Timing work₂ work₂ words cells₀ cells₀ flex l st memo g p 0 0
    unfolding copied_times part
    timing_none =
        let L = A.laid in
        let same : table_in work₂ l ≡ table_in work₁ l = part_same l.copied (l.walk - l.copied) work₂ work₁ (omega (arith, L.table, L.stack, L.marks, L.rows, L.inside, G.long, M.outside.long)) (omega (arith, L.table, L.stack, L.marks, L.rows, L.inside, M.outside.long)) (λ i h. G.ahead (l.copied + i) (omega (arith, L.table, L.stack, L.marks))) in
        record {
          long = refl;
          many = refl;
          ahead = λ j h. refl;
          remembers = subst (λ (t : List ℕ). Remembers t memo) (sym same) M.remembers;
          shows = G.shows;
          plain = plain_none;
          last_is = refl;
        }

    -- what is answered from there on is answered from the start
    pub timed_from : (work' cells' : List ℕ) (i n : ℕ) → i ≡ n → (x : Id) (memo' : Memo) (g' : Counts) → Timing work₂ work' words cells₀ cells' flex l st memo' g' p i x.0 → Timed before work' words cells₀ cells' flex l st p n (Some (x, g'))
    timed_from work' cells' i n e x memo' g' T = rw (← e) (
      memo',
      record {
        long = T.long ∙ G.long ∙ M.outside.long;
        many = T.many;
        ahead = λ j h. T.ahead j h ∙ none_ahead j h;
        remembers = T.remembers;
        shows = T.shows;
        plain = T.plain;
        last_is = T.last_is;
      },
    )

  module _ (work cells : List ℕ) (memo : Memo) (g : Counts) (i last : ℕ) (T : Timing before work words cells₀ cells flex l st memo g p i last) where
    -- another copy may be made
    pub timing_given : Given work words cells flex l st memo g × (p < length (nodes words st))
    timing_given =
        let L = A.laid in
        let fits : l.copied ≤ length before = omega (arith, L.table, L.stack, L.marks, L.rows, L.inside) in
        let same : index_in work l ≡ index_in before l = part_same l.index (l.copied - l.index) work before (omega (arith, L.index, fits, T.long)) (omega (arith, L.index, fits)) (λ j h. T.ahead (l.index + j) (omega arith)) in (
          record {
            laid = record { index = L.index; table = L.table; stack = L.stack; marks = L.marks; rows = omega (arith, L.rows, T.many); inside = omega (arith, L.inside, T.long) };
            stored = subst (λ (xs : List ℕ). Stored xs words st) (sym same) A.stored;
            patterns = A.patterns;
            remembers = T.remembers;
            graph = ((times_of words flex st p i).graph, T.shows, plain_inner (times_of words flex st p i).graph T.plain);
          },
          A.given,
        )

    -- it is made
    pub timing_more : (work' cells' : List ℕ) → length cells' ≡ length cells → (x : Id) (g' : Counts) (memo' : Memo) → Copies work work' words cells cells' flex l st g p (Some (x, g', memo')) → Timing before work' words cells₀ cells' flex l st memo' g' p (i + 1) x.0
    unfolding copied_times
    timing_more work' cells' long x g' memo' C =
        let h = (times_of words flex st p i).graph in
        let m = C.0 h T.shows (plain_inner h T.plain) in
        rw (add-one i) (record {
          long = C.2.long ∙ T.long;
          many = long ∙ T.many;
          ahead = λ j a. C.2.ahead j a ∙ T.ahead j a;
          remembers = C.1;
          shows = m.shows;
          plain = copy_plain (nodes words st) (marks_in flex) A.patterns h p A.given T.plain;
          last_is = m.node;
        })

    -- more copies take no fewer cells
    times-grow : (k n : ℕ) → k ≤ n → cells_of (times_of words flex st p k).graph ≤ cells_of (times_of words flex st p n).graph
    unfolding copied_times
    times-grow k zero h = let e : k ≡ 0 = omega arith in omega (arith, ap (λ (m : ℕ). cells_of (times_of words flex st p m).graph) e)
    times-grow k (suc n) h = elim (ℕ_discrete k (suc n)) [
      | yes e ↦ omega (arith, ap (λ (m : ℕ). cells_of (times_of words flex st p m).graph) e)
      | no d ↦ omega (arith, times-grow k n (omega (arith, d)), copy_grows (nodes words st) (marks_in flex) A.patterns (times_of words flex st p n).graph p)
    ]

    -- there is no room for it
    pub timing_short : (work' cells' : List ℕ) (n : ℕ) → i < n → Copies work work' words cells cells' flex l st g p None → Timed before work' words cells₀ cells' flex l st p n None
    unfolding copied_times
    timing_short work' cells' n less C =
        let h = (times_of words flex st p i).graph in
        let m : length cells < cells_of (times_of words flex st p (suc i)).graph = C.0 h T.shows (plain_inner h T.plain) in
        omega (arith, m, times-grow (suc i) n (omega arith), T.many)

-- the last copy is a node, if there is one
pub last_inside : (words flex : List ℕ) (st : Store) (p n : ℕ) → Patterns (nodes words st) → p < length (nodes words st) → Plain (times_of words flex st p n).graph → 0 < n → (times_of words flex st p n).at < length (times_of words flex st p n).graph
unfolding copied_times
last_inside words flex st p zero Q h l s = absurd (omega arith)
last_inside words flex st p (suc n) Q h l s = copy_inside (nodes words st) (marks_in flex) Q (times_of words flex st p n).graph p h (all_plain words flex st p Q h n)
  where
    all_plain : (words flex : List ℕ) (st : Store) (p : ℕ) → Patterns (nodes words st) → p < length (nodes words st) → (n : ℕ) → Plain (times_of words flex st p n).graph
    all_plain words flex st p Q h zero = plain_none
    all_plain words flex st p Q h (suc n) = copy_plain (nodes words st) (marks_in flex) Q (times_of words flex st p n).graph p h (all_plain words flex st p Q h n)
