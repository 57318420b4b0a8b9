-- A rule's variables as the first nodes of a graph.
use Rattle.std.specs.Prelude.{Option, Some, None}
use Rattle.std.specs.Prelude.{◌≡◌, refl, false, List, [], ◌∷◌, ◌++◌, map, ℕ, suc, ◌+◌, ◌-◌, ◌≤◌, ◌<◌, length, get_or, take}
use Rattle.std.proofs.Common.{sym, ap, ◌∙◌, arith, take-suc, length-take-le}
use Rattle.std.proofs.Math.Seq.{take-length}
use Rattle.definition.specs.Pack.{Pack, rule_of}
use Rattle.definition.specs.Graph.{Vertex, Graph, variable_vertex, cells as cells_of}
use Rattle.definition.specs.Store.{nothing}
use Rattle.base.specs.Outside.{outside_none, outside_then}
use Rattle.pack_tables.specs.Catalog.{records_of}
use Rattle.pack_tables.specs.SameTables.{Same}
use Rattle.pack_tables.specs.declared.catalog.Catalog.{Catalog}
use Rattle.pack_read.specs.Reads.{Reads}
use Rattle.pack_read.specs.Held.{Proper, Held, held_on, reads_on}
use Rattle.graph.specs.declared.graph.Graph.{Graph as Counts}
use Rattle.graph.specs.Cells.{mark_in, rows_end, Shows, Unchanged}
use Rattle.graph.specs.Pushes.{Pushes}
use Rattle.theory.specs.Unification.Inner.{Inner, inner_more}
use Rattle.base.specs.Part.{put, length_part}
use Rattle.base.specs.declared.id.Node.{Node}
use Rattle.term_instantiate.specs.declared.terms.Place.{Place}
use Rattle.term_instantiate.specs.Building.{table_in, Room, Beside, beside_same}
use Rattle.term_instantiate.specs.Turns.{lent-table, lent_outside}

-- variables of these sorts, neither flexible nor rigid
abbrev pub variables_of : List ℕ → Graph
variables_of sorts = map (λ so. variable_vertex so false false) sorts

-- what is asked: a rule of the pack held, its variables counted, and room for the table
pub record Opening (bytes work cells : List ℕ) (c : Catalog) (l : Place) : Type 0 where
  pub held : Held bytes work c
  pub room : Room work cells c l
  pub rule : l.rule < length held.pack.rules
  pub many : l.vars ≡ length (rule_of held.pack l.rule).vars
  pub small : length cells < nothing

-- what is answered: a graph of the variables alone, or that they are more than there are cells
abbrev pub Opens : List ℕ → List ℕ → List ℕ → List ℕ → List ℕ → Catalog → Place → Option Counts → Type 0
Opens bytes work work' cells cells' c l (Some g) =
    Beside work work' cells l
    × ((P : Pack) → Reads bytes (records_of work c) P → Proper P → l.vars ≡ length (rule_of P l.rule).vars → Shows cells' (table_in work' l) g (variables_of (rule_of P l.rule).vars) × Inner (variables_of (rule_of P l.rule).vars))
Opens bytes work work' cells cells' c l None = (P : Pack) → Reads bytes (records_of work c) P → Proper P → l.vars ≡ length (rule_of P l.rule).vars → length cells < cells_of (variables_of (rule_of P l.rule).vars)

-- the table is long enough for the rows
pub table_long : (work cells : List ℕ) (c : Catalog) (l : Place) → Room work cells c l → rows_end cells ≤ length (table_in work l)
table_long work cells c l R = omega (arith, length_part l.at (l.end - l.at) work (omega (arith, R.fits, R.within)), R.fits)

-- one variable more
variables_more : (sorts : List ℕ) (k : ℕ) → k < length sorts → variables_of (take (suc k) sorts) ≡ variables_of (take k sorts) ++ (variable_vertex (get_or sorts k 0) false false ∷ [])
variables_more sorts k h = ap variables_of (take-suc sorts k 0 h) ∙ map-append (take k sorts) (get_or sorts k 0)
  where
    map-append : (xs : List ℕ) (x : ℕ) → variables_of (xs ++ (x ∷ [])) ≡ variables_of xs ++ (variable_vertex x false false ∷ [])
    map-append [] x = refl
    map-append (y ∷ xs) x = ap (λ (g : Graph). variable_vertex y false false ∷ g) (map-append xs x)

-- a cell each
variables_cells : (sorts : List ℕ) → cells_of (variables_of sorts) ≡ length sorts
unfolding cells_of
variables_cells [] = refl
variables_cells (s ∷ sorts) = let ih = variables_cells sorts in omega arith

-- ---- the first k variables are there; before: the words as the loop began
pub record First (bytes before cells₀ : List ℕ) (c : Catalog) (l : Place) (work cells : List ℕ) (g : Counts) (k : ℕ) : Type 0 where
  pub outside : Beside before work cells₀ l
  pub many : length cells ≡ length cells₀
  pub low : k ≤ l.vars
  pub shows : (P : Pack) → Reads bytes (records_of before c) P → l.vars ≡ length (rule_of P l.rule).vars
      → Shows cells (table_in work l) g (variables_of (take k (rule_of P l.rule).vars)) × Inner (variables_of (take k (rule_of P l.rule).vars))

pub first-none : (bytes before cells₀ : List ℕ) (c : Catalog) (l : Place) (g : Counts) → Shows cells₀ (table_in before l) g [] → First bytes before cells₀ c l before cells₀ g 0
first-none bytes before cells₀ c l g S = record { outside = outside_none l.at (l.at + rows_end cells₀) before; many = refl; low = omega arith; shows = λ P R e. (S, λ x h. absurd (omega arith)) }

module _ (bytes before cells₀ : List ℕ) (c : Catalog) (l : Place) (H : Held bytes before c) (R₀ : Room before cells₀ c l) (work cells : List ℕ) (g : Counts) (k : ℕ) (F : First bytes before cells₀ c l work cells g k) where
  pub first-same : Same before work c
  first-same = beside_same before work cells₀ c l R₀ F.outside

  -- the pack is held still, and the table has its room
  abbrev pub first-held : Held bytes work c
  first-held = held_on bytes before work c first-same H

  pub first_reads : (P : Pack) → Reads bytes (records_of before c) P → Reads bytes (records_of work c) P
  first_reads P R = reads_on bytes before work c first-same H.cataloged P R

  pub first-room : Room work cells c l
  first-room = record { behind = R₀.behind; fits = omega (arith, R₀.fits, F.many); within = omega (arith, R₀.within, F.outside.long) }

  module _ (some : k < l.vars) (sort : ℕ) (is : (P : Pack) → Reads bytes (records_of before c) P → sort ≡ get_or (rule_of P l.rule).vars k 0) (cells' table' : List ℕ) where
    abbrev back : List ℕ
    back = put l.at (l.end - l.at) table' work

    -- one more
    pub first_more : (many : length cells' ≡ length cells) (x : Node) (g' : Counts) → Pushes cells cells' (table_in work l) table' g (variable_vertex sort (mark_in 0) (mark_in 0)) (Some (x, g')) → First bytes before cells₀ c l back cells' g' (k + 1)
    first_more many x g' M =
        let U = lent_outside work cells table' c l first-room M.1 in
        record {
          outside = outside_then l.at (l.at + rows_end cells₀) before work back F.outside (record { long = U.long; ahead = U.ahead; behind = λ i h. U.behind i (omega (arith, h, F.many)) });
          many = many ∙ F.many;
          low = omega (arith, some);
          shows = λ P R e.
              let vars = (rule_of P l.rule).vars in
              let S = F.shows P R e in
              let one : k + 1 ≡ suc k = omega arith in
              let v : Vertex = variable_vertex sort false false in
              let w : variables_of (take (k + 1) vars) ≡ variables_of (take k vars) ++ (v ∷ []) =
              ap (λ (j : ℕ). variables_of (take j vars)) one ∙ variables_more vars k (omega (arith, some, e)) ∙ ap (λ (so : ℕ). variables_of (take k vars) ++ (variable_vertex so false false ∷ [])) (sym (is P R)) in
              rw (w, lent-table work cells table' c l first-room M.1) ((M.0 (variables_of (take k vars)) S.0).1, inner_more (variables_of (take k vars)) v refl S.1 tt);
        }

    -- there is no room for it
    pub first-full : (work' : List ℕ) → Pushes cells cells' (table_in work l) table' g (variable_vertex sort (mark_in 0) (mark_in 0)) None → Opens bytes before work' cells₀ cells' c l None
    first-full work' M P R Q e =
        let vars = (rule_of P l.rule).vars in
        let m = M (variables_of (take k vars)) (F.shows P R e).0 in
        omega (arith, m, variables_cells (take k vars), length-take-le k vars (omega (arith, some, e)), variables_cells vars, some, e, F.many)

  -- all are there
  pub first-all : l.vars ≤ k → Opens bytes before work cells₀ cells c l (Some g)
  first-all done = (
    F.outside,
    λ P R Q e.
        let vars = (rule_of P l.rule).vars in
        let z : k ≡ length vars = omega (arith, done, F.low, e) in
        let w : take k vars ≡ vars = ap (λ (j : ℕ). take j vars) z ∙ take-length vars in
        rw w at (F.shows P R e),
  )

-- ---- ahead of them no node: what is said from there on is said of the whole
module _ (bytes work cells table' : List ℕ) (c : Catalog) (l : Place) (A : Opening bytes work cells c l) (U : Unchanged (rows_end cells) (table_in work l) table') where
  abbrev none : List ℕ
  none = put l.at (l.end - l.at) table' work

  none_outside : Beside work none cells l
  none_outside = lent_outside work cells table' c l A.room U

  pub none-same : Same work none c
  none-same = beside_same work none cells c l A.room none_outside

  abbrev pub none-held : Held bytes none c
  none-held = held_on bytes work none c none-same A.held

  pub none-room : Room none cells c l
  none-room = record { behind = A.room.behind; fits = A.room.fits; within = omega (arith, A.room.within, none_outside.long) }

  pub none_shows : (g : Counts) → Shows cells table' g [] → Shows cells (table_in none l) g []
  none_shows g S = rw (lent-table work cells table' c l A.room U) S

  pub opens_on : (work' cells' : List ℕ) (g : Counts) → Opens bytes none work' cells cells' c l (Some g) → Opens bytes work work' cells cells' c l (Some g)
  opens_on work' cells' g O = (outside_then l.at (l.at + rows_end cells) work none work' none_outside O.0, λ P R Q e. O.1 P (reads_on bytes work none c none-same A.held.cataloged P R) Q e)

  pub opens_full : (work' cells' : List ℕ) → Opens bytes none work' cells cells' c l None → Opens bytes work work' cells cells' c l None
  opens_full work' cells' O P R Q e = O P (reads_on bytes work none c none-same A.held.cataloged P R) Q e
