-- The words of a term, one after the other: what holds behind each.
use Rattle.std.specs.Prelude.{Some, None}
use Rattle.std.specs.Prelude.{◌≡◌, refl, List, ℕ, suc, ◌+◌, ◌-◌, ◌≤◌, ◌<◌, length, get_or}
use Rattle.std.proofs.Common.{sym, subst, ◌∙◌, arith}
use Rattle.definition.specs.Pack.{Term, Pack}
use Rattle.definition.specs.Good.{Below}
use Rattle.definition.specs.Graph.{Graph}
use Rattle.definition.proofs.Laws.Prefix.{term_words}
use Rattle.base.specs.Outside.{outside_none, outside_then}
use Rattle.base.specs.declared.id.Node.{Node}
use Rattle.pack_tables.specs.SameTables.{Same}
use Rattle.pack_tables.specs.Catalog.{records_of}
use Rattle.pack_tables.specs.declared.catalog.Catalog.{Catalog}
use Rattle.pack_read.specs.Reads.{Reads}
use Rattle.pack_read.specs.Held.{Proper, held_on, reads_on}
use Rattle.graph.specs.declared.graph.Graph.{Graph as Counts}
use Rattle.graph.specs.Cells.{rows_end, Shows}
use Rattle.theory.specs.Unification.Inner.{Inner}
use Rattle.term_instantiate.specs.declared.terms.Place.{Place}
use Rattle.term_instantiate.specs.Building.{Spells, table_in, Room, Beside, beside_same, Built, Taking, Takes, Asked, Instantiates}
use Rattle.term_instantiate.specs.Whole.{built-none, cells-grow, built-all}

-- the words from i on were taken
pub record Going (bytes before cells₀ : List ℕ) (c : Catalog) (l : Place) (g : Counts) (env : List ℕ) (from to : ℕ) (work cells stack : List ℕ) (top i : ℕ) (h : Counts) : Type 0 where
  pub outside : Beside before work cells₀ l
  pub many : length cells ≡ length cells₀
  pub long : length stack ≡ 256
  pub low : from ≤ i
  pub high : i ≤ to
  pub built : (P : Pack) → Reads bytes (records_of before c) P → Proper P → (t : Term) → Spells P l.rule l.vars from to t → (k : Graph) → Shows cells₀ (table_in before l) g k → Inner k → Below (length k) env → Built t env k work cells stack l h top (i - from)

module _ (bytes before cells₀ : List ℕ) (c : Catalog) (l : Place) (g : Counts) (env : List ℕ) (from to : ℕ) (A : Asked bytes before cells₀ c l g env from to) where
  -- none of them
  pub going_first : (stack : List ℕ) → length stack ≡ 256 → Going bytes before cells₀ c l g env from to before cells₀ stack 256 to g
  going_first stack long = record {
    outside = outside_none l.at (l.at + rows_end cells₀) before;
    many = refl;
    long = long;
    low = omega (arith, A.spells.long);
    high = omega arith;
    built = λ P R Q t Sp k S I b.
        let e : length (term_words t) ≡ to - from = omega (arith, Sp.long) in
        subst (Built t env k before cells₀ stack l g 256) e (built-none P l.rule l.vars from to t Sp env k before cells₀ stack l g long S I b);
  }

  module _ (work cells stack : List ℕ) (top i : ℕ) (h : Counts) (G : Going bytes before cells₀ c l g env from to work cells stack top i h) where
    same : Same before work c
    same = beside_same before work cells₀ c l A.room G.outside

    -- the table is as long as it was, over as many cells
    room : Room work cells c l
    room = record { behind = A.room.behind; fits = omega (arith, A.room.fits, G.many); within = omega (arith, A.room.within, G.outside.long) }

    -- the place of the word ahead of i
    module _ (some : from < i) where
      place : i - 1 ≡ from + (i - 1 - from)
      place = omega (arith, some)

      next : suc (i - 1 - from) ≡ i - from
      next = omega (arith, some)

      word_there : (t : Term) → to ≡ from + length (term_words t) → i - 1 - from < length (term_words t)
      word_there t e = omega (arith, some, e, G.high)

      pub going_taking : Taking bytes work cells c l h env stack top (i - 1)
      going_taking = record {
        held = held_on bytes before work c same A.held;
        room = room;
        term = A.term;
        from = from;
        to = to;
        spells = A.spells;
        graph = A.graph;
        word = i - 1 - from;
        place = place;
        there = word_there A.term A.spells.long;
        env_long = A.env_long;
        stack_long = G.long;
        built = subst (Built A.term env A.graph work cells stack l h top) (sym next) (G.built A.held.pack A.held.reads A.held.proper A.term A.spells A.graph A.shows A.inner A.nodes);
      }

      module _ (work' cells' stack' : List ℕ) (long : length stack' ≡ length stack) (many : length cells' ≡ length cells) where
        pub going_on : (top' : ℕ) (h' : Counts) → Takes bytes work work' cells cells' c l h env stack stack' top (i - 1) (Some (top', h')) → Going bytes before cells₀ c l g env from to work' cells' stack' top' (i - 1) h'
        going_on top' h' M = record {
          outside = outside_then l.at (l.at + rows_end cells₀) before work work' G.outside (record { long = M.0.long; ahead = M.0.ahead; behind = λ k q. M.0.behind k (omega (arith, q, G.many)) });
          many = many ∙ G.many;
          long = long ∙ G.long;
          low = omega (arith, some);
          high = omega (arith, G.high);
          built = λ P R Q t Sp k S I b.
              M.1 P (reads_on bytes before work c same A.held.cataloged P R) Q t from to (i - 1 - from) Sp place (word_there t Sp.long) k
              (subst (Built t env k work cells stack l h top) (sym next) (G.built P R Q t Sp k S I b));
        }

        -- there is no room for a node, so the term has more cells than there are
        pub going_full : Takes bytes work work' cells cells' c l h env stack stack' top (i - 1) None → Instantiates bytes before work' cells₀ cells' c l g env from to None
        going_full M P R Q t Sp k S I b =
            let m = M P (reads_on bytes before work c same A.held.cataloged P R) Q t from to (i - 1 - from) Sp place (word_there t Sp.long) k (subst (Built t env k work cells stack l h top) (sym next) (G.built P R Q t Sp k S I b)) in
            let n = cells-grow P l.rule l.vars from to t Sp env k (i - 1 - from) (omega (arith, word_there t Sp.long)) in
            omega (arith, m, n, G.many)

    -- all of them
    module _ (done : i ≤ from) where
      finished : (P : Pack) → Reads bytes (records_of before c) P → Proper P → (t : Term) → Spells P l.rule l.vars from to t → (k : Graph) → Shows cells₀ (table_in before l) g k → Inner k → Below (length k) env → Built t env k work cells stack l h top 0
      finished P R Q t Sp k S I b = let e : i - from ≡ 0 = omega (arith, done) in subst (Built t env k work cells stack l h top) e (G.built P R Q t Sp k S I b)

      pub going_top : top < 256
      going_top = (built-all A.held.pack l.rule l.vars from to A.term A.spells env A.graph work cells stack l h top G.long (finished A.held.pack A.held.reads A.held.proper A.term A.spells A.graph A.shows A.inner A.nodes)).0

      pub going_done : (x : Node) → x.0 ≡ get_or stack top 0 → Instantiates bytes before work cells₀ cells c l g env from to (Some (x, h))
      going_done x e = (
        G.outside,
        λ P R Q t Sp k S I b.
            let f = built-all P l.rule l.vars from to t Sp env k work cells stack l h top G.long (finished P R Q t Sp k S I b) in
            (e ∙ f.1, f.2, f.3, omega (arith, e, f.1, f.4)),
      )
