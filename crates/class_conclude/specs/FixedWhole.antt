-- All of it: colours cleared, the numbered variables marked, the others counted.
use Rattle.std.specs.Prelude.{◌≡◌, refl, List, ℕ, ◌+◌, ◌-◌, ◌≤◌, ◌<◌, eqb, length, get_or, take, drop, replicate}
use Rattle.std.proofs.Common.{sym, ap, ◌∙◌, arith}
use Rattle.definition.specs.Test.{any}
use Rattle.definition.specs.Good.{Below}
use Rattle.definition.proofs.Laws.Grow.{below_at}
use Rattle.definition.specs.Verdict.{Bound}
use Rattle.definition.specs.Graph.{Graph, up_to}
use Rattle.definition.specs.Classes.{count_of, is_fixed, mark}
use Rattle.base.specs.Part.{put, part_at, part_same, length_part}
use Rattle.buffer.specs.Zero.{zeros_long, zeros_there, zeros-before, zeros-behind}
use Rattle.graph.specs.declared.graph.Graph.{Graph as Counts}
use Rattle.graph.specs.Cells.{SameRows, shows_rows, nodes_few}
use Rattle.term_readback.specs.Words.{values_at, numbers_at, table_end, table_in, Stands, Moves}
use Rattle.term_readback.specs.Moved.{table_at, table_long}
use Rattle.term_readback.specs.declared.table.Table.{Table}
use Rattle.class_conclude.specs.FixedMarks.{colours_at, numbers_in, MarkAsked, Marks}
use Rattle.class_conclude.specs.Fixed.{Coloured, ColouredIn, FixesAll}

-- graph and values stand, and so many variables are numbered
pub record Numbered (work cells : List ℕ) (t : Table) (g : Counts) (n : ℕ) (h : Graph) (vs : List Bound) (xs : List ℕ) : Type 0 where
  pub room : t.at + table_end cells ≤ t.end
  pub fits : t.end ≤ length work
  pub stands : Stands cells (table_in t work) g h vs
  pub few : n ≤ length cells
  pub numbering : xs ≡ numbers_in work cells t n
  pub inside : Below g.nodes xs

-- there are such
pub record NumbersIn (work cells : List ℕ) (t : Table) (g : Counts) (n : ℕ) : Type 0 where
  pub graph : Graph
  pub values : List Bound
  pub numbers : List ℕ
  pub numbered : Numbered work cells t g n graph values numbers

-- what is answered: the count, and only colours were written
abbrev pub CountsFixed : List ℕ → List ℕ → List ℕ → Table → Counts → ℕ → ℕ → Type 0
CountsFixed work work' cells t g n r =
    Moves cells work work' t g × ((h : Graph) (vs : List Bound) (xs : List ℕ) → Numbered work cells t g n h vs xs → r ≡ count_of (is_fixed h vs xs) (up_to (length h)))

-- the colours stand there
pub numbers-room : (work cells : List ℕ) (t : Table) (g : Counts) (n : ℕ) → NumbersIn work cells t g n → t.at + colours_at cells + g.nodes ≤ length work
numbers-room work cells t g n K =
    let N = K.numbered in
    omega (arith, nodes_few cells (table_in t work) g N.stands.shows.laid, N.stands.shows.laid.fits, N.room, N.fits)

module _ (work cells : List ℕ) (t : Table) (g : Counts) (n : ℕ) (K : NumbersIn work cells t g n) (zs : List ℕ)
    (z : zs ≡ replicate (length (take (t.at + colours_at cells + g.nodes - (t.at + colours_at cells)) (drop (t.at + colours_at cells) work))) 0) where
  abbrev N : Numbered work cells t g n K.graph K.values K.numbers
  N = K.numbered

  -- the words with no colours
  abbrev pub cleared : List ℕ
  cleared = put (t.at + colours_at cells) (t.at + colours_at cells + g.nodes - (t.at + colours_at cells)) zs work

  -- no more nodes than cells
  most : g.nodes ≤ length cells
  most = omega (arith, nodes_few cells (table_in t work) g N.stands.shows.laid, N.stands.shows.laid.fits)

  -- the colours stand in work
  within : t.at + colours_at cells + g.nodes ≤ length work
  within = omega (arith, most, N.room, N.fits)

  -- as many words
  cleared_long : length cleared ≡ length work
  cleared_long = zeros_long (t.at + colours_at cells) (t.at + colours_at cells + g.nodes) g.nodes work zs refl within z

  -- nothing ahead of the colours
  cleared-ahead : (i : ℕ) → i < t.at + colours_at cells → get_or cleared i 0 ≡ get_or work i 0
  cleared-ahead i h = zeros-before (t.at + colours_at cells) (t.at + colours_at cells + g.nodes) g.nodes work zs refl within z i h

  -- nor behind them
  cleared-behind : (i : ℕ) → t.at + values_at cells ≤ i → get_or cleared i 0 ≡ get_or work i 0
  cleared-behind i h = zeros-behind (t.at + colours_at cells) (t.at + colours_at cells + g.nodes) g.nodes work zs refl within z i (omega (arith, most))

  -- so the numbered variables may get theirs
  pub cleared-asked : MarkAsked cleared cells t n
  cleared-asked = record {
    room = N.room;
    fits = omega (arith, N.fits, cleared_long);
    few = N.few;
    inside = λ i h.
        let b = below_at g.nodes K.numbers i N.inside (omega (arith, ap length N.numbering, length_part (t.at + numbers_at cells) n work (omega (arith, N.few, N.room, N.fits)))) in
        omega (arith, cleared-behind (t.at + numbers_at cells + i) (omega arith), part_at (t.at + numbers_at cells) n work i h, ap (λ (xs : List ℕ). get_or xs i 0) N.numbering, b, most);
  }

  -- none has a colour
  cleared-zeros : (x : ℕ) → x < g.nodes → get_or cleared (t.at + (colours_at cells + x)) 0 ≡ 0
  cleared-zeros x h =
      let e : t.at + (colours_at cells + x) ≡ t.at + colours_at cells + x = omega arith in
      ap (λ (i : ℕ). get_or cleared i 0) e ∙ zeros_there (t.at + colours_at cells) (t.at + colours_at cells + g.nodes) g.nodes work zs refl within z x h

  -- the marks are made
  module _ (work' : List ℕ) (M : Marks cleared work' cells t n) where
    long : length work' ≡ length work
    long = M.long ∙ cleared_long

    -- nothing ahead of the colours was written
    ahead : (i : ℕ) → i < t.at + colours_at cells → get_or work' i 0 ≡ get_or work i 0
    ahead i h = M.ahead i h ∙ cleared-ahead i h

    -- nor behind them
    behind : (i : ℕ) → t.at + values_at cells ≤ i → get_or work' i 0 ≡ get_or work i 0
    behind i h = M.behind i h ∙ cleared-behind i h

    -- the rows are as they were
    rows : SameRows cells (table_in t work) (table_in t work')
    rows = record {
      long = table_long t work' (omega (arith, N.room)) (omega (arith, N.fits, long)) ∙ sym (table_long t work (omega (arith, N.room)) N.fits);
      rows = λ i h. table_at t work' i (omega (arith, N.room)) ∙ ahead (t.at + i) (omega arith) ∙ sym (table_at t work i (omega (arith, N.room)));
    }

    -- and the graph is held still
    pub marked_moves : Moves cells work work' t g
    marked_moves = record { long = long; ahead = λ i h. ahead i (omega arith); behind = behind; shows = λ h S. shows_rows cells (table_in t work) (table_in t work') g h rows S }

    -- just the numbered variables have a colour
    pub marked_coloured : (h : Graph) (vs : List Bound) (xs : List ℕ) → Numbered work cells t g n h vs xs → Coloured work' cells t g h vs xs
    marked_coloured h vs xs D = record {
      room = D.room;
      fits = omega (arith, D.fits, long);
      stands = record {
        shows = shows_rows cells (table_in t work) (table_in t work') g h rows D.stands.shows;
        inner = D.stands.inner;
        ends = D.stands.ends;
        few = D.stands.few;
        values = λ r p. table_at t work' (values_at cells + r) (omega (arith, N.room, most)) ∙ behind (t.at + (values_at cells + r)) (omega arith) ∙ sym (table_at t work (values_at cells + r) (omega (arith, N.room, most))) ∙ D.stands.values r p;
      };
      colours = λ x p.
          let same : numbers_in cleared cells t n ≡ xs =
          part_same (t.at + numbers_at cells) n cleared work (omega (arith, N.few, N.room, N.fits, cleared_long)) (omega (arith, N.few, N.room, N.fits)) (λ i q. cleared-behind (t.at + numbers_at cells + i) (omega arith)) ∙ sym D.numbering in
          M.colours x (omega (arith, most)) (cleared-zeros x p) ∙ ap (λ (ys : List ℕ). mark (any (eqb x) ys)) same;
    }

    -- there is such a graph
    pub marked_in : ColouredIn work' cells t g
    marked_in = record { graph = K.graph; values = K.values; numbering = K.numbers; coloured = marked_coloured K.graph K.values K.numbers N }

    -- so they are counted
    pub counts-fixed : (r : ℕ) → FixesAll work' cells t g r → CountsFixed work work' cells t g n r
    counts-fixed r F = (marked_moves, λ h vs xs D. F h vs xs (marked_coloured h vs xs D))
