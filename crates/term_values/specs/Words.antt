-- Where the values stand: in the graph's table behind the colours, the table in work behind the pack's.
use Rattle.std.specs.Prelude.{◌≡◌, false, List, [], ◌∷◌, ℕ, ◌+◌, ◌-◌, ◌≤◌, ◌<◌, length, get_or, set, take, drop}
use Rattle.std.proofs.Common.{sym, ap, ◌∙◌, arith, add-one, get_or-set_same, get_or-set_other}
use Rattle.std.proofs.Math.Decide.{ℕ_discrete}
use Rattle.definition.specs.Pack.{Pack}
use Rattle.definition.specs.Verdict.{Bound, value_of}
use Rattle.definition.specs.Graph.{Graph, circular}
use Rattle.definition.specs.Analysis.{pairing}
use Rattle.base.specs.Word.{word_of}
use Rattle.base.specs.Lent.{back as lent_back, back-first}
use Rattle.base.specs.Outside.{Outside, outside_wider, outside_set}
use Rattle.base.specs.Part.{part, put, part_at, length_part, part-set}
use Rattle.pack_tables.specs.SameTables.{end_of, Same}
use Rattle.pack_tables.specs.declared.catalog.Catalog.{Catalog}
use Rattle.pack_read.specs.Held.{Held, OfHeld, held_on}
use Rattle.theory.specs.Copies.Copying.{value_of_new, value_of_old}
use Rattle.theory.specs.Unification.Inner.{Inner}
use Rattle.graph.specs.declared.graph.Graph.{Graph as Counts}
use Rattle.graph.specs.Places as places
use Rattle.graph.specs.Cells.{rows_end, nodes_few, Shows, SameRows, rows-set, shows_rows, Unchanged}
use Rattle.graph.specs.Links.{Found}
use Rattle.term_values.specs.declared.values.Valued.{Valued}

-- where the values start, and end
abbrev pub values_at : List ℕ → ℕ
values_at words = places.values_at (length words)

abbrev pub values_end : List ℕ → ℕ
values_end words = places.patterns_at (length words)

-- the graph's table, as it is lent
abbrev pub table_in : Valued → List ℕ → List ℕ
table_in l work = take (l.end - l.at) (drop l.at work)

-- cells and table hold a graph without circles, and values of its nodes
pub record Stands (words table : List ℕ) (s : Counts) (h : Graph) (vs : List Bound) : Type 0 where
  pub shows : Shows words table s h
  pub inner : Inner h
  pub ends : circular h ≡ false
  pub values : (r : ℕ) → r < s.nodes → get_or table (values_at words + r) 0 ≡ word_of (value_of r vs)

-- the table stands within work, and the values have room in it
pub record Placed (words work : List ℕ) (l : Valued) : Type 0 where
  pub room : l.at + values_end words ≤ l.end
  pub fits : l.end ≤ length work

-- nothing ahead of the table or behind its values has changed
abbrev pub Framed : List ℕ → Valued → List ℕ → List ℕ → Type 0
Framed words l work work' = Outside l.at (l.at + values_end words) work work'

-- work holds a pack, and behind it a graph without circles and values of its nodes
pub record Values (bytes work words : List ℕ) (c : Catalog) (l : Valued) (s : Counts) : Type 0 where
  pub held : Held bytes work c
  pub apart : end_of c ≤ l.at
  pub placed : Placed words work l
  pub graph : Graph
  pub values : List Bound
  pub stands : Stands words (table_in l work) s graph values

-- it holds of whatever pack, graph and values work holds
abbrev pub Says : (bytes work words : List ℕ) (c : Catalog) (l : Valued) (s : Counts) → (Pack → Graph → List Bound → Type 0) → Type 0
Says bytes work words c l s F = OfHeld bytes work c (λ P. (h : Graph) (vs : List Bound) → Stands words (table_in l work) s h vs → F P h vs)

-- ---- what a table holds
module _ (words table : List ℕ) (s : Counts) (h : Graph) (vs : List Bound) (S : Stands words table s h vs) where
  -- there are no more nodes than cells
  pub few_nodes : s.nodes ≤ length words
  few_nodes = omega (arith, nodes_few words table s S.shows.laid, S.shows.laid.fits)

  -- a word of the pairs is written
  pub stands_pair : (i v : ℕ) → rows_end words ≤ i → i < values_at words → Stands words (set table i v) s h vs
  stands_pair i v low high = record {
    shows = shows_rows words table (set table i v) s h (rows-set words table i v low) S.shows;
    inner = S.inner;
    ends = S.ends;
    values = λ r l. get_or-set_other table i (values_at words + r) v 0 (λ e. omega (arith, e)) ∙ S.values r l;
  }

  -- a root was found
  pub stands_found : (table' : List ℕ) (x r : ℕ) → Found words table table' s x r → Stands words table' s h vs
  stands_found table' x r F = record {
    shows = (F.2 h S.shows).1;
    inner = S.inner;
    ends = S.ends;
    values = λ y l. F.3.words (values_at words + y) (omega arith) ∙ S.values y l;
  }

  -- a node gets a value
  pub stands_value : (r n : ℕ) → r < s.nodes → values_end words ≤ length table → Stands words (set table (values_at words + r) (n + 1)) s h (pairing r n ∷ vs)
  stands_value r n l room =
      let i : ℕ = values_at words + r in
      record {
        shows = shows_rows words table (set table i (n + 1)) s h (rows-set words table i (n + 1) (omega arith)) S.shows;
        inner = S.inner;
        ends = S.ends;
        values = λ y m. elim (ℕ_discrete y r) [
          | yes e ↦
              ap (λ (k : ℕ). get_or (set table i (n + 1)) (values_at words + k) 0) e
              ∙ get_or-set_same table i (n + 1) 0 (omega (arith, few_nodes))
              ∙ add-one n
              ∙ sym (ap word_of (ap (λ (k : ℕ). value_of k (pairing r n ∷ vs)) e ∙ value_of_new r n vs))
          | no d ↦
              get_or-set_other table i (values_at words + y) (n + 1) 0 (λ e. d (omega (arith, e)))
              ∙ S.values y m
              ∙ sym (ap word_of (value_of_old r n vs y d))
        ];
      }

-- all values' words are 0
pub stands_none : (words table table' : List ℕ) (s : Counts) (h : Graph) → Shows words table s h → Inner h → circular h ≡ false → SameRows words table table'
    → ((r : ℕ) → r < s.nodes → get_or table' (values_at words + r) 0 ≡ 0) → Stands words table' s h []
unfolding value_of
stands_none words table table' s h S I A R z = record { shows = shows_rows words table table' s h R S; inner = I; ends = A; values = λ r l. z r l }

-- ---- the table in work
module _ (l : Valued) (work : List ℕ) where
  -- a word of the table
  pub table_at : (i : ℕ) → i < l.end - l.at → get_or (table_in l work) i 0 ≡ get_or work (l.at + i) 0
  unfolding part
  table_at i h = part_at l.at (l.end - l.at) work i h

  -- a word of it is written
  pub table-set : (i v : ℕ) → i < l.end - l.at → table_in l (set work (l.at + i) v) ≡ set (table_in l work) i v
  unfolding part
  table-set i v h = part-set l.at (l.end - l.at) work i v h

module _ (words work : List ℕ) (l : Valued) (F : Placed words work l) where
  -- it is as long as it is wide in work
  pub table_long : length (table_in l work) ≡ l.end - l.at
  unfolding part
  table_long = length_part l.at (l.end - l.at) work (omega (arith, F.room, F.fits))

  -- the values have room in it
  pub table-room : values_end words ≤ length (table_in l work)
  table-room = omega (arith, F.room, table_long)

  -- it was lent and came back
  module _ (table' : List ℕ) (U : Unchanged (rows_end words) (table_in l work) table') where
    -- work with it
    abbrev back : List ℕ
    back = put l.at (l.end - l.at) table' work

    -- it stands there as it came back
    pub table-back : table_in l back ≡ table'
    unfolding part
    table-back = lent_back l.at l.end work table' (omega (arith, F.room)) F.fits U.long

    -- and all else is as it was
    pub framed_back : Framed words l work back
    unfolding part
    framed_back = outside_wider l.at (l.at + rows_end words) l.at (l.at + values_end words) work back (omega arith) (omega arith) (back-first l.at l.end work table' (omega (arith, F.room)) F.fits U.long (rows_end words) U.words)

-- ---- what has not changed
-- a word of the table up to the values' end is written
pub framed_set : (words : List ℕ) (l : Valued) (work : List ℕ) (i v : ℕ) → i < values_end words → Framed words l work (set work (l.at + i) v)
framed_set words l work i v h = outside_set l.at (l.at + values_end words) work (l.at + i) v (omega arith) (omega arith)

-- the table has its room still
pub placed_on : (words : List ℕ) (l : Valued) (work work' : List ℕ) → Framed words l work work' → Placed words work l → Placed words work' l
placed_on words l work work' A F = record { room = F.room; fits = omega (arith, F.fits, A.long) }

-- the pack's tables are as they were
pub framed_same : (words : List ℕ) (l : Valued) (work work' : List ℕ) (c : Catalog) → end_of c ≤ l.at → Framed words l work work' → Same work work' c
framed_same words l work work' c h A = record { long = A.long; words = λ i m. A.ahead i (omega arith) }

-- work holds the pack still, and what else it holds
pub values_on : (bytes work work' words : List ℕ) (c : Catalog) (l : Valued) (s : Counts) (H : Values bytes work words c l s) → Framed words l work work' → (vs : List Bound) → Stands words (table_in l work') s H.graph vs → Values bytes work' words c l s
values_on bytes work work' words c l s H A vs S = record {
  held = held_on bytes work work' c (framed_same words l work work' c H.apart A) H.held;
  apart = H.apart;
  placed = placed_on words l work work' A H.placed;
  graph = H.graph;
  values = vs;
  stands = S;
}
