-- Words of rows and stack written: the graph is held still, and what was read back is as it was; so it is when the store has grown.
use Rattle.std.specs.Prelude.{◌≡◌, refl, Bool, true, false, List, [], ◌∷◌, ℕ, zero, suc, ◌+◌, ◌-◌, ◌≤◌, ◌<◌, length, get_or, set}
use Rattle.std.proofs.Common.{sym, ap, ◌∙◌, subst, arith, length-set, get_or-set_other}
use Rattle.definition.specs.Pack.{Pack}
use Rattle.definition.specs.Verdict.{Bound}
use Rattle.definition.specs.Graph.{Graph}
use Rattle.theory.specs.Walks.Resolving.{Resolving, right_fewer}
use Rattle.base.specs.Lent.{back as lent_back, back-first}
use Rattle.base.specs.Outside.{Outside}
use Rattle.base.specs.Part.{part, put, part_at, part-set, length_part, part_same}
use Rattle.base.specs.Probe.{taken}
use Rattle.store.specs.declared.nodes.Store.{Store}
use Rattle.pack_tables.specs.SameTables.{Same}
use Rattle.pack_tables.specs.declared.catalog.Catalog.{Catalog}
use Rattle.pack_read.specs.Held.{reads_on}
use Rattle.term_lift.specs.Lifts.{Lifts, Apart}
use Rattle.term_lift.specs.Nodes.{laid_same}
use Rattle.term_lift.specs.declared.lift.Lifted.{Lifted}
use Rattle.graph.specs.declared.graph.Graph.{Graph as Counts}
use Rattle.graph.specs.Cells.{rows_end, Shows, nodes_few, rows-set, shows_rows}
use Rattle.graph.specs.Links.{Found}
use Rattle.term_readback.specs.declared.table.Table.{Table}
use Rattle.term_readback.specs.Words.{values_at, patterns_at, numbers_at, table_end, table_in, marks_in, Stands, Says, Lies, Holding, Framed, Moves}
use Rattle.term_lift.specs.Kept.{lifts_on}

-- a word of the table
pub table_at : (t : Table) (work : List ℕ) (i : ℕ) → i < t.end - t.at → get_or (table_in t work) i 0 ≡ get_or work (t.at + i) 0
unfolding part
table_at t work i h = part_at t.at (t.end - t.at) work i h

-- a word of it is written
pub table-set : (t : Table) (work : List ℕ) (i v : ℕ) → i < t.end - t.at → table_in t (set work (t.at + i) v) ≡ set (table_in t work) i v
unfolding part
table-set t work i v h = part-set t.at (t.end - t.at) work i v h

-- how long it is
pub table_long : (t : Table) (work : List ℕ) → t.at ≤ t.end → t.end ≤ length work → length (table_in t work) ≡ t.end - t.at
unfolding part
table_long t work h k = length_part t.at (t.end - t.at) work (omega arith)

-- no more words say something than there are
pub taken-most : (xs : List ℕ) → taken xs ≤ length xs
unfolding taken
taken-most [] = omega arith
taken-most (zero ∷ xs) = omega (arith, taken-most xs)
taken-most (suc n ∷ xs) = omega (arith, taken-most xs)

-- there are no more nodes than cells
pub nodes-most : (cells table : List ℕ) (g : Counts) (h : Graph) (vs : List Bound) → Stands cells table g h vs → g.nodes ≤ length cells
nodes-most cells table g h vs S = omega (arith, nodes_few cells table g S.shows.laid, S.shows.laid.fits)

-- nor more numbers
pub numbers-most : (cells table words : List ℕ) (g : Counts) (st : Store) (n : ℕ) (s : Resolving) → table_end cells ≤ length table → g.nodes ≤ length cells → Says cells table words g st n s → n ≤ g.nodes
numbers-most cells table words g st n s room few S = omega (arith, S.most, taken-most (marks_in cells table g), length_part (patterns_at cells) g.nodes table (omega arith))

-- the patterns' words and the numbers' are as they were
module _ (cells table table' words : List ℕ) (g : Counts) (st : Store) (n : ℕ) (s : Resolving) (room : table_end cells ≤ length table) (long : length table' ≡ length table) (few : g.nodes ≤ length cells)
    (same : (i : ℕ) → patterns_at cells ≤ i → i < table_end cells → get_or table' i 0 ≡ get_or table i 0) where
  -- the patterns' words
  pub marks-same : marks_in cells table' g ≡ marks_in cells table g
  marks-same = part_same (patterns_at cells) g.nodes table' table (omega arith) (omega arith) (λ i h. same (patterns_at cells + i) (omega arith) (omega arith))

  -- so what was read back is
  pub says_same : Says cells table words g st n s → Says cells table' words g st n s
  says_same S =
      let m = numbers-most cells table words g st n s room few S in
      record {
        store = S.store;
        numbering = S.numbering ∙ sym (part_same (numbers_at cells) n table' table (omega arith) (omega arith) (λ i h. same (numbers_at cells + i) (omega arith) (omega arith)));
        memo = λ r. S.memo r ∙ ap (λ (ws : List ℕ). get_or ws r 0) (sym marks-same);
        known = S.known;
        most = subst (λ (ws : List ℕ). n ≤ taken ws) (sym marks-same) S.most;
      }

-- ---- rows and stack
module _ (bytes work words cells : List ℕ) (c : Catalog) (l : Lifted) (t : Table) (st : Store) (g : Counts) (work' : List ℕ) (M : Moves cells work work' t g) where
  module _ (P : Pack) (h : Graph) (vs : List Bound) (L : Lies bytes work words cells c l t st g P h vs) where
    -- the words of the table from the values on
    pub moved_words : (i : ℕ) → values_at cells ≤ i → i < table_end cells → get_or (table_in t work') i 0 ≡ get_or (table_in t work) i 0
    moved_words i p q = table_at t work' i (omega (arith, L.room)) ∙ M.behind (t.at + i) (omega arith) ∙ sym (table_at t work i (omega (arith, L.room)))

    -- nothing else of work has changed
    pub framed_moves : Framed cells work work' l t
    framed_moves = record { long = M.long; ahead = λ i p. M.ahead i (omega (arith, L.apart, L.lifts.laid.fits)); between = λ i p q. M.ahead i q; behind = λ i p. M.behind i (omega arith) }

    -- the pack's tables have not
    moved_tables : Same work work' c
    moved_tables = laid_same bytes work words c l st L.lifts.laid work' M.long (λ i p. M.ahead i (omega (arith, L.apart, L.lifts.laid.fits)))

    -- all stands where it stood
    pub lies_moves : Lies bytes work' words cells c l t st g P h vs
    lies_moves = record {
      lifts = lifts_on bytes work words c l st work' M.long (λ i p. M.ahead i (omega (arith, L.apart))) L.lifts;
      reads = reads_on bytes work work' c moved_tables L.lifts.laid.held.cataloged P L.reads;
      proper = L.proper;
      apart = L.apart;
      room = L.room;
      fits = omega (arith, L.fits, M.long);
      stands = record {
        shows = M.shows h L.stands.shows;
        inner = L.stands.inner;
        ends = L.stands.ends;
        few = L.stands.few;
        values = λ r p. moved_words (values_at cells + r) (omega arith) (omega (arith, nodes-most cells (table_in t work) g h vs L.stands)) ∙ L.stands.values r p;
      };
      below = L.below;
    }

    -- the table is long enough
    pub table-room : table_end cells ≤ length (table_in t work)
    table-room = omega (arith, table_long t work (omega (arith, L.room)) L.fits, L.room)

    -- and as long as it was
    pub table_kept : length (table_in t work') ≡ length (table_in t work)
    table_kept = table_long t work' (omega (arith, L.room)) (omega (arith, L.fits, M.long)) ∙ sym (table_long t work (omega (arith, L.room)) L.fits)

  -- and what was read back is as it was
  pub holding_moves : (n : ℕ) (everyone : Bool) (P : Pack) (h : Graph) (vs : List Bound) (s : Resolving) → Holding bytes work words cells c l t st g n everyone P h vs s → Holding bytes work' words cells c l t st g n everyone P h vs s
  holding_moves n everyone P h vs s H = record {
    lies = lies_moves P h vs H.lies;
    says = says_same cells (table_in t work) (table_in t work') words g st n s (table-room P h vs H.lies) (table_kept P h vs H.lies) (nodes-most cells (table_in t work) g h vs H.lies.stands)
        (λ i p q. moved_words P h vs H.lies i (omega arith) q) H.says;
    right = H.right;
    grounded = H.grounded;
  }

-- ---- lifting's words
module _ (bytes work words cells : List ℕ) (c : Catalog) (l : Lifted) (t : Table) (st : Store) (g : Counts) (P : Pack) (h : Graph) (vs : List Bound) (L : Lies bytes work words cells c l t st g P h vs)
    (work' words' : List ℕ) (st' : Store) (A : Apart work work' l) where
  -- the table is as it was
  pub table_apart : table_in t work' ≡ table_in t work
  unfolding part
  table_apart = part_same t.at (t.end - t.at) work' work (omega (arith, L.room, L.fits, A.long)) (omega (arith, L.room, L.fits)) (λ i p. A.behind (t.at + i) (omega (arith, L.apart)))

  -- all stands where it stood
  pub lies_apart : Lifts bytes work' words' c l st' → Lies bytes work' words' cells c l t st' g P h vs
  lies_apart T = record {
    lifts = T;
    reads = reads_on bytes work work' c (laid_same bytes work words c l st L.lifts.laid work' A.long A.ahead) L.lifts.laid.held.cataloged P L.reads;
    proper = L.proper;
    apart = L.apart;
    room = L.room;
    fits = omega (arith, L.fits, A.long);
    stands = subst (λ (table : List ℕ). Stands cells table g h vs) (sym table_apart) L.stands;
    below = L.below;
  }

  -- nothing else of work has changed
  pub framed_apart : Framed cells work work' l t
  framed_apart = record { long = A.long; ahead = A.ahead; between = λ i p q. A.behind i p; behind = λ i p. A.behind i (omega (arith, L.apart)) }

-- ---- one step after another
-- nothing was written
pub moves_none : (cells work : List ℕ) (t : Table) (g : Counts) → Moves cells work work t g
moves_none cells work t g = record { long = refl; ahead = λ i p. refl; behind = λ i p. refl; shows = λ h S. S }

-- two steps
pub moves_then : (cells work work' work'' : List ℕ) (t : Table) (g : Counts) → Moves cells work work' t g → Moves cells work' work'' t g → Moves cells work work'' t g
moves_then cells work work' work'' t g A B = record { long = B.long ∙ A.long; ahead = λ i p. B.ahead i p ∙ A.ahead i p; behind = λ i p. B.behind i p ∙ A.behind i p; shows = λ h S. B.shows h (A.shows h S) }

-- nothing was written
pub framed_none : (cells work : List ℕ) (l : Lifted) (t : Table) → Framed cells work work l t
framed_none cells work l t = record { long = refl; ahead = λ i p. refl; between = λ i p q. refl; behind = λ i p. refl }

-- two steps
pub framed_then : (cells work work' work'' : List ℕ) (l : Lifted) (t : Table) → Framed cells work work' l t → Framed cells work' work'' l t → Framed cells work work'' l t
framed_then cells work work' work'' l t A B = record { long = B.long ∙ A.long; ahead = λ i p. B.ahead i p ∙ A.ahead i p; between = λ i p q. B.between i p q ∙ A.between i p q; behind = λ i p. B.behind i p ∙ A.behind i p }

-- a word of the stack is written
pub moves_set : (cells work : List ℕ) (t : Table) (g : Counts) → t.at + table_end cells ≤ t.end → (i v : ℕ) → rows_end cells ≤ i → i < values_at cells → Moves cells work (set work (t.at + i) v) t g
moves_set cells work t g room i v low high = record {
  long = length-set work (t.at + i) v;
  ahead = λ j p. get_or-set_other work (t.at + i) j v 0 (λ e. omega (arith, e));
  behind = λ j p. get_or-set_other work (t.at + i) j v 0 (λ e. omega (arith, e));
  shows = λ h S. subst (λ (table : List ℕ). Shows cells table g h) (sym (table-set t work i v (omega arith))) (shows_rows cells (table_in t work) (set (table_in t work) i v) g h (rows-set cells (table_in t work) i v low) S);
}

-- a root was found by the table lent
module _ (cells work : List ℕ) (t : Table) (g : Counts) (room : t.at + table_end cells ≤ t.end) (fits : t.end ≤ length work) (x r : ℕ) (table' : List ℕ) (F : Found cells (table_in t work) table' g x r) where
  -- the words when it has come back
  abbrev pub lent_back_of : List ℕ
  lent_back_of = put t.at (t.end - t.at) table' work

  -- and is what came back
  pub found_table : table_in t lent_back_of ≡ table'
  unfolding part
  found_table = lent_back t.at t.end work table' (omega arith) fits F.3.long

  -- outside of the rows nothing has changed
  pub found_outside : Outside t.at (t.at + rows_end cells) work lent_back_of
  unfolding part
  found_outside = back-first t.at t.end work table' (omega arith) fits F.3.long (rows_end cells) F.3.words

  -- so only rows were written
  pub found_moves : Moves cells work lent_back_of t g
  found_moves = record {
    long = found_outside.long;
    ahead = found_outside.ahead;
    behind = λ i p. found_outside.behind i (omega arith);
    shows = λ h S. subst (λ (table : List ℕ). Shows cells table g h) (sym found_table) (F.2 h S).1;
  }

-- what was read back with all variables numbered stays so when only flexible ones are
pub holding_fewer : (bytes work words cells : List ℕ) (c : Catalog) (l : Lifted) (t : Table) (st : Store) (g : Counts) (n : ℕ) (P : Pack) (h : Graph) (vs : List Bound) (s : Resolving)
    → Holding bytes work words cells c l t st g n true P h vs s → 0 < l.nodes → Holding bytes work words cells c l t st g n false P h vs s
holding_fewer bytes work words cells c l t st g n P h vs s H F = record { lies = H.lies; says = H.says; right = right_fewer P h vs s H.right; grounded = λ e. F }
