-- The call that copies a pattern: what its steps ask and answer.
use Rattle.std.specs.Prelude.{Ok, Err}
use Rattle.std.specs.Prelude.{Some, None, Result, Ok, Err}
use Rattle.std.specs.Prelude.{◌≡◌, true, ◌||◌, List, ℕ, ◌+◌, ◌*◌, ◌/◌, ◌≤◌, ◌<◌, eqb}
use Rattle.std.proofs.Math.Path.{sym, ap, ap₂}
use Rattle.std.proofs.Common.{subst, ◌∙◌, arith}
use borrow.Author.Tests.{le-leb, lt-leb, eq-eqb, ne_eqb, lt-ltb, le-ltb}
use Rattle.std.proofs.Math.ListN.{length}
use Rattle.definition.specs.Test.{or_right}
use Rattle.definition.specs.Pack.{Pack}
use Rattle.definition.specs.Frame.{fine}
use Rattle.definition.specs.Parse.{parse}
use Rattle.definition.specs.Graph.{Graph, cells as cells_of}
use Rattle.definition.specs.Store.{nothing}
use Rattle.base.specs.Part.{part}
use Rattle.base.specs.declared.id.Node.{Node}
use Rattle.base.specs.declared.id.Pattern.{Pattern}
use Rattle.store.specs.Stored.{nodes}
use Rattle.store.specs.declared.nodes.Store.{Store}
use Rattle.pack_tables.specs.Catalog.{records_of}
use Rattle.pack_tables.specs.SameTables.{Same, same_then}
use Rattle.pack_tables.specs.declared.catalog.Catalog.{Catalog}
use Rattle.pack_read.specs.Reads.{Reads}
use Rattle.pack_read.specs.Held.{Proper, Held, reads_on}
use Rattle.pack_reader.specs.Parsed.{tables_of, Represents}
use Rattle.pack_reader.specs.Said.{reads_there, parsed_proper}
use Rattle.term_lift.specs.Lifts.{Lifts, index_in}
use Rattle.term_lift.specs.Nodes.{laid_same}
use Rattle.term_lift.specs.declared.lift.Lifted.{Lifted}
use Rattle.graph.specs.declared.graph.Graph.{Graph as Counts}
use Rattle.graph.specs.Pushes.{cells_shown}
use Rattle.graph.specs.Inner.{many-nodes}
use Rattle.term_copy.specs.declared.node.Copying.{Copying}
use Rattle.graph.specs.Cells.{marks_in}
use Rattle.theory.specs.Copies.Terms.{Patterns}
use Rattle.term_readback.specs.declared.table.Table.{Table}
use Rattle.term_readback.specs.Words.{table_in}
use Rattle.term_lift.specs.Kept.{lifts_on}
use Rattle.host_walk.specs.declared.place.Stock.{Stock}
use Rattle.host_walk.specs.Came.{done}
use Rattle.host_walk.specs.Walks.{Walks}
use Rattle.host_walk.specs.Places.{Opened, held_there, Lays, lays_low, Sized, sized, Stores}
use Rattle.host_walk.specs.Back.{Lying, Standing, Backs}
use Rattle.host_walk.specs.Listed.{whole, broken, full, listed}
use Rattle.host_walk.specs.Lists.{Lists}
use Rattle.host_walk.specs.Plain.{plain_inner, plain_ends}
use Rattle.host_walk.specs.Copies.{copied_times, last_read, times_read, pattern_copied, list_copied_of, pack_copied}
use Rattle.host_walk.specs.Times.{Started, times_of, Timed, last_inside}
use Rattle.host_walk.specs.declared.list.Fault.TheVariants.{Broken, Full}
use Rattle.definition.specs.declared.Answer.{Answer}

-- ---- where copying has its words: behind the store's index
abbrev pub stack_at : Lifted → ℕ → ℕ
stack_at l patterns = l.end + 2 * (patterns / 2)

-- all of them
abbrev pub copying_of : Lifted → ℕ → ℕ → ℕ → Copying
copying_of l patterns cells marks = record {
  index = l.at + 3 * l.nodes;
  copied = l.end;
  walk = stack_at l patterns;
  variables = stack_at l patterns + 2 * (patterns / 2);
  graph = stack_at l patterns + 2 * (patterns / 2) + marks;
  end = stack_at l patterns + 2 * (patterns / 2) + marks + (11 * cells + 7);
}

-- the numbers are small
pub record Small (l : Lifted) (p n m : ℕ) : Type 0 where
  pub end : l.end ≤ 200000000
  pub fits : l.at + 3 * l.nodes ≤ l.end
  pub words : p ≤ 16777216
  pub cells : n ≤ 16777216
  pub marks : m ≤ 16777216

-- ---- the last copy
-- there is a node to be read back, if there is a copy
pub record Last (bytes work words cells : List ℕ) (c : Catalog) (l : Lifted) (t : Table) (st : Store) (g : Counts) (x copies : ℕ) : Type 0 where
  pub standing : Standing bytes work words cells c l t st g
  pub node : 0 < copies → x < g.nodes

-- what is answered of whatever pack and graph are held
abbrev pub Lasts : List ℕ → List ℕ → List ℕ → List ℕ → List ℕ → Catalog → Lifted → Table → Store → Counts → ℕ → ℕ → ℕ → Result (Pattern × Store × ℕ × ℕ) Answer → Type 0
Lasts bytes work words words' cells c l t st g x copies read w =
    (P : Pack) (h : Graph) → Lying bytes work words cells c l t st g P h → Walks words' (last_read P (nodes words st) (record { at = x; graph = h }) copies read (length words)) w

-- the same of a stock
abbrev pub LastOf : (bytes work words cells : List ℕ) (s : Stock) (t : Table) (g : Counts) (x copies : ℕ) → Type 0
LastOf bytes work words cells s t g x copies = Last bytes work words cells s.catalog s.lifted t s.store g x copies

-- and what is answered
abbrev pub LastsOf : (bytes work words words' cells : List ℕ) (s : Stock) (t : Table) (g : Counts) (x copies read : ℕ) → Result (Pattern × Store × ℕ × ℕ) Answer → Type 0
LastsOf bytes work words words' cells s t g x copies read w = Lasts bytes work words words' cells s.catalog s.lifted t s.store g x copies read w

module _ (bytes work words cells : List ℕ) (c : Catalog) (l : Lifted) (t : Table) (st : Store) (g : Counts) (x copies read : ℕ) where
  -- nothing is read
  pub last_none : (eqb read 0 || eqb copies 0) ≡ true → (p : Pattern) → p.0 ≡ 0 → Lasts bytes work words words cells c l t st g x copies read (Ok (p, st, 0, g.used))
  unfolding last_read
  last_none e p z P h L = ((index_in work l, L.lifts.laid.index), ap₂ (λ (q n : ℕ). done q (nodes words st) 0 n) z (sym (cells_shown cells (table_in t work) g h L.shows)) ∙ sym (rw (e, last_read)))

  -- it is not asked for
  pub unasked : read ≡ 0 → (eqb read 0 || eqb copies 0) ≡ true
  unasked e = rw (eq-eqb read 0 e)

  -- there is none
  pub uncopied : copies ≡ 0 → (eqb read 0 || eqb copies 0) ≡ true
  uncopied e = or_right (eqb read 0) (eqb copies 0) (eq-eqb copies 0 e)

  -- it is read
  pub last_read_law : (read ≡ 0 → ⊥) → (copies ≡ 0 → ⊥) → (words' : List ℕ) (w : Result (Pattern × Store × ℕ × ℕ) Answer) → Backs bytes work words words' cells c l t st g x w → Lasts bytes work words words' cells c l t st g x copies read w
  unfolding last_read
  last_read_law a b words' w K P h L = let W = K P h L in (W.0, W.1 ∙ sym (rw (ne_eqb read 0 a, ne_eqb copies 0 b, last_read)))

-- ---- copies of a pattern of a store
pub record Copyable (bytes work words cells flex : List ℕ) (c : Catalog) (l : Lifted) (st : Store) (p : ℕ) : Type 0 where
  pub lifts : Lifts bytes work words c l st
  pub patterns : Patterns (nodes words st)
  pub small : Small l (length words) (length cells) (length flex)
  pub room : (copying_of l (length words) (length cells) (length flex)).end ≤ length work
  pub given : p < length (nodes words st)

-- what is answered of whatever pack is held
abbrev pub Copied : List ℕ → List ℕ → List ℕ → List ℕ → List ℕ → ℕ → Catalog → Store → ℕ → ℕ → ℕ → Result (Pattern × Store × ℕ × ℕ) Answer → Type 0
Copied bytes work words words' flex room c st p copies read w =
    (P : Pack) → Reads bytes (records_of work c) P → Proper P → Walks words' (times_read P (nodes words st) (copied_times copies (nodes words st) (marks_in flex) p) copies read (length words) room) w

-- the same of a stock
abbrev pub CopyableOf : (bytes work words cells flex : List ℕ) (s : Stock) (p : ℕ) → Type 0
CopyableOf bytes work words cells flex s p = Copyable bytes work words cells flex s.catalog s.lifted s.store p

-- and what is answered
abbrev pub CopiedOf : (bytes work words words' flex : List ℕ) (room : ℕ) (s : Stock) (p copies read : ℕ) → Result (Pattern × Store × ℕ × ℕ) Answer → Type 0
CopiedOf bytes work words words' flex room s p copies read w = Copied bytes work words words' flex room s.catalog s.store p copies read w

module _ (bytes work words cells flex : List ℕ) (c : Catalog) (l : Lifted) (st : Store) (p : ℕ) (A : Copyable bytes work words cells flex c l st p) (k : Copying) (is : k ≡ copying_of l (length words) (length cells) (length flex)) where
  -- it may be copied
  pub copied_started : Started work words cells flex k st p
  copied_started = subst (λ (x : Copying). Started work words cells flex x st p) (sym is) (record {
    laid = record { index = A.lifts.laid.fits; table = omega arith; stack = omega arith; marks = omega arith; rows = omega arith; inside = A.room };
    stored = A.lifts.laid.index;
    patterns = A.patterns;
    small = omega (arith, A.small.cells);
    given = A.given;
  })

  module _ (copies read : ℕ) (work₁ cells₁ : List ℕ) where
    -- there is no room for all copies
    pub copied_short : (words' : List ℕ) → Timed work work₁ words cells cells₁ flex k st p copies None → Copied bytes work words words' flex (length cells) c st p copies read (Err (record { code = 8; place = 3 }))
    unfolding times_read
    copied_short words' T P R Q = (tt, sym (rw (lt-leb _ _ T, times_read)))

    module _ (x : Node) (g : Counts) (T : Timed work work₁ words cells cells₁ flex k st p copies (Some (x, g))) where
      -- the graph's table
      abbrev table : Table
      table = record { at = k.graph; end = k.end }

      -- the graph stands as reading back asks it
      lying : (P : Pack) → Reads bytes (records_of work c) P → Proper P → Lying bytes work₁ words cells₁ c l table st g P (times_of words flex st p copies).graph
      unfolding part
      lying P R Q =
          let t = T.1 in
          let kc : k.copied ≡ l.end = ap (λ (y : Copying). y.copied) is in
          let kg : k.graph ≡ stack_at l (length words) + 2 * (length words / 2) + length flex = ap (λ (y : Copying). y.graph) is in
          let ke : k.end ≡ stack_at l (length words) + 2 * (length words / 2) + length flex + (11 * length cells + 7) = ap (λ (y : Copying). y.end) is in
          let h = (times_of words flex st p copies).graph in
          record {
            lifts = lifts_on bytes work words c l st work₁ t.long (λ i a. t.ahead i (omega (arith, kc))) A.lifts;
            reads = reads_on bytes work work₁ c (laid_same bytes work words c l st A.lifts.laid work₁ t.long (λ i a. t.ahead i (omega (arith, kc, A.lifts.laid.fits)))) A.lifts.laid.held.cataloged P R;
            proper = Q;
            apart = omega (arith, kg);
            room = omega (arith, kg, ke, t.many);
            fits = omega (arith, ke, A.room, t.long);
            shows = t.shows;
            inner = plain_inner h t.plain;
            ends = plain_ends h t.plain;
            few = λ y a. (t.plain y a).2;
          }

      -- with a node to be read back
      pub copied-last : Last bytes work₁ words cells₁ c l table st g x.0 copies
      copied-last =
          let H = A.lifts.laid.held in
          let L = lying H.pack H.reads H.proper in
          let t = T.1 in
          record {
            standing = record { pack = H.pack; graph = (times_of words flex st p copies).graph; lying = L };
            node = λ s. omega (arith, t.last_is, last_inside words flex st p copies A.patterns A.given t.plain s, many-nodes cells₁ _ g (times_of words flex st p copies).graph L.shows);
          }

      -- what is read is the last copy
      pub copied_read : (words' : List ℕ) (w : Result (Pattern × Store × ℕ × ℕ) Answer) → Lasts bytes work₁ words words' cells₁ c l table st g x.0 copies read w → Copied bytes work words words' flex (length cells) c st p copies read w
      unfolding times_read
      copied_read words' w K P R Q =
          let L = lying P R Q in
          let t = T.1 in
          let h = (times_of words flex st p copies).graph in
          let W = K P h L in
          let few : cells_of h ≤ length cells = omega (arith, cells_shown cells₁ _ g h L.shows, L.shows.laid.fits, t.many) in
          let e : last_read P (nodes words st) (record { at = x.0; graph = h }) copies read (length words) ≡ last_read P (nodes words st) (times_of words flex st p copies) copies read (length words) =
          ap (λ (y : ℕ). last_read P (nodes words st) (record { at = y; graph = h }) copies read (length words)) t.last_is in
          (W.0, W.1 ∙ e ∙ sym (rw (le-leb _ _ few, times_read)))

-- ---- a store of patterns
pub record Stocked (bytes work words cells flex : List ℕ) (c : Catalog) (l : Lifted) (st : Store) : Type 0 where
  pub lifts : Lifts bytes work words c l st
  pub patterns : Patterns (nodes words st)
  pub small : Small l (length words) (length cells) (length flex)
  pub room : (copying_of l (length words) (length cells) (length flex)).end ≤ length work

-- what is answered of whatever pack is held
abbrev pub FromStock : List ℕ → List ℕ → List ℕ → List ℕ → List ℕ → ℕ → Catalog → Store → ℕ → ℕ → ℕ → Result (Pattern × Store × ℕ × ℕ) Answer → Type 0
FromStock bytes work words words' flex room c st p copies read w =
    (P : Pack) → Reads bytes (records_of work c) P → Proper P → Walks words' (pattern_copied P (nodes words st) flex p copies read (length words) room) w

-- the same of a stock
abbrev pub StockedOf : (bytes work words cells flex : List ℕ) (s : Stock) → Type 0
StockedOf bytes work words cells flex s = Stocked bytes work words cells flex s.catalog s.lifted s.store

-- and what is answered
abbrev pub FromStockOf : (bytes work words words' flex : List ℕ) (room : ℕ) (s : Stock) (p copies read : ℕ) → Result (Pattern × Store × ℕ × ℕ) Answer → Type 0
FromStockOf bytes work words words' flex room s p copies read w = FromStock bytes work words words' flex room s.catalog s.store p copies read w

module _ (bytes work words cells flex : List ℕ) (c : Catalog) (l : Lifted) (st : Store) (B : Stocked bytes work words cells flex c l st) (p copies read : ℕ) where
  -- how many patterns there are
  counted : st.len ≡ length (nodes words st)
  counted = B.lifts.laid.index.placed.len

  -- there is no such pattern
  pub stock_refused : st.len ≤ p → FromStock bytes work words words flex (length cells) c st p copies read (Err (record { code = 12; place = 0 }))
  unfolding pattern_copied
  stock_refused h P R Q = let m : length (nodes words st) ≤ p = omega (arith, counted) in (tt, sym (rw (le-ltb _ _ m, pattern_copied)))

  module _ (h : p < st.len) where
    -- it may be copied
    pub stock_copyable : Copyable bytes work words cells flex c l st p
    stock_copyable = record { lifts = B.lifts; patterns = B.patterns; small = B.small; room = B.room; given = omega (arith, counted) }

    -- what is answered of it
    pub stock_copied : (words' : List ℕ) (w : Result (Pattern × Store × ℕ × ℕ) Answer) → Copied bytes work words words' flex (length cells) c st p copies read w → FromStock bytes work words words' flex (length cells) c st p copies read w
    unfolding pattern_copied
    stock_copied words' w K P R Q = let m : p < length (nodes words st) = omega (arith, counted) in let W = K P R Q in (W.0, W.1 ∙ sym (rw (lt-ltb _ _ m, pattern_copied)))

  -- a number of the store is a word
  pub stock_word : p < st.len → p < 4294967296
  stock_word h = omega (arith, B.lifts.laid.index.placed.enough.small, B.lifts.laid.index.ranged.half, B.lifts.laid.index.ranged.most, counted)

-- ---- a list
-- what is answered of whatever pack is held
abbrev pub FromList : List ℕ → List ℕ → List ℕ → List ℕ → List ℕ → ℕ → ℕ → Catalog → ℕ → ℕ → ℕ → Result (Pattern × Store × ℕ × ℕ) Answer → Type 0
FromList bytes from work words' flex patterns room c p copies read w =
    (P : Pack) → Reads bytes (records_of work c) P → Proper P → Walks words' (list_copied_of P (listed from patterns) flex p copies read patterns room) w

-- a pack that was opened, with few marks
pub record Marked (bytes work : List ℕ) (patterns cells marks : ℕ) (c : Catalog) : Type 0 where
  pub opened : Opened bytes work patterns cells
  pub tables : c ≡ tables_of (length bytes)
  pub few : marks ≤ patterns

module _ (bytes from work words cells flex : List ℕ) (c : Catalog) (M : Marked bytes work (length words) (length cells) (length flex) c) where
  -- the pack is held
  abbrev pub marked-held : Held bytes work c
  marked-held = held_there bytes work (length words) (length cells) M.opened c M.tables

  -- the numbers are small
  pub marked_sized : Sized work (length words) c
  marked_sized = sized bytes work (length words) (length cells) c M.opened M.tables

  module _ (l : Lifted) (L : Lays work (length words) c l) where
    -- how far lifting's words go
    pub marked_low : l.end ≤ 7 * length bytes + 2 * length words + 100
    marked_low = lays_low bytes work (length words) (length cells) c l M.opened M.tables L

    -- they are within
    pub marked_inside : (l.end ≤ length work) × (length words < nothing)
    marked_inside = let F = M.opened.fit in (omega (arith, marked_low, F.least), omega (arith, F.pattern))

    module _ (work₁ : List ℕ) (st₀ : Store) (T : Stores bytes work work₁ words c l st₀) (work₂ words' : List ℕ) (long : length words' ≡ length words) where
      -- the list is no list of patterns
      pub list_broken : Lists bytes from work₁ work₂ words' c l (Err Broken) → (p copies read : ℕ) → FromList bytes from work words' flex (length words) (length cells) c p copies read (Err (record { code = 12; place = 0 }))
      unfolding list_copied_of
      list_broken E p copies read P R Q = let e : listed from (length words) ≡ broken = ap (listed from) (sym long) ∙ E in (tt, sym (rw (e, list_copied_of)))

      -- it does not fit
      pub list_full : Lists bytes from work₁ work₂ words' c l (Err Full) → (p copies read : ℕ) → FromList bytes from work words' flex (length words) (length cells) c p copies read (Err (record { code = 8; place = 2 }))
      unfolding list_copied_of
      list_full E p copies read P R Q = let e : listed from (length words) ≡ full = ap (listed from) (sym long) ∙ E in (tt, sym (rw (e, list_copied_of)))

      module _ (st : Store) (E : Lists bytes from work₁ work₂ words' c l (Ok st)) where
        -- its store
        pub list_stocked : Stocked bytes work₂ words' cells flex c l st
        list_stocked =
            let F = M.opened.fit in
            let low = marked_low in
            let s : length work₂ ≡ length work = E.3.long ∙ T.same.long in
            record {
              lifts = E.0;
              patterns = E.1;
              small = record { end = omega (arith, low, F.pack, F.pattern); fits = omega (arith, L.end); words = omega (arith, long, F.pattern); cells = F.graph; marks = omega (arith, M.few, F.pattern) };
              room = omega (arith, low, long, M.few, F.least, s);
            }

        -- what is answered of it
        pub list_copied : (words'' : List ℕ) (p copies read : ℕ) (w : Result (Pattern × Store × ℕ × ℕ) Answer) → FromStock bytes work₂ words' words'' flex (length cells) c st p copies read w → FromList bytes from work words'' flex (length words) (length cells) c p copies read w
        unfolding list_copied_of
        list_copied words'' p copies read w K P R Q =
            let S : Same work work₂ c = same_then work work₁ work₂ c T.same E.3 in
            let W = K P (reads_on bytes work work₂ c S marked-held.cataloged P R) Q in
            let e : listed from (length words) ≡ whole (nodes words' st) = ap (listed from) (sym long) ∙ E.2 in
            (W.0, W.1 ∙ ap (λ (n : ℕ). pattern_copied P (nodes words' st) flex p copies read n (length cells)) long ∙ sym (rw (e, list_copied_of)))

-- ---- a pack
abbrev pub FromPack : List ℕ → List ℕ → List ℕ → List ℕ → List ℕ → ℕ → ℕ → ℕ → ℕ → ℕ → Result (Pattern × Store × ℕ × ℕ) Answer → Type 0
FromPack bytes from work words' flex patterns room p copies read w = (P : Pack) → parse bytes ≡ fine P → Represents bytes work P → Walks words' (pack_copied P from flex p copies read patterns room) w

-- more marks than words
pub pack_marks : (bytes from work words' flex : List ℕ) (patterns room p copies read : ℕ) → patterns < length flex → FromPack bytes from work words' flex patterns room p copies read (Err (record { code = 2; place = 0 }))
unfolding pack_copied
pack_marks bytes from work words' flex patterns room p copies read h P e R = (tt, sym (rw (lt-ltb _ _ h, pack_copied)))

-- no more
pub pack_copied_law : (bytes from work words' flex : List ℕ) (patterns room p copies read : ℕ) (c : Catalog) (w : Result (Pattern × Store × ℕ × ℕ) Answer) → length flex ≤ patterns → c ≡ tables_of (length bytes) → FromList bytes from work words' flex patterns room c p copies read w → FromPack bytes from work words' flex patterns room p copies read w
unfolding pack_copied
pack_copied_law bytes from work words' flex patterns room p copies read c w h e K P f R =
    let W = K P (reads_there bytes work c e P R) (parsed_proper bytes P f) in
    (W.0, W.1 ∙ sym (rw (le-ltb _ _ h, pack_copied)))
