-- What class building holds between one class and the next: the keys, the rows of the classes made, the store of their patterns.
use Rattle.std.specs.Prelude.{◌≡◌, refl, List, ℕ, ◌+◌, ◌≤◌, ◌<◌, length, get_or}
use Rattle.std.proofs.Common.{sym, subst, arith}
use Rattle.definition.specs.Pack.{Pack}
use Rattle.definition.specs.Keys.{keyed as keys_of}
use Rattle.definition.specs.Classes.{Class, no_class, Built}
use Rattle.base.specs.Upto.{Upto}
use Rattle.store.specs.Stored.{nodes}
use Rattle.memo.specs.Recall.{Remembers}
use Rattle.memo.specs.declared.memo.Memo.{Memo}
use Rattle.store.specs.declared.nodes.Store.{Store}
use Rattle.pack_tables.specs.Catalog.{records_of}
use Rattle.pack_tables.specs.SameTables.{Same, end_of as tablesEnd}
use Rattle.pack_tables.specs.declared.catalog.Catalog.{Catalog}
use Rattle.pack_read.specs.Reads.{Reads, length_steps}
use Rattle.pack_read.specs.Held.{Proper, Held, reads_on}
use Rattle.term_lift.specs.Lifts.{Lifts}
use Rattle.term_lift.specs.declared.lift.Lifted.{Lifted}
use Rattle.theory.specs.Copies.Terms.{Patterns}
use Rattle.theory.specs.Making.Variables.{VariablesBelow}
use Rattle.class_keys.specs.Upto.{upto_same}
use Rattle.class_keys.specs.ClassWords.{end_of}
use Rattle.class_keys.specs.Keyed.{KeyedIn, KeyedWork, keyed_work_on}
use Rattle.class_keys.specs.declared.classes.Keying.{Keying}
use Rattle.class_keys.specs.declared.classes.Counts.{Counts}
use Rattle.class_premises.specs.Layout.{memo_in, Laid, laid_on, laid_cells}
use Rattle.class_premises.specs.declared.layout.Layout.{Layout}
use Rattle.term_lift.specs.Kept.{lifts_on}
use Rattle.class_premises.specs.Rows.{RowsIn, rows_on}

-- where lifting has its words
abbrev pub lifted_of : Layout → Lifted
lifted_of l = record { at = l.lifted; nodes = l.nodes; end = l.copied }

-- the places stand behind the keys'
pub record Placed (work words cells : List ℕ) (k : Keying) (l : Layout) : Type 0 where
  pub behind : end_of k ≤ l.rows
  pub rows : l.rows + k.cap ≤ l.lifted
  pub laid : Laid work words cells l

-- a class has a conclusion that the store has, and no more variables than there is room for
pub record Sound (cells : List ℕ) (b : Built) (x : Class) : Type 0 where
  pub stored : x.conclusion < length b.store
  pub few : length x.flex ≤ length cells + 16

-- the words hold what was built of pack P
pub record Standing (bytes work class words cells : List ℕ) (c : Catalog) (k : Keying) (l : Layout) (r : Counts) (st : Store) (memo : Memo) (fill : ℕ) (P : Pack) (b : Built) : Type 0 where
  pub keyed : KeyedWork bytes work class c k r
  pub reads : Reads bytes (records_of work c) P
  pub proper : Proper P
  pub placed : Placed work words cells k l
  pub lifts : Lifts bytes work words c (lifted_of l) st
  pub store : nodes words st ≡ b.store
  pub patterns : Patterns (nodes words st)
  pub numbers : VariablesBelow (length cells + 16) (nodes words st)
  pub remembers : Remembers (memo_in work l) memo
  pub rows : RowsIn work class l.rows (length P.steps) fill b.classes (keys_of P).classes
  pub filled : fill ≡ b.fill
  pub sound : (i : ℕ) → i < length b.classes → Sound cells b (get_or b.classes i no_class)

module _ (bytes work class words cells : List ℕ) (c : Catalog) (k : Keying) (l : Layout) (r : Counts) (st : Store) (memo : Memo) (fill : ℕ) (P : Pack) (b : Built)
    (S : Standing bytes work class words cells c k l r st memo fill P b) where
  -- the pack is held
  pub standing_held : Held bytes work c
  standing_held = S.lifts.laid.held

  -- the keys of the pack
  pub standing_keyed : KeyedIn P work class k r
  standing_keyed = S.keyed.keyed P S.reads S.proper

  -- the tables end ahead of lifting's words
  pub standing_behind : tablesEnd c ≤ l.lifted
  standing_behind = omega (arith, S.keyed.keyable.behind, S.placed.behind, S.placed.rows)

  -- there are no more classes than words for their places
  pub standing_few : length b.classes ≤ k.cap
  standing_few = omega (arith, S.rows.few, standing_keyed.classes, standing_keyed.few, S.keyed.keyable.steps, length_steps bytes (records_of work c) P S.reads)

  -- ---- words behind the store's index are written
  module _ (work' : List ℕ) (memo' : Memo) (U : Upto l.copied work work') (M : Remembers (memo_in work' l) memo') where
    same : Same work work' c
    same = upto_same l.copied work work' c U (omega (arith, standing_behind, S.placed.laid.index))

    pub standing_reads : Reads bytes (records_of work' c) P
    standing_reads = reads_on bytes work work' c same standing_held.cataloged P S.reads

    pub standing_on : Standing bytes work' class words cells c k l r st memo' fill P b
    standing_on = record {
      keyed =
          keyed_work_on bytes work work' class class c k r (record { long = U.long; words = λ i h. U.words i (omega (arith, S.placed.behind, S.placed.rows, S.placed.laid.index)) }) refl (λ i h. refl) S.keyed;
      reads = standing_reads;
      proper = S.proper;
      placed = record { behind = S.placed.behind; rows = S.placed.rows; laid = laid_on work work' words cells l U.long S.placed.laid };
      lifts = lifts_on bytes work words c (lifted_of l) st work' U.long (λ i h. U.words i h) S.lifts;
      store = S.store;
      patterns = S.patterns;
      numbers = S.numbers;
      remembers = M;
      rows = rows_on work work' class class l.rows (length P.steps) fill b.classes (keys_of P).classes S.rows (λ i h. U.words (l.rows + i) (omega (arith, standing_few, S.placed.rows, S.placed.laid.index))) refl (λ i p q. refl);
      filled = S.filled;
      sound = S.sound;
    }

-- other cells, as many
pub standing_cells : (bytes work class words cells cells' : List ℕ) (c : Catalog) (k : Keying) (l : Layout) (r : Counts) (st : Store) (memo : Memo) (fill : ℕ) (P : Pack) (b : Built) → length cells' ≡ length cells
    → Standing bytes work class words cells c k l r st memo fill P b → Standing bytes work class words cells' c k l r st memo fill P b
standing_cells bytes work class words cells cells' c k l r st memo fill P b e S = record {
  keyed = S.keyed;
  reads = S.reads;
  proper = S.proper;
  placed = record { behind = S.placed.behind; rows = S.placed.rows; laid = laid_cells work words cells cells' l e S.placed.laid };
  lifts = S.lifts;
  store = S.store;
  patterns = S.patterns;
  numbers = subst (λ (n : ℕ). VariablesBelow (n + 16) (nodes words st)) (sym e) S.numbers;
  remembers = S.remembers;
  rows = S.rows;
  filled = S.filled;
  sound = λ i h. record { stored = (S.sound i h).stored; few = omega (arith, (S.sound i h).few) };
}
