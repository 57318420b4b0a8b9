-- Where the lines of a goal are read.
use Rattle.std.specs.Prelude.{◌≡◌, true, false, ℕ, ◌+◌, ◌*◌, ◌≤◌, ◌<◌, length}
use Rattle.std.proofs.Common.{sym, subst, ◌∙◌, arith}
use Rattle.std.proofs.Math.Path.{ap}
use mathlib.Core.List.{List}
use Rattle.std.proofs.Math.Option.{Option, none, some}
use Rattle.std.proofs.Math.ListN.{get_or}
use Rattle.definition.specs.Pack.{Pack}
use Rattle.definition.specs.Verdict.{Bound, value_of}
use Rattle.definition.specs.Classes.{Class, mark}
use Rattle.base.specs.Upto.{Upto}
use Rattle.memo.specs.Recall.{recall, Remembers}
use Rattle.memo.specs.Lent.{lent, recall_at}
use Rattle.store.specs.Stored.{nodes}
use Rattle.pack_tables.specs.Catalog.{records_of}
use Rattle.pack_tables.specs.SameTables.{Same, same-records}
use Rattle.pack_read.specs.Reads.{Reads}
use Rattle.pack_read.specs.Held.{Proper, reads_on}
use Rattle.class_premises.specs.Takes.{conclusion_in, count_in}
use Rattle.text_write.specs.Source.{lent_upto}
use Rattle.text_write.specs.Walk.{Placed, placed_on}
use Rattle.text_write.specs.declared.source.Source.{Source}
use Rattle.text_goals.specs.declared.form.Form.{Form}

-- the pack's ground nodes in place of patterns, and the other way
abbrev pub ground_of : Source → Source
ground_of s = record { catalog = s.catalog; index = s.index; end = s.end; store = s.store; is_ground = true }

-- what a variable's value is
abbrev pub value_in : List ℕ → Form → ℕ → Option ℕ
value_in work f k = recall_at f.values f.stack work f.memo k

-- patterns, ground nodes, the row and the values stand ahead of the stack, which has room
pub record Lined (bytes work class words : List ℕ) (f : Form) : Type 0 where
  pub pattern : f.patterns.is_ground ≡ false
  pub patterns : Placed bytes work words f.patterns f.stack
  pub grounds : Placed bytes work words (ground_of f.patterns) f.stack
  -- the class's row: so many variables, with their marks
  pub many : ℕ
  pub count : count_in class f.row ≡ many
  pub within : f.row + 3 + many ≤ length class
  pub small : length class < 4294967296
  pub stored : conclusion_in class f.row < length (nodes words f.patterns.store)
  -- their values, each a ground node
  pub room : f.values + 2 * many ≤ f.stack
  pub kept : Remembers (lent f.values f.stack work) f.memo
  pub given : (k n : ℕ) → recall_at f.values f.stack work f.memo k ≡ some n → n < length (records_of work f.patterns.catalog 3)

-- the class with these values that the row and the memo say
pub record Says (work class : List ℕ) (f : Form) (x : Class) (vs : List Bound) : Type 0 where
  pub many : count_in class f.row ≡ length x.flex
  pub conclusion : conclusion_in class f.row ≡ x.conclusion
  pub marks : (k : ℕ) → k < length x.flex → get_or class (f.row + 3 + k) 0 ≡ mark (get_or x.flex k false)
  pub values : (k : ℕ) → recall_at f.values f.stack work f.memo k ≡ value_of k vs

-- it holds of whatever proper pack the tables are, and of whatever class and values the words say
abbrev pub OfLined : (bytes work class : List ℕ) (f : Form) → (Pack → Class → List Bound → Type 0) → Type 0
OfLined bytes work class f F = (P : Pack) (x : Class) (vs : List Bound) → Reads bytes (records_of work f.patterns.catalog) P → Proper P → Says work class f x vs → F P x vs

-- ---- words of the stack may change
module _ (bytes work work' class words : List ℕ) (f : Form) (U : Upto f.stack work work') (L : Lined bytes work class words f) where
  same : Same work work' f.patterns.catalog
  same = record { long = U.long; words = λ i h. U.words i (omega (arith, L.patterns.tables)) }

  values_same : lent f.values f.stack work' ≡ lent f.values f.stack work
  values_same = lent_upto f.stack work work' U f.values f.stack (omega (arith, L.room)) (omega arith) (omega (arith, L.patterns.room))

  value_same : (k : ℕ) → recall_at f.values f.stack work' f.memo k ≡ recall_at f.values f.stack work f.memo k
  unfolding recall_at
  value_same k = ap (λ (zs : List ℕ). get_or (recall zs f.memo) k none) values_same

  pub lined_on : Lined bytes work' class words f
  lined_on = record {
    pattern = L.pattern;
    patterns = placed_on bytes work work' words f.patterns f.stack U L.patterns;
    grounds = placed_on bytes work work' words (ground_of f.patterns) f.stack U L.grounds;
    many = L.many;
    count = L.count;
    within = L.within;
    small = L.small;
    stored = L.stored;
    room = L.room;
    kept = subst (λ (zs : List ℕ). Remembers zs f.memo) (sym values_same) L.kept;
    given = λ k n e. omega (arith, L.given k n (sym (value_same k) ∙ e), ap length (same-records work work' f.patterns.catalog same L.patterns.sourced.held.cataloged.fits 3 (omega arith)));
  }

  pub lined_reads : (P : Pack) → Reads bytes (records_of work f.patterns.catalog) P → Reads bytes (records_of work' f.patterns.catalog) P
  lined_reads P R = reads_on bytes work work' f.patterns.catalog same L.patterns.sourced.held.cataloged P R

  pub says_on : (x : Class) (vs : List Bound) → Says work class f x vs → Says work' class f x vs
  says_on x vs S = record { many = S.many; conclusion = S.conclusion; marks = S.marks; values = λ k. value_same k ∙ S.values k }
