-- What the goals' tests read of what class building left: each judgment's first step, each step's class, each class's row, the store.
use Rattle.std.specs.Prelude.{◌≡◌, Bool, false, List, ℕ, ◌+◌, ◌≤◌, ◌<◌, length, get_or, take}
use Rattle.std.proofs.Common.{sym, ap, ◌∙◌, subst, arith, get_or-take}
use Rattle.definition.specs.Pack.{Goal, Pack}
use Rattle.definition.specs.Keys.{first_of, keyed as keys_of}
use Rattle.definition.specs.Classes.{no_class, mark, Built}
use Rattle.base.specs.Outside.{Outside}
use Rattle.base.specs.Upto.{Upto}
use Rattle.pack_tables.specs.Catalog.{records_of}
use Rattle.pack_tables.specs.declared.catalog.Catalog.{Catalog}
use Rattle.pack_read.specs.Reads.{Reads}
use Rattle.pack_read.specs.Goals.{MetBy}
use Rattle.pack_read.specs.Held.{Proper}
use Rattle.store.specs.Stored.{nodes}
use Rattle.memo.specs.declared.memo.Memo.{Memo}
use Rattle.store.specs.declared.nodes.Store.{Store}
use Rattle.class_keys.specs.Firsts.{Noted, placed-many, placed_reads, noted_on}
use Rattle.class_keys.specs.declared.classes.Keying.{Keying}
use Rattle.class_premises.specs.Takes.{row_in, conclusion_in, count_in}
use Rattle.class_premises.specs.declared.layout.Layout.{Layout}
use Rattle.term_instance.specs.Held.{Given}
use Rattle.term_instance.specs.declared.tables.Instance.{Instance}
use Rattle.class_build.specs.Results.{answered-first, answered_class}

-- a row stands in the class buffer, and behind its first words are the marks of its class's variables
pub record Marked (class : List ℕ) (row : ℕ) (flex : List Bool) : Type 0 where
  pub within : row + 3 + length flex ≤ length class
  pub count : count_in class row ≡ length flex
  pub marks : (k : ℕ) → k < length flex → get_or class (row + 3 + k) 0 ≡ mark (get_or flex k false)

-- all classes of pack P are made, and what the tests read stands ahead of the instance test's tables
pub record Ready (bytes work class words : List ℕ) (c : Catalog) (k : Keying) (l : Layout) (t : Instance) (st : Store) (P : Pack) (b : Built) : Type 0 where
  pub noted : Noted bytes work c k.at
  pub reads : Reads bytes (records_of work c) P
  pub proper : Proper P
  -- the first steps of judgments, and the places of rows
  pub firsts : k.at + length (records_of work c 3) ≤ t.pairs
  pub places : l.rows + length b.classes ≤ t.pairs
  pub inside : t.pairs ≤ length work
  -- each step's class
  pub many : length P.steps ≤ length class
  pub classes : take (length P.steps) class ≡ (keys_of P).words
  pub made : length b.classes ≡ length (keys_of P).classes
  -- each class's conclusion
  pub rows : (i : ℕ) → i < length b.classes → get_or work (l.rows + i) 0 < length class
  pub conclusions : (i : ℕ) → i < length b.classes → conclusion_in class (get_or work (l.rows + i) 0) ≡ (get_or b.classes i no_class).conclusion
  pub stored : (i : ℕ) → i < length b.classes → (get_or b.classes i no_class).conclusion < length b.store
  -- the marks of its variables
  pub marks : (i : ℕ) → i < length b.classes → Marked class (get_or work (l.rows + i) 0) (get_or b.classes i no_class).flex
  pub store : nodes words st ≡ b.store

-- it is so of some pack, and there are the tables of the instance test
pub record Testable (bytes work class words : List ℕ) (c : Catalog) (k : Keying) (l : Layout) (t : Instance) (st : Store) (seen values : Memo) : Type 0 where
  pub pack : Pack
  pub built : Built
  pub ready : Ready bytes work class words c k l t st pack built
  pub given : Given bytes work words c t st seen values

-- words from these tables on may change
pub ready_upto : (bytes work work' class words : List ℕ) (c : Catalog) (k : Keying) (l : Layout) (t : Instance) (st : Store) (P : Pack) (b : Built) → Upto t.pairs work work'
    → Ready bytes work class words c k l t st P b → Ready bytes work' class words c k l t st P b
ready_upto bytes work work' class words c k l t st P b U R =
    let W : Upto k.at work work' = record { long = U.long; words = λ i h. U.words i (omega (arith, R.firsts)) } in
    let place : (i : ℕ) → i < length b.classes → get_or work' (l.rows + i) 0 ≡ get_or work (l.rows + i) 0 = λ i h. U.words (l.rows + i) (omega (arith, R.places)) in
    record {
      noted = noted_on bytes work work' c k.at t.pairs R.firsts U R.noted;
      reads = placed_reads bytes work work' c k.at R.noted.placed W P R.reads;
      proper = R.proper;
      firsts = omega (arith, R.firsts, placed-many bytes work work' c k.at R.noted.placed W 3 (omega arith));
      places = R.places;
      inside = omega (arith, R.inside, U.long);
      many = R.many;
      classes = R.classes;
      made = R.made;
      rows = λ i h. omega (arith, place i h, R.rows i h);
      conclusions = λ i h. ap (λ (j : ℕ). conclusion_in class j) (place i h) ∙ R.conclusions i h;
      stored = R.stored;
      marks = λ i h. subst (λ (j : ℕ). Marked class j (get_or b.classes i no_class).flex) (sym (place i h)) (R.marks i h);
      store = R.store;
    }

-- words of these tables
pub ready_on : (bytes work work' class words : List ℕ) (c : Catalog) (k : Keying) (l : Layout) (t : Instance) (st : Store) (P : Pack) (b : Built) → Outside t.pairs t.end work work'
    → Ready bytes work class words c k l t st P b → Ready bytes work' class words c k l t st P b
ready_on bytes work work' class words c k l t st P b A = ready_upto bytes work work' class words c k l t st P b (record { long = A.long; words = A.ahead })

-- the class of a goal's judgment
module _ (bytes work class words : List ℕ) (c : Catalog) (k : Keying) (l : Layout) (t : Instance) (st : Store) (P : Pack) (b : Built) (R : Ready bytes work class words c k l t st P b)
    (g : Goal) (s : ℕ) (A : MetBy P g s) (f : ℕ) (F : f ≡ first_of P s) where
  -- its word is there
  pub class_there : f < length class
  class_there = omega (arith, F, answered-first P R.proper.good g s A, R.many)

  -- and says the class
  pub class_is : get_or class f 0 ≡ get_or (keys_of P).words (first_of P s) 0
  class_is =
      let h : f < length P.steps = omega (arith, F, answered-first P R.proper.good g s A) in
      sym (get_or-take (length P.steps) class f 0 h) ∙ ap (λ (ws : List ℕ). get_or ws f 0) R.classes ∙ ap (λ (i : ℕ). get_or (keys_of P).words i 0) F

  -- which is made
  pub class_made : get_or class f 0 < length b.classes
  class_made = omega (arith, class_is, answered_class P R.proper.good g s A, R.made)

  -- its row's place is there
  pub place_there : l.rows + get_or class f 0 < length work
  place_there = omega (arith, class_made, R.places, R.inside)

  -- and its row
  pub row_there : row_in work class l f < length class
  row_there = R.rows (get_or class f 0) class_made

  -- which says its conclusion
  pub conclusion_is : get_or class (row_in work class l f) 0 ≡ (get_or b.classes (get_or (keys_of P).words (first_of P s) 0) no_class).conclusion
  conclusion_is = R.conclusions (get_or class f 0) class_made ∙ ap (λ (i : ℕ). (get_or b.classes i no_class).conclusion) class_is

  -- a pattern of the store
  pub conclusion-stored : get_or class (row_in work class l f) 0 < length (nodes words st)
  conclusion-stored = omega (arith, R.conclusions (get_or class f 0) class_made, R.stored (get_or class f 0) class_made, ap length R.store)
