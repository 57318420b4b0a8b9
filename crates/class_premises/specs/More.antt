-- One class more: its patterns in the store, its row written and its place noted leave what class building holds.
use Rattle.std.specs.Prelude.{◌≡◌, refl, List, [], ◌∷◌, ◌++◌, ℕ, ◌+◌, ◌≤◌, ◌<◌, length, get_or}
use Rattle.std.proofs.Common.{sym, ap, ◌∙◌, subst, arith, length-append}
use Rattle.std.proofs.Math.Decide.{dec_lt}
use Rattle.std.proofs.Math.ListN.{get_or-append}
use Rattle.std.proofs.lemmas.List.{get_or_at}
use Rattle.definition.specs.Pack.{Pack, Node}
use Rattle.definition.specs.Keys.{no_keyed, keyed as keys_of}
use Rattle.definition.specs.Classes.{Class, no_class, Built}
use Rattle.theory.specs.Patterns.Interned.{Grows, grows_long}
use Rattle.base.specs.Upto.{Upto}
use Rattle.store.specs.Stored.{nodes}
use Rattle.memo.specs.Recall.{Remembers}
use Rattle.memo.specs.declared.memo.Memo.{Memo}
use Rattle.store.specs.declared.nodes.Store.{Store}
use Rattle.pack_tables.specs.Catalog.{records_of}
use Rattle.pack_tables.specs.SameTables.{Same}
use Rattle.pack_tables.specs.declared.catalog.Catalog.{Catalog}
use Rattle.pack_read.specs.Reads.{length_steps}
use Rattle.pack_read.specs.Held.{reads_on}
use Rattle.term_lift.specs.Lifts.{Lifts}
use Rattle.theory.specs.Copies.Terms.{Patterns}
use Rattle.theory.specs.Making.Variables.{VariablesBelow}
use Rattle.class_keys.specs.Upto.{upto_same}
use Rattle.class_keys.specs.Keyed.{keyed_work_on}
use Rattle.class_keys.specs.declared.classes.Keying.{Keying}
use Rattle.class_keys.specs.declared.classes.Counts.{Counts}
use Rattle.class_premises.specs.Layout.{memo_in, laid_on, laid_words}
use Rattle.class_premises.specs.declared.layout.Layout.{Layout}
use Rattle.class_premises.specs.RowWords.{width_of}
use Rattle.class_premises.specs.Rows.{RowsIn, rows_then}
use Rattle.class_premises.specs.Standing.{lifted_of, Sound, Standing}
use Rattle.class_premises.specs.Row.{Row}
use Rattle.class_premises.specs.Added.{built_with}

-- a class's patterns are in the store, its row is written behind the others and its place noted; the words ahead of that place are as
-- they were
pub record Adds (bytes work class words cells work' class' words' : List ℕ) (c : Catalog) (l : Layout) (st' : Store) (memo' : Memo) (fill : ℕ) (P : Pack) (b : Built) (x : Class) : Type 0 where
  pub more : length b.classes < length (keys_of P).classes
  pub ahead : Upto (l.rows + length b.classes) work work'
  pub place : get_or work' (l.rows + length b.classes) 0 ≡ fill
  pub row : Row class class' fill x (get_or (keys_of P).classes (length b.classes) no_keyed).count
  pub long : length words' ≡ length words
  pub lifts : Lifts bytes work' words' c (lifted_of l) st'
  pub patterns : Patterns (nodes words' st')
  pub numbers : VariablesBelow (length cells + 16) (nodes words' st')
  pub grows : Grows b.store (nodes words' st')
  pub remembers : Remembers (memo_in work' l) memo'
  pub stored : x.conclusion < length (nodes words' st')
  pub few : length x.flex ≤ length cells + 16

module _ (bytes work class words cells work' class' words' : List ℕ) (c : Catalog) (k : Keying) (l : Layout) (r : Counts) (st st' : Store) (memo memo' : Memo) (fill : ℕ) (P : Pack) (b : Built) (x : Class)
    (S : Standing bytes work class words cells c k l r st memo fill P b) (A : Adds bytes work class words cells work' class' words' c l st' memo' fill P b x) where
  -- how full the class buffer is then
  abbrev full : ℕ
  full = fill + 3 + length x.flex

  -- the store of the classes then
  abbrev store' : List Node
  store' = nodes words' st'

  -- the words up to the keys' end are as they were
  more_upto : Upto l.rows work work'
  more_upto = record { long = A.ahead.long; words = λ i h. A.ahead.words i (omega arith) }

  -- the steps' words stand ahead of the rows
  more_steps : length P.steps ≤ fill
  more_steps = omega (arith, S.rows.filled)

  -- the rows
  more_rows : RowsIn work' class' l.rows (length P.steps) full (b.classes ++ (x ∷ [])) (keys_of P).classes
  more_rows =
      let e : fill + width_of x ≡ full = omega arith in
      subst (λ (f : ℕ). RowsIn work' class' l.rows (length P.steps) f (b.classes ++ (x ∷ [])) (keys_of P).classes) e
      (rows_then work work' class class' l.rows (length P.steps) fill b.classes (keys_of P).classes S.rows x A.more A.row.room A.row.long A.row.kept A.row.words
      (λ i h. A.ahead.words (l.rows + i) (omega arith)) A.place)

  -- each class is sound
  more_sound : (i : ℕ) → i < length (b.classes ++ (x ∷ [])) → Sound cells (built_with b store' x) (get_or (b.classes ++ (x ∷ [])) i no_class)
  more_sound i h = elim (dec_lt i (length b.classes)) [
    | yes m ↦
        let s = S.sound i m in
        let g = grows_long b.store store' A.grows in
        subst (Sound cells (built_with b store' x)) (sym (get_or-append b.classes (x ∷ []) no_class i m)) (record { stored = omega (arith, s.stored, g); few = s.few })
    | no m ↦
        let e : i ≡ length b.classes = omega (arith, m, length-append b.classes (x ∷ [])) in
        subst (Sound cells (built_with b store' x)) (sym (ap (λ (j : ℕ). get_or (b.classes ++ (x ∷ [])) j no_class) e ∙ get_or_at b.classes x [] no_class (length b.classes) refl))
        (record { stored = A.stored; few = A.few })
  ]

  -- all that is held then
  pub standing_more : Standing bytes work' class' words' cells c k l r st' memo' full P (built_with b store' x)
  standing_more =
      let same : Same work work' c = upto_same l.rows work work' c more_upto (omega (arith, S.keyed.keyable.behind, S.placed.behind)) in
      record {
        keyed =
            keyed_work_on bytes work work' class class' c k r (record { long = more_upto.long; words = λ i h. more_upto.words i (omega (arith, S.placed.behind)) }) A.row.long
            (λ i h. A.row.kept i (omega (arith, h, more_steps, length_steps bytes (records_of work c) P S.reads))) S.keyed;
        reads = reads_on bytes work work' c same S.lifts.laid.held.cataloged P S.reads;
        proper = S.proper;
        placed = record { behind = S.placed.behind; rows = S.placed.rows; laid = laid_on work work' words' cells l A.ahead.long (laid_words work words words' cells l A.long S.placed.laid) };
        lifts = A.lifts;
        store = refl;
        patterns = A.patterns;
        numbers = A.numbers;
        remembers = A.remembers;
        rows = more_rows;
        filled = omega (arith, S.filled);
        sound = more_sound;
      }
