-- The goals tested and the figures counted when all classes are made.
use Rattle.std.specs.Prelude.{◌≡◌, refl, List, ℕ, ◌+◌, ◌*◌, ◌≤◌, length}
use Rattle.std.proofs.Common.{sym, ap, ◌∙◌, subst, arith}
use Rattle.definition.specs.Pack.{Pack}
use Rattle.definition.specs.Classes.{Built}
use Rattle.definition.specs.Figures.{figures}
use Rattle.definition.specs.declared.Figures.{Figures}
use Rattle.base.specs.Upto.{Upto}
use Rattle.store.specs.Words.{words-most}
use Rattle.store.specs.Stored.{nodes}
use Rattle.store.specs.declared.nodes.Store.{Store}
use Rattle.pack_tables.specs.Catalog.{records_of}
use Rattle.pack_tables.specs.declared.catalog.Catalog.{Catalog}
use Rattle.pack_read.specs.Reads.{length-nodes, length_steps}
use Rattle.pack_read.specs.Held.{reads_on}
use Rattle.class_keys.specs.Upto.{upto_same}
use Rattle.term_lift.specs.Lifts.{index_in}
use Rattle.class_keys.specs.ClassWords.{end_of}
use Rattle.class_keys.specs.Keyed.{KeyedIn, keyed_work_on}
use Rattle.class_keys.specs.declared.classes.Keying.{Keying}
use Rattle.class_keys.specs.declared.classes.Counts.{Counts}
use Rattle.class_premises.specs.declared.layout.Layout.{Layout}
use Rattle.class_premises.specs.Standing.{lifted_of, standing_held, standing_keyed, standing_behind}
use Rattle.term_instance.specs.declared.tables.Instance.{Instance}
use Rattle.class_build.specs.Tests.{Made}
use Rattle.class_premises.specs.declared.building.Counted.{Counted}
use Rattle.class_build.specs.Figures.{Figured}
use Rattle.class_build.specs.GoalTables.{test_tables}
use Rattle.class_build.specs.LeftWords.{pattern_fits}
use Rattle.class_build.specs.Build.{Ended, Testing}

module _ (bytes work class words cells : List ℕ) (c : Catalog) (k : Keying) (l : Layout) (r : Counts) (st : Store) (fill : ℕ) (t : Counted) (T : Testing bytes work class words cells c k l r st fill t) where
  -- the tables' places stand in work
  pub tests_fit : (l.lifted + 3 * l.nodes ≤ l.copied) × (l.copied + 2 * st.used + 2 * st.len + 2 * (length cells + 16) ≤ length work)
  tests_fit =
      let E = T.ended in
      let S = E.standing in
      let p = S.lifts.laid.index.placed in
      let few = pattern_fits bytes work class words cells c k l r st E.memo fill T.pack T.built S in
      (S.placed.laid.index, omega (arith, T.room, few, p.used, p.len, words-most (nodes words st)))

  -- behind them there is room for a stack of the store's nodes, and for one of the pack's
  pub stack_fits : (i : Instance) → i ≡ test_tables (length cells) l st → (i.end + 2 * st.len ≤ length work) × (i.end + 2 * l.nodes ≤ length work)
  stack_fits i e =
      let q : i.end ≡ (test_tables (length cells) l st).end = ap (λ (j : Instance). j.end) e in
      let E = T.ended in
      let S = E.standing in
      let p = S.lifts.laid.index.placed in
      let few = pattern_fits bytes work class words cells c k l r st E.memo fill T.pack T.built S in
      (omega (arith, q, T.room, few, p.used, p.len, words-most (nodes words st)), omega (arith, q, T.room, few, p.used, p.len, words-most (nodes words st)))

  -- the goals may be tested, with these tables
  abbrev pub tables_made : Made bytes work class words c k l (test_tables (length cells) l st) st
  tables_made =
      let E = T.ended in
      record {
        cells = cells;
        counts = r;
        memo = E.memo;
        fill = fill;
        pack = T.pack;
        built = T.built;
        standing = E.standing;
        all = E.all;
        tabled = record {
          index = refl;
          behind = refl;
          pairs = omega arith;
          table = omega arith;
          fits = tests_fit.1;
          most = length cells + 16;
          numbers = E.standing.numbers;
          values = omega arith;
        };
      }

  pub tests_made : (i : Instance) → i ≡ test_tables (length cells) l st → Made bytes work class words c k l i st
  tests_made i e = subst (λ (j : Instance). Made bytes work class words c k l j st) (sym e) tables_made

  -- the counts of the classes stand there
  pub counts_there : (work' : List ℕ) → length work' ≡ length work → k.at + 2 * k.cap + r.classes ≤ length work'
  counts_there work' e =
      let S = T.ended.standing in
      let K = standing_keyed bytes work class words cells c k l r st T.ended.memo fill T.pack T.built S in
      omega (arith, e, S.keyed.keyable.room, S.keyed.keyable.steps, K.few, length_steps bytes (records_of work c) T.pack S.reads)

-- the figures are the definition's
module _ (bytes work class words cells : List ℕ) (c : Catalog) (k : Keying) (l : Layout) (r : Counts) (st : Store) (fill : ℕ) (t : Counted) (P : Pack) (b : Built)
    (E : Ended bytes work class words cells c k l r st fill t P b) (i : Instance) (e : i ≡ test_tables (length cells) l st) (work' : List ℕ) (U : Upto i.pairs work work') where
  -- the keys are as they were
  keys_stay : Upto (end_of k) work work'
  keys_stay =
      let S = E.standing in
      let q : i.pairs ≡ l.copied = ap (λ (j : Instance). j.pairs) e in
      record { long = U.long; words = λ j h. U.words j (omega (arith, q, S.placed.behind, S.placed.rows, S.placed.laid.index)) }

  pub keyed_still : KeyedIn P work' class k r
  keyed_still =
      let S = E.standing in
      let behind = standing_behind bytes work class words cells c k l r st E.memo fill P b S in
      let same = upto_same (end_of k) work work' c keys_stay (omega (arith, S.keyed.keyable.behind)) in
      (keyed_work_on bytes work work' class class c k r keys_stay refl (λ j h. refl) S.keyed).keyed P (reads_on bytes work work' c same (standing_held bytes work class words cells c k l r st E.memo fill P b S).cataloged P S.reads) S.proper

  pub figures_are : (f : Figures) → Figured work' k r l.nodes st t f → f ≡ figures P b
  figures_are f F =
      let S = E.standing in
      F class (index_in work (lifted_of l)) words P b (record {
        keyed = keyed_still;
        classes = keyed_still.classes ∙ sym E.all;
        closed = S.lifts.laid.many ∙ sym (length-nodes bytes (records_of work c) P S.reads);
        stored = S.lifts.laid.index;
        store = S.store;
        summed = E.summed;
      })
