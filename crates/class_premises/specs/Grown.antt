-- A class in two steps: first its patterns are in the store, then its row is written and its place noted, which leaves lifting's words
-- and the memo.
use Rattle.std.specs.Prelude.{◌≡◌, List, ℕ, ◌+◌, ◌*◌, ◌-◌, ◌≤◌, ◌<◌, length, get_or}
use Rattle.std.proofs.Common.{sym, ap, ◌∙◌, subst, arith}
use Rattle.definition.specs.Pack.{Pack}
use Rattle.definition.specs.Keys.{no_keyed, keyed as keys_of}
use Rattle.definition.specs.Classes.{Class, Built}
use Rattle.theory.specs.Patterns.Interned.{Grows}
use Rattle.theory.specs.Walks.Lifting.{Right as LiftsRight}
use Rattle.base.specs.Part.{part_same}
use Rattle.base.specs.Outside.{part-behind}
use Rattle.base.specs.Upto.{Upto}
use Rattle.store.specs.Stored.{Stored, nodes}
use Rattle.memo.specs.Recall.{Remembers}
use Rattle.memo.specs.declared.memo.Memo.{Memo}
use Rattle.store.specs.declared.nodes.Store.{Store}
use Rattle.pack_tables.specs.Catalog.{records_of}
use Rattle.pack_tables.specs.SameTables.{Same, same-records, end_of as tablesEnd}
use Rattle.pack_tables.specs.declared.catalog.Catalog.{Catalog}
use Rattle.pack_read.specs.Reads.{length_steps}
use Rattle.pack_read.specs.Held.{held_on, reads_back}
use Rattle.term_lift.specs.Lifts.{index_at, marks, index_in, Lifts}
use Rattle.term_lift.specs.Memo.{lifted_same}
use Rattle.term_lift.specs.declared.lift.Lifted.{Lifted}
use Rattle.theory.specs.Copies.Terms.{Patterns}
use Rattle.theory.specs.Making.Variables.{VariablesBelow}
use Rattle.class_keys.specs.ClassWords.{count_in}
use Rattle.class_keys.specs.declared.classes.Keying.{Keying}
use Rattle.class_keys.specs.declared.classes.Counts.{Counts}
use Rattle.class_premises.specs.Layout.{memo_in}
use Rattle.class_premises.specs.declared.layout.Layout.{Layout}
use Rattle.class_premises.specs.Standing.{lifted_of, Standing, standing_keyed, standing_few}
use Rattle.class_premises.specs.Row.{Begun, Row}
use Rattle.class_premises.specs.More.{Adds}

-- words between the pack's tables and lifting's leave both
pub lifts_beside : (bytes work words : List ℕ) (c : Catalog) (l : Lifted) (st : Store) (work' : List ℕ) → length work' ≡ length work → ((i : ℕ) → i < tablesEnd c → get_or work' i 0 ≡ get_or work i 0)
    → ((i : ℕ) → l.at ≤ i → i < l.end → get_or work' i 0 ≡ get_or work i 0) → Lifts bytes work words c l st → Lifts bytes work' words c l st
lifts_beside bytes work words c l st work' e f g L =
    let S : Same work work' c = record { long = e; words = f } in
    let D = L.laid in
    let index : index_in work' l ≡ index_in work l = part_same (index_at l) (l.end - index_at l) work' work (omega (arith, D.fits, D.inside)) (omega (arith, D.fits, D.inside)) (λ i h. g (index_at l + i) (omega arith) (omega arith)) in
    let same : marks work' l ≡ marks work l = part_same l.at l.nodes work' work (omega (arith, D.fits, D.inside)) (omega (arith, D.fits, D.inside)) (λ i h. g (l.at + i) (omega arith) (omega (arith, D.fits))) in
    record {
      laid = record {
        held = held_on bytes work work' c S D.held;
        behind = D.behind;
        many = D.many ∙ ap length (sym (same-records work work' c S D.held.cataloged.fits 3 (omega arith)));
        fits = D.fits;
        inside = omega (arith, D.inside);
        index = subst (λ (xs : List ℕ). Stored xs words st) (sym index) D.index;
      };
      right = λ P r p. subst (LiftsRight P) (sym (lifted_same work work' words l st same)) (L.right P (reads_back bytes work work' c S D.held.cataloged P r) p);
    }

-- the patterns of class x are in the store; of work only words from lifting's on were written
pub record Grown (bytes work words cells work' words' : List ℕ) (c : Catalog) (l : Layout) (st' : Store) (memo' : Memo) (b : Built) (x : Class) : Type 0 where
  pub ahead : Upto l.lifted work work'
  pub long : length words' ≡ length words
  pub lifts : Lifts bytes work' words' c (lifted_of l) st'
  pub patterns : Patterns (nodes words' st')
  pub numbers : VariablesBelow (length cells + 16) (nodes words' st')
  pub grows : Grows b.store (nodes words' st')
  pub remembers : Remembers (memo_in work' l) memo'
  pub stored : x.conclusion < length (nodes words' st')
  pub few : length x.flex ≤ length cells + 16

module _ (bytes work class words cells work' words' : List ℕ) (c : Catalog) (k : Keying) (l : Layout) (r : Counts) (st st' : Store) (memo memo' : Memo) (fill : ℕ) (P : Pack) (b : Built) (x : Class)
    (S : Standing bytes work class words cells c k l r st memo fill P b) (G : Grown bytes work words cells work' words' c l st' memo' b x) (more : length b.classes < length (keys_of P).classes) where
  -- how many steps the class has, by its word
  pub grown-count : count_in work' k (length b.classes) ≡ (get_or (keys_of P).classes (length b.classes) no_keyed).count
  grown-count =
      let K = standing_keyed bytes work class words cells c k l r st memo fill P b S in
      let f = standing_few bytes work class words cells c k l r st memo fill P b S in
      let h : length b.classes < r.classes = omega (arith, K.classes) in
      G.ahead.words (k.at + 2 * k.cap + length b.classes) (omega (arith, f, S.placed.behind, S.placed.rows)) ∙ K.count (length b.classes) h

  -- where its word stands
  pub grown-counted : k.at + 2 * k.cap + length b.classes < length work'
  grown-counted =
      let f = standing_few bytes work class words cells c k l r st memo fill P b S in
      omega (arith, f, S.placed.behind, S.placed.rows, S.placed.laid.index, S.placed.laid.memo, S.placed.laid.stack, S.placed.laid.variables, S.placed.laid.table, S.placed.laid.inside, G.ahead.long)

  -- where its row's place is noted
  pub grown-place : l.rows + length b.classes < l.lifted
  grown-place =
      let K = standing_keyed bytes work class words cells c k l r st memo fill P b S in
      omega (arith, more, K.classes, K.few, S.keyed.keyable.steps, length_steps bytes (records_of work c) P S.reads, S.placed.rows)

  -- and that it is a word of work
  pub grown_inside : l.rows + length b.classes < length work'
  grown_inside =
      omega (arith, grown-place, S.placed.laid.index, S.placed.laid.memo, S.placed.laid.stack, S.placed.laid.variables, S.placed.laid.table, S.placed.laid.inside, G.ahead.long)

  -- the row is written
  pub grown-adds : (work'' class' class'' : List ℕ) (conclusion count n : ℕ) → Begun work' class work'' class' l fill (length b.classes) conclusion count n → Row class class'' fill x (get_or (keys_of P).classes (length b.classes) no_keyed).count
      → Adds bytes work class words cells work'' class'' words' c l st' memo' fill P b x
  grown-adds work'' class' class'' conclusion count n B R =
      let i = length b.classes in
      let O = B.places in
      let laid = S.placed.laid in
      record {
        more = more;
        ahead = record { long = O.long ∙ G.ahead.long; words = λ j h. O.ahead j h ∙ G.ahead.words j (omega (arith, grown-place)) };
        place = B.place;
        row = R;
        long = G.long;
        lifts =
            lifts_beside bytes work' words' c (lifted_of l) st' work'' O.long (λ j h. O.ahead j (omega (arith, h, S.keyed.keyable.behind, S.placed.behind))) (λ j h m. O.behind j (omega (arith, h, grown-place))) G.lifts;
        patterns = G.patterns;
        numbers = G.numbers;
        grows = G.grows;
        remembers =
            subst (λ (t : List ℕ). Remembers t memo')
            (sym (part-behind (l.rows + i) (l.rows + i + 1) work' work'' O l.copied (l.walk - l.copied) (omega (arith, grown-place, laid.index))
            (omega (arith, laid.memo, laid.stack, laid.variables, laid.table, laid.inside, G.ahead.long))))
            G.remembers;
        stored = G.stored;
        few = G.few;
      }
