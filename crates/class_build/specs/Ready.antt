-- What `make_ready` asks and answers: the state before the first class.
use Rattle.std.specs.Prelude.{Option, Some, None}
use Rattle.std.specs.Prelude.{◌≡◌, List, [], ℕ, ◌+◌, ◌*◌, ◌≤◌, ◌<◌, length}
use Rattle.std.proofs.Math.Path.{refl, subst}
use Rattle.std.proofs.Common.{sym, ap, ◌∙◌, arith}
use Rattle.definition.specs.Pack.{Pack}
use Rattle.definition.specs.Frame.{fine, refuse}
use Rattle.definition.specs.Parse.{parse}
use Rattle.definition.specs.Answer.{Lent, most_cells}
use Rattle.definition.specs.Run.{outcome}
use Rattle.definition.specs.Keys.{keyed as keys_of}
use Rattle.definition.specs.Classes.{Built, make_classes, build_classes}
use Rattle.definition.specs.declared.Refusal.TheVariants as refusals
use Rattle.base.specs.Part.{part}
use Rattle.base.specs.Outside.{Outside}
use Rattle.base.specs.Upto.{Upto, upto_then, upto_outside}
use Rattle.memo.specs.Lent.{Clears}
use Rattle.memo.specs.declared.memo.Memo.{Memo}
use Rattle.store.specs.declared.nodes.Store.{Store}
use Rattle.pack_tables.specs.Catalog.{records_of, records_few}
use Rattle.pack_tables.specs.SameTables.{Same, same-records}
use Rattle.pack_tables.specs.declared.catalog.Catalog.{Catalog}
use Rattle.pack_read.specs.Reads.{length_steps}
use Rattle.pack_read.specs.Held.{Held, OfHeld, held_on, reads_on}
use Rattle.pack_reader.specs.Marks.{Marks}
use Rattle.pack_reader.specs.Parsed.{tables_of, Represents}
use Rattle.pack_reader.specs.Said.{represents_held}
use Rattle.theory.specs.Copies.Terms.{Patterns}
use Rattle.theory.specs.Making.Runs.{outcome-note, outcome_short, length_class}
use Rattle.theory.specs.Making.Interns.{patterns_none}
use Rattle.theory.specs.Making.Variables.{VariablesBelow, variables_none}
use Rattle.class_keys.specs.Upto.{upto_same}
use Rattle.class_keys.specs.ClassWords.{end_of, Keyable}
use Rattle.class_keys.specs.Keyed.{KeyedWork, keyed_work_on}
use Rattle.class_keys.specs.declared.classes.Keying.{Keying}
use Rattle.class_keys.specs.declared.classes.Counts.{Counts}
use Rattle.class_premises.specs.Layout.{laid_on}
use Rattle.class_premises.specs.declared.layout.Layout.{Layout}
use Rattle.term_lift.specs.Kept.{lifts_on}
use Rattle.class_premises.specs.Rows.{rows_none}
use Rattle.class_premises.specs.Standing.{Standing, lifted_of}
use Rattle.class_build.specs.declared.ready.Opening.{Opening}
use Rattle.class_build.specs.Places.{keying_of, Roomy, Places}
use Rattle.class_build.specs.Begin.{Indexable, StoreBegun}

-- what class building and the goals as shown spend of work: 7 words a pattern word, 15 a graph cell, 9 a byte of the pack, and some
abbrev pub least_room : List ℕ → List ℕ → List ℕ → ℕ
least_room words cells bytes = 7 * length words + 15 * length cells + 9 * length bytes + 200

-- a pack was read into work, and the lengths pass
pub record Opened (bytes work words cells : List ℕ) (c : Catalog) : Type 0 where
  pub tables : c ≡ tables_of (length bytes)
  pub held : Held bytes work c
  pub marks : Marks bytes work c
  pub small : length words ≤ most_cells
  pub room : least_room words cells bytes ≤ length work

-- so it is when a pack was opened
pub opened : (bytes work words cells : List ℕ) (c : Catalog) → c ≡ tables_of (length bytes) → (P : Pack) → parse bytes ≡ fine P → Represents bytes work P → length words ≤ most_cells
    → least_room words cells bytes ≤ length work → Opened bytes work words cells c
opened bytes work words cells c e P f R small room = record {
  tables = e;
  held = represents_held bytes work c e P f R;
  marks = subst (Marks bytes work) (sym e) R.marks;
  small = small;
  room = room;
}

-- nothing is built yet; the steps' words are written
abbrev pub unbuilt : Pack → Built
unbuilt P = record { store = []; classes = []; fill = length P.steps }

-- all is ready for the first class of pack P, and nothing was refused so far
pub record Starts (bytes class words cells work' class' : List ℕ) (c : Catalog) (k : Keying) (l : Layout) (r : Counts) (st : Store) (memo : Memo) (P : Pack) : Type 0 where
  pub standing : Standing bytes work' class' words cells c k l r st memo (length P.steps) P (unbuilt P)
  pub is : (L : Lent) → L.class ≡ length class → outcome L (build_classes P) ≡ outcome L (make_classes P (keys_of P).words (keys_of P).classes (unbuilt P))
  -- behind the store's index there is room for the goals' tests and for a stack behind them, too
  pub tests : l.copied + (4 * length words + 2 * (length cells + 16) + 2 * l.nodes) ≤ length work'

-- there is no room for the steps' words of pack P
pub record Shorts (class : List ℕ) (P : Pack) : Type 0 where
  pub less : length class < length P.steps
  pub is : (L : Lent) → L.class ≡ length class → outcome L (build_classes P) ≡ refuse (refusals.Short 1)

-- what `make_ready` answers
abbrev pub Readies : List ℕ → List ℕ → List ℕ → List ℕ → List ℕ → List ℕ → List ℕ → Catalog → Option Opening → Type 0
Readies bytes work class words cells work' class' c (Some o) =
    OfHeld bytes work c (Starts bytes class words cells work' class' c o.keying o.layout o.counts o.store o.memo) × Outside 0 (length (records_of work c 4)) class class'
Readies bytes work class words cells work' class' c None = OfHeld bytes work c (Shorts class)

-- ---- the definition alone
-- the steps' words have room
build_on : (L : Lent) (P : Pack) → length P.steps ≤ L.class → outcome L (build_classes P) ≡ outcome L (make_classes P (keys_of P).words (keys_of P).classes (unbuilt P))
unfolding build_classes
build_on L P h = outcome-note L 1 (length P.steps) (λ u. make_classes P (keys_of P).words (keys_of P).classes (unbuilt P)) (omega (arith, length_class L))

-- or have none
build_short : (L : Lent) (P : Pack) → L.class < length P.steps → outcome L (build_classes P) ≡ refuse (refusals.Short 1)
unfolding build_classes
build_short L P h = outcome_short L 1 (length P.steps) (λ u. make_classes P (keys_of P).words (keys_of P).classes (unbuilt P)) (omega (arith, length_class L))

module _ (bytes work class words cells : List ℕ) (c : Catalog) (O : Opened bytes work words cells c) where
  -- the class buffer is too short
  pub ready_short : length class < length (records_of work c 4) → Readies bytes work class words cells work class c None
  ready_short h P R Q =
      let n = length_steps bytes (records_of work c) P R in
      let less : length class < length P.steps = omega arith in
      record { less = less; is = λ L e. build_short L P (omega arith) }

  -- the tables' size
  at_is : c.at ≡ 0
  at_is = ap (λ (x : Catalog). x.at) O.tables

  cap_is : c.cap ≡ (tables_of (length bytes)).cap
  cap_is = ap (λ (x : Catalog). x.cap) O.tables

  -- there is room for all places
  pub ready_roomy : (k : Keying) (m : ℕ) → k ≡ keying_of c → m ≡ length (records_of work c 3) → Roomy work words cells k m
  ready_roomy k m e f = subst (λ (x : Keying). Roomy work words cells x m) (sym e) (record { room = omega (arith, at_is, cap_is, f, O.room, records_few bytes work c 3 O.held.cataloged (omega arith)) })

  module _ (k : Keying) (m : ℕ) (l : Layout) (e : k ≡ keying_of c) (f : m ≡ length (records_of work c 3)) (D : Places work words cells k m l) (enough : length (records_of work c 4) ≤ length class) where
    at_same : k.at ≡ (keying_of c).at
    at_same = ap (λ (x : Keying). x.at) e

    cap_same : k.cap ≡ c.cap
    cap_same = ap (λ (x : Keying). x.cap) e

    -- the steps can be keyed
    pub ready_keyable : Keyable bytes work class c k
    ready_keyable = record {
      held = O.held;
      marks = O.marks;
      behind = omega (arith, at_same);
      room = omega (arith, D.placed.behind, D.placed.rows, D.placed.laid.index, D.placed.laid.memo, D.placed.laid.stack, D.placed.laid.variables, D.placed.laid.table, D.placed.laid.inside);
      nodes = omega (arith, cap_same, records_few bytes work c 3 O.held.cataloged (omega arith));
      steps = omega (arith, cap_same, records_few bytes work c 4 O.held.cataloged (omega arith));
      words = enough;
    }

    -- the store's index fits
    pub ready_indexable : (work₁ : List ℕ) → length work₁ ≡ length work → Indexable work₁ words l
    ready_indexable work₁ long = record {
      small = omega (arith, O.small);
      index = D.index;
      inside = omega (arith, long, D.placed.laid.memo, D.placed.laid.stack, D.placed.laid.variables, D.placed.laid.table, D.placed.laid.inside);
    }

    -- and so do the copied nodes' words
    pub ready_memo : (work₁ : List ℕ) → length work₁ ≡ length work → (l.copied ≤ l.walk) × (l.walk ≤ length work₁)
    ready_memo work₁ long = (omega (arith, D.placed.laid.memo), omega (arith, long, D.placed.laid.stack, D.placed.laid.variables, D.placed.laid.table, D.placed.laid.inside))

    -- ---- the steps are keyed, the store and the memo begun
    module _ (work₁ work₂ work₃ class₁ : List ℕ) (r : Counts) (st : Store) (memo : Memo) (K : KeyedWork bytes work₁ class₁ c k r) (F : Outside k.at (end_of k) work work₁)
        (G : Outside 0 (length (records_of work c 4)) class class₁) (S : StoreBegun work₁ work₂ words l st) (M : Clears work₂ work₃ l.copied l.walk memo) where
      -- the tables are as they were
      tables_first : Same work work₁ c
      tables_first = upto_same k.at work work₁ c (upto_outside k.at k.at (end_of k) work work₁ (omega arith) F) (omega (arith, at_same))

      -- and the keys as they were written
      keys_stay : Upto (end_of k) work₁ work₃
      keys_stay = upto_then (end_of k) work₁ work₂ work₃ (upto_outside (end_of k) l.lifted l.copied work₁ work₂ (omega (arith, D.placed.behind, D.placed.rows)) S.frame)
          (upto_outside (end_of k) l.copied l.walk work₂ work₃ (omega (arith, D.placed.behind, D.placed.rows, D.index)) M.outside)

      tables_last : Same work₁ work₃ c
      tables_last = upto_same (end_of k) work₁ work₃ c keys_stay (omega (arith, at_same))

      many : l.nodes ≡ length (records_of work₁ c 3)
      many = D.nodes ∙ f ∙ ap length (sym (same-records work work₁ c tables_first O.held.cataloged.fits 3 (omega arith)))

      pub ready_on : Readies bytes work class words cells work₃ class₁ c (Some (record { keying = k; layout = l; counts = r; store = st; memo = memo }))
      unfolding part
      ready_on = (starts, G)
        where
          starts : OfHeld bytes work c (Starts bytes class words cells work₃ class₁ c k l r st memo)
          starts P R Q =
              let R₁ = reads_on bytes work work₁ c tables_first O.held.cataloged P R in
              let H₁ = held_on bytes work work₁ c tables_first O.held in
              let n = length_steps bytes (records_of work c) P R in
              record {
                standing = record {
                  keyed = keyed_work_on bytes work₁ work₃ class₁ class₁ c k r keys_stay refl (λ i h. refl) K;
                  reads = reads_on bytes work₁ work₃ c tables_last H₁.cataloged P R₁;
                  proper = Q;
                  placed = record { behind = D.placed.behind; rows = D.placed.rows; laid = laid_on work work₃ words cells l (keys_stay.long ∙ F.long) D.placed.laid };
                  lifts = lifts_on bytes work₂ words c (lifted_of l) st work₃ M.outside.long (λ i h. M.outside.ahead i h) (S.lifts bytes c H₁ (omega (arith, at_same, D.placed.behind, D.placed.rows)) many);
                  store = S.none;
                  patterns = subst Patterns (sym S.none) patterns_none;
                  numbers = subst (VariablesBelow (length cells + 16)) (sym S.none) (variables_none (length cells + 16));
                  remembers = M.remembers;
                  rows = rows_none work₃ class₁ l.rows (length P.steps) (keys_of P).classes (omega (arith, n, enough, G.long));
                  filled = refl;
                  sound = λ i h. absurd (omega arith);
                };
                is = λ L q. build_on L P (omega (arith, n, enough));
                tests = omega (arith, D.behind, D.nodes, at_same, cap_same, at_is, cap_is, f, O.room, records_few bytes work c 3 O.held.cataloged (omega arith), keys_stay.long, F.long);
              }
