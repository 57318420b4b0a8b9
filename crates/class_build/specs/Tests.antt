-- All goals when all classes are made: what is asked, and what is answered.
use Rattle.std.specs.Prelude.{Result, Ok, Err}
use Rattle.std.specs.Prelude.{◌≡◌, refl, Bool, false, List, [], ◌∷◌, map, ℕ, zero, suc, ◌+◌, ◌*◌, ◌≤◌, ◌<◌, length, get_or}
use Rattle.std.proofs.Common.{sym, ap, ◌∙◌, subst, arith}
use Rattle.definition.specs.Pack.{Pack}
use Rattle.definition.specs.Frame.{fine, refuse}
use Rattle.definition.specs.Answer.{Lent}
use Rattle.definition.specs.Keys.{Keyed, keyed as keys_of}
use Rattle.definition.specs.Classes.{Class, no_class, mark, Built}
use Rattle.definition.specs.Run.{outcome}
use Rattle.definition.specs.Goals.{Root, test_goals}
use Rattle.definition.specs.declared.Refusal.{Refusal}
use Rattle.base.specs.Outside.{Outside, outside_then, outside_wider}
use Rattle.base.specs.Part.{part, part_at}
use Rattle.pack_tables.specs.Catalog.{records_of}
use Rattle.pack_tables.specs.declared.catalog.Catalog.{Catalog}
use Rattle.pack_read.specs.Reads.{length_steps}
use Rattle.pack_read.specs.Held.{held_on}
use Rattle.store.specs.Stored.{Stored, nodes}
use Rattle.memo.specs.declared.memo.Memo.{Memo}
use Rattle.store.specs.declared.nodes.Store.{Store}
use Rattle.class_keys.specs.Keyed.{keyed-noted}
use Rattle.class_keys.specs.declared.classes.Keying.{Keying}
use Rattle.class_keys.specs.declared.classes.Counts.{Counts}
use Rattle.class_premises.specs.declared.layout.Layout.{Layout}
use Rattle.class_premises.specs.Rows.{RowsIn, row_within, row-conclusion, row_count, row_flex}
use Rattle.class_premises.specs.Takes.{count_in}
use Rattle.class_premises.specs.Standing.{Standing, standing_held, standing_keyed, standing_behind, standing_few}
use Rattle.term_instance.specs.Held.{Given, Kept, outside_same}
use Rattle.term_instance.specs.declared.tables.Instance.{Instance}
use Rattle.class_build.specs.Testable.{Marked, Ready, Testable, ready_on}
use Rattle.class_build.specs.EachGoal.{TestsEach}
use Rattle.theory.specs.Making.Variables.{VariablesBelow}
use Rattle.memo.specs.Lent.{lent, lent-before, Clears}

-- ---- what is asked
-- the instance test's tables stand behind the store's index, in place of the copies' words: room for as many pairs as the store has
-- words, for a memo of its nodes and for a memo of its variables
pub record Tabled (work words : List ℕ) (l : Layout) (t : Instance) (st : Store) : Type 0 where
  pub index : t.index ≡ l.lifted + 3 * l.nodes
  pub behind : t.pairs ≡ l.copied
  pub pairs : t.pairs + 2 * st.used ≤ t.seen
  pub table : t.seen + 2 * st.len ≤ t.values
  pub fits : t.end ≤ length work
  -- the numbers of the store's variables are below `most`
  pub most : ℕ
  pub numbers : VariablesBelow most (nodes words st)
  pub values : t.values + 2 * most ≤ t.end

-- all classes of some pack are made, and there are these places
pub record Made (bytes work class words : List ℕ) (c : Catalog) (k : Keying) (l : Layout) (t : Instance) (st : Store) : Type 0 where
  pub cells : List ℕ
  pub counts : Counts
  pub memo : Memo
  pub fill : ℕ
  pub pack : Pack
  pub built : Built
  pub standing : Standing bytes work class words cells c k l counts st memo fill pack built
  pub all : length built.classes ≡ length (keys_of pack).classes
  pub tabled : Tabled work words l t st

-- ---- what is answered
-- what is said of whatever stands there with all classes made
abbrev pub OfMade : (bytes work class words : List ℕ) (c : Catalog) (k : Keying) (l : Layout) (st : Store) → (Pack → Built → Type 0) → Type 0
OfMade bytes work class words c k l st F =
    (cells : List ℕ) (r : Counts) (memo : Memo) (fill : ℕ) (P : Pack) (b : Built) → Standing bytes work class words cells c k l r st memo fill P b → length b.classes ≡ length (keys_of P).classes → F P b

-- the tests come to something; or to a refusal
abbrev pub Tests : (bytes work work' class words : List ℕ) (c : Catalog) (k : Keying) (l : Layout) (t : Instance) (st : Store) → Result (Memo × Memo) Refusal → Type 0
Tests bytes work work' class words c k l t st (Ok (seen, values)) =
    Kept t seen values work work'
    × OfMade bytes work class words c k l st (λ P b. (rs : List Root) × ((L : Lent) → outcome L (test_goals P b 0 P.goals) ≡ fine rs))
Tests bytes work work' class words c k l t st (Err z) =
    Outside t.pairs t.end work work' × OfMade bytes work class words c k l st (λ P b. (L : Lent) → outcome L (test_goals P b 0 P.goals) ≡ refuse z)

-- ---- the start
-- a mark of some as a word
mark-at : (flex : List Bool) (k : ℕ) → k < length flex → get_or (map mark flex) k 0 ≡ mark (get_or flex k false)
mark-at [] k h = absurd (omega arith)
mark-at (x ∷ flex) zero h = refl
mark-at (x ∷ flex) (suc k) h = mark-at flex k (omega arith)

-- a row that is made has its class's marks
pub row-marked : (work class : List ℕ) (at start fill : ℕ) (cs : List Class) (ks : List Keyed) → RowsIn work class at start fill cs ks → (i : ℕ) → i < length cs
    → Marked class (get_or work (at + i) 0) (get_or cs i no_class).flex
row-marked work class at start fill cs ks R i h =
    let row : ℕ = get_or work (at + i) 0 in
    let flex : List Bool = (get_or cs i no_class).flex in
    let n = row_count work class at start fill cs ks R i h in
    record {
      within = omega (arith, row_within work class at start fill cs ks R i h, R.fits);
      count = n;
      marks = λ k l.
          sym (part_at (row + 3) (count_in class row) class k (omega (arith, n, l)))
          ∙ ap (λ (ws : List ℕ). get_or ws k 0) (row_flex work class at start fill cs ks R i h) ∙ mark-at flex k l;
    }

-- what stands can be read
pub standing_ready : (bytes work class words cells : List ℕ) (c : Catalog) (k : Keying) (l : Layout) (r : Counts) (st : Store) (memo : Memo) (fill : ℕ) (P : Pack) (b : Built)
    → Standing bytes work class words cells c k l r st memo fill P b → length b.classes ≡ length (keys_of P).classes → (t : Instance) → t.pairs ≡ l.copied
    → Ready bytes work class words c k l t st P b
standing_ready bytes work class words cells c k l r st memo fill P b S all t e =
    let K = S.keyed.keyable in
    let I = standing_keyed bytes work class words cells c k l r st memo fill P b S in
    let few = standing_few bytes work class words cells c k l r st memo fill P b S in
    record {
      noted = keyed-noted bytes work class c k r S.keyed;
      reads = S.reads;
      proper = S.proper;
      firsts = omega (arith, e, K.nodes, S.placed.behind, S.placed.rows, S.placed.laid.index);
      places = omega (arith, e, few, S.placed.rows, S.placed.laid.index);
      inside = omega (arith, e, S.lifts.laid.inside);
      many = omega (arith, K.words, length_steps bytes (records_of work c) P S.reads);
      classes = I.words;
      made = all;
      rows = λ i h. omega (arith, row_within work class l.rows (length P.steps) fill b.classes (keys_of P).classes S.rows i h, S.rows.fits);
      conclusions = λ i h. row-conclusion work class l.rows (length P.steps) fill b.classes (keys_of P).classes S.rows i h;
      stored = λ i h. (S.sound i h).stored;
      marks = λ i h. row-marked work class l.rows (length P.steps) fill b.classes (keys_of P).classes S.rows i h;
      store = S.store;
    }

module _ (bytes work class words : List ℕ) (c : Catalog) (k : Keying) (l : Layout) (t : Instance) (st : Store) (M : Made bytes work class words c k l t st) where
  -- the values' end is behind them
  pub made_order : t.values ≤ t.end
  made_order = omega (arith, M.tabled.values)

  -- the tables stand one behind the other
  pub made-seen : (t.seen ≤ t.values) × (t.values ≤ length work)
  made-seen = let T = M.tabled in (omega (arith, T.table), omega (arith, made_order, T.fits))

  -- the tables are behind the pack's
  made-behind : l.lifted ≤ t.pairs
  made-behind = omega (arith, M.tabled.behind, M.standing.placed.laid.index)

  -- the store's index
  made_index : Stored (lent t.index t.pairs work) words st
  unfolding part
  made_index = rw (M.tabled.index, M.tabled.behind) M.standing.lifts.laid.index

  -- with both memos there is all that the instance test asks
  pub made-given : (work' : List ℕ) (seen values : Memo) → Kept t seen values work work' → Given bytes work' words c t st seen values
  made-given work' seen values K =
      let S = M.standing in
      let T = M.tabled in
      let apart = standing_behind bytes work class words M.cells c k l M.counts st M.memo M.fill M.pack M.built S in
      let before : t.index ≤ t.pairs = omega (arith, T.index, T.behind, S.placed.laid.index) in
      record {
        held = held_on bytes work work' c (outside_same work work' c t.pairs t.end (omega (arith, apart, made-behind)) K.outside)
            (standing_held bytes work class words M.cells c k l M.counts st M.memo M.fill M.pack M.built S);
        apart = omega (arith, apart, made-behind);
        index = before;
        pairs = T.pairs;
        table = T.table;
        order = made_order;
        fits = omega (arith, T.fits, K.outside.long);
        stored = subst (λ (zs : List ℕ). Stored zs words st) (sym (lent-before t.pairs t.end work work' K.outside t.index t.pairs before (omega arith) (omega (arith, T.pairs, T.table, made_order, T.fits)))) made_index;
        patterns = record { earlier = S.patterns.earlier; twos = S.patterns.twos };
        numbers = λ q h v. omega (arith, T.values, T.numbers q h v);
        seen-kept = K.seen-kept;
        values-kept = K.values-kept;
      }

  module _ (mid : List ℕ) (fresh : Memo) (A : Clears work mid t.seen t.values fresh) where
    -- the other memo has its place
    pub made-values : (t.values ≤ t.end) × (t.end ≤ length mid)
    made-values = (made_order, omega (arith, M.tabled.fits, A.outside.long))

    module _ (next : List ℕ) (bare : Memo) (B : Clears mid next t.values t.end bare) where
      -- what is left
      pub begun_kept : Kept t fresh bare work next
      begun_kept =
          let T = M.tabled in
          let s = lent-before t.values t.end mid next B.outside t.seen t.values (omega (arith, T.table)) (omega arith) (omega (arith, made_order, T.fits, A.outside.long)) in
          record {
            outside = outside_then t.pairs t.end work mid next (outside_wider t.seen t.values t.pairs t.end work mid (omega (arith, T.pairs)) (made_order) A.outside)
                (outside_wider t.values t.end t.pairs t.end mid next (omega (arith, T.pairs, T.table)) (omega arith) B.outside);
            seen-kept = rw s A.remembers;
            values-kept = B.remembers;
          }

      -- what stood there can be read now
      pub begun_read : (cells : List ℕ) (r : Counts) (memo : Memo) (fill : ℕ) (P : Pack) (b : Built) → Standing bytes work class words cells c k l r st memo fill P b → length b.classes ≡ length (keys_of P).classes
          → Ready bytes next class words c k l t st P b
      begun_read cells r memo fill P b S a =
          ready_on bytes work next class words c k l t st P b begun_kept.outside (standing_ready bytes work class words cells c k l r st memo fill P b S a t M.tabled.behind)

      -- the goals can be tested
      pub begun_testable : Testable bytes next class words c k l t st fresh bare
      begun_testable = record {
        pack = M.pack;
        built = M.built;
        ready = begun_read M.cells M.counts M.memo M.fill M.pack M.built M.standing M.all;
        given = made-given next fresh bare begun_kept;
      }

      -- what they come to
      pub begun_tests : (work' : List ℕ) (r : Result (Memo × Memo) Refusal) → TestsEach bytes next work' class words c k l t st r → Tests bytes work work' class words c k l t st r
      begun_tests work' (Ok (seen, values)) N = (
        record { outside = outside_then t.pairs t.end work next work' begun_kept.outside N.0.outside; seen-kept = N.0.seen-kept; values-kept = N.0.values-kept },
        λ cells r memo fill P b S a. N.1 P b (begun_read cells r memo fill P b S a),
      )
      begun_tests work' (Err z) N = (outside_then t.pairs t.end work next work' begun_kept.outside N.0, λ cells r memo fill P b S a. N.1 P b (begun_read cells r memo fill P b S a))
