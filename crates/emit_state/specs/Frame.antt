-- What words written in one place leave of what stands elsewhere.
use Rattle.std.specs.Prelude.{◌≡◌, List, ℕ, ◌+◌, ◌-◌, ◌*◌, ◌≤◌, length, get_or}
use Rattle.std.proofs.Common.{sym, ap, ◌∙◌, arith}
use Rattle.std.proofs.Math.Option.{none}
use Rattle.definition.specs.Pack.{Pack}
use Rattle.definition.specs.Verdict.{Bound}
use Rattle.base.specs.Part.{part, part_same}
use Rattle.base.specs.Outside.{Outside}
use Rattle.memo.specs.Recall.{recall, Remembers}
use Rattle.memo.specs.Lent.{lent, recall_at}
use Rattle.memo.specs.declared.memo.Memo.{Memo}
use Rattle.pack_tables.specs.Catalog.{records_of, Cataloged}
use Rattle.pack_tables.specs.SameTables.{Same, same_cataloged}
use Rattle.pack_read.specs.Reads.{Reads}
use Rattle.pack_read.specs.Held.{reads_on}
use Rattle.emission.specs.State.{Emitter}
use Rattle.emit_maps.specs.Holds.{Holds, holds_on}
use Rattle.emit_maps.specs.Trail.{Trailed, Counted, counted_on, trailed_on, counted-most}
use Rattle.emit_chains.specs.Chain.{Chained}
use Rattle.emit_chains.specs.Places.{firsts, links, Within}
use Rattle.emit_chains.specs.declared.chain.Chains.{Chains}
use Rattle.emit_state.specs.Places.{maps_of, failed_at, replaced_at, stamp_at, walk_at, index_end, index_in, failed_in, replaced_in, replacing, rules_of, constructors_of, places_end, scratch_end, SameIn, Laid, Beyond}
use Rattle.emit_state.specs.Holding.{Buffers, World, Holding}
use Rattle.emit_state.specs.declared.places.Places.{Places}
use Rattle.emit_state.specs.declared.standing.Standing.{Standing}

-- the chains stand in work
pub rules-within : (work : List ℕ) (l : Places) → Laid work l → Within work (rules_of l)
rules-within work l L = record { apart = omega arith; room = omega (arith, L.within) }

pub constructors_within : (work : List ℕ) (l : Places) → Laid work l → Within work (constructors_of l)
constructors_within work l L = record { apart = omega arith; room = omega (arith, L.within) }

-- what is lent of the same words
pub lent_same : (a e : ℕ) (work work' : List ℕ) → length work' ≡ length work → a ≤ e → e ≤ length work → SameIn a e work work' → lent a e work' ≡ lent a e work
unfolding part
lent_same a e work work' long h k s = part_same a (e - a) work' work (omega arith) (omega arith) (λ i l. s (a + i) (omega arith) (omega arith))

module _ (l : Places) (work work' : List ℕ) (L : Laid work l) (long : length work' ≡ length work) where
  pub laid_on : Laid work' l
  laid_on = record { tables = L.tables; index = L.index; within = omega (arith, L.within); small = omega (arith, L.small) }

  -- words that are not emission's
  pub beyond_on : (xs : List ℕ) → Beyond l xs work → SameIn 0 l.index work work' → SameIn (index_end l) l.at work work' → SameIn (places_end l) (length work) work work' → Beyond l xs work'
  beyond_on xs B s t u = record {
    long = long ∙ B.long;
    ahead = λ i a h. s i a h ∙ B.ahead i a h;
    between = λ i a h. t i a h ∙ B.between i a h;
    behind = λ i a h. u i a (omega (arith, B.long)) ∙ B.behind i a h;
  }

  -- the pack
  module _ (s : SameIn 0 l.index work work') where
    pub tables_on : Same work work' l.hand.catalog
    tables_on = record { long = long; words = λ i h. s i (omega arith) (omega (arith, L.tables)) }

    pub cataloged_on : (bytes : List ℕ) → Cataloged bytes work l.hand.catalog → Cataloged bytes work' l.hand.catalog
    cataloged_on bytes C = same_cataloged bytes work work' l.hand.catalog tables_on C

    pub pack_on : (bytes : List ℕ) → Cataloged bytes work l.hand.catalog → (P : Pack) → Reads bytes (records_of work l.hand.catalog) P → Reads bytes (records_of work' l.hand.catalog) P
    pack_on bytes C P R = reads_on bytes work work' l.hand.catalog tables_on C P R

  -- the store's index
  pub index_on : SameIn l.index (index_end l) work work' → index_in work' l ≡ index_in work l
  index_on s = lent_same l.index (index_end l) work work' long (omega arith) (omega (arith, L.index, L.within)) s

  -- the failures
  pub failed_on : SameIn (failed_at l) (replaced_at l) work work' → failed_in work' l ≡ failed_in work l
  failed_on s = lent_same (failed_at l) (replaced_at l) work work' long (omega arith) (omega (arith, L.within)) s

  -- what was put for L
  pub replaced_on : SameIn (replaced_at l) (walk_at l) work work' → Remembers (replaced_in work l) (replacing work l) → Remembers (replaced_in work' l) (replacing work' l)
  replaced_on s R =
      let f = lent_same (replaced_at l) (stamp_at l) work work' long (omega arith) (omega (arith, L.within)) (λ i a h. s i a (omega arith)) in
      let g = s (stamp_at l) (omega arith) (omega arith) in
      rw (f, g) R

  -- the maps
  pub maps_on : SameIn l.at (failed_at l) work work' → (ps ds fs ns hs : List Bound) → Holds work (maps_of l) ps ds fs ns hs → Holds work' (maps_of l) ps ds fs ns hs
  maps_on s = holds_on work work' (maps_of l) (λ i a h. s i a (omega arith))

  pub trail_on : SameIn l.at (failed_at l) work work' → (trail : ℕ) → Counted work (maps_of l) trail → Counted work' (maps_of l) trail
  trail_on s = counted_on work work' (maps_of l) (λ i a h. s i a (omega arith))

  pub since_on : SameIn l.at (failed_at l) work work' → (trail : ℕ) → Counted work (maps_of l) trail → (before : List ℕ) (from : ℕ) → Trailed before work (maps_of l) from trail → Trailed before work' (maps_of l) from trail
  since_on s trail C before from T =
      let few = counted-most work (maps_of l) trail C in
      trailed_on work work' (maps_of l) (λ i a h. s i a (omega arith)) before from trail (λ t h. s (l.at + 5 * l.room + t) (omega arith) (omega arith)) T

  -- chains
  pub chains_on : (h : Chains) → h.first + h.keys ≤ length work → h.next + h.items ≤ length work → SameIn h.first (h.first + h.keys) work work' → SameIn h.next (h.next + h.items) work work'
      → (key : ℕ → ℕ) (n : ℕ) → Chained (firsts work h) (links work h) key 0 n → Chained (firsts work' h) (links work' h) key 0 n
  chains_on h f g s t key n C =
      rw (part_same h.first h.keys work' work (omega arith) f (λ i a. s (h.first + i) (omega arith) (omega arith)), part_same h.next h.items work' work (omega arith) g (λ i a. t (h.next + i) (omega arith) (omega arith))) C

-- what is remembered of the same words
pub recall_on : (a e : ℕ) (work work' : List ℕ) → lent a e work' ≡ lent a e work → (memo : Memo) (j : ℕ) → recall_at a e work' memo j ≡ recall_at a e work memo j
unfolding recall_at
recall_on a e work work' f memo j = ap (λ (zs : List ℕ). get_or (recall zs memo) j none) f

-- other words in work
abbrev pub having_work : List ℕ → Buffers → Buffers
having_work work b = record { pack = b.pack; work = work; pattern = b.pattern; proof = b.proof }

module _ (b : Buffers) (l : Places) (m : Standing) (w : World) (e : Emitter) (H : Holding b l m w e) (work' : List ℕ) where
  -- words were written where nothing is kept
  pub holding_scratch : Outside (walk_at l) (scratch_end l) b.work work' → Holding (having_work work' b) l m w e
  holding_scratch O =
      let L = H.laid in
      let long = O.long in
      let ahead : (a z : ℕ) → z ≤ walk_at l → SameIn a z b.work work' = λ a z k i _ h. O.ahead i (omega arith) in
      let behind : (a z : ℕ) → scratch_end l ≤ a → SameIn a z b.work work' = λ a z k i h _. O.behind i (omega arith) in
      let f = failed_on l b.work work' L long (ahead (failed_at l) (replaced_at l) (omega arith)) in
      record {
        pattern_lent = H.pattern_lent;
        text_lent = H.text_lent;
        pattern_few = H.pattern_few;
        text_few = H.text_few;
        room_is = H.room_is;
        laid = laid_on l b.work work' L long;
        beyond = beyond_on l b.work work' L long w.beyond H.beyond (ahead _ _ (omega (arith, L.index))) (ahead _ _ (omega arith)) (behind _ _ (omega arith));
        cataloged = cataloged_on l b.work work' L long (ahead 0 l.index (omega (arith, L.index))) b.pack H.cataloged;
        reads = pack_on l b.work work' L long (ahead 0 l.index (omega (arith, L.index))) b.pack H.cataloged w.setting.pack H.reads;
        proper = H.proper;
        named = H.named;
        stored = rw (index_on l b.work work' L long (ahead l.index (index_end l) (omega (arith, L.index)))) H.stored;
        nodes_are = H.nodes_are;
        written = H.written;
        ends = H.ends;
        counts = H.counts;
        maps = maps_on l b.work work' L long (ahead l.at (failed_at l) (omega arith)) _ _ _ _ _ H.maps;
        counted = trail_on l b.work work' L long (ahead l.at (failed_at l) (omega arith)) m.trail H.counted;
        since = since_on l b.work work' L long (ahead l.at (failed_at l) (omega arith)) m.trail H.counted w.before w.from H.since;
        supposed = H.supposed;
        remembers = rw f H.remembers;
        barren = λ j k z. H.barren j k (sym (recall_on (failed_at l) (replaced_at l) b.work work' f m.failed j) ∙ z);
        replaced = replaced_on l b.work work' L long (ahead _ _ (omega arith)) H.replaced;
        rules = chains_on l b.work work' L long (rules_of l) (omega (arith, L.within)) (omega (arith, L.within)) (behind _ _ (omega arith)) (behind _ _ (omega arith)) _ _ H.rules;
        constructors = chains_on l b.work work' L long (constructors_of l) (omega (arith, L.within)) (omega (arith, L.within)) (behind _ _ (omega arith)) (behind _ _ (omega arith)) _ _ H.constructors;
      }
