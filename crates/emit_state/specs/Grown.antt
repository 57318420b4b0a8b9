-- The buffers hold the state that they are to hold, when patterns were added and words were written among those of what was put for L
-- and of the walk.
use Rattle.std.specs.Prelude.{◌≡◌, refl, List, ℕ, ◌/◌, ◌≤◌, length}
use Rattle.std.proofs.Common.{sym, ap, ◌∙◌, arith}
use Rattle.definition.specs.Pack.{Node}
use Rattle.base.specs.Outside.{Outside}
use Rattle.memo.specs.Recall.{Remembers}
use Rattle.store.specs.Stored.{Stored, nodes}
use Rattle.store.specs.declared.nodes.Store.{Store}
use Rattle.theory.specs.Patterns.Interned.{Grows}
use Rattle.emission.specs.State.{Emitter, having_store}
use Rattle.emit_theory.specs.Again.Later.{Later, later_then}
use Rattle.emit_state.specs.Places.{failed_at, replaced_at, values_at, index_end, index_in, replaced_in, replacing, rules_of, constructors_of, SameIn}
use Rattle.emit_state.specs.Holding.{Buffers, lends, World, Holding}
use Rattle.emit_state.specs.Frame.{laid_on, cataloged_on, pack_on, failed_on, maps_on, trail_on, since_on, chains_on, recall_on, beyond_on, replaced_on}
use Rattle.emit_state.specs.declared.places.Places.{Places}
use Rattle.emit_state.specs.declared.standing.Standing.{Standing}

-- another store
abbrev pub having_patterns : Store → Standing → Standing
having_patterns store m = record {
  store = store;
  text = m.text;
  steps = m.steps;
  definitions = m.definitions;
  variables = m.variables;
  inductions = m.inductions;
  trail = m.trail;
  failed = m.failed;
  hyps = m.hyps;
}

-- each pattern has a word in a map
pub store_room : (b : Buffers) (l : Places) (m : Standing) (w : World) (e : Emitter) → Holding b l m w e → length e.kept.store ≤ l.room
store_room b l m w e H = let n = ap length H.nodes_are in omega (arith, H.stored.ranged.half, H.stored.ranged.most, H.room_is)

-- no word was written but in the store's index, what was put for L, its stamp and the walk's stack
pub record Apart (l : Places) (work work' : List ℕ) : Type 0 where
  pub long : length work' ≡ length work
  pub ahead : SameIn 0 l.index work work'
  pub between : SameIn (index_end l) (replaced_at l) work work'
  pub behind : SameIn (values_at l) (length work) work work'

-- one call after the other
pub apart_then : (l : Places) (xs ys zs : List ℕ) → Apart l xs ys → Apart l ys zs → Apart l xs zs
apart_then l xs ys zs A B = record {
  long = B.long ∙ A.long;
  ahead = λ i a h. B.ahead i a h ∙ A.ahead i a h;
  between = λ i a h. B.between i a h ∙ A.between i a h;
  behind = λ i a h. B.behind i a (omega (arith, A.long)) ∙ A.behind i a h;
}

-- they have held a state since then, with the patterns that the store has now
pub holding_apart : (b : Buffers) (l : Places) (m : Standing) (w : World) (e : Emitter) → Holding b l m w e → (work' words' : List ℕ) (store : Store) (s : List Node) → Apart l b.work work' → length words' ≡ length b.pattern
    → Stored (index_in work' l) words' store → nodes words' store ≡ s → Grows e.kept.store s → Remembers (replaced_in work' l) (replacing work' l)
    → Holding (lends b.pack work' words' b.proof) l (having_patterns store m) w (having_store s e)
holding_apart b l m w e H work' words' store s A same stored nodes_are grows replaced =
    let L = H.laid in
    let work = b.work in
    let long = A.long in
    let ahead = A.ahead in
    let between : (a z : ℕ) → index_end l ≤ a → z ≤ replaced_at l → SameIn a z work work' = λ a z p q i h k. A.between i (omega arith) (omega arith) in
    let behind : (a z : ℕ) → values_at l ≤ a → z ≤ length work → SameIn a z work work' = λ a z p q i h k. A.behind i (omega arith) (omega arith) in
    let maps : SameIn l.at (failed_at l) work work' = between _ _ L.index (omega arith) in
    let f = failed_on l work work' L long (between _ _ (omega (arith, L.index)) (omega arith)) in
    let later : Later e (having_store s e) = record { proved = refl; grows = grows } in
    record {
      pattern_lent = H.pattern_lent ∙ sym same;
      text_lent = H.text_lent;
      pattern_few = omega (arith, same, H.pattern_few);
      text_few = H.text_few;
      room_is = H.room_is ∙ ap (λ (n : ℕ). n / 2) (sym same);
      laid = laid_on l work work' L long;
      beyond = beyond_on l work work' L long w.beyond H.beyond ahead (between _ _ (omega arith) (omega arith)) (behind _ _ (omega arith) (omega arith));
      cataloged = cataloged_on l work work' L long ahead b.pack H.cataloged;
      reads = pack_on l work work' L long ahead b.pack H.cataloged w.setting.pack H.reads;
      proper = H.proper;
      named = H.named;
      stored = stored;
      nodes_are = nodes_are;
      written = H.written;
      ends = H.ends;
      counts = H.counts;
      maps = maps_on l work work' L long maps _ _ _ _ _ H.maps;
      counted = trail_on l work work' L long maps m.trail H.counted;
      since = since_on l work work' L long maps m.trail H.counted w.before w.from H.since;
      supposed = H.supposed;
      remembers = rw f H.remembers;
      barren = λ j k z d h e' t. H.barren j k (sym (recall_on (failed_at l) (replaced_at l) work work' f m.failed j) ∙ z) d h e' (later_then e (having_store s e) e' later t);
      replaced = replaced;
      rules = chains_on l work work' L long (rules_of l) (omega (arith, L.within)) (omega (arith, L.within)) (behind _ _ (omega arith) (omega (arith, L.within))) (behind _ _ (omega arith) (omega (arith, L.within))) _ _ H.rules;
      constructors = chains_on l work work' L long (constructors_of l) (omega (arith, L.within)) (omega (arith, L.within)) (behind _ _ (omega arith) (omega (arith, L.within))) (behind _ _ (omega arith) (omega (arith, L.within))) _ _ H.constructors;
    }

-- patterns were added, and no other word was written
pub holding_patterns : (b : Buffers) (l : Places) (m : Standing) (w : World) (e : Emitter) → Holding b l m w e → (work' words' : List ℕ) (st : Store) → Outside l.index (index_end l) b.work work' → length words' ≡ length b.pattern
    → Stored (index_in work' l) words' st → Grows e.kept.store (nodes words' st) → Holding (lends b.pack work' words' b.proof) l (having_patterns st m) w (having_store (nodes words' st) e)
holding_patterns b l m w e H work' words' st O same S G =
    let L = H.laid in
    let A : Apart l b.work work' = record { long = O.long; ahead = λ i a h. O.ahead i h; between = λ i a h. O.behind i a; behind = λ i a h. O.behind i (omega (arith, L.index)) } in
    holding_apart b l m w e H work' words' st (nodes words' st) A same S refl G (replaced_on l b.work work' L O.long (λ i a h. O.behind i (omega (arith, L.index))) H.replaced)
