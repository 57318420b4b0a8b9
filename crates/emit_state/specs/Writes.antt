-- The buffers hold the state that they are to hold, when words were written among the maps or the failures alone.
use Rattle.std.specs.Prelude.{◌≡◌, refl, List, ℕ, ◌≤◌}
use Rattle.std.proofs.Common.{sym, ap, ◌∙◌, arith}
use Rattle.std.proofs.Math.Option.{some}
use Rattle.base.specs.Outside.{Outside}
use Rattle.memo.specs.Recall.{Remembers}
use Rattle.memo.specs.Lent.{recall_at}
use Rattle.memo.specs.declared.memo.Memo.{Memo}
use Rattle.emission.specs.Line.{tally}
use Rattle.emission.specs.State.{Emitter}
use Rattle.emit_maps.specs.Map.{Laid as MapsLaid}
use Rattle.emit_maps.specs.Holds.{Holds}
use Rattle.emit_maps.specs.Trail.{Trailed, Counted}
use Rattle.emit_state.specs.Places.{maps_of, failed_at, replaced_at, index_end, failed_in, rules_of, constructors_of, Laid, SameIn}
use Rattle.emit_state.specs.Holding.{Buffers, World, Barren, Holding}
use Rattle.emit_state.specs.Frame.{laid_on, cataloged_on, pack_on, index_on, failed_on, maps_on, trail_on, since_on, chains_on, recall_on, having_work, beyond_on, replaced_on}
use Rattle.emit_state.specs.declared.places.Places.{Places}
use Rattle.emit_state.specs.declared.standing.Standing.{Standing}

-- the maps stand in work where all words do
pub maps_laid : (work : List ℕ) (l : Places) → Laid work l → MapsLaid work (maps_of l)
maps_laid work l L = record { within = omega (arith, L.within); small = omega (arith, L.within, L.small) }

-- another trail, and other failures
abbrev pub having_trail : ℕ → Memo → Standing → Standing
having_trail trail failed m = record {
  store = m.store;
  text = m.text;
  steps = m.steps;
  definitions = m.definitions;
  variables = m.variables;
  inductions = m.inductions;
  trail = trail;
  failed = failed;
  hyps = m.hyps;
}

-- what the maps hold of a state
abbrev pub MapsOf : List ℕ → Places → World → Emitter → Type 0
MapsOf work l w e = Holds work (maps_of l) e.undone.proved e.undone.derived e.undone.defs e.undone.names w.hyps

-- what the failures say of it
abbrev pub BarrenIn : List ℕ → Places → Memo → World → Emitter → Type 0
BarrenIn work l failed w e = (j k : ℕ) → recall_at (failed_at l) (replaced_at l) work failed j ≡ some k → Barren w.setting w.hyps e j k

module _ (b : Buffers) (l : Places) (m : Standing) (w : World) (e : Emitter) (H : Holding b l m w e) (work' : List ℕ) where
  -- words were written among the maps and the failures, which go with a state of the same lines and patterns
  pub holding_both : (trail : ℕ) (failed : Memo) (e' : Emitter) → Outside l.at (replaced_at l) b.work work' → e'.undone.lines ≡ e.undone.lines → e'.kept.store ≡ e.kept.store → MapsOf work' l w e'
      → Counted work' (maps_of l) trail → Trailed w.before work' (maps_of l) w.from trail → Remembers (failed_in work' l) failed → BarrenIn work' l failed w e'
      → Holding (having_work work' b) l (having_trail trail failed m) w e'
  holding_both trail failed e' O lines store maps counted since remembers barren =
      let L = H.laid in
      let long = O.long in
      let ahead : (a z : ℕ) → z ≤ l.at → SameIn a z b.work work' = λ a z k i _ h. O.ahead i (omega arith) in
      let behind : (a z : ℕ) → replaced_at l ≤ a → SameIn a z b.work work' = λ a z k i h _. O.behind i (omega arith) in
      record {
        pattern_lent = H.pattern_lent;
        text_lent = H.text_lent;
        pattern_few = H.pattern_few;
        text_few = H.text_few;
        room_is = H.room_is;
        laid = laid_on l b.work work' L long;
        beyond = beyond_on l b.work work' L long w.beyond H.beyond (ahead _ _ (omega (arith, L.index))) (ahead _ _ (omega arith)) (behind _ _ (omega arith));
        cataloged = cataloged_on l b.work work' L long (ahead 0 l.index (omega (arith, L.index))) b.pack H.cataloged;
        reads = pack_on l b.work work' L long (ahead 0 l.index (omega (arith, L.index))) b.pack H.cataloged w.setting.pack H.reads;
        proper = H.proper;
        named = H.named;
        stored = rw (index_on l b.work work' L long (ahead l.index (index_end l) L.index)) H.stored;
        nodes_are = H.nodes_are ∙ sym store;
        written = rw lines H.written;
        ends = H.ends;
        counts = ap tally lines ∙ H.counts;
        maps = maps;
        counted = counted;
        since = since;
        supposed = H.supposed;
        remembers = remembers;
        barren = barren;
        replaced = replaced_on l b.work work' L long (behind _ _ (omega arith)) H.replaced;
        rules = chains_on l b.work work' L long (rules_of l) (omega (arith, L.within)) (omega (arith, L.within)) (behind _ _ (omega arith)) (behind _ _ (omega arith)) _ _ H.rules;
        constructors = chains_on l b.work work' L long (constructors_of l) (omega (arith, L.within)) (omega (arith, L.within)) (behind _ _ (omega arith)) (behind _ _ (omega arith)) _ _ H.constructors;
      }

  -- words were written among the maps
  pub holding_maps : (trail : ℕ) (e' : Emitter) → Outside l.at (failed_at l) b.work work' → e'.undone.lines ≡ e.undone.lines → e'.kept.store ≡ e.kept.store → MapsOf work' l w e'
      → Counted work' (maps_of l) trail → Trailed w.before work' (maps_of l) w.from trail → BarrenIn b.work l m.failed w e' → Holding (having_work work' b) l (having_trail trail m.failed m) w e'
  holding_maps trail e' O lines store maps counted since barren =
      let f = failed_on l b.work work' H.laid O.long (λ i h _. O.behind i h) in
      let wide : Outside l.at (replaced_at l) b.work work' = record { long = O.long; ahead = O.ahead; behind = λ i h. O.behind i (omega arith) } in
      holding_both trail m.failed e' wide lines store maps counted since (rw f H.remembers)
      (λ j k z. barren j k (sym (recall_on (failed_at l) (replaced_at l) b.work work' f m.failed j) ∙ z))

  -- words were written among the failures
  pub holding_failed : (failed : Memo) → Outside (failed_at l) (replaced_at l) b.work work' → Remembers (failed_in work' l) failed → BarrenIn work' l failed w e
      → Holding (having_work work' b) l (having_trail m.trail failed m) w e
  holding_failed failed O remembers barren =
      let L = H.laid in
      let same : SameIn l.at (failed_at l) b.work work' = λ i _ h. O.ahead i h in
      let wide : Outside l.at (replaced_at l) b.work work' = record { long = O.long; ahead = λ i h. O.ahead i (omega arith); behind = O.behind } in
      holding_both m.trail failed e wide refl refl
      (maps_on l b.work work' L O.long same _ _ _ _ _ H.maps)
      (trail_on l b.work work' L O.long same m.trail H.counted)
      (since_on l b.work work' L O.long same m.trail H.counted w.before w.from H.since)
      remembers
      barren
