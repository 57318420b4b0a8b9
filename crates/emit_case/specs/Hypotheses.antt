-- A hypothesis entered, and all dropped: what the buffers hold, when the failures were cleared behind it.
use Rattle.std.specs.Prelude.{◌≡◌, refl, List, [], ◌∷◌, ℕ, ◌+◌, ◌*◌, ◌≤◌, ◌<◌, length, get_or}
use Rattle.std.proofs.Common.{sym, subst, arith}
use Rattle.std.proofs.Math.Option.{none}
use Rattle.definition.specs.Test.{never}
use Rattle.definition.specs.Verdict.{Bound}
use Rattle.definition.specs.Analysis.{pairing}
use Rattle.base.specs.Outside.{Outside, outside_then, outside_wider}
use Rattle.memo.specs.Recall.{Remembers}
use Rattle.memo.specs.Lent.{recall_at, Clears}
use Rattle.memo.specs.declared.memo.Memo.{Memo}
use Rattle.emission.specs.State.{Emitter}
use Rattle.emit_maps.specs.Map.{start}
use Rattle.emit_maps.specs.Holds.{Holds, Supposes, Drops, holds_hyp, holds_dropped}
use Rattle.emit_maps.specs.Trail.{Trailed, Counted, counted_on, trailed_on}
use Rattle.emit_state.specs.Places.{maps_of, failed_at, replaced_at, index_end, failed_in, rules_of, constructors_of, Laid, SameIn}
use Rattle.emit_state.specs.Holding.{Buffers, World, Holding}
use Rattle.emit_state.specs.Frame.{laid_on, cataloged_on, pack_on, index_on, failed_on, maps_on, trail_on, since_on, chains_on, beyond_on, replaced_on, having_work}
use Rattle.emit_state.specs.declared.places.Places.{Places}
use Rattle.emit_state.specs.declared.standing.Standing.{Standing}
use Rattle.emit_case.specs.Supposing.{supposing, Entered, Dropped}

-- other failures, and another number of hypotheses
abbrev pub having_hyps : ℕ → Memo → Standing → Standing
having_hyps n failed m = record {
  store = m.store;
  text = m.text;
  steps = m.steps;
  definitions = m.definitions;
  variables = m.variables;
  inductions = m.inductions;
  trail = m.trail;
  failed = failed;
  hyps = n;
}

-- the failures stay where hypotheses are written
pub hyps_failed : (work work' : List ℕ) (l : Places) → Laid work l → Outside (start (maps_of l) 4) (start (maps_of l) 5) work work' → failed_in work' l ≡ failed_in work l
hyps_failed work work' l L O = failed_on l work work' L O.long (λ i h _. O.behind i (omega arith))

module _ (b : Buffers) (l : Places) (m : Standing) (w : World) (e : Emitter) (H : Holding b l m w e) (hyps : List Bound) (n : ℕ) (failed : Memo) where
  -- words were written among the maps and the failures, and no failure is left
  holding_hyps : (work' : List ℕ) → Outside l.at (replaced_at l) b.work work' → Holds work' (maps_of l) e.undone.proved e.undone.derived e.undone.defs e.undone.names hyps
      → Counted work' (maps_of l) m.trail → Trailed w.before work' (maps_of l) w.from m.trail → n ≡ length hyps → Remembers (failed_in work' l) failed
      → ((j : ℕ) → recall_at (failed_at l) (replaced_at l) work' failed j ≡ none) → Holding (having_work work' b) l (having_hyps n failed m) (supposing hyps w) e
  holding_hyps work' O maps counted since many remembers empty =
      let L = H.laid in
      let long = O.long in
      let ahead : (a z : ℕ) → z ≤ l.at → SameIn a z b.work work' = λ a z k i _ h. O.ahead i (omega arith) in
      let behind : (a z : ℕ) → replaced_at l ≤ a → SameIn a z b.work work' = λ a z k i h _. O.behind i (omega arith) in
      record {
        pattern_lent = H.pattern_lent;
        text_lent = H.text_lent;
        pattern_few = H.pattern_few;
        text_few = H.text_few;
        room_is = H.room_is;
        laid = laid_on l b.work work' L long;
        beyond = beyond_on l b.work work' L long w.beyond H.beyond (ahead _ _ (omega (arith, L.index))) (ahead _ _ (omega arith)) (behind _ _ (omega arith));
        cataloged = cataloged_on l b.work work' L long (ahead 0 l.index (omega (arith, L.index))) b.pack H.cataloged;
        reads = pack_on l b.work work' L long (ahead 0 l.index (omega (arith, L.index))) b.pack H.cataloged w.setting.pack H.reads;
        proper = H.proper;
        named = H.named;
        stored = rw (index_on l b.work work' L long (ahead l.index (index_end l) L.index)) H.stored;
        nodes_are = H.nodes_are;
        written = H.written;
        ends = H.ends;
        counts = H.counts;
        maps = maps;
        counted = counted;
        since = since;
        supposed = many;
        remembers = remembers;
        barren = λ j k z. let g = empty j in never (cc);
        replaced = replaced_on l b.work work' L long (behind _ _ (omega arith)) H.replaced;
        rules = chains_on l b.work work' L long (rules_of l) (omega (arith, L.within)) (omega (arith, L.within)) (behind _ _ (omega arith)) (behind _ _ (omega arith)) _ _ H.rules;
        constructors = chains_on l b.work work' L long (constructors_of l) (omega (arith, L.within)) (omega (arith, L.within)) (behind _ _ (omega arith)) (behind _ _ (omega arith)) _ _ H.constructors;
      }

  -- hypotheses were written, then the failures cleared
  holding_written : (work₁ work₂ : List ℕ) → Outside (start (maps_of l) 4) (start (maps_of l) 5) b.work work₁
      → Holds work₁ (maps_of l) e.undone.proved e.undone.derived e.undone.defs e.undone.names hyps → n ≡ length hyps → Clears work₁ work₂ (failed_at l) (replaced_at l) failed
      → Holding (having_work work₂ b) l (having_hyps n failed m) (supposing hyps w) e
  holding_written work₁ work₂ O maps many C =
      let L = laid_on l b.work work₁ H.laid O.long in
      let long = C.outside.long in
      let low : (i : ℕ) → l.at ≤ i → i < l.at + 4 * l.room → get_or work₁ i 0 ≡ get_or b.work i 0 = λ i _ h. O.ahead i h in
      let same : SameIn l.at (failed_at l) work₁ work₂ = λ i _ h. C.outside.ahead i h in
      let first = outside_wider (start (maps_of l) 4) (start (maps_of l) 5) l.at (replaced_at l) b.work work₁ (omega arith) (omega arith) O in
      let second = outside_wider (failed_at l) (replaced_at l) l.at (replaced_at l) work₁ work₂ (omega arith) (omega arith) C.outside in
      let counted = counted_on b.work work₁ (maps_of l) low m.trail H.counted in
      let since = trailed_on b.work work₁ (maps_of l) low w.before w.from m.trail (λ t _. O.behind (l.at + 5 * l.room + t) (omega arith)) H.since in
      holding_hyps work₂ (outside_then l.at (replaced_at l) b.work work₁ work₂ first second)
      (maps_on l work₁ work₂ L long same _ _ _ _ _ maps)
      (trail_on l work₁ work₂ L long same m.trail counted)
      (since_on l work₁ work₂ L long same m.trail counted w.before w.from since)
      many
      C.remembers
      C.empty

module _ (work work₁ work₂ : List ℕ) (l : Places) (m : Standing) (failed : Memo) (C : Clears work₁ work₂ (failed_at l) (replaced_at l) failed) where
  -- one more
  pub entered : (h n : ℕ) → Supposes work work₁ (maps_of l) h n → Entered work work₂ l m h n (having_hyps (m.hyps + 1) failed m)
  entered h n S = record {
    store = refl;
    comes = λ b w e is H.
        let T = subst (λ (ws : List ℕ). Supposes ws work₁ (maps_of l) h n) (sym is) S in
        holding_written b l m w e H (pairing h n ∷ w.hyps) (m.hyps + 1) failed work₁ work₂ T.outside (holds_hyp b.work work₁ (maps_of l) _ _ _ _ _ H.maps h n T) (omega (arith, H.supposed)) C;
  }

  -- all of them
  pub dropped : (hs : List ℕ) → Drops work work₁ (maps_of l) hs (length hs) → Dropped work work₂ l m hs (having_hyps 0 failed m)
  dropped hs D = record {
    store = refl;
    comes = λ b w e is covers H.
        let T = subst (λ (ws : List ℕ). Drops ws work₁ (maps_of l) hs (length hs)) (sym is) D in
        holding_written b l m w e H [] 0 failed work₁ work₂ T.outside (holds_dropped b.work work₁ (maps_of l) _ _ _ _ _ H.maps hs (length hs) T covers) refl C;
  }
