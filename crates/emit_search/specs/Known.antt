-- Judgments that have a line: asked for, and remembered.
use Rattle.std.specs.Prelude.{Option as Optional, Some, None}
use Rattle.std.specs.Prelude.{◌≡◌, refl, List, [], ◌∷◌, ℕ, ◌+◌, length, get_or}
use Rattle.std.proofs.Common.{sym, ap, subst, ◌∙◌, arith}
use Rattle.std.proofs.Math.Option.{Option, none, some}
use Rattle.definition.specs.Test.{never}
use Rattle.definition.specs.Verdict.{Bound, value_of}
use Rattle.base.specs.Outside.{outside_then, outside_wider}
use Rattle.memo.specs.Recall.{Remembers}
use Rattle.memo.specs.Lent.{Clears}
use Rattle.memo.specs.declared.memo.Memo.{Memo}
use Rattle.emission.specs.State.{Emitter, having_proved}
use Rattle.emission.specs.Prove.{keeping}
use Rattle.emit_maps.specs.Map.{start}
use Rattle.emit_maps.specs.Holds.{Holds, Looks, Enters, recalled, holds_proved}
use Rattle.emit_maps.specs.Trail.{Counted}
use Rattle.emit_state.specs.Places.{maps_of, failed_at, replaced_at, failed_in, Laid, SameIn}
use Rattle.emit_state.specs.Holding.{Buffers, World, Holding}
use Rattle.emit_state.specs.Frame.{laid_on, failed_on, maps_on, trail_on, since_on, having_work}
use Rattle.emit_state.specs.Writes.{having_trail, holding_both}
use Rattle.emit_state.specs.declared.places.Places.{Places}
use Rattle.emit_state.specs.declared.standing.Standing.{Standing}

-- the proved one's line, else the supposed one's
unfoldable pub either : Option ℕ → Option ℕ → Option ℕ
either (some n) o = some n
either none o = o

pub record Recalls (work : List ℕ) (l : Places) (j : ℕ) (r : Optional ℕ) : Type 0 where
  pub value : (ps ds fs ns hs : List Bound) → Holds work (maps_of l) ps ds fs ns hs → recalled r ≡ either (value_of j ps) (value_of j hs)

-- what `remember` asks of work
pub record Remembering (work : List ℕ) (l : Places) (m : Standing) : Type 0 where
  pub laid : Laid work l
  pub counted : Counted work (maps_of l) m.trail
  pub remembers : Remembers (failed_in work l) m.failed

-- j is kept as proved, in every state that the buffers held, if it was not proved when the attempt began
pub record Remembered (work work' : List ℕ) (l : Places) (m : Standing) (j n : ℕ) (t : Standing) : Type 0 where
  pub store : t.store ≡ m.store
  pub comes : (b : Buffers) (w : World) (e : Emitter) → b.work ≡ work → get_or w.before (start (maps_of l) 0 + j) 0 ≡ 0 → Holding b l m w e → Holding (having_work work' b) l t w (keeping w.hyps j n e)

-- ---- laws
-- a line that was proved
pub recalls_proved : (work : List ℕ) (l : Places) (j n : ℕ) → Looks work (maps_of l) 0 j (Some n) → Recalls work l j (Some n)
unfolding either
recalls_proved work l j n K = record { value = λ ps ds fs ns hs H. ap (λ (o : Option ℕ). either o (value_of j hs)) (K.value ps H.proved) }

-- none was, so the hypotheses answer
pub recalls_supposed : (work : List ℕ) (l : Places) (j : ℕ) (r : Optional ℕ) → Looks work (maps_of l) 0 j None → Looks work (maps_of l) 4 j r → Recalls work l j r
unfolding either
recalls_supposed work l j r K I = record { value = λ ps ds fs ns hs H. I.value hs H.hyps ∙ ap (λ (o : Option ℕ). either o (value_of j hs)) (K.value ps H.proved) }

-- without hypotheses a judgment is kept
keeping-alone : (hs : List Bound) (j n : ℕ) (e : Emitter) → length hs ≡ 0 → keeping hs j n e ≡ having_proved j n e
unfolding keeping
keeping-alone [] j n e z = refl
keeping-alone (h ∷ hs) j n e z = absurd (omega arith)

-- under some it is not
keeping-under : (hs : List Bound) (j n : ℕ) (e : Emitter) → (length hs ≡ 0 → ⊥) → keeping hs j n e ≡ e
unfolding keeping
keeping-under [] j n e d = absurd (d refl)
keeping-under (h ∷ hs) j n e d = refl

-- under hypotheses nothing changes
pub remembered_under : (work : List ℕ) (l : Places) (m : Standing) (j n : ℕ) → (m.hyps ≡ 0 → ⊥) → Remembered work work l m j n m
remembered_under work l m j n d = record {
  store = refl;
  comes = λ b w e is z H.
      subst (λ (x : Emitter). Holding (having_work work b) l m w x) (sym (keeping-under w.hyps j n e (λ q. d (H.supposed ∙ q))))
      (subst (λ (ws : List ℕ). Holding (having_work ws b) l m w e) is H);
}

-- the failures stay where an entry is made
pub entered_failed : (work work' : List ℕ) (l : Places) → Laid work l → (k p n trail r : ℕ) → Enters work work' (maps_of l) k p n trail r → failed_in work' l ≡ failed_in work l
entered_failed work work' l L k p n trail r E = failed_on l work work' L E.outside.long (λ i h _. E.outside.behind i h)

-- an entry was made and the failures were cleared
module _ (l : Places) (m : Standing) (j n : ℕ) (work₁ work₂ : List ℕ) (trail : ℕ) (failed : Memo) (C : Clears work₁ work₂ (failed_at l) (replaced_at l) failed) where
  -- a state that the buffers held
  entered_holding : (b : Buffers) (w : World) (e : Emitter) → Enters b.work work₁ (maps_of l) 0 j n m.trail trail → get_or w.before (start (maps_of l) 0 + j) 0 ≡ 0 → Holding b l m w e
      → Holding (having_work work₂ b) l (having_trail trail failed m) w (having_proved j n e)
  entered_holding b w e E z H =
      let L = laid_on l b.work work₁ H.laid E.outside.long in
      let long = C.outside.long in
      let same : SameIn l.at (failed_at l) work₁ work₂ = λ i _ h. C.outside.ahead i h in
      let first = outside_wider l.at (failed_at l) l.at (replaced_at l) b.work work₁ (omega arith) (omega arith) E.outside in
      let second = outside_wider (failed_at l) (replaced_at l) l.at (replaced_at l) work₁ work₂ (omega arith) (omega arith) C.outside in
      holding_both b l m w e H work₂ trail failed (having_proved j n e) (outside_then l.at (replaced_at l) b.work work₁ work₂ first second) refl refl
      (maps_on l work₁ work₂ L long same _ _ _ _ _ (holds_proved b.work work₁ (maps_of l) _ _ _ _ _ H.maps j n m.trail trail E))
      (trail_on l work₁ work₂ L long same trail E.counted)
      (since_on l work₁ work₂ L long same trail E.counted w.before w.from (E.trailed w.before w.from H.since z))
      C.remembers
      (λ q k f. let g = C.empty q in never (cc))

  -- every such state
  pub remembered_alone : (work : List ℕ) → m.hyps ≡ 0 → Enters work work₁ (maps_of l) 0 j n m.trail trail → Remembered work work₂ l m j n (having_trail trail failed m)
  remembered_alone work none-supposed E = record {
    store = refl;
    comes = λ b w e is z H.
        subst (λ (x : Emitter). Holding (having_work work₂ b) l (having_trail trail failed m) w x) (sym (keeping-alone w.hyps j n e (sym H.supposed ∙ none-supposed)))
        (entered_holding b w e (subst (λ (ws : List ℕ). Enters ws work₁ (maps_of l) 0 j n m.trail trail) (sym is) E) z H);
  }
