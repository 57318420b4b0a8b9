-- From a state of emission to a walk's beginning.
use Rattle.std.specs.Prelude.{◌≡◌, refl, List, ℕ, suc, ◌<◌, length, get_or}
use Rattle.std.proofs.Common.{sym, ap}
use native.Mathlib.Omega.{arith}
use Rattle.memo.specs.Recall.{Remembers}
use Rattle.memo.specs.Lent.{lent-before}
use Rattle.memo.specs.declared.memo.Memo.{Memo}
use Rattle.store.specs.Stored.{nodes}
use Rattle.emit_theory.specs.Stores.{sorted_earlier}
use Rattle.emission.specs.State.{Emitter}
use Rattle.emit_state.specs.Holding.{lends, World, Holding, Ready}
use Rattle.emit_state.specs.Places.{replaced_at, stamp_at, walk_at, index_end, replaced_in, replacing, Laid}
use Rattle.emit_state.specs.Frame.{laid_on}
use Rattle.emit_state.specs.declared.places.Places.{Places}
use Rattle.emit_state.specs.declared.standing.Standing.{Standing}
use Rattle.base.specs.Stack.{stacked}
use Rattle.emit_replace.specs.Again.{Rests}
use Rattle.emit_replace.specs.Reading.{Readable, Begun, nodes-room}
use Rattle.emit_replace.specs.Walking.{Pending}
use Rattle.emit_replace.specs.Asking.{alone}

-- the memo is the one whose stamp stands there
pub replaced_stamp : (work : List ℕ) (l : Places) (memo : Memo) → get_or work (stamp_at l) 0 ≡ memo.stamp → Remembers (replaced_in work l) memo → Remembers (replaced_in work l) (replacing work l)
replaced_stamp work l memo e R = record { begun = omega (arith, R.begun, e); past = λ i. omega (arith, R.past i, e) }

-- of such a state
module _ (pack proof work words : List ℕ) (l : Places) (m : Standing) (w : World) (e : Emitter) (R : Ready (lends pack work words proof) l m w e) where
  -- what the buffers hold
  abbrev H : Holding (lends pack work words proof) l m w e
  H = R.holding

  -- the patterns can be read
  pub ready_readable : Readable work words l m.store
  ready_readable = record { laid = H.laid; room_is = H.room_is; stored = H.stored }

  -- values can be begun with that of a pattern
  pub ready_begins : (x : ℕ) → x < length e.kept.store → Laid work l × Remembers (replaced_in work l) (replacing work l) × (x < l.room)
  ready_begins x h = (H.laid, H.replaced, omega (arith, nodes-room work words l m.store ready_readable, ap length H.nodes_are))

  -- patterns rest on earlier ones
  pub ready_rests : (j : ℕ) → j < length e.kept.store → Rests (suc j) (nodes words m.store)
  ready_rests j h = rw H.nodes_are (record { long = omega arith; earlier = λ i b. sorted_earlier w.setting.pack e.kept.store R.sound.sorted i (omega arith) })

  module _ (work₁ : List ℕ) (x v : ℕ) (memo : Memo) (B : Begun work work₁ l x v memo) where
    -- the patterns can be read still
    pub begun-readable : Readable work₁ words l m.store
    begun-readable = record {
      laid = laid_on l work work₁ H.laid B.outside.long;
      room_is = H.room_is;
      stored = rw (lent-before (replaced_at l) (walk_at l) work work₁ B.outside l.index (index_end l) (omega arith) (omega (arith, H.laid.index)) (omega (arith, H.laid.index, H.laid.within))) H.stored;
    }

    -- another pattern waits alone
    pub begun-pending : (j : ℕ) → (j ≡ x → ⊥) → j < length e.kept.store → Pending work₁ words l m.store memo j (alone l) j
    unfolding stacked
    begun-pending j n h = record { readable = begun-readable; rests = ready_rests j h; base = refl; waits = (omega arith, B.others j (λ i. n (sym i)), refl) }
