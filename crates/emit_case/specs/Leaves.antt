-- What the leaves of other crates answer, as induction takes it.
use Rattle.std.specs.Prelude.{Result, Ok, Err}
use Rattle.std.specs.Prelude.{◌≡◌, List, ℕ, ◌≤◌, ◌<◌, length}
use Rattle.definition.specs.Frame.{Read, refuse}
use Rattle.definition.specs.Run.{outcome}
use Rattle.emission.specs.State.{Emitter, Tried}
use Rattle.emission.specs.Induct.{put_for_l}
use Rattle.emit_state.specs.Holding.{Buffers, lends, World, Holding, Ready, got}
use Rattle.emit_state.specs.declared.places.Places.{Places}
use Rattle.emit_state.specs.declared.standing.Standing.{Standing}
use Rattle.emit_replace.specs.Answers.{Grown, Replaces}
use Rattle.definition.specs.declared.Refusal.{Refusal}

-- a pattern that was made, held by the buffers; or no room for it
abbrev pub PutTo : Buffers → Places → World → Read (Tried ℕ) → Result (Standing × ℕ) Refusal → Type 0
PutTo b l w o (Ok (t, q)) = (e : Emitter) × (o ≡ got q e) × Holding b l t w e
PutTo b l w o (Err x) = o ≡ refuse x

-- patterns are only added
abbrev pub GrownTo : Standing → Result (Standing × ℕ) Refusal → Type 0
GrownTo m (Ok (t, q)) = m.store.len ≤ t.store.len
GrownTo m (Err x) = Unit {0}

-- another pattern for L, or no room for it
pub record PutsFor (work work' words words' : List ℕ) (l : Places) (m : Standing) (x y j : ℕ) (r : Result (Standing × ℕ) Refusal) : Type 0 where
  pub grown : GrownTo m r
  pub comes : (pack proof : List ℕ) (w : World) (e : Emitter) → Ready (lends pack work words proof) l m w e → x ≡ w.setting.eigen → y < length e.kept.store → j < length e.kept.store
      → PutTo (lends pack work' words' proof) l w (outcome w.lent (put_for_l w.setting y j e)) r

-- `put_for` answers so
pub puts_for : {work work' words words' : List ℕ} {l : Places} {m : Standing} {x y j : ℕ} {r : (Result (Standing × ℕ) Refusal)} → Grown m r × Replaces work words work' words' l m x y j r → PutsFor work work' words words' l m x y j r
puts_for {r = Ok (t, q)} F = record { grown = F.0; comes = F.1 }
puts_for {r = Err v} F = record { grown = F.0; comes = F.1 }
