-- What a rule's premises ask, and what they answer.
use Rattle.std.specs.Prelude.{Result, Ok, Err}
use Rattle.std.specs.Prelude.{◌≡◌, List, ℕ, ◌≤◌, ◌<◌, length, get_or, take}
use Rattle.definition.specs.declared.Refusal.{Refusal}
use Rattle.definition.specs.Pack.{prop, most_premises}
use Rattle.definition.specs.Frame.{Read, refuse}
use Rattle.definition.specs.Run.{outcome}
use Rattle.emission.specs.State.{Emitter, Tried}
use Rattle.emission.specs.Prove.{premises}
use Rattle.emit_theory.specs.Search.Proving.{Has}
use Rattle.emit_state.specs.Holding.{Buffers, lends, World, Holding, Ready, got, lost}
use Rattle.emit_state.specs.declared.places.Places.{Places}
use Rattle.emit_state.specs.declared.standing.Standing.{Standing}
use Rattle.emit_premises.specs.declared.premises.Premises.{Premises}
use Rattle.emit_premises.specs.declared.premises.Premises.TheVariants.{Built, Lacks}

-- beside some proof text the buffers hold a state in which j is a judgment, and there is rule r
pub record PremisesAsked (pack work words : List ℕ) (l : Places) (m : Standing) (j r : ℕ) : Type 0 where
  pub proof : List ℕ
  pub world : World
  pub state : Emitter
  pub ready : Ready (lends pack work words proof) l m world state
  pub has : Has world.setting state prop j
  pub rule : r < length world.setting.pack.rules

-- patterns are only added, and there are few premises
abbrev pub Grown : Standing → Result Premises Refusal → Type 0
Grown m (Ok (Built t n)) = (m.store.len ≤ t.store.len) × (n ≤ most_premises)
Grown m (Ok (Lacks t)) = m.store.len ≤ t.store.len
Grown m (Err x) = Unit {0}

-- they are patterns of the store
abbrev pub InStore : List ℕ → Result Premises Refusal → Type 0
InStore qs (Ok (Built t n)) = (i : ℕ) → i < n → get_or qs i 0 < t.store.len
InStore qs (Ok (Lacks t)) = Unit {0}
InStore qs (Err x) = Unit {0}

-- what they came to in the lengths lent, held by the buffers
abbrev pub PremisesCome : Buffers → Places → World → Read (Tried (List ℕ)) → List ℕ → Result Premises Refusal → Type 0
PremisesCome b l w o qs (Ok (Built t n)) = (e : Emitter) × (o ≡ got (take n qs) e) × Holding b l t w e
PremisesCome b l w o qs (Ok (Lacks t)) = (e : Emitter) × (o ≡ lost e) × Holding b l t w e
PremisesCome b l w o qs (Err x) = o ≡ refuse x

-- the answer, for every state that the buffers held, whatever the proof text
pub record Premised (pack work work' words words' qs : List ℕ) (l : Places) (m : Standing) (j r : ℕ) (x : Result Premises Refusal) : Type 0 where
  pub grown : Grown m x
  pub below : InStore qs x
  pub comes : (proof : List ℕ) (w : World) (e : Emitter) → Ready (lends pack work words proof) l m w e → Has w.setting e prop j → r < length w.setting.pack.rules
      → PremisesCome (lends pack work' words' proof) l w (outcome w.lent (premises w.setting r j e)) qs x
