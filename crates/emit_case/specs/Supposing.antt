-- Hypotheses entered and dropped.
use Rattle.std.specs.Prelude.{Result, Ok, Err}
use Rattle.std.specs.Prelude.{◌≡◌, List, [], ◌∷◌, ℕ, ◌≤◌, ◌<◌, length, get_or, take}
use Rattle.definition.specs.Verdict.{Bound}
use Rattle.definition.specs.Analysis.{pairing}
use Rattle.definition.specs.Frame.{Read, refuse}
use Rattle.definition.specs.Run.{outcome}
use Rattle.memo.specs.Recall.{Remembers}
use Rattle.emission.specs.State.{Emitter, Tried}
use Rattle.emission.specs.Induct.{suppose}
use Rattle.emit_maps.specs.Holds.{Covers}
use Rattle.emit_state.specs.Places.{failed_in, Laid}
use Rattle.emit_state.specs.Holding.{Buffers, World, Holding, Ready, got}
use Rattle.emit_state.specs.Frame.{having_work}
use Rattle.emit_state.specs.declared.places.Places.{Places}
use Rattle.emit_state.specs.declared.standing.Standing.{Standing}
use Rattle.emit_case.specs.Asked.{Termed, Recursive}
use Rattle.emit_case.specs.Runs.{suppose_one}
use Rattle.emit_case.specs.declared.goal.Inducting.{Inducting}
use Rattle.definition.specs.declared.Refusal.{Refusal}

-- other hypotheses in scope
abbrev pub supposing : List Bound → World → World
supposing hyps w = record { beyond = w.beyond; lent = w.lent; setting = w.setting; hyps = hyps; before = w.before; from = w.from }

-- what entering a hypothesis asks of work
pub record Entering (work : List ℕ) (l : Places) (m : Standing) : Type 0 where
  pub laid : Laid work l
  pub remembers : Remembers (failed_in work l) m.failed
  pub few : m.hyps < 4294967295

-- h is supposed by line n
pub record Entered (work work' : List ℕ) (l : Places) (m : Standing) (h n : ℕ) (t : Standing) : Type 0 where
  pub store : t.store ≡ m.store
  pub comes : (b : Buffers) (w : World) (e : Emitter) → b.work ≡ work → Holding b l m w e → Holding (having_work work' b) l t (supposing (pairing h n ∷ w.hyps) w) e

-- what dropping the hypotheses hs asks of work
pub record Dropping (work : List ℕ) (l : Places) (m : Standing) (hs : List ℕ) : Type 0 where
  pub laid : Laid work l
  pub remembers : Remembers (failed_in work l) m.failed
  pub few : length hs ≤ 16
  pub below : (i : ℕ) → i < length hs → get_or hs i 0 < l.room

-- none is left, if they were all
pub record Dropped (work work' : List ℕ) (l : Places) (m : Standing) (hs : List ℕ) (t : Standing) : Type 0 where
  pub store : t.store ≡ m.store
  pub comes : (b : Buffers) (w : World) (e : Emitter) → b.work ≡ work → Covers hs (length hs) w.hyps → Holding b l m w e → Holding (having_work work' b) l t (supposing [] w) e

-- ---- one hypothesis, held by the buffers
abbrev pub OneTo : Buffers → Places → World → Read (Tried Bound) → Result (Standing × ℕ) Refusal → Type 0
OneTo b l w o (Ok (t, h)) = (n : ℕ) × (e : Emitter) × (o ≡ got (pairing h n) e) × Holding b l t (supposing (pairing h n ∷ w.hyps) w) e
OneTo b l w o (Err x) = o ≡ refuse x

abbrev pub GrownOne : Standing → Result (Standing × ℕ) Refusal → Type 0
GrownOne m (Ok (t, h)) = m.store.len ≤ t.store.len
GrownOne m (Err x) = Unit {0}

-- hypotheses are few: each has a line
pub record SupposesOne (b b' : Buffers) (l : Places) (m : Standing) (g : Inducting) (v : ℕ) (r : Result (Standing × ℕ) Refusal) : Type 0 where
  pub grown : GrownOne m r
  pub comes : (w : World) (e : Emitter) → Ready b l m w e → Termed g v w e → OneTo b' l w (outcome w.lent (suppose_one w.setting v g.judgment e)) r

-- ---- all of them
-- each is below n
abbrev pub AllBelow : List ℕ → ℕ → Type 0
AllBelow hs n = (i : ℕ) → i < length hs → get_or hs i 0 < n

abbrev pub AllTo : Buffers → Places → World → List ℕ → Read (Tried (List Bound)) → Result Standing Refusal → Type 0
AllTo b l w hs o (Ok t) = (hyps : List Bound) × (e : Emitter) × (o ≡ got hyps e) × Covers hs (length hs) hyps × AllBelow hs (length e.kept.store) × Holding b l t (supposing hyps w) e
AllTo b l w hs o (Err x) = o ≡ refuse x

abbrev pub GrownAll : Standing → Result Standing Refusal → Type 0
GrownAll m (Ok t) = m.store.len ≤ t.store.len
GrownAll m (Err x) = Unit {0}

pub record SupposesAll (b b' : Buffers) (l : Places) (m : Standing) (g : Inducting) (rs hs : List ℕ) (r : Result Standing Refusal) : Type 0 where
  pub grown : GrownAll m r
  pub comes : (w : World) (e : Emitter) → Ready b l m w e → w.hyps ≡ [] → Recursive g rs w e → AllTo b' l w (take (length rs) hs) (outcome w.lent (suppose w.setting g.judgment rs [] e)) r
