-- The candidates for an output that is left open: what they ask and answer.
use Rattle.std.specs.Prelude.{◌≡◌, true, false, List, [], ◌∷◌, ℕ, ◌≤◌, ◌<◌, eqb, length, get_or}
use Rattle.std.proofs.Math.Option.{Option, none, some}
use Rattle.definition.specs.Pack.{prop, most_arity, symbol_of}
use Rattle.definition.specs.Frame.{Read, refuse}
use Rattle.definition.specs.Run.{outcome}
use Rattle.emission.specs.State.{Emitter, Setting, Tried, Search, ◌>>=◌, attempt, interned}
use Rattle.emission.specs.Induct.{prove_cut}
use Rattle.emission.specs.Choose.{filled, first_proved}
use Rattle.emit_theory.specs.Sound.{Grew}
use Rattle.emit_theory.specs.Search.Proving.{HasAll}
use Rattle.emit_state.specs.Holding.{Buffers, World, Holding, Ready, Grown, got}
use Rattle.emit_state.specs.declared.places.Places.{Places}
use Rattle.emit_state.specs.declared.standing.Standing.{Standing}
use Rattle.emit_state.specs.declared.standing.Proved.{Proved}
use Rattle.emit_state.specs.declared.standing.Proved.TheVariants.{Line, Fails, Refused}
use Rattle.emit_induct.specs.declared.candidates.Output.{Output}
use Rattle.emit_induct.specs.declared.candidates.Chosen.{Chosen}
use Rattle.emit_induct.specs.declared.candidates.Chosen.TheVariants.{At, Nothing, Refused as NoRoom}

-- the number that is no pattern's
abbrev pub no_pattern : ℕ
no_pattern = 4294967295

-- arguments as they are given: a pattern, or none for the open one
unfoldable pub arguments_in : List ℕ → List (Option ℕ)
arguments_in [] = []
arguments_in (a ∷ xs) = elim (eqb a no_pattern) as (λ _. Option ℕ) [ true ↦ none | false ↦ some a ] ∷ arguments_in xs

-- an argument, or c for an open one
unfoldable pub fill_one : ℕ → ℕ → ℕ
fill_one c a = elim (eqb a no_pattern) [ true ↦ c | false ↦ a ]

-- the arguments of the output's judgment with candidate c
abbrev pub filling : List ℕ → ℕ → List ℕ
filling args c = filled c (arguments_in args)

-- L is the one that is given, the predicate makes judgments, and no hypothesis is in scope
pub record Opened (x : Output) (args : List ℕ) (w : World) : Type 0 where
  pub none : w.hyps ≡ []
  pub eigen : x.eigen ≡ w.setting.eigen
  pub sort : x.sort ≡ w.setting.sort
  pub symbol : x.predicate < length w.setting.pack.symbols
  pub output : (symbol_of w.setting.pack x.predicate).output ≡ prop
  pub few : length args ≤ most_arity

-- with candidate c the arguments are of the predicate's inputs' sorts
abbrev pub Fits : Output → List ℕ → World → Emitter → ℕ → Type 0
Fits x args w e c = HasAll w.setting e (symbol_of w.setting.pack x.predicate).inputs (filling args c)

-- so for one candidate
pub record Fitting (x : Output) (args : List ℕ) (c : ℕ) (w : World) (e : Emitter) : Type 0 where
  pub opened : Opened x args w
  pub fits : Fits x args w e c

-- so for each
pub record AllFitting (x : Output) (args cs : List ℕ) (w : World) (e : Emitter) : Type 0 where
  pub opened : Opened x args w
  pub each : (i : ℕ) → i < length cs → Fits x args w e (get_or cs i 0)

-- ---- one candidate
-- its judgment, then an attempt at a proof
unfoldable pub try_run : Setting → ℕ → List (Option ℕ) → ℕ → Search (Option ℕ)
try_run S predicate args c = interned (record { head = predicate; args = filled c args }) >>= λ j. attempt (prove_cut S j)

-- what it came to, from state e₀, held by the buffers
abbrev pub TryTo : Buffers → Places → World → Emitter → Read (Tried (Option ℕ)) → Proved → Type 0
TryTo b l w e₀ o (Line t n) = (e : Emitter) × (o ≡ got (some n) e) × Ready b l t w e × Grew e₀ e
TryTo b l w e₀ o (Fails t) = (e : Emitter) × (o ≡ got none e) × Ready b l t w e × Grew e₀ e
TryTo b l w e₀ o (Refused r) = o ≡ refuse r

-- the answer, for every state that the buffers held
pub record TryAnswers (b b' : Buffers) (l : Places) (m : Standing) (x : Output) (args : List ℕ) (c : ℕ) (r : Proved) : Type 0 where
  pub grown : Grown m r
  pub comes : (w : World) (e : Emitter) → Ready b l m w e → Fitting x args c w e → TryTo b' l w e (outcome w.lent (try_run w.setting x.predicate (arguments_in args) c e)) r

-- ---- all
-- the candidate, or none, held by the buffers
abbrev pub ChosenTo : Buffers → Places → World → Read (Tried (Option ℕ)) → Chosen → Type 0
ChosenTo b l w o (At t c) = (e : Emitter) × (o ≡ got (some c) e) × Holding b l t w e
ChosenTo b l w o (Nothing t) = (e : Emitter) × (o ≡ got none e) × Holding b l t w e
ChosenTo b l w o (NoRoom r) = o ≡ refuse r

-- patterns are only added
abbrev pub GrownChosen : Standing → Chosen → Type 0
GrownChosen m (At t c) = m.store.len ≤ t.store.len
GrownChosen m (Nothing t) = m.store.len ≤ t.store.len
GrownChosen m (NoRoom r) = Unit {0}

-- the answer, for every state that the buffers held
pub record ChosenAnswers (b b' : Buffers) (l : Places) (m : Standing) (x : Output) (args cs : List ℕ) (r : Chosen) : Type 0 where
  pub grown : GrownChosen m r
  pub comes : (w : World) (e : Emitter) → Ready b l m w e → AllFitting x args cs w e → ChosenTo b' l w (outcome w.lent (first_proved w.setting x.predicate (arguments_in args) cs e)) r
