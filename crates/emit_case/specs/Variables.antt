-- The variables of a case.
use Rattle.std.specs.Prelude.{Result, Ok, Err}
use Rattle.std.specs.Prelude.{◌≡◌, List, [], ◌∷◌, map, ℕ, zero, suc, ◌≤◌, ◌<◌, length, get_or, take}
use Rattle.definition.specs.Pack.{prop, no_node, most_arity, symbol_of}
use Rattle.definition.specs.Store.{variable_node}
use Rattle.definition.specs.Verdict.{Bound}
use Rattle.definition.specs.Frame.{Read, refuse}
use Rattle.definition.specs.Run.{outcome}
use Rattle.pack_read.specs.Says.{Readable, OfPack}
use Rattle.pack_tables.specs.Catalog.{records_of}
use Rattle.emission.specs.Line.{var_line, tally}
use Rattle.emission.specs.State.{Emitter, Setting, Tried, Search, ◌>>=◌, give, now, change, interned, write, having_name}
use Rattle.emission.specs.Induct.{case_number, case_variables, recursive}
use Rattle.emit_state.specs.Holding.{Buffers, World, Holding, Ready, got}
use Rattle.emit_state.specs.declared.places.Places.{Places}
use Rattle.emit_state.specs.declared.standing.Standing.{Standing}
use Rattle.emit_case.specs.Leaves.{PutTo, GrownTo}
use Rattle.definition.specs.declared.Refusal.{Refusal}

-- a pattern's line as the next case variable, and its name
unfoldable pub name_run : Setting → ℕ → ℕ → Search ℕ
name_run S v sort = do
  e ← now
  let k = (tally e.undone.lines).variables
  _ ← write S (var_line sort)
  _ ← change (having_name v k)
  give v

-- a new variable of a sort
unfoldable pub variable_run : Setting → ℕ → Search ℕ
unfolding name_run
variable_run S sort = do
  e ← now
  v ← interned (variable_node (case_number (tally e.undone.lines).variables) sort)
  name_run S v sort

-- a sort that is no judgment's
pub record SortGiven (sort : ℕ) (w : World) (e : Emitter) : Type 0 where
  pub proper : sort ≡ prop → ⊥

-- v is the pattern of the next case variable
pub record Unnamed (v sort : ℕ) (w : World) (e : Emitter) : Type 0 where
  pub stored : v < length e.kept.store
  pub node : get_or e.kept.store v no_node ≡ variable_node (case_number (tally e.undone.lines).variables) sort
  pub proper : sort ≡ prop → ⊥

-- c is a symbol
pub record Constructor (c : ℕ) (w : World) (e : Emitter) : Type 0 where
  pub symbol : c < length w.setting.pack.symbols

-- the pattern that a run makes, or a short buffer, for every state that the buffers held and of which Q holds
pub record Makes (b b' : Buffers) (l : Places) (m : Standing) (Q : World → Emitter → Type 0) (run : World → Search ℕ) (r : Result (Standing × ℕ) Refusal) : Type 0 where
  pub grown : GrownTo m r
  pub comes : (w : World) (e : Emitter) → Ready b l m w e → Q w e → PutTo b' l w (outcome w.lent (run w e)) r

-- so many numbers from k on
unfoldable pub numbers_from : ℕ → ℕ → List ℕ
numbers_from zero k = []
numbers_from (suc n) k = k ∷ numbers_from n (suc k)

-- the variables with their patterns in vs, held by the buffers
abbrev pub MadeTo : Buffers → Places → World → Emitter → ℕ → List ℕ → Read (Tried (List Bound)) → Result (Standing × ℕ) Refusal → Type 0
MadeTo b l w e c vs o (Ok (t, n)) =
    (bs : List Bound) × (e' : Emitter) × (o ≡ got bs e') × (n ≡ length (symbol_of w.setting.pack c).inputs) × (map (λ (v : Bound). v.value) bs ≡ take n vs)
    × (map (λ (v : Bound). v.variable) bs ≡ numbers_from n (suc (tally e.undone.lines).variables)) × Holding b l t w e'
MadeTo b l w e c vs o (Err x) = o ≡ refuse x

abbrev pub GrownMade : Standing → Result (Standing × ℕ) Refusal → Type 0
GrownMade m (Ok (t, n)) = (m.store.len ≤ t.store.len) × (n ≤ most_arity)
GrownMade m (Err x) = Unit {0}

pub record MakesVariables (b b' : Buffers) (l : Places) (m : Standing) (c : ℕ) (vs : List ℕ) (r : Result (Standing × ℕ) Refusal) : Type 0 where
  pub grown : GrownMade m r
  pub comes : (w : World) (e : Emitter) → Ready b l m w e → Constructor c w e → MadeTo b' l w e c vs (outcome w.lent (case_variables w.setting (symbol_of w.setting.pack c).inputs e)) r

-- ---- those of them that have L's sort
pub record Filtering (bytes work : List ℕ) (l : Places) (c : ℕ) (vs rs : List ℕ) : Type 0 where
  pub readable : Readable bytes work l.hand.catalog
  pub symbol : c < length (records_of work l.hand.catalog 1)
  pub many : length vs ≤ length (symbol_of readable.pack c).inputs
  pub few : length vs ≤ most_arity
  pub room : length rs ≡ most_arity

pub record Filters (bytes work : List ℕ) (l : Places) (sort c : ℕ) (vs rs : List ℕ) (r : ℕ) : Type 0 where
  pub few : r ≤ most_arity
  pub listed : OfPack bytes work l.hand.catalog (λ P. recursive sort (symbol_of P c).inputs vs) (take r rs)
