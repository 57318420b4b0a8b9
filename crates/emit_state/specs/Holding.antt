-- What the buffers hold of emission's state, and what searches in code answer.
use Rattle.std.specs.Prelude.{◌≡◌, List, [], ℕ, ◌+◌, ◌/◌, ◌≤◌, ◌<◌, length}
use Rattle.std.proofs.Math.Option.{none, some}
use Rattle.definition.specs.Pack.{prop, symbol_of, rule_of}
use Rattle.definition.specs.Verdict.{Bound}
use Rattle.definition.specs.Store.{nothing}
use Rattle.definition.specs.Frame.{Read, fine, refuse}
use Rattle.definition.specs.Answer.{Lent}
use Rattle.definition.specs.Run.{outcome}
use Rattle.pack_tables.specs.Catalog.{records_of, Cataloged}
use Rattle.pack_read.specs.Reads.{Reads}
use Rattle.pack_read.specs.Held.{Proper}
use Rattle.memo.specs.Recall.{Remembers}
use Rattle.memo.specs.Lent.{recall_at}
use Rattle.store.specs.Stored.{Stored, nodes}
use Rattle.emission.specs.Name.{name_with}
use Rattle.emission.specs.Line.{Tally, tally}
use Rattle.emission.specs.Render.{proof_text}
use Rattle.emission.specs.State.{Emitter, Setting, Tried, Search}
use Rattle.emission.specs.Prove.{prove}
use Rattle.text_write.specs.Written.{Written}
use Rattle.emit_theory.specs.Came.{came}
use Rattle.emit_theory.specs.Again.Later.{Later}
use Rattle.emit_theory.specs.Sound.{Sound}
use Rattle.emit_theory.specs.Search.Proving.{Has, Supposed}
use Rattle.emit_maps.specs.Holds.{Holds}
use Rattle.emit_maps.specs.Trail.{Trailed, Counted}
use Rattle.emit_chains.specs.Chain.{Chained}
use Rattle.emit_chains.specs.Places.{firsts, links}
use Rattle.emit_chains.specs.Head.{top_of}
use Rattle.emit_state.specs.Places.{maps_of, failed_at, replaced_at, index_in, failed_in, replaced_in, replacing, rules_of, constructors_of, Laid, Beyond}
use Rattle.emit_state.specs.declared.places.Places.{Places}
use Rattle.emit_state.specs.declared.standing.Standing.{Standing}
use Rattle.emit_state.specs.declared.standing.Proved.{Proved}
use Rattle.emit_state.specs.declared.standing.Proved.TheVariants.{Line, Fails, Refused}

-- the four buffers of a search: the pack's bytes, all tables, the patterns' words, the proof text's bytes
pub record Buffers : Type 0 where
  pub pack : List ℕ
  pub work : List ℕ
  pub pattern : List ℕ
  pub proof : List ℕ

-- these four
abbrev pub lends : List ℕ → List ℕ → List ℕ → List ℕ → Buffers
lends pack work pattern proof = record { pack = pack; work = work; pattern = pattern; proof = proof }

-- what a search goes by and never changes: the lengths lent, the setting, the hypotheses in scope; and the words of work as they were when
-- the attempt began and its trail had `from` entries; and those of them that are not emission's
pub record World : Type 0 where
  pub beyond : List ℕ
  pub lent : Lent
  pub setting : Setting
  pub hyps : List Bound
  pub before : List ℕ
  pub from : ℕ

-- the counts as the lines' tally
abbrev pub tally_of : Standing → Tally
tally_of m = record { steps = m.steps; definitions = m.definitions; variables = m.variables; inductions = m.inductions }

-- so many levels of depth there are
abbrev pub levels : ℕ
levels = 4097

-- a try at j at depth k, or deeper, comes to nothing and writes nothing, in this state and every later one
abbrev pub Barren : Setting → List Bound → Emitter → ℕ → ℕ → Type 0
Barren S hyps e j k = (d : ℕ) → d + k ≤ levels → (e' : Emitter) → Later e e' → prove d S hyps j e' ≡ came [] none e'

-- a number for what code holds: a pattern or a line of the text
abbrev pub most_cells : ℕ
most_cells = 16777216

-- the buffers, with the numbers, are a state of emission
pub record Holding (b : Buffers) (l : Places) (m : Standing) (w : World) (e : Emitter) : Type 0 where
  -- the lengths
  pub pattern_lent : w.lent.pattern ≡ length b.pattern
  pub text_lent : w.lent.text ≡ length b.proof
  pub pattern_few : length b.pattern ≤ most_cells
  pub text_few : length b.proof ≤ most_cells
  pub room_is : l.room ≡ length b.pattern / 2
  pub laid : Laid b.work l
  pub beyond : Beyond l w.beyond b.work
  -- the pack, and L's name
  pub cataloged : Cataloged b.pack b.work l.hand.catalog
  pub reads : Reads b.pack (records_of b.work l.hand.catalog) w.setting.pack
  pub proper : Proper w.setting.pack
  pub named : w.setting.name ≡ name_with l.hand.name
  -- the patterns
  pub stored : Stored (index_in b.work l) b.pattern m.store
  pub nodes_are : nodes b.pattern m.store ≡ e.kept.store
  -- the text and its counts
  pub written : Written b.proof m.text (proof_text w.setting.pack w.setting.name e.undone.lines)
  pub ends : m.text ≤ length b.proof
  pub counts : tally e.undone.lines ≡ tally_of m
  -- the maps and the trail
  pub maps : Holds b.work (maps_of l) e.undone.proved e.undone.derived e.undone.defs e.undone.names w.hyps
  pub counted : Counted b.work (maps_of l) m.trail
  pub since : Trailed w.before b.work (maps_of l) w.from m.trail
  pub supposed : m.hyps ≡ length w.hyps
  -- the failures
  pub remembers : Remembers (failed_in b.work l) m.failed
  pub barren : (j k : ℕ) → recall_at (failed_at l) (replaced_at l) b.work m.failed j ≡ some k → Barren w.setting w.hyps e j k
  -- what was put for L can be cleared
  pub replaced : Remembers (replaced_in b.work l) (replacing b.work l)
  -- the rules of each predicate, the constructors of each sort
  pub rules : Chained (firsts b.work (rules_of l)) (links b.work (rules_of l)) (λ r. top_of (rule_of w.setting.pack r).conclusion) 0 (length w.setting.pack.rules)
  pub constructors : Chained (firsts b.work (constructors_of l)) (links b.work (constructors_of l)) (λ h. (symbol_of w.setting.pack h).output) 0 (length w.setting.pack.symbols)

-- such a state that is sound
pub record Ready (b : Buffers) (l : Places) (m : Standing) (w : World) (e : Emitter) : Type 0 where
  pub holding : Holding b l m w e
  pub sound : Sound w.setting e
  pub supposed : Supposed w.hyps e

-- there is such a state
pub record Stands (b : Buffers) (l : Places) (m : Standing) : Type 0 where
  pub world : World
  pub state : Emitter
  pub ready : Ready b l m world state

-- and j is a judgment in it
pub record Asked (b : Buffers) (l : Places) (m : Standing) (j : ℕ) : Type 0 where
  pub world : World
  pub state : Emitter
  pub ready : Ready b l m world state
  pub has : Has world.setting state prop j

-- a result, or none, with the state come to
abbrev pub got : {A : Type 0} → A → Emitter → Read (Tried A)
got a e = fine (record { result = some a; state = e })

abbrev pub lost : {A : Type 0} → Emitter → Read (Tried A)
lost e = fine (record { result = none; state = e })

-- what a run came to in the lengths lent, held by the buffers
abbrev pub Comes : Buffers → Places → World → Read (Tried ℕ) → Proved → Type 0
Comes b l w o (Line t n) = (e : Emitter) × (o ≡ got n e) × Holding b l t w e
Comes b l w o (Fails t) = (e : Emitter) × (o ≡ lost e) × Holding b l t w e
Comes b l w o (Refused x) = o ≡ refuse x

-- patterns are only added
abbrev pub Grown : Standing → Proved → Type 0
Grown m (Line t n) = m.store.len ≤ t.store.len
Grown m (Fails t) = m.store.len ≤ t.store.len
Grown m (Refused x) = Unit {0}

-- a line that was written has a number that a map can keep
abbrev pub Lined : Proved → Type 0
Lined (Line t n) = n < nothing
Lined (Fails t) = Unit {0}
Lined (Refused x) = Unit {0}

-- the same of what writes a line or has no room for it
abbrev pub Wrote : Proved → Type 0
Wrote (Line t n) = n < nothing
Wrote (Fails t) = ⊥
Wrote (Refused x) = Unit {0}

-- the answer of a run that is asked for judgment j, for every state that the buffers held
pub record Answers (b b' : Buffers) (l : Places) (m : Standing) (j : ℕ) (run : World → Search ℕ) (r : Proved) : Type 0 where
  pub grown : Grown m r
  pub comes : (w : World) (e : Emitter) → Ready b l m w e → Has w.setting e prop j → Comes b' l w (outcome w.lent (run w e)) r
