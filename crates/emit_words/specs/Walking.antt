-- The walk that gives a judgment's arguments their words: its stack in work, its turns, and where it ends.
use Rattle.std.specs.Prelude.{Option, Some, None}
use Rattle.std.specs.Prelude.{◌≡◌, List, [], ℕ, ◌+◌, ◌*◌, ◌-◌, ◌≤◌, ◌<◌, length}
use Rattle.std.proofs.Common.{arith}
use Rattle.definition.specs.Pack.{prop}
use Rattle.definition.specs.Frame.{refuse}
use Rattle.definition.specs.declared.Refusal.TheVariants.{Short as Refusal-as-Short}
use Rattle.base.specs.Stack.{stacked, length-stacked}
use Rattle.base.specs.declared.stack.Stack.{Stack}
use Rattle.emission.specs.State.{Emitter}
use Rattle.emit_theory.specs.Outcomes.{ran}
use Rattle.emit_theory.specs.Search.Proving.{Has}
use Rattle.emit_state.specs.Places.{walk_at}
use Rattle.emit_state.specs.Holding.{Buffers, lends, World, Ready}
use Rattle.emit_state.specs.Grown.{store_room}
use Rattle.emit_state.specs.declared.places.Places.{Places}
use Rattle.emit_state.specs.declared.standing.Standing.{Standing}
use Rattle.emit_words.specs.Pending.{pending, top_of, Waits, waits_few, top-stored, top-applied}
use Rattle.emit_words.specs.Spelling.{Knows, InEach, stored_is}
use Rattle.emit_words.specs.Putting.{Placed, Whole}
use Rattle.emit_words.specs.declared.walk.Turn.{Turn}
use Rattle.emit_words.specs.declared.walk.Turn.TheVariants.{Next, Done}

-- what waits
abbrev pub waiting : Buffers → Stack → List ℕ
waiting b s = stacked s.at s.len b.work

-- the buffers hold a state in which j is a judgment and the stack's patterns wait
pub record Walks (b : Buffers) (l : Places) (m : Standing) (w : World) (e : Emitter) (j : ℕ) (s : Stack) : Type 0 where
  pub ready : Ready b l m w e
  pub has : Has w.setting e prop j
  pub waits : Waits w.setting e 0 j (waiting b s)

-- there is such a state, and the stack is in its place
pub record Walking (b : Buffers) (l : Places) (m : Standing) (j : ℕ) (s : Stack) : Type 0 where
  pub world : World
  pub state : Emitter
  pub walks : Walks b l m world state j s
  pub at : s.at ≡ walk_at l

-- and all arguments of the top have words
pub record Finishing (b : Buffers) (l : Places) (m : Standing) (j p : ℕ) (s : Stack) : Type 0 where
  pub walking : Walking b l m j s
  pub top : p ≡ top_of j (waiting b s)
  pub whole : InEach b.work b.pattern l m (λ w e. Whole e p)

-- a state later, with as much to do
pub record Stepped (b b' : Buffers) (l : Places) (t : Standing) (w : World) (e : Emitter) (j : ℕ) (s u : Stack) : Type 0 where
  pub state : Emitter
  pub walks : Walks b' l t w state j u
  pub same : ran w.lent (pending w.setting j (waiting b s)) e ≡ ran w.lent (pending w.setting j (waiting b' u)) state

-- the room left in the text, and then the top's number
abbrev pub left : Buffers → Places → Standing → ℕ → Stack → ℕ
left b l m j s = (length b.proof - m.text) * (l.room + 1) + top_of j (waiting b s)

-- of numbers: the stack stays in its place, the patterns are the same, and there is less to do
pub record Falls (b b' : Buffers) (l : Places) (m t : Standing) (j : ℕ) (s u : Stack) : Type 0 where
  pub at : u.at ≡ s.at
  pub store : t.store ≡ m.store
  pub less : left b' l t j u < left b l m j s

-- what a turn answers
abbrev pub Turned : Buffers → Buffers → Places → Standing → ℕ → Stack → Option Turn → Type 0
Turned b b' l m j s (Some (Next t u)) = Falls b b' l m t j s u × ((w : World) (e : Emitter) → Walks b l m w e j s → Stepped b b' l t w e j s u)
Turned b b' l m j s (Some Done) = (w : World) (e : Emitter) → Walks b l m w e j s → Ready b' l m w e × Whole e j × (waiting b s ≡ [])
Turned b b' l m j s None = (w : World) (e : Emitter) → Walks b l m w e j s → ran w.lent (pending w.setting j (waiting b s)) e ≡ refuse (Refusal-as-Short 5)

-- ---- the room that there is
module _ (pack work words proof : List ℕ) (l : Places) (m : Standing) (j : ℕ) (s : Stack) where
  -- the buffers
  abbrev b : Buffers
  b = lends pack work words proof

  module _ (w : World) (e : Emitter) (K : Walks b l m w e j s) where
    -- the judgment is below the room
    pub judgment_low : j < l.room
    judgment_low = omega (arith, K.has.stored, store_room b l m w e K.ready.holding)

    -- so is the stack's height
    pub stack_low : s.len < l.room
    stack_low = omega (arith, judgment_low, (waits_few w.setting e 0 j (waiting b s) K.waits).0, length-stacked s.at s.len work)

    -- and the top is no more than the judgment
    pub top_low : top_of j (waiting b s) ≤ j
    top_low = (waits_few w.setting e 0 j (waiting b s) K.waits).1

  -- there is room for one more word
  pub stack_room : Walking b l m j s → s.at + s.len < length work
  stack_room K = omega (arith, stack_low K.world K.state K.walks, K.at, K.walks.ready.holding.laid.within)

  module _ (K : Walking b l m j s) (p : ℕ) (t : p ≡ top_of j (waiting b s)) where
    -- the top is a pattern
    pub top_knows : Knows work words l m p
    top_knows =
        let w = K.world in
        let e = K.state in
        let R = K.walks.ready in
        record {
          pack = pack;
          proof = proof;
          world = w;
          state = e;
          ready = R;
          there = omega (arith, t, top-stored w.setting e R.sound j K.walks.has (waiting b s) K.walks.waits, stored_is pack work words proof l m w e R);
        }

    -- and an application
    pub top_placed : Placed b l m p
    top_placed =
        let w = K.world in
        let e = K.state in
        let R = K.walks.ready in
        record {
          world = w;
          state = e;
          ready = R;
          there = omega (arith, t, top-stored w.setting e R.sound j K.walks.has (waiting b s) K.walks.waits);
          applied = rw t (top-applied w.setting e R.sound j K.walks.has (waiting b s) K.walks.waits);
        }
