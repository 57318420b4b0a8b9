-- From `Emitter`: what emission has at any moment, and searches over it. A search comes to a result or to none (an error of the Rust),
-- and in both cases to a state, which whoever goes on takes over. A short buffer is no way to end a search: writes are noted, as in
-- every run, and the answer is read off the notes.
use Rattle.std.specs.Prelude.{true, false, List, [], ◌∷◌, ◌++◌, ℕ, ◌+◌, eqb, length}
use Rattle.std.proofs.Math.Option.{Option, none, some}
use Rattle.definition.specs.Pack.{Pack, Node}
use Rattle.definition.specs.Verdict.{Bound}
use Rattle.definition.specs.Store.{intern, pattern_words}
use Rattle.definition.specs.Graph.{Graph, cells, unify}
use Rattle.definition.specs.Analysis.{pairing}
use Rattle.definition.specs.Run.{Run, note, return, ◌>>=◌ as ◌>>=r◌}
use Rattle.emission.specs.Line.{Line, tally}
use Rattle.emission.specs.Render.{proof_text}

-- "text, counts and the four maps", the counts being the lines' tally. A map is a list of pairs, the newest first: from a pattern to its
-- line (proved, derived), to its definition, to its case variable
pub record Undone : Type 0 where
  pub lines : List Line
  pub proved : List Bound
  pub derived : List Bound
  pub defs : List Bound
  pub names : List Bound

-- what no restore takes back: the patterns, and the pairs that unification took
pub record Kept : Type 0 where
  pub store : List Node
  pub pairs : ℕ

pub record Emitter : Type 0 where
  pub undone : Undone
  pub kept : Kept

-- what is settled ahead of the first goal: the pack, and of L its pattern, its name and its sort
pub record Setting : Type 0 where
  pub pack : Pack
  pub eigen : ℕ
  pub name : List ℕ
  pub sort : ℕ

pub record Tried (A : Type 0) : Type 0 where
  pub result : Option A
  pub state : Emitter

abbrev pub Search : Type 0 → Type 0
Search A = Emitter → Run (Tried A)

-- ---- searches put together
unfoldable pub go_on : {A B : Type 0} → (A → Emitter → Run (Tried B)) → Tried A → Run (Tried B)
go_on f t = elim t.result [ none ↦ return (record { result = none; state = t.state }) | some a ↦ f a t.state ]

-- the second from the first's result; none where the first has none
infixl 20 ◌>>=◌
unfoldable pub ◌>>=◌ : {A B : Type 0} → (Emitter → Run (Tried A)) → (A → Emitter → Run (Tried B)) → Emitter → Run (Tried B)
unfolding ◌>>=r◌ go_on
m >>= f = λ e. m e >>=r λ t. go_on f t

unfoldable pub go_back : {A : Type 0} → (Emitter → Run (Tried A)) → Tried A → Run (Tried A)
go_back n t = elim t.result [ none ↦ n t.state | some a ↦ return t ]

-- the second where the first has no result: whatever the first wrote stays
infixl 18 ◌or_else◌
unfoldable pub ◌or_else◌ : {A : Type 0} → (Emitter → Run (Tried A)) → (Emitter → Run (Tried A)) → Emitter → Run (Tried A)
unfolding ◌>>=r◌ go_back
m or_else n = λ e. m e >>=r λ t. go_back n t

abbrev pub give : {A : Type 0} → A → Emitter → Run (Tried A)
give a = λ e. return (record { result = some a; state = e })

abbrev pub fail : {A : Type 0} → Emitter → Run (Tried A)
fail = λ e. return (record { result = none; state = e })

unfoldable pub from : {A : Type 0} → Option A → Emitter → Run (Tried A)
from none = λ e. return (record { result = none; state = e })
from (some a) = λ e. return (record { result = some a; state = e })

-- whether there was a result is itself the result
unfoldable pub attempt : {A : Type 0} → (Emitter → Run (Tried A)) → Emitter → Run (Tried (Option A))
unfolding ◌>>=r◌
attempt m = λ e. m e >>=r λ (t : Tried _). return (record { result = some t.result; state = t.state })

abbrev pub now : Emitter → Run (Tried Emitter)
now = λ e. return (record { result = some e; state = e })

abbrev pub change : (Emitter → Emitter) → Emitter → Run (Tried (Unit {0}))
change f = λ e. return (record { result = some tt; state = f e })

-- ---- one part of the state changed
abbrev pub having_lines : List Line → Emitter → Emitter
having_lines ls e = let u = e.undone in record { undone = record { lines = ls; proved = u.proved; derived = u.derived; defs = u.defs; names = u.names }; kept = e.kept }

abbrev pub having_proved : ℕ → ℕ → Emitter → Emitter
having_proved j n e = let u = e.undone in record { undone = record { lines = u.lines; proved = pairing j n ∷ u.proved; derived = u.derived; defs = u.defs; names = u.names }; kept = e.kept }

abbrev pub having_derived : ℕ → ℕ → Emitter → Emitter
having_derived j n e = let u = e.undone in record { undone = record { lines = u.lines; proved = u.proved; derived = pairing j n ∷ u.derived; defs = u.defs; names = u.names }; kept = e.kept }

abbrev pub having_def : ℕ → ℕ → Emitter → Emitter
having_def p n e = let u = e.undone in record { undone = record { lines = u.lines; proved = u.proved; derived = u.derived; defs = pairing p n ∷ u.defs; names = u.names }; kept = e.kept }

abbrev pub having_name : ℕ → ℕ → Emitter → Emitter
having_name p k e = let u = e.undone in record { undone = record { lines = u.lines; proved = u.proved; derived = u.derived; defs = u.defs; names = pairing p k ∷ u.names }; kept = e.kept }

abbrev pub having_store : List Node → Emitter → Emitter
having_store s e = record { undone = e.undone; kept = record { store = s; pairs = e.kept.pairs } }

abbrev pub having_pairs : ℕ → Emitter → Emitter
having_pairs n e = record { undone = e.undone; kept = record { store = e.kept.store; pairs = e.kept.pairs + n } }

-- "with text, counts and the four maps restored": as they were in the first of two states
abbrev pub restored : Emitter → Emitter → Emitter
restored before after = record { undone = before.undone; kept = after.kept }

-- ---- writes
-- the store become s; only a node more is a write
unfoldable pub grown_to : List Node → Emitter → Run (Tried (Unit {0}))
unfolding ◌>>=r◌ pattern_words
grown_to s = λ e.
    elim (eqb (length s) (length e.kept.store)) [
      | true ↦ return (record { result = some tt; state = e })
      | false ↦ note 2 (length (pattern_words s)) >>=r λ _. return (record { result = some tt; state = having_store s e })
    ]

-- a node's pattern
unfoldable pub interned : Node → Emitter → Run (Tried ℕ)
unfolding intern grown_to
interned n = do
  e ← now
  let made = intern e.kept.store n
  _ ← grown_to made.store
  give made.number

-- a line behind those there
unfoldable pub write : Setting → Line → Emitter → Run (Tried (Unit {0}))
unfolding ◌>>=r◌ proof_text
write S l = λ e. let ls = e.undone.lines ++ (l ∷ []) in note 5 (length (proof_text S.pack S.name ls)) >>=r λ _. return (record { result = some tt; state = having_lines ls e })

-- a step, hyp or induct line, and its number
unfoldable pub write_step : Setting → Line → Emitter → Run (Tried ℕ)
unfolding write tally
write_step S l = do
  e ← now
  _ ← write S l
  give (tally e.undone.lines).steps

-- a goal's graph, grown: "one graph's nodes plus argument cells"
unfoldable pub celled : Graph → Emitter → Run (Tried (Unit {0}))
unfolding ◌>>=r◌ cells
celled g = λ e. note 3 (cells g) >>=r λ _. return (record { result = some tt; state = e })

-- two nodes unified, none at a clash; the pairs count in both cases
unfoldable pub unified : Graph → ℕ → ℕ → Emitter → Run (Tried Graph)
unfolding from unify
unified g x y = do
  let u = unify g x y
  _ ← change (having_pairs u.taken)
  from u.graph
