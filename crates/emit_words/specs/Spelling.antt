-- The word that a pattern has already, as code finds it.
use Rattle.std.specs.Prelude.{Option as Optional, Some, None}
use Rattle.std.specs.Prelude.{◌≡◌, List, ℕ, ◌≤◌, ◌<◌, length, get_or}
use Rattle.std.proofs.Common.{ap, arith}
use Rattle.std.proofs.Math.Option.{Option, none, some}
use Rattle.definition.specs.Pack.{Node, no_node}
use Rattle.definition.specs.Verdict.{value_of}
use Rattle.emission.specs.Line.{Word}
use Rattle.emission.specs.State.{Emitter}
use Rattle.emission.specs.Words.{pattern_of, word_of}
use Rattle.store.specs.Stored.{nodes}
use Rattle.emit_lines.specs.Words.{word_in}
use Rattle.emit_state.specs.Holding.{lends, World, Ready}
use Rattle.emit_state.specs.Grown.{store_room}
use Rattle.emit_state.specs.declared.places.Places.{Places}
use Rattle.emit_state.specs.declared.standing.Standing.{Standing}
use Rattle.emit_words.specs.First.{Worded}

-- work and the patterns' words are those of a state that has pattern p
pub record Knows (work words : List ℕ) (l : Places) (m : Standing) (p : ℕ) : Type 0 where
  pub pack : List ℕ
  pub proof : List ℕ
  pub world : World
  pub state : Emitter
  pub ready : Ready (lends pack work words proof) l m world state
  pub there : p < length (nodes words m.store)

-- that has the arguments of a key
pub record KnowsAll (work words : List ℕ) (l : Places) (m : Standing) (key : List ℕ) : Type 0 where
  pub pack : List ℕ
  pub proof : List ℕ
  pub world : World
  pub state : Emitter
  pub ready : Ready (lends pack work words proof) l m world state
  pub some : 0 < length key
  pub there : (i : ℕ) → 0 < i → i < length key → get_or key i 0 < length (nodes words m.store)

-- it holds in every state that they are those of
abbrev pub InEach : List ℕ → List ℕ → Places → Standing → (World → Emitter → Type 0) → Type 0
InEach work words l m F = (pack proof : List ℕ) (w : World) (e : Emitter) → Ready (lends pack work words proof) l m w e → F w e

-- the answer as an option
abbrev pub spelled : Optional ℕ → Option Word
spelled (Some x) = some (word_in x)
spelled None = none

-- it is the word of p
abbrev pub Spelled : List ℕ → List ℕ → Places → Standing → ℕ → Optional ℕ → Type 0
Spelled work words l m p r = InEach work words l m (λ w e. spelled r ≡ word_of e p)

-- if p is no case variable
abbrev pub SpelledUnnamed : List ℕ → List ℕ → Places → Standing → ℕ → Optional ℕ → Type 0
SpelledUnnamed work words l m p r = InEach work words l m (λ w e. value_of p e.undone.names ≡ none → spelled r ≡ word_of e p)

-- x is the number of the word of p, if it has one
abbrev pub Numbers : List ℕ → List ℕ → Places → Standing → ℕ → ℕ → Type 0
Numbers work words l m p x = InEach work words l m (λ w e. (v : Word) → word_of e p ≡ some v → word_of e p ≡ some (word_in x))

-- the first of some patterns that has no word, or all have one
abbrev pub Lacks : Emitter → List ℕ → Optional ℕ → Type 0
Lacks e ps (Some a) = (i : ℕ) × (i < length ps) × (get_or ps i 0 ≡ a) × Worded e ps i × (word_of e a ≡ none)
Lacks e ps None = Worded e ps (length ps)

-- in every state
abbrev pub Lacked : List ℕ → List ℕ → Places → Standing → List ℕ → Optional ℕ → Type 0
Lacked work words l m ps r = InEach work words l m (λ w e. Lacks e ps r)

-- the first n words are written as numbers, if there are any
abbrev pub Gathered : List ℕ → List ℕ → Places → Standing → List ℕ → List ℕ → ℕ → Type 0
Gathered work words l m ps xs n = InEach work words l m (λ w e. Worded e ps (length ps) → (i : ℕ) → i < n → word_of e (get_or ps i 0) ≡ some (word_in (get_or xs i 0)))

-- all words
abbrev pub Gathers : List ℕ → List ℕ → Places → Standing → List ℕ → List ℕ → Type 0
Gathers work words l m ps xs = Gathered work words l m ps xs (length ps)

module _ (pack work words proof : List ℕ) (l : Places) (m : Standing) (w : World) (e : Emitter) (R : Ready (lends pack work words proof) l m w e) where
  -- a pattern is a node of the store
  pub pattern_is : (p : ℕ) → get_or (nodes words m.store) p no_node ≡ pattern_of e p
  pattern_is p = ap (λ (s : List Node). get_or s p no_node) R.holding.nodes_are

  -- as many as the state has
  pub stored_is : length (nodes words m.store) ≡ length e.kept.store
  stored_is = ap length R.holding.nodes_are

  -- there are no more patterns than there is room for
  pub pattern_room : length (nodes words m.store) ≤ l.room
  pattern_room = omega (arith, stored_is, store_room (lends pack work words proof) l m w e R.holding)
