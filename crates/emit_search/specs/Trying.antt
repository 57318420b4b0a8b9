-- What the functions of the search's cycle ask and answer.
use Rattle.std.specs.Prelude.{List, ◌++◌, ℕ, ◌-◌, ◌≤◌, ◌<◌, length}
use Rattle.definition.specs.Pack.{prop, most_premises}
use Rattle.definition.specs.Run.{outcome}
use Rattle.emission.specs.State.{Emitter, Setting, Search, ◌>>=◌}
use Rattle.emission.specs.Words.{step}
use Rattle.emission.specs.Prove.{prove, prove_all}
use Rattle.emit_theory.specs.Search.Proving.{Has, Judged}
use Rattle.emit_state.specs.Holding.{Buffers, World, Ready, Comes, Grown}
use Rattle.emit_state.specs.declared.places.Places.{Places}
use Rattle.emit_state.specs.declared.standing.Standing.{Standing}
use Rattle.emit_state.specs.declared.standing.Proved.{Proved}

-- a try one level deeper than `depth`
abbrev pub deeper : World → ℕ → ℕ → Search ℕ
deeper w depth = λ q. prove (4096 - depth) w.setting w.hyps q

-- the premises that are left, behind the lines of those before, then the rule's line
unfoldable pub finishing : Setting → (ℕ → Search ℕ) → ℕ → ℕ → List ℕ → List ℕ → Search ℕ
finishing S p j r qs gs = prove_all p qs >>= λ ns. step S r (gs ++ ns) j

-- there is a state in which j is a judgment, and r a rule
pub record AskedByRule (b : Buffers) (l : Places) (m : Standing) (j r : ℕ) : Type 0 where
  pub world : World
  pub state : Emitter
  pub ready : Ready b l m world state
  pub has : Has world.setting state prop j
  pub rule : r < length world.setting.pack.rules

pub record AnswersRule (b b' : Buffers) (l : Places) (m : Standing) (j r : ℕ) (run : World → Search ℕ) (o : Proved) : Type 0 where
  pub grown : Grown m o
  pub comes : (w : World) (e : Emitter) → Ready b l m w e → Has w.setting e prop j → r < length w.setting.pack.rules → Comes b' l w (outcome w.lent (run w e)) o

-- there is a state in which j and all of qs are judgments, no more than a rule has premises
pub record AskedAll (b : Buffers) (l : Places) (m : Standing) (j : ℕ) (qs : List ℕ) : Type 0 where
  pub few : length qs ≤ most_premises
  pub world : World
  pub state : Emitter
  pub ready : Ready b l m world state
  pub has : Has world.setting state prop j
  pub judged : Judged world.setting state qs

pub record AnswersAll (b b' : Buffers) (l : Places) (m : Standing) (j : ℕ) (qs : List ℕ) (run : World → Search ℕ) (o : Proved) : Type 0 where
  pub grown : Grown m o
  pub comes : (w : World) (e : Emitter) → Ready b l m w e → Has w.setting e prop j → Judged w.setting e qs → Comes b' l w (outcome w.lent (run w e)) o
