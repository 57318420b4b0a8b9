-- What the functions of induction ask of a state, and how they answer.
use Rattle.std.specs.Prelude.{◌≡◌, List, [], ℕ, ◌≤◌, length}
use Rattle.definition.specs.Pack.{prop, most_arity}
use Rattle.definition.specs.Run.{outcome}
use Rattle.emission.specs.State.{Emitter, Search}
use Rattle.emit_theory.specs.Search.Proving.{Has}
use Rattle.emit_theory.specs.Search.Inducting.{LikeL}
use Rattle.emit_state.specs.Holding.{Buffers, World, Ready, Comes, Grown}
use Rattle.emit_state.specs.declared.places.Places.{Places}
use Rattle.emit_state.specs.declared.standing.Standing.{Standing}
use Rattle.emit_state.specs.declared.standing.Proved.{Proved}
use Rattle.emit_case.specs.declared.goal.Inducting.{Inducting}

-- there is a state of which Q holds
pub record AskedFor (b : Buffers) (l : Places) (m : Standing) (Q : World → Emitter → Type 0) : Type 0 where
  pub world : World
  pub state : Emitter
  pub ready : Ready b l m world state
  pub holds : Q world state

-- the answer of a run, for every state that the buffers held and of which Q holds
pub record AnswersFor (b b' : Buffers) (l : Places) (m : Standing) (Q : World → Emitter → Type 0) (run : World → Search ℕ) (r : Proved) : Type 0 where
  pub grown : Grown m r
  pub comes : (w : World) (e : Emitter) → Ready b l m w e → Q w e → Comes b' l w (outcome w.lent (run w e)) r

-- L is the one that is given, and the judgment is one
pub record Given (g : Inducting) (w : World) (e : Emitter) : Type 0 where
  pub eigen : g.eigen ≡ w.setting.eigen
  pub sort : g.sort ≡ w.setting.sort
  pub has : Has w.setting e prop g.judgment

-- and the term is of L's sort
pub record Termed (g : Inducting) (term : ℕ) (w : World) (e : Emitter) : Type 0 where
  pub given : Given g w e
  pub of_sort : Has w.setting e w.setting.sort term

-- and so are these variables, no more than a constructor has inputs
pub record Recursive (g : Inducting) (rs : List ℕ) (w : World) (e : Emitter) : Type 0 where
  pub given : Given g w e
  pub few : length rs ≤ most_arity
  pub like : LikeL w.setting e rs

-- both, and no hypothesis is in scope
pub record Inducted (g : Inducting) (term : ℕ) (rs : List ℕ) (w : World) (e : Emitter) : Type 0 where
  pub none : w.hyps ≡ []
  pub termed : Termed g term w e
  pub recursive : Recursive g rs w e
