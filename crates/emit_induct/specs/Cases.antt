-- All cases of an induction.
use Rattle.std.specs.Prelude.{◌≡◌, List, [], ℕ, ◌≤◌, take}
use Rattle.definition.specs.Frame.{Read, refuse}
use Rattle.definition.specs.Run.{outcome}
use Rattle.emission.specs.Line.{Case}
use Rattle.emission.specs.State.{Emitter, Tried}
use Rattle.emission.specs.Patterns.{constructors_of}
use Rattle.emission.specs.Induct.{induct_cases}
use Rattle.emit_lines.specs.Cases.{cases_words}
use Rattle.emit_state.specs.Holding.{Buffers, World, Holding, Ready, got, lost}
use Rattle.emit_state.specs.declared.places.Places.{Places}
use Rattle.emit_state.specs.declared.standing.Standing.{Standing}
use Rattle.emit_case.specs.Asked.{Given}
use Rattle.emit_case.specs.Case.{tries}
use Rattle.emit_case.specs.declared.goal.Inducting.{Inducting}
use Rattle.emit_case.specs.declared.case.Cases.{Cases}
use Rattle.emit_case.specs.declared.case.Cases.TheVariants.{All, Fails, Refused}

-- the numbers of the cases of a sort's constructors, which are at most as many as symbols can be
abbrev pub room_for_cases : ℕ
room_for_cases = 73728

-- no hypothesis is in scope
pub record Plain (g : Inducting) (w : World) (e : Emitter) : Type 0 where
  pub none : w.hyps ≡ []
  pub given : Given g w e

-- cases, held by the buffers and the numbers
abbrev pub CasesTo : Buffers → Places → World → List ℕ → Read (Tried (List Case)) → Cases → Type 0
CasesTo b l w cases o (All t to) = (e : Emitter) × (cs : List Case) × (o ≡ got cs e) × (take to cases ≡ cases_words cs) × Holding b l t w e
CasesTo b l w cases o (Fails t) = (e : Emitter) × (o ≡ lost e) × Holding b l t w e
CasesTo b l w cases o (Refused x) = o ≡ refuse x

abbrev pub GrownCases : Standing → Cases → Type 0
GrownCases m (All t to) = (m.store.len ≤ t.store.len) × (to ≤ room_for_cases)
GrownCases m (Fails t) = m.store.len ≤ t.store.len
GrownCases m (Refused x) = Unit {0}

pub record CasesAnswer (b b' : Buffers) (l : Places) (m : Standing) (g : Inducting) (cases : List ℕ) (r : Cases) : Type 0 where
  pub grown : GrownCases m r
  pub comes : (w : World) (e : Emitter) → Ready b l m w e → Plain g w e
      → CasesTo b' l w cases (outcome w.lent (induct_cases w.setting (tries w) g.judgment (constructors_of w.setting.sort w.setting.pack.symbols 0) e)) r
