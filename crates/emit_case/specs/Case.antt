-- A constructor's case.
use Rattle.std.specs.Prelude.{◌≡◌, List, [], ◌∷◌, ◌++◌, ℕ, ◌+◌, ◌-◌, ◌≤◌, ◌<◌, length, take}
use Rattle.definition.specs.Pack.{most_arity, symbol_of}
use Rattle.definition.specs.Verdict.{Bound}
use Rattle.definition.specs.Frame.{Read, refuse}
use Rattle.definition.specs.Run.{outcome}
use Rattle.emission.specs.Line.{Case}
use Rattle.emission.specs.State.{Emitter, Tried, Search}
use Rattle.emission.specs.Prove.{prove}
use Rattle.emission.specs.Induct.{recursive, deepest, induct_case}
use Rattle.emit_theory.specs.Search.Proving.{HasAll}
use Rattle.emit_lines.specs.Cases.{case_words}
use Rattle.emit_state.specs.Holding.{Buffers, World, Holding, Ready, got, lost}
use Rattle.emit_state.specs.declared.places.Places.{Places}
use Rattle.emit_state.specs.declared.standing.Standing.{Standing}
use Rattle.emit_case.specs.Asked.{Given}
use Rattle.emit_case.specs.Runs.{over_run}
use Rattle.emit_case.specs.Variables.{numbers_from}
use Rattle.emit_case.specs.declared.goal.Inducting.{Inducting}
use Rattle.emit_case.specs.declared.case.Cases.{Cases}
use Rattle.emit_case.specs.declared.case.Cases.TheVariants.{All, Fails, Refused}

-- a node's key, and the numbers of a case
abbrev pub most_key : ℕ
most_key = 17

abbrev pub most_case : ℕ
most_case = 18

-- the tries of a case's premises, under its hypotheses
abbrev pub tries : World → List Bound → ℕ → Search ℕ
tries w hyps q = prove (deepest - 1) w.setting hyps q

-- the judgment of a constructor over its variables
abbrev pub over_case : World → ℕ → ℕ → List ℕ → Search ℕ
over_case w j c vs = over_run w.setting c vs j (recursive w.setting.sort (symbol_of w.setting.pack c).inputs vs)

-- c is a constructor of L's sort, and no hypothesis is in scope
pub record InCase (g : Inducting) (c : ℕ) (w : World) (e : Emitter) : Type 0 where
  pub none : w.hyps ≡ []
  pub given : Given g w e
  pub symbol : c < length w.setting.pack.symbols
  pub output : (symbol_of w.setting.pack c).output ≡ w.setting.sort

-- and vs are patterns of its inputs' sorts
pub record Varied (g : Inducting) (c : ℕ) (vs : List ℕ) (w : World) (e : Emitter) : Type 0 where
  pub in_case : InCase g c w e
  pub few : length vs ≤ most_arity
  pub has_all : HasAll w.setting e (symbol_of w.setting.pack c).inputs vs

-- and rs are those of L's sort
pub record Cased (g : Inducting) (c : ℕ) (vs rs : List ℕ) (w : World) (e : Emitter) : Type 0 where
  pub varied : Varied g c vs w e
  pub those : rs ≡ recursive w.setting.sort (symbol_of w.setting.pack c).inputs vs

-- a case's numbers: its last line, and n variables from k on
unfoldable pub case_numbers : ℕ → ℕ → ℕ → List ℕ
unfolding numbers_from
case_numbers last n k = last ∷ n ∷ numbers_from n k

-- a case, held by the buffers and the numbers
abbrev pub CaseTo : Buffers → Places → World → List ℕ → List ℕ → ℕ → Read (Tried Case) → Cases → Type 0
CaseTo b l w cases cases' at o (All t to) = (e : Emitter) × (c : Case) × (o ≡ got c e) × (take to cases' ≡ take at cases ++ case_words c) × Holding b l t w e
CaseTo b l w cases cases' at o (Fails t) = (e : Emitter) × (o ≡ lost e) × Holding b l t w e
CaseTo b l w cases cases' at o (Refused x) = o ≡ refuse x

abbrev pub GrownCase : Standing → ℕ → Cases → Type 0
GrownCase m at (All t to) = (m.store.len ≤ t.store.len) × (at ≤ to) × (to ≤ at + most_case)
GrownCase m at (Fails t) = m.store.len ≤ t.store.len
GrownCase m at (Refused x) = Unit {0}

pub record CaseAnswers (b b' : Buffers) (l : Places) (m : Standing) (g : Inducting) (c : ℕ) (cases cases' : List ℕ) (at : ℕ) (r : Cases) : Type 0 where
  pub grown : GrownCase m at r
  pub comes : (w : World) (e : Emitter) → Ready b l m w e → InCase g c w e → CaseTo b' l w cases cases' at (outcome w.lent (induct_case w.setting (tries w) g.judgment c e)) r
