-- Laws of the definition alone: the result of a goal's name, and the class of the step that meets it.
use Rattle.std.specs.Prelude.{◌≡◌, true, false, List, [], ◌∷◌, ℕ, suc, ◌<◌, length, get_or}
use Rattle.std.proofs.Math.Option.{some}
use Rattle.std.proofs.Common.{arith}
use Rattle.definition.specs.Test.{is, see, never, same, same_true}
use Rattle.definition.specs.Pack.{Goal, Result, Pack}
use Rattle.definition.specs.Good.{Good}
use Rattle.definition.specs.Verdict.{no_result}
use Rattle.definition.specs.Keys.{first_of, needed, keyed}
use Rattle.definition.specs.Goals.{result_of}
use Rattle.theory.specs.Keys.Needed.{Among, first-earlier}
use Rattle.theory.specs.Keys.KeyedLaws.{keyed-kept}
use Rattle.theory.specs.Classes.GoalsMet.{result-needed}
use Rattle.pack_read.specs.Goals.{MetBy}

-- ---- a result by its name
-- the one that is found is one of them, and has the name
pub result_found : (name : List ℕ) (rs : List Result) (r : Result) → result_of name rs ≡ some r → (i : ℕ) × (i < length rs) × (name ≡ (get_or rs i no_result).name) × (get_or rs i no_result ≡ r)
unfolding result_of
result_found name [] r e = never (cc)
result_found name (x ∷ rs) r e = elim (see (same name x.name)) [
  | is true p ↦ let q : some x ≡ some r = rw (p, result_of) at e in let z : x ≡ r = cc in (0, omega arith, same_true name x.name p, z)
  | is false p ↦ let q = result_found name rs r (rw (p, result_of) at e) in (suc q.0, omega (arith, q.1), q.2, q.3)
]

-- ---- the class of a step that meets a goal
module _ (P : Pack) (G : Good P) (g : Goal) (s : ℕ) (A : MetBy P g s) where
  -- it is a step
  pub answered-step : s < length P.steps
  answered-step = omega (arith, A.step, (G.results A.met.result A.met.given).step)

  -- and so is the first one with that judgment
  pub answered-first : first_of P s < length P.steps
  answered-first = omega (arith, first-earlier P s answered-step, answered-step)

  -- that one is needed, so it has a class
  pub answered_class : get_or (keyed P).words (first_of P s) 0 < length (keyed P).classes
  answered_class =
      let K = keyed-kept P G in
      let w : Among (first_of P s) (needed P) = rw A.step (result-needed P G A.met.result A.met.given) in
      (K.0.classed (first_of P s) (omega (arith, K.1, answered-first)) w).0
