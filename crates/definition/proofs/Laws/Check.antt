-- What a yes and a no of check mean, of bytes.
use Rattle.std.specs.Prelude.{◌≡◌, List, ℕ, length}
use Rattle.std.proofs.Math.Option.{none, some}
use Rattle.definition.specs.Test.{is, see, never}
use Rattle.definition.specs.Pack.{Pack}
use Rattle.definition.specs.Frame.{fine, refuse}
use Rattle.definition.specs.Parse.{parse}
use Rattle.definition.specs.Answer.{lengths}
use Rattle.definition.specs.Verdict.{Accepted}
use Rattle.definition.specs.Check.{check_lent, check_refusal}
use Rattle.definition.proofs.Laws.Good.{parsed_good, parsed_once}
use Rattle.definition.proofs.Laws.Agreement.{verdict_accepts, accepted_verdict}

-- "A yes holds just in that case": the bytes are a pack that is accepted
pub check_yes : (s : List ℕ) (work : ℕ) → check_refusal s work ≡ none → (P : Pack) × (parse s ≡ fine P) × Accepted P
unfolding check_refusal
check_yes s work e = elim (see (lengths (check_lent (length s) work))) [
  | is (some r) p ↦ never (let z : some r ≡ none = rw (p, check_refusal) at e in cc)
  | is none p ↦ elim (see (parse s)) [
    | is (refuse r) q ↦ never (let z : some r ≡ none = rw (p, q, check_refusal) at e in cc)
    | is (fine P) q ↦ (P, q, verdict_accepts P (parsed_good s P q) (rw (p, q, check_refusal) at e))
  ]
]

-- where the lengths are good and the pack is accepted, it is a yes
pub yes_check : (s : List ℕ) (work : ℕ) (P : Pack) → lengths (check_lent (length s) work) ≡ none → parse s ≡ fine P → Accepted P → check_refusal s work ≡ none
unfolding check_refusal
yes_check s work P l q a = rw (l, q, check_refusal) (accepted_verdict P (parsed_good s P q) (parsed_once s P q) a)
