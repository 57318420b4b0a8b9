-- `cert_check` meets its contract.
use mathlib.Core.Path.{ap, ◌∙◌}
use Prim.Native.Nat.{ℕ}
use lib.ListN.{replicate}
use Rattle.buffer.specs.Zero.{zeroed-all}
use Rattle.dock_call.specs.Outcome.{refusal_of}
use Rattle.dock.specs.Check.{check_left, check_statement}
use Rattle.dock.proofs.check.cert_check.Goals as goal

pub returns : goal.returns
returns c =
    let o = refusal_of c.check_outcome-outcome.result in record { answer = check_left _ _ o _ _ c.check_outcome-outcome.ensures c.outcome_answer.ensures (c.fill_from.ensures ∙ zeroed-all _ ∙ ap (λ (n : ℕ). replicate n 0) c.check_outcome-outcome.auto.work); statement = check_statement _ _ o _ c.check_outcome-outcome.ensures c.outcome_answer.ensures }
