-- `outcome_answer` meets its contract.
use Rattle.std.specs.Prelude.{Result}
use mathlib.Core.Path.{sym, ap, ◌∙◌}
use Rattle.definition.specs.Answer.{answer}
use Rattle.dock_call.specs.Outcome.{refusal_of}
use Rattle.dock_call.proofs.answer.outcome_answer.Goals as goal
use Rattle.definition.specs.declared.Refusal.{Refusal}

pub returns-in-Ok : goal.returns-in-Ok
unfolding answer
returns-in-Ok c = sym (ap (λ (o : Result (Unit {0}) Refusal). answer (refusal_of o)) c.in-Ok.is)

pub returns-in-Err : goal.returns-in-Err
unfolding answer
returns-in-Err c = c.refusal_answer.ensures ∙ sym (ap (λ (o : Result (Unit {0}) Refusal). answer (refusal_of o)) c.in-Err.is)
