-- `leave` meets its contract.
use Rattle.host_search.specs.Ends.{left-told}
use Rattle.host_search.proofs.answer.leave.Goals as goal

pub returns : goal.returns
returns c = left-told _ _ _ _ _ _ _ _ c.tell-answer.ensures (c.fill-2.ensures.after (λ y e. e)) (c.fill.ensures.after (λ y e. e))
