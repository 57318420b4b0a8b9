-- `deny` meets its contract.
use Rattle.host_search.specs.Ends.{told-refused}
use Rattle.host_search.proofs.answer.deny.Goals as goal

pub returns : goal.returns
returns c = told-refused _ _ _ _ (c.fill.ensures.after (λ y e. e))
