-- `refuse` meets its contract.
use Rattle.host_walk.specs.Walks.{told-refused}
use Rattle.host_walk.proofs.answer.refuse.Goals as goal

pub shape_of-patterns : goal.shape_of-patterns
shape_of-patterns c = search

pub returns : goal.returns
returns c = told-refused _ _ _ _ (c.fill.ensures.after (λ y e. e))
