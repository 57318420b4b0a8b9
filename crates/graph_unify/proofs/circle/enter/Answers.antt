-- `enter` meets its contract.
use Rattle.graph.specs.Joins.{head-variable, head-other}
use Rattle.graph_unify.specs.CircleWords.{enters_variable_in, enters_application_in}
use Rattle.graph_unify.proofs.circle.enter.Goals as goal

pub returns-then-head : goal.returns-then-head
returns-then-head c = rw c.colours_at-colours.ensures (enters_variable_in _ _ _ _ _ c.requires (λ g S. head-variable g _ c.head.result (c.head.ensures g S) c.if-head.true))

pub returns : goal.returns
returns c = rw (c.colours_at-colours.ensures, c.pairs_at.ensures) (enters_application_in _ _ _ _ _ c.requires (λ g S. head-other g _ c.head.result (c.head.ensures g S) c.if-head.false))
