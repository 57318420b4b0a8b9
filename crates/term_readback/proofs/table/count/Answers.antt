-- `count` meets its contract.
use Rattle.term_readback.specs.Asked.{count-variable, count-applied}
use Rattle.term_readback.proofs.table.count.Goals as goal

pub returns-then-head : goal.returns-then-head
returns-then-head c = λ h S. count-variable _ _ _ h S _ c.requires.node c.head.result c.head.ensures c.if-head.true

pub returns : goal.returns
returns c = λ h S. count-applied _ _ _ h S _ c.requires.node c.head.result _ c.head.ensures c.if-head.false c.arity.ensures
