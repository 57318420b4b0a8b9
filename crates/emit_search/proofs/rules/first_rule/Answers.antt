-- `first_rule` meets its contract.
use Rattle.emit_state.specs.Frame.{rules-within}
use Rattle.emit_search.proofs.rules.first_rule.Goals as goal

pub head-head-requires : goal.head-head-requires
head-head-requires c =
    (rw c.index_end-to.ensures c.requires.1.stored, c.requires.1.below)

pub first_of-requires : goal.first_of-requires
first_of-requires c =
    let p = c.requires in
    rw (c.rules.ensures, c.head-head.ensures) (rules-within _ _ p.0, p.0.small, p.1.head)

pub returns : goal.returns
returns c = rw (c.rules.ensures, c.head-head.ensures) at c.first_of.ensures
