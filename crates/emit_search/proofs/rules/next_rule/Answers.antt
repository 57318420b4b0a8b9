-- `next_rule` meets its contract.
use Rattle.emit_state.specs.Frame.{rules-within}
use Rattle.emit_search.proofs.rules.next_rule.Goals as goal

pub next_of-requires : goal.next_of-requires
next_of-requires c = let p = c.requires in rw c.rules.ensures (rules-within _ _ p.0, p.0.small, p.1)

pub returns : goal.returns
returns c = rw c.rules.ensures at c.next_of.ensures
