-- `next_of` meets its contract.
use Rattle.emit_chains.specs.Follow.{next-at}
use Rattle.emit_chains.proofs.follow.next_of.Goals as goal

pub returns : goal.returns
returns c = next-at _ _ c.requires.0 _ c.requires.2 _ c.number_in.ensures
