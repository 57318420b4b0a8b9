-- `first_of` meets its contract.
use Rattle.emit_chains.specs.Follow.{first-at}
use Rattle.emit_chains.proofs.follow.first_of.Goals as goal

pub returns : goal.returns
returns c = first-at _ _ c.requires.0 _ c.requires.2 _ c.number_in.ensures
