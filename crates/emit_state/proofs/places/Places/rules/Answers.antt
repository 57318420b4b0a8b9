-- `rules` meets its contract.
use Rattle.emit_state.proofs.places.Places.rules.Goals as goal

pub returns : goal.returns
returns c = rw c.pending-first.ensures
