-- `constructors` meets its contract.
use Rattle.emit_state.proofs.places.Places.constructors.Goals as goal

pub returns : goal.returns
returns c = rw c.pending.ensures
