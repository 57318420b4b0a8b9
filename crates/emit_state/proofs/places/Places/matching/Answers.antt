-- `matching` meets its contract.
use Rattle.emit_state.proofs.places.Places.matching.Goals as goal

pub returns : goal.returns
returns c = rw (c.index_end.ensures, c.values.ensures, c.pending.ensures)
