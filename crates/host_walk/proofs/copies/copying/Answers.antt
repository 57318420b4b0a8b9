-- `copying` meets its contract.
use Rattle.host_walk.proofs.copies.copying.Goals as goal

pub returns : goal.returns
returns c = rw c.copies_at.ensures
