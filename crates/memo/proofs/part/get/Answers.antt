-- `get` meets its contract.
use Rattle.memo.specs.Lent.{recall_at}
use Rattle.memo.proofs.part.get.Goals as goal

pub returns : goal.returns
unfolding recall_at
returns c = c.get.ensures
