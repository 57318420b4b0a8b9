-- `finish` meets its contract.
use Rattle.emit_replace.specs.Making.{finish_remembers, finished}
use Rattle.emit_replace.proofs.put.finish.Goals as goal

pub remember-requires : goal.remember-requires
remember-requires c = finish_remembers _ _ _ _ _ _ _ _ c.requires _ _ c.in_ok-q.ensures

pub returns : goal.returns
returns c = finished _ _ _ _ _ _ _ _ c.requires _ _ c.in_ok-q.ensures _ c.remember.ensures

pub returns-in_err-q : goal.returns-in_err-q
returns-in_err-q c = rw c.from_residual.ensures c.in_err-q.ensures
