-- `begin` meets its contract.
use Rattle.term_readback.specs.Frames.{begins_so}
use Rattle.term_readback.proofs.resolve.begin.Goals as goal

pub returns : goal.returns
returns c = rw (rw c.pairs_at-at.ensures at c.put_word-2.ensures, rw c.pairs_at-at.ensures at c.put_word.ensures) (begins_so _ _ _ _ _ c.requires _ c.find-r.new.table c.find-r.ensures)
