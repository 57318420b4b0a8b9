-- `enter` meets its contract.
use Rattle.term_readback.specs.Frames.{enters_so}
use Rattle.term_readback.proofs.resolve.enter.Goals as goal

pub returns : goal.returns
returns c = rw (rw c.pairs_at.ensures at c.put_word-3.ensures, rw c.pairs_at.ensures at c.put_word-2.ensures, rw c.pairs_at.ensures at c.put_word.ensures) (enters_so _ _ _ _ _ _ _ c.requires _ _ c.argument_root-r.ensures)
