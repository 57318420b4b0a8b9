-- `put_ellipsis` meets its contract.
use Rattle.text_write.specs.Written.{adds_then}
use Rattle.text_write.proofs.put.put_ellipsis.Goals as goal

pub returns : goal.returns
returns c = adds_then _ _ _ _ _ _ _ _ c.put_byte-first.ensures.byte (adds_then _ _ _ _ _ _ _ _ c.put_byte-second.ensures.byte c.put_byte.ensures.byte)
