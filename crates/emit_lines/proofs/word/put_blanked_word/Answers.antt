-- `put_blanked_word` meets its contract.
use Rattle.text_write.specs.Written.{adds_then}
use Rattle.emit_lines.proofs.word.put_blanked_word.Goals as goal

pub put_word-requires : goal.put_word-requires
put_word-requires c = c.requires

pub returns : goal.returns
returns c = λ P R. adds_then _ _ _ _ _ _ _ _ c.put_byte-from.ensures.byte (c.put_word.ensures P R)
