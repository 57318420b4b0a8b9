-- `put_blanked_variable` meets its contract.
use Rattle.text_write.specs.Written.{adds_then}
use Rattle.emit_lines.proofs.list.put_blanked_variable.Goals as goal

pub returns : goal.returns
returns c = adds_then _ _ _ _ _ _ _ _ c.put_byte-from.ensures.byte c.put_variable.ensures
