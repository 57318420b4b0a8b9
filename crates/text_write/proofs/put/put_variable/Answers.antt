-- `put_variable` meets its contract.
use Rattle.definition.specs.Shown.{variable_name}
use Rattle.text_write.specs.Written.{adds_then}
use Rattle.text_write.proofs.put.put_variable.Goals as goal

pub returns : goal.returns
unfolding variable_name
returns c = adds_then _ _ _ _ _ _ _ _ c.put_byte-mark.ensures.byte (adds_then _ _ _ _ _ _ _ _ c.put_byte-letter.ensures.byte c.put_number.ensures)
