-- `put_case` meets its contract.
use Rattle.definition.specs.Ascii.{bytes}
use Rattle.emission.specs.Render.{case_text}
use Rattle.text_write.specs.Written.{adds_then}
use Rattle.emit_lines.proofs.case.put_case.Goals as goal

pub returns : goal.returns
unfolding bytes case_text
returns c =
    adds_then _ _ _ _ _ _ _ _ c.put_byte-bracket.ensures.byte
    (adds_then _ _ _ _ _ _ _ _ c.put_number-number.ensures
    (adds_then _ _ _ _ _ _ _ _ c.put_variables-list.ensures c.put_byte.ensures.byte))
