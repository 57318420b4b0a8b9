-- `put_induct_line` meets its contract.
use Rattle.definition.specs.Ascii.{bytes}
use Rattle.text_write.specs.Written.{adds_then, adds_as}
use Rattle.emit_lines.specs.Lines.{induct-line}
use Rattle.emit_lines.proofs.line.put_induct_line.Goals as goal

pub returns : goal.returns
unfolding bytes
returns c = λ P R t e.
    adds_as _ _ _ _ _ _ (induct-line P _ t _ _ _ e)
    (adds_then _ _ _ _ _ _ _ _ c.put_numbered-number.ensures
    (adds_then _ _ _ _ _ _ _ _ c.put_name-name.ensures
    (adds_then _ _ _ _ _ _ _ _ c.put_byte-blank.ensures.byte
    (adds_then _ _ _ _ _ _ _ _ (c.put_over-judgment.ensures P R)
    (adds_then _ _ _ _ _ _ _ _ c.put_bytes-bracket.ensures
    (adds_then _ _ _ _ _ _ _ _ c.put_cases-list.ensures c.put_bytes.ensures))))))
