-- `put_result_line` meets its contract.
use Rattle.definition.specs.Ascii.{bytes}
use Rattle.emission.specs.Render.{line_text}
use Rattle.text_write.specs.Written.{adds_then}
use Rattle.emit_lines.proofs.line.put_result_line.Goals as goal

pub returns : goal.returns
unfolding bytes line_text
returns c = λ P R t e.
    adds_then _ _ _ _ _ _ _ _ c.put_bytes-kind.ensures
    (adds_then _ _ _ _ _ _ _ _ (c.put_goal-name.ensures P R)
    (adds_then _ _ _ _ _ _ _ _ c.put_byte-blank.ensures.byte
    (adds_then _ _ _ _ _ _ _ _ c.put_number-number.ensures c.put_bytes.ensures)))
