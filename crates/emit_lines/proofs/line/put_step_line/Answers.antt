-- `put_step_line` meets its contract.
use Rattle.definition.specs.Ascii.{bytes}
use Rattle.text_write.specs.Written.{adds_then, adds_as}
use Rattle.emit_lines.specs.Lines.{step_line}
use Rattle.emit_lines.proofs.line.put_step_line.Goals as goal

pub returns : goal.returns
unfolding bytes
returns c = λ P R t e.
    adds_as _ _ _ _ _ _ (step_line P _ t _ _ _ _ e)
    (adds_then _ _ _ _ _ _ _ _ c.put_numbered-number.ensures
    (adds_then _ _ _ _ _ _ _ _ (c.put_rule-name.ensures P R)
    (adds_then _ _ _ _ _ _ _ _ c.put_bytes-bracket.ensures
    (adds_then _ _ _ _ _ _ _ _ c.put_numbers-list.ensures
    (adds_then _ _ _ _ _ _ _ _ c.put_bytes-close.ensures
    (adds_then _ _ _ _ _ _ _ _ (c.put_over-judgment.ensures P R) c.put_bytes.ensures))))))
