-- `put_hyp_line` meets its contract.
use Rattle.definition.specs.Ascii.{bytes}
use Rattle.text_write.specs.Written.{adds_then, adds_as}
use Rattle.emit_lines.specs.Lines.{hyp_line_law}
use Rattle.emit_lines.proofs.line.put_hyp_line.Goals as goal

pub returns : goal.returns
unfolding bytes
returns c = λ P R t e.
    adds_as _ _ _ _ _ _ (hyp_line_law P _ t _ _ e)
    (adds_then _ _ _ _ _ _ _ _ c.put_numbered-number.ensures
    (adds_then _ _ _ _ _ _ _ _ (c.put_over-judgment.ensures P R) c.put_bytes.ensures))
