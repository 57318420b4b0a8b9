-- `put_var_line` meets its contract.
use Rattle.definition.specs.Ascii.{bytes}
use Rattle.emission.specs.Render.{var_text}
use Rattle.text_write.specs.Written.{adds_then}
use Rattle.emit_lines.specs.Lines.{puts_var}
use Rattle.emit_lines.proofs.line.put_var_line.Goals as goal

pub returns : goal.returns
unfolding bytes var_text
returns c =
    let r = puts_var _ _ _ _ _ _ _ _ _ (λ P R.
    adds_then _ _ _ _ _ _ _ _ c.put_bytes-kind.ensures
    (adds_then _ _ _ _ _ _ _ _ c.put_variable-name.ensures
    (adds_then _ _ _ _ _ _ _ _ c.put_byte-blank.ensures.byte
    (adds_then _ _ _ _ _ _ _ _ (c.put_sort-of.ensures P R) c.put_bytes.ensures))))
    in record { text = r.0; line = r.1 }
