-- `put_numbered` meets its contract.
use Rattle.text_write.specs.Written.{adds_then}
use Rattle.emit_lines.specs.Lines.{numbered}
use Rattle.emit_lines.proofs.line.put_numbered.Goals as goal

pub returns : goal.returns
unfolding numbered
returns c = adds_then _ _ _ _ _ _ _ _ c.put_bytes-kind.ensures (adds_then _ _ _ _ _ _ _ _ c.put_number-number.ensures c.put_byte.ensures.byte)
