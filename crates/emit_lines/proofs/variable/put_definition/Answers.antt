-- `put_definition` meets its contract.
use Rattle.definition.specs.Ascii.{bytes}
use Rattle.emission.specs.Render.{definition_text}
use Rattle.text_write.specs.Written.{adds_then}
use Rattle.emit_lines.proofs.variable.put_definition.Goals as goal

pub returns : goal.returns
unfolding bytes definition_text
returns c = adds_then _ _ _ _ _ _ _ _ c.put_bytes-mark.ensures c.put_number.ensures
