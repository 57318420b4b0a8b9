-- `put_listed` meets its contract.
use Rattle.text_write.specs.Written.{adds_then}
use Rattle.emit_lines.proofs.list.put_listed.Goals as goal

pub returns : goal.returns
returns c = adds_then _ _ _ _ _ _ _ _ c.put_gap-from.ensures c.put_number.ensures
