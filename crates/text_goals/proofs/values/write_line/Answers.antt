-- `write_line` meets its contract.
use Rattle.text_goals.specs.Lines.{kind_writing, line_writes}
use Rattle.text_goals.proofs.values.write_line.Goals as goal

pub put_kind-kind-requires : goal.put_kind-kind-requires
put_kind-kind-requires c = c.requires

pub write_term-value-requires : goal.write_term-value-requires
write_term-value-requires c = rw c.on_ground-ground.ensures (kind_writing _ _ _ _ _ _ _ c.requires)

pub returns : goal.returns
returns c = line_writes _ _ _ _ _ _ _ c.requires _ _ _ _ _ _ _ _ _ c.put_kind-kind.ensures (rw c.on_ground-ground.ensures at c.write_term-value.ensures) c.put_byte.ensures.byte
