-- `put_kind` meets its contract.
use mathlib.Core.Path.{refl}
use Rattle.text_goals.specs.Lines.{kind_puts, kind_sorted}
use Rattle.text_goals.proofs.values.put_kind.Goals as goal

pub node_sort-requires : goal.node_sort-requires
node_sort-requires c = kind_sorted _ _ _ _ _ _ _ c.requires

pub returns : goal.returns
returns c = kind_puts _ _ _ _ _ _ _ c.requires _ _ _ _ _ _ _ _ _ _ _ _ _ _ _ _ c.put_variable-name.ensures c.put_bytes-colon.ensures c.node_sort.ensures c.put_sort-sort.ensures c.put_byte-blank.ensures.byte refl c.put_number-mark.ensures c.put_byte.ensures.byte
