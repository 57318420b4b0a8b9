-- `put_cut` meets its contract: a field, and the word behind it.
use Rattle.list_records.specs.Lines.{cut_line}
use Rattle.list_records.specs.Added.{added_wrote, added_then, added_short}
use Rattle.list_records.proofs.put_cut.Goals as goal

pub returns-in_err-a : goal.returns-in_err-a
unfolding cut_line
returns-in_err-a c = rw c.from_residual.ensures (added_short _ _ _ _ _ _ c.in_err-a.ensures)

pub returns : goal.returns
unfolding cut_line
returns c = added_then _ _ _ _ _ _ _ _ c.in_ok-a.ensures c.put_field.auto.text (added_wrote _ _ _ _ _ c.put_bytes.ensures)
