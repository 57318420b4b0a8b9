-- `put_line` meets its contract: three fields, one behind the other.
use Rattle.list_records.specs.Lines.{line}
use Rattle.list_records.specs.Added.{added_then, added_short}
use Rattle.list_records.proofs.put_line.Goals as goal

pub returns-in_err-a : goal.returns-in_err-a
unfolding line
returns-in_err-a c = rw c.from_residual.ensures (added_short _ _ _ _ _ _ c.in_err-a.ensures)

pub returns-in_err-b : goal.returns-in_err-b
unfolding line
returns-in_err-b c = rw c.from_residual-in_err-b.ensures (added_then _ _ _ _ _ _ _ _ c.in_ok-a.ensures c.put_field.auto.text (added_short _ _ _ _ _ _ c.in_err-b.ensures))

pub returns : goal.returns
unfolding line
returns c = added_then _ _ _ _ _ _ _ _ c.in_ok-a.ensures c.put_field.auto.text (added_then _ _ _ _ _ _ _ _ c.in_ok-b.ensures c.put_field-2.auto.text c.put_field-3.ensures)
