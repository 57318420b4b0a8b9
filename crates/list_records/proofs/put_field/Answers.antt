-- `put_field` meets its contract: the digits, then the byte behind them.
use native.Mathlib.Omega.{arith}
use Rattle.list_records.specs.Lines.{field}
use Rattle.list_records.specs.Added.{added_wrote, added_byte, added_then, added_short, added_full}
use Rattle.list_records.proofs.put_field.Goals as goal

pub returns-in_err-end : goal.returns-in_err-end
unfolding field
returns-in_err-end c = rw c.from_residual.ensures (added_short _ _ _ _ _ _ (added_wrote _ _ _ _ _ c.in_err-end.ensures))

pub returns-then-text-end : goal.returns-then-text-end
unfolding field
returns-then-text-end c =
    let d = c.put_decimal in
    added_then _ _ _ _ _ _ _ _ (added_wrote _ _ _ _ _ c.in_ok-end.ensures) d.auto.text (added_full d.new.text _ _ _ (omega arith))

pub returns : goal.returns
unfolding field
returns c =
    let d = c.put_decimal in
    added_then _ _ _ _ _ _ _ _ (added_wrote _ _ _ _ _ c.in_ok-end.ensures) d.auto.text (added_byte d.new.text _ _ (omega arith))
