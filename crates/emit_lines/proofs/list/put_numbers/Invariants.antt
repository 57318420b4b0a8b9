-- `put_numbers` meets its contract: with each turn one number more is there.
use mathlib.Core.List.{map}
use lib.ListN.{take}
use Rattle.definition.specs.Decimal.{decimal}
use Rattle.emission.specs.Text.{joined}
use Rattle.text_write.specs.Written.{Adds}
use Rattle.emit_lines.proofs.list.put_numbers.Given as goal

abbrev pub invariant-loop-i : goal.invariant-loop-i
invariant-loop-i l = Adds l.initial.text l.text l.at (joined (map decimal (take l.i l.numbers))) l.end
