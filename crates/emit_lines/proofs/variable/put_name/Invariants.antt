-- `put_name` meets its contract: with each turn one underscore more is there.
use lib.ListN.{replicate}
use Rattle.text_write.specs.Written.{Adds}
use Rattle.emit_lines.proofs.variable.put_name.Given as goal

abbrev pub invariant-loop-i : goal.invariant-loop-i
invariant-loop-i l = Adds l.initial.text l.text l.initial.end (replicate l._i 95) l.end
