-- `put_lines` meets its contract: the bytes that count and the lines still to come make all lines.
use mathlib.Core.Path.{◌≡◌}
use mathlib.Core.List.{◌++◌}
use Prim.Native.Nat.{◌-◌, ◌≤◌}
use lib.ListN.{length, take}
use Rattle.list_records.specs.Lines.{lines_from, lines}
use Rattle.list_records.proofs.put_lines.Given as goal

abbrev pub invariant-loop-offset : goal.invariant-loop-offset
invariant-loop-offset l =
    (l.offset ≤ length l.pack) × (l.at ≤ length l.text) × (length l.text ≡ length l.initial.text) × (take l.at l.text ++ lines_from (length l.pack) l.pack l.offset ≡ lines l.pack)

abbrev pub decreases-loop-offset : goal.decreases-loop-offset
decreases-loop-offset l = length l.pack - l.offset
