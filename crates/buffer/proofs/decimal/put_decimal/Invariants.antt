-- `put_decimal` meets its contract: with each turn the digits still to be written give the same text.
use mathlib.Core.Path.{◌≡◌}
use Prim.Native.Nat.{◌+◌, ◌<◌}
use lib.ListN.{length}
use Rattle.definition.specs.Decimal.{decimal}
use Rattle.buffer.specs.Text.{over}
use Rattle.buffer.proofs.decimal.put_decimal.Given as goal

abbrev pub invariant-loop-m : goal.invariant-loop-m
invariant-loop-m l =
    (l.i + 1 ≡ l.at + length (decimal l.m)) × (l.i < length l.text) × (length l.text ≡ length l.initial.text) × (over l.at (decimal l.m) l.text ≡ over l.at (decimal l.n) l.initial.text)

abbrev pub decreases-loop-m : goal.decreases-loop-m
decreases-loop-m l = l.m
