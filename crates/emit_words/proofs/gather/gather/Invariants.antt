-- `gather` meets its contract.
use Prim.Native.Nat.{◌≤◌, ◌-◌}
use mathlib.Core.Path.{◌≡◌}
use lib.ListN.{length, drop}
use Rattle.emit_words.specs.Spelling.{Gathered}
use Rattle.emit_words.proofs.gather.gather.Given as goal

abbrev pub invariant-loop-i : goal.invariant-loop-i
invariant-loop-i l =
    (1 ≤ l.i) × (length l.numbers ≡ length l.initial.numbers) × Gathered l.work l.words l.l l.m (drop 1 l.key) l.numbers (l.i - 1)
